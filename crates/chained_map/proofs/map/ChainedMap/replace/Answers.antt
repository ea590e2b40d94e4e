use Rattle.std.proofs.Common.{sym, ap, ◌∙◌}
use Rattle.std.specs.HashMap.{hasher_of}
use Rattle.chained_map.specs.steps.Buckets.{hash_of}
use Rattle.chained_map.proofs.LookupLaws.{found_some, found_within, found_value, not_found, not_some, written_values, written_unique}
use Rattle.chained_map.proofs.map.ChainedMap.replace.Goals as goal

pub replace_value-requires : goal.replace_value-requires
replace_value-requires g c = found_within g.K.PartialEq.eq c.args.key c.args.self.now c.in-Some.ensures.place

pub returns-in-Some-clause-before : goal.returns-in-Some-clause-before
returns-in-Some-clause-before g c =
    sym (found_value g.K.PartialEq.eq c.args.key c.args.self.now c.in-Some.ensures.place c.replace_value.ensures.before)

pub returns-in-Some-clause-stays : goal.returns-in-Some-clause-stays
returns-in-Some-clause-stays g c none =
    absurd (found_some g.K.PartialEq.eq c.args.key c.args.self.now c.in-Some.ensures.place c.replace_value.ensures.before none)

pub returns-in-Some-clause-values : goal.returns-in-Some-clause-values
returns-in-Some-clause-values g c some =
    written_values g.K.PartialEq.eq c.args.key c.args.self.now c.in-Some.ensures.place g.met.K.Eq.laws
    c.replace_value.new.self c.args.value c.replace_value.ensures.entries

pub returns-in-Some-clause-unique : goal.returns-in-Some-clause-unique
returns-in-Some-clause-unique g c =
    written_unique g.K.PartialEq.eq c.args.key c.args.self.now c.in-Some.ensures.place g.met.K.Eq.laws
    c.replace_value.new.self c.args.value c.replace_value.ensures.entries c.index_of.ensures.unique

pub returns-in-None-clause-before : goal.returns-in-None-clause-before
returns-in-None-clause-before g c = sym (not_found g.K.PartialEq.eq c.args.key c.args.self.now c.in-None.ensures.place)

pub returns-in-None-clause-values : goal.returns-in-None-clause-values
returns-in-None-clause-values g c some =
    absurd (not_some g.K.PartialEq.eq c.args.key c.args.self.now c.in-None.ensures.place some)

pub index_of-requires : goal.index_of-requires
index_of-requires g c = c.hash_of.ensures ∙ ap (λ m. hash_of (hasher_of m) (g.K.Hash.hash_input c.args.key))
    c.self.view_is
