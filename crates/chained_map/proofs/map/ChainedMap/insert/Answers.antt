use Rattle.std.proofs.Common.{sym, ap, ◌∙◌, arith}
use Rattle.std.specs.HashMap.{hasher_of}
use Rattle.chained_map.specs.steps.Buckets.{hash_of}
use Rattle.chained_map.proofs.LookupLaws.{found_within, found_value, written_values, written_unique, not_found, not_some, pushed_values, pushed_unique}
use Rattle.chained_map.proofs.map.ChainedMap.insert.Goals as goal

pub replace_value-requires : goal.replace_value-requires
replace_value-requires g c = found_within g.K.PartialEq.eq c.args.key c.args.self.now c.in-Some.ensures.place

pub returns-in-Some-clause-before : goal.returns-in-Some-clause-before
returns-in-Some-clause-before g c =
    sym (found_value g.K.PartialEq.eq c.args.key c.args.self.now c.in-Some.ensures.place c.replace_value.ensures.before)

pub returns-in-Some-clause-values : goal.returns-in-Some-clause-values
returns-in-Some-clause-values g c =
    written_values g.K.PartialEq.eq c.args.key c.args.self.now c.in-Some.ensures.place g.met.K.Eq.laws
    c.replace_value.new.self c.args.value c.replace_value.ensures.entries

pub returns-in-Some-clause-unique : goal.returns-in-Some-clause-unique
returns-in-Some-clause-unique g c =
    written_unique g.K.PartialEq.eq c.args.key c.args.self.now c.in-Some.ensures.place g.met.K.Eq.laws
    c.replace_value.new.self c.args.value c.replace_value.ensures.entries c.index_of.ensures.unique

pub returns-clause-before : goal.returns-clause-before
returns-clause-before g c = sym (not_found g.K.PartialEq.eq c.args.key c.args.self.now c.in_default.ensures.place)

pub returns-clause-values : goal.returns-clause-values
returns-clause-values g c =
    pushed_values g.K.PartialEq.eq c.args.key c.args.self.now c.in_default.ensures.place g.met.K.Eq.laws
    c.push.new.self c.args.value (ap (λ m. m.entries) c.push.ensures)

pub returns-clause-spare_stays : goal.returns-clause-spare_stays
returns-clause-spare_stays g c some =
    absurd (not_some g.K.PartialEq.eq c.args.key c.args.self.now c.in_default.ensures.place some)

pub returns-clause-unique : goal.returns-clause-unique
returns-clause-unique g c =
    pushed_unique g.K.PartialEq.eq c.args.key c.args.self.now c.in_default.ensures.place g.met.K.Eq.laws
    c.push.new.self c.args.value (ap (λ m. m.entries) c.push.ensures) c.index_of.ensures.unique

pub index_of-requires : goal.index_of-requires
index_of-requires g c = c.hash_of-hash.ensures ∙ ap (λ m. hash_of (hasher_of m) (g.K.Hash.hash_input c.args.key))
    c.self.view_is

pub push-requires : goal.push-requires
push-requires g c = record {
  hash = c.hash_of-hash.ensures ∙ ap (λ m. hash_of (hasher_of m) (g.K.Hash.hash_input c.args.key)) c.self.view_is;
  absent = sym c.in_default.ensures.place;
  spare = c.requires;
}

pub returns-in-Some-clause-spare : goal.returns-in-Some-clause-spare
returns-in-Some-clause-spare g c = omega (arith, c.replace_value.ensures.spare)
