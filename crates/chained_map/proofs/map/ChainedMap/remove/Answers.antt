use Rattle.std.proofs.Common.{sym, ap, arith, ◌∙◌}
use Rattle.std.specs.HashMap.{hasher_of, spare}
use Rattle.chained_map.specs.steps.Buckets.{hash_of}
use Rattle.chained_map.proofs.LookupLaws.{found_within, found_value, found_some, taken_values, taken_unique, not_found, not_some, same_values}
use Rattle.chained_map.proofs.map.ChainedMap.remove.Goals as goal

pub remove_at-requires : goal.remove_at-requires
remove_at-requires g c = found_within g.K.PartialEq.eq c.args.key c.args.self.now c.in-Some.ensures.place

pub returns-in-Some-clause-before : goal.returns-in-Some-clause-before
returns-in-Some-clause-before g c =
    sym (found_value g.K.PartialEq.eq c.args.key c.args.self.now c.in-Some.ensures.place c.remove_at.ensures.before)

pub returns-in-Some-clause-values : goal.returns-in-Some-clause-values
returns-in-Some-clause-values g c =
    taken_values g.K.PartialEq.eq c.args.key c.args.self.now c.in-Some.ensures.place g.met.K.Eq.laws c.remove_at.new.self
    (c.args.key, c.remove_at.result) (ap (λ m. m.entries) (c.remove_at.ensures.after (c.args.key, c.remove_at.result))) c.remove_at.ensures.was_unique

pub returns-in-Some-clause-spare : goal.returns-in-Some-clause-spare
returns-in-Some-clause-spare g c = omega (arith, ap spare (c.remove_at.ensures.after (c.args.key, c.remove_at.result)))

pub returns-in-Some-clause-one_more : goal.returns-in-Some-clause-one_more
returns-in-Some-clause-one_more g c some = ap spare (c.remove_at.ensures.after (c.args.key, c.remove_at.result))

pub returns-in-Some-clause-stays : goal.returns-in-Some-clause-stays
returns-in-Some-clause-stays g c none =
    absurd (found_some g.K.PartialEq.eq c.args.key c.args.self.now c.in-Some.ensures.place c.remove_at.ensures.before none)

pub returns-in-Some-clause-unique : goal.returns-in-Some-clause-unique
returns-in-Some-clause-unique g c =
    taken_unique g.K.PartialEq.eq c.args.key c.args.self.now c.in-Some.ensures.place g.met.K.Eq.laws c.remove_at.new.self
    (c.args.key, c.remove_at.result) (ap (λ m. m.entries) (c.remove_at.ensures.after (c.args.key, c.remove_at.result))) c.remove_at.ensures.was_unique

pub returns-in-Some-clause-hasher : goal.returns-in-Some-clause-hasher
returns-in-Some-clause-hasher g c = ap hasher_of (c.remove_at.ensures.after (c.args.key, c.remove_at.result))

pub returns-in-None-clause-before : goal.returns-in-None-clause-before
returns-in-None-clause-before g c = sym (not_found g.K.PartialEq.eq c.args.key c.args.self.now c.in-None.ensures.place)

pub returns-in-None-clause-values : goal.returns-in-None-clause-values
returns-in-None-clause-values g c =
    same_values g.K.PartialEq.eq c.args.key c.args.self.now c.in-None.ensures.place g.met.K.Eq.laws

pub returns-in-None-clause-one_more : goal.returns-in-None-clause-one_more
returns-in-None-clause-one_more g c some =
    absurd (not_some g.K.PartialEq.eq c.args.key c.args.self.now c.in-None.ensures.place some)

pub index_of-requires : goal.index_of-requires
index_of-requires g c = c.hash_of.ensures ∙ ap (λ m. hash_of (hasher_of m) (g.K.Hash.hash_input c.args.key))
    c.self.view_is
