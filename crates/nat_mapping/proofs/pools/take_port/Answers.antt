use Rattle.nat_mapping.proofs.Names.{IfSome, IfSome_at, IsInUse, ap, cond-true, eq-eqb, if◌then◌else◌, is_some, is_taken_by, refl, same_pool, sym, true, ◌==◌}
use Rattle.nat_mapping.proofs.Names.{◌∙◌}
use Rattle.nat_mapping.proofs.Equal.{pool_test}
use Rattle.nat_mapping.proofs.Sets.{port_set, sets_all}
use Rattle.nat_mapping.proofs.pools.take_port.Goals as goal

pub returns-in-Some-clause-used : goal.returns-in-Some-clause-used
returns-in-Some-clause-used c =
    let in_use = IfSome_at _ (IsInUse c.args.key) c.in-Some.pool.now (sym c.in-Some.ensures.value) (c.requires.used c.args.key) in
    let held = (c.get_mut.follows.holds c.take.new.self).3 (ap is_some (sym c.in-Some.ensures.value)) in
    sets_all same_pool pool_test _ _ _ _ held.0 (λ q o. IfSome o (IsInUse q))
    (λ q apart. c.requires.used q) (record {
      order = c.take.ensures.order ∙ in_use.order;
      bitmap = in_use.bitmap;
      used = (c.args.port, c.take.ensures.taken c.args.port ∙ cond-true (c.args.port == c.args.port) true _ (eq-eqb c.args.port c.args.port refl));
    })

pub returns-in-Some-clause-taken : goal.returns-in-Some-clause-taken
returns-in-Some-clause-taken c =
    port_set _ _ c.args.key c.args.port true _ ((c.get_mut.follows.holds c.take.new.self).3 (ap is_some (sym c.in-Some.ensures.value))).0
    (λ p. c.take.ensures.taken p ∙ ap (λ o. if p == c.args.port then true else is_taken_by o p) c.in-Some.ensures.value)
