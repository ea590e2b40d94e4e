use Rattle.std.proofs.Common.{subst}
use Rattle.std.specs.Prelude.{Result, Ok, OnOk, ◌≡◌}
use Rattle.nat_mapping.proofs.Names.{IfSome, IsInUse, ap, cond-true, eq-eqb, if◌then◌else◌, is_taken_by, refl, same_pool, sym, true, ◌==◌, ◌∙◌}
use Rattle.nat_mapping.proofs.Equal.{pool_test}
use Rattle.nat_mapping.proofs.Sets.{port_set, sets_all}
use Rattle.nat_mapping.proofs.pools.start_pool.Goals as goal

ok_then : {X E : Type 0} {r : Result X E} {x : X} {P : Type 0} → r ≡ Ok x → OnOk r P → P
ok_then {X} {E} {r} {x} {P} is holds = subst (λ s. OnOk s P) is holds

pub returns-clause-used : goal.returns-clause-used
returns-clause-used c =
    sets_all same_pool pool_test _ _ _ _ (ok_then c.unwrap.ensures c.insert-inserted.ensures.updates).0 (λ q o. IfSome o (IsInUse q))
    (λ q apart. c.requires.used q) (record {
      order = c.take.ensures.order ∙ c.with_order-pool.ensures.order ∙ c.order.ensures;
      bitmap = c.requires.bitmap;
      used = (c.args.port, c.take.ensures.taken c.args.port ∙ cond-true (c.args.port == c.args.port) true _ (eq-eqb c.args.port c.args.port refl));
    })

pub returns-clause-taken : goal.returns-clause-taken
returns-clause-taken c = port_set _ _ c.args.key c.args.port true _ (ok_then c.unwrap.ensures c.insert-inserted.ensures.updates).0 (λ p. c.take.ensures.taken p
    ∙ ap (λ b. if p == c.args.port then true else b) (c.with_order-pool.ensures.taken p ∙ c.requires.spare.unused p
    ∙ sym (ap (λ o. is_taken_by o p) c.requires.absent)))
