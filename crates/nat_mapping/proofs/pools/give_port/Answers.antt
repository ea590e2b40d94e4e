use Rattle.nat_mapping.proofs.Names.{IfSome, IfSome_at, IsInUse, ap, false, get, if◌then◌else◌, is_some, is_taken_by, refl, same_pool, sym, ◌==◌, ◌∙◌, ◌≡◌}
use Rattle.nat_mapping.proofs.Equal.{pool_test}
use Rattle.nat_mapping.proofs.Sets.{port_set, set_at, sets_all}
use Rattle.nat_mapping.proofs.pools.give_port.Goals as goal

pub returns-then-not-is_unused-clause-used : goal.returns-then-not-is_unused-clause-used
returns-then-not-is_unused-clause-used c =
    let in_use = IfSome_at _ (IsInUse c.args.key) c.in_ok-pool.pool.now (sym c.in_ok-pool.ensures.value) (c.requires.used c.args.key) in
    let held = (c.get_mut.follows.holds c.give.new.self).3 (ap is_some (sym c.in_ok-pool.ensures.value)) in
    sets_all same_pool pool_test _ _ _ _ held.0 (λ q o. IfSome o (IsInUse q))
    (λ q apart. c.requires.used q) (record {
      order = c.give.ensures.order ∙ in_use.order;
      bitmap = in_use.bitmap;
      used = c.if-not-is_unused.ensures.used;
    })

pub returns-clause-used : goal.returns-clause-used
returns-clause-used c =
    sets_all same_pool pool_test _ _ _ _ c.remove.ensures.updates.0 (λ q o. IfSome o (IsInUse q))
    (sets_all same_pool pool_test _ _ _ _ ((c.get_mut.follows.holds c.give.new.self).3 (ap is_some (sym c.in_ok-pool.ensures.value))).0
    (λ q o. ¬ (c.args.key ≡ q) → IfSome o (IsInUse q)) (λ q apart _. c.requires.used q) (λ apart. absurd (apart refl))) tt

pub returns-then-not-is_unused-clause-given : goal.returns-then-not-is_unused-clause-given
returns-then-not-is_unused-clause-given c =
    port_set _ _ c.args.key c.args.port false _ ((c.get_mut.follows.holds c.give.new.self).3 (ap is_some (sym c.in_ok-pool.ensures.value))).0
    (λ p. c.give.ensures.taken p ∙ ap (λ o. if p == c.args.port then false else is_taken_by o p) c.in_ok-pool.ensures.value)

pub returns-clause-given : goal.returns-clause-given
returns-clause-given c q p =
    let mid = c.get_mut.follows.lender c.give.new.self in
    let held = ((c.get_mut.follows.holds c.give.new.self).3 (ap is_some (sym c.in_ok-pool.ensures.value))).0 in
    sets_all same_pool pool_test _ _ _ _ c.remove.ensures.updates.0 (λ k o. is_taken_by o p ≡ is_taken_by (get same_pool mid k) p) (λ k apart. refl)
    (sym (ap (λ o. is_taken_by o p) (set_at same_pool pool_test _ _ _ _ held) ∙ c.if-not-is_unused.ensures.unused p)) q
    ∙ port_set _ _ c.args.key c.args.port false _ held
    (λ p. c.give.ensures.taken p ∙ ap (λ o. if p == c.args.port then false else is_taken_by o p) c.in_ok-pool.ensures.value) q p
