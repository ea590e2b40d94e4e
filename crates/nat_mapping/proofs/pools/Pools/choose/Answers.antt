use Rattle.nat_mapping.proofs.Names.{IfSome_at, IsInUse, Option, Order, Pool, ap, candidates, find, is_taken, is_taken_by, not, order_of, sym, ◌∙◌}
use Rattle.nat_mapping.proofs.pools.Pools.choose.Goals as goal

pub returns-in-Some : goal.returns-in-Some
returns-in-Some c =
    let is = c.in-Some.ensures.value in
    c.choose.ensures.first
    ∙ ap (λ (o : Order). find (λ p. not (is_taken c.in-Some.pool.now p)) (candidates o c.args.port c.args.range))
    (IfSome_at _ (IsInUse c.args.key) c.in-Some.pool.now (sym is) (c.requires.used c.args.key)).order
    ∙ ap (λ (o : Option Pool). find (λ p. not (is_taken_by o p)) (candidates (order_of c.args.key.kind) c.args.port c.args.range)) is
