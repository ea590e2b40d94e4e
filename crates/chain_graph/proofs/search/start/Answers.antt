use Rattle.chain_graph.proofs.Names.{Global, List, New, Vec, [], ap, arith, length, map, refl, rows_of, sym, ℕ, ◌∙◌, ◌∷◌, ◌≡◌}
use Rattle.std.proofs.Common.{replicate, take_all}
use Rattle.chain_graph.proofs.OrderLaws.{fresh}
use Rattle.chain_graph.proofs.ReadLaws.{rows-long}
use Rattle.chain_graph.proofs.search.start.Goals as goal

lengths : (t : List (Vec ℕ Global)) → map (λ r. length r.items) t ≡ map length (rows_of t)
lengths [] = refl
lengths (x ∷ xs) = ap (λ l. length x.items ∷ l) (lengths xs)

pub returns-clause-search : goal.returns-clause-search
returns-clause-search c =
    rw (
      c.in_ok-marks.ensures.items_if_clones_equal (λ y e. e) ∙ ap (λ k. replicate k New) (sym (rows-long c.args.targets.now)),
      c.loop-row.invariant ∙ ap (map (λ r. length r.items)) (take_all c.loop-row.row-index c.args.targets.now (omega arith)) ∙ lengths c.args.targets.now,
      c.in_ok-path.ensures.items,
      c.in_ok-order.ensures.items,
    ) (fresh (rows_of c.args.targets.now))
