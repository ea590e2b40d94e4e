-- Reaching a marked node.
use Rattle.std.proofs.Common.{arith}
use Rattle.chain_graph.proofs.Names.{Call, Calls, Graph, List, [], ap, false, get_or, refl, some_call, ℕ, ⊎_elim, ◌↔◌, ◌∙◌, ◌∷◌, ◌≡◌}
use Rattle.std.proofs.Common.{Bool, true, ◌||◌}
use Rattle.std.specs.Prelude.{IsTrue}
use Rattle.std.proofs.lemmas.Bool.{or_cases, or_right}
use Rattle.std.proofs.lemmas.List.Folds.{Any-from_list_any, list_any-from_Any}
use Rattle.chain_graph.specs.Graph.{IsPath}
use Rattle.chain_graph.specs.Measures.{ReachesMarked}
use Rattle.chain_graph.specs.Nodes.{calls_of}

module _ (g : Graph) (marked : List Bool) (c : ℕ) (table : List Bool)
    (known : (e : Call ℕ) → Calls g c e → IsTrue (get_or table e.to false) ↔ ReachesMarked g marked e.to) where
  pub reaching-from : (b : ℕ) (es : List (Call ℕ)) → IsPath (Calls g) c es b → get_or marked b false ≡ true
      → get_or marked c false || some_call (λ k. get_or table k false) (calls_of g c) ≡ true
  reaching-from b [] p m = ap (λ x. x || some_call (λ k. get_or table k false) (calls_of g c)) (ap (λ k. get_or marked k false) p ∙ m)
  reaching-from b (e ∷ es) p m = grind (arith, or_right, get_or, list_any-from_Any, p.0.0, p.0.1, p.0.2, p.0, p.1)

  pub reaching-now : IsTrue (get_or marked c false || some_call (λ k. get_or table k false) (calls_of g c)) ↔ ReachesMarked g marked c
  reaching-now = (
    (λ t. ⊎_elim
        (λ m. record { to = c; along = []; path = refl; good = m })
        (λ s. let found = Any-from_list_any (λ x. get_or table x.to false) (calls_of g c) s in
        let call : Calls g c found.1 = (found.0, found.2, found.3) in
        let more = (known found.1 call).0 found.4 in
        record { to = more.to; along = found.1 ∷ more.along; path = (call, more.path); good = more.good })
        (or_cases (get_or marked c false) (some_call (λ k. get_or table k false) (calls_of g c)) t)),
    (λ r. reaching-from r.to r.along r.path r.good),
  )
