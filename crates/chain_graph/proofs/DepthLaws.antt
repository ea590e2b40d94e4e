-- The depth of a chain from the depths of its targets.
use Rattle.chain_graph.proofs.Names.{Call, Calls, Contains, Graph, List, [], arith, cases_lt, deepest, get_or, inl, inr, max, refl, saturated, subst, ℕ}
use Rattle.chain_graph.proofs.Names.{⊎_elim, ◌++◌, ◌+◌, ◌∙◌, ◌∷◌, ◌≡◌, ◌≤◌}
use Rattle.std.proofs.Common.{◌⊎◌}
use Rattle.list_laws.specs.Lists.{Contains-head}
use Rattle.chain_graph.specs.Graph.{IsPath, jumps}
use Rattle.chain_graph.specs.Measures.{IsDepth}
use Rattle.chain_graph.specs.Nodes.{calls_of}
use Rattle.chain_graph.specs.steps.Passes.{jump_of}
use Rattle.list_laws.specs.Elements.{Contains-cases, Contains-tail}

pub deepest-append : (f : ℕ → ℕ) (xs ys : List (Call ℕ)) → deepest f (xs ++ ys) ≡ max (deepest f xs) (deepest f ys)
deepest-append f [] ys = omega arith
deepest-append f (e ∷ es) ys = let rest = deepest-append f es ys in omega arith

pub deepest-least : (f : ℕ → ℕ) (calls : List (Call ℕ)) (e : Call ℕ) → Contains calls e → saturated (f e.to + jump_of e) ≤ deepest f calls
deepest-least f [] e h = let l = h.1 in absurd (omega arith)
deepest-least f (x ∷ xs) e h = ⊎_elim
    (λ s. subst (λ y. saturated (f y.to + jump_of y) ≤ deepest f (x ∷ xs)) s (omega arith))
    (λ r. let l = deepest-least f xs e r in omega arith)
    (Contains-cases x xs e h)

pub deepest-found : (f : ℕ → ℕ) (calls : List (Call ℕ)) → (deepest f calls ≡ 0)
    ⊎ ((e : Call ℕ) × Contains calls e × (deepest f calls ≡ saturated (f e.to + jump_of e)))
deepest-found f [] = inl refl
deepest-found f (x ∷ xs) = ⊎_elim
    (λ l. inr (x, Contains-head x xs, omega (arith, l)))
    (λ l. let same : deepest f (x ∷ xs) ≡ deepest f xs = omega (arith, l) in
    ⊎_elim (λ z. inl (same ∙ z)) (λ r. inr (r.0, Contains-tail x xs r.0 r.1, same ∙ r.2)) (deepest-found f xs))
    (cases_lt (deepest f xs) (saturated (f x.to + jump_of x)))

module _ (g : Graph) (c : ℕ) (table : List ℕ) (known : (e : Call ℕ) → Calls g c e → IsDepth g e.to (get_or table e.to 0)) where
  pub depth-most : (b : ℕ) (es : List (Call ℕ)) → IsPath (Calls g) c es b → saturated (jumps es) ≤ deepest (λ k. get_or table k 0) (calls_of g c)
  depth-most b [] p = omega arith
  depth-most b (e ∷ es) p =
      let after = (known e p.0).most b es p.1 in
      let here = deepest-least (λ k. get_or table k 0) (calls_of g c) e p.0 in
      omega arith

  pub depth-now : IsDepth g c (deepest (λ k. get_or table k 0) (calls_of g c))
  depth-now = ⊎_elim
      (λ z. record { most = depth-most; to = c; along = []; path = refl; deep = omega (arith, z) })
      (λ r. let more = known r.0 r.1 in
      let deep = more.deep in
      let is = r.2 in
      record { most = depth-most; to = more.to; along = r.0 ∷ more.along; path = (r.1, more.path); deep = omega arith })
      (deepest-found (λ k. get_or table k 0) (calls_of g c))
