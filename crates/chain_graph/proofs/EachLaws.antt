-- What holds of each element of a list and those before it, as one is added or taken.
use Rattle.chain_graph.proofs.Names.{List, [], arith, cases_lt, length_push, ℕ, ◌++◌, ◌∷◌}
use Rattle.std.proofs.lemmas.List.{get_or_append_left, get_or_push, take-append-le, take_at}
use Rattle.chain_graph.specs.steps.Search.{EachAfter}

module _ (R : List ℕ → ℕ → Type 0) (xs : List ℕ) (x : ℕ) where
  pub each-push : EachAfter R xs → R xs x → EachAfter R (xs ++ x ∷ [])
  each-push each new i h = grind (arith, length_push, cases_lt, get_or_append_left, take-append-le, get_or_push, take_at)

  pub each-front : EachAfter R (xs ++ x ∷ []) → EachAfter R xs
  each-front each i h = grind (arith, length_push, get_or_append_left, take-append-le)

  pub each-last : EachAfter R (xs ++ x ∷ []) → R xs x
  each-last each = grind (arith, length_push, get_or_push, take_at)
