-- The elements that a filter keeps.
use Rattle.std.proofs.Common.{◌≡◌, Bool, true, cond, List, [], ◌∷◌, ap, subst, ◌∙◌, inl, inr}
use Rattle.std.specs.List.{Contains, filter}
use Rattle.std.proofs.lemmas.Bool.{cond_both}
use Rattle.list_laws.specs.Lists.{Contains-head}
use Rattle.list_laws.specs.Decisions.{Contains-cases, Contains-there}

-- an element that passes is kept
pub has_filter : {X : Type 0} (p : X → Bool) (xs : List X) (x : X) → Contains xs x → p x ≡ true → Contains (filter p xs) x
has_filter p [] x among passes = among
has_filter p (y ∷ xs) x among passes = elim (Contains-cases y x xs among) [
  | inl same ↦ rw (ap p same ∙ passes) (subst (Contains (y ∷ filter p xs)) same (Contains-head y (filter p xs)))
  | inr behind ↦
      let rest = has_filter p xs x behind passes in
      cond_both (p y) (y ∷ filter p xs) (filter p xs) (λ l. Contains l x) (λ t. Contains-there y x (filter p xs) rest) (λ f. rest)
]
