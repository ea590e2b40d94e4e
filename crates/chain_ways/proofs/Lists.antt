-- Elements of lists.
use Rattle.std.proofs.Common.{◌≡◌, ℕ, zero, suc, Bool, true, List, [], ◌∷◌, slice_get, Contains, Some, unwrap_or, ap, ◌∙◌, subst}
use Rattle.std.specs.List.{list_any}
use Rattle.std.proofs.lemmas.List.Folds.{list_any_at, Any-from_list_any}
use Rattle.list_laws.specs.Lists.{Contains-head}
use Rattle.list_laws.specs.Decisions.{Contains-there}

pub any_of : {X : Type 0} (test : X → Bool) (xs : List X) (x : X) → Contains xs x → test x ≡ true → list_any test xs ≡ true
any_of test xs x has is = list_any_at test xs has.0 x has.1 (ap test has.2 ∙ is)

pub one_of : {X : Type 0} (test : X → Bool) (xs : List X) → list_any test xs ≡ true → (x : X) × Contains xs x × (test x ≡ true)
one_of test xs is = let q = Any-from_list_any test xs is in (q.1, (q.0, q.2, q.3), q.4)

pub got : {X : Type 0} (xs : List X) (i : ℕ) (x : X) → slice_get xs i ≡ Some x → Contains xs x
got [] i x e = absurd cc
got (y ∷ ys) zero x e = subst (Contains (y ∷ ys)) (ap (λ o. unwrap_or o y) e) (Contains-head y ys)
got (y ∷ ys) (suc i) x e = Contains-there y x ys (got ys i x e)
