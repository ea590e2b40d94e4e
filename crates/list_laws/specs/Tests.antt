-- Lemmas about booleans.
use Rattle.std.proofs.Common.{◌≡◌, Bool, true, false, cond, ◌&&◌, refl, sym}
use Rattle.std.specs.Ordering.{is_lt}
use Rattle.std.specs.declared.cmp.Ordering.TheVariants.{Less, Equal, Greater}

pub and-flip : (a b : Bool) → a && b ≡ b && a
and-flip true true = refl
and-flip true false = refl
and-flip false true = refl
and-flip false false = refl

-- booleans that imply each other are equal
pub same-tests : (a b : Bool) → (a ≡ true → b ≡ true) → (b ≡ true → a ≡ true) → a ≡ b
same-tests true b f g = sym (f refl)
same-tests false true f g = g refl
same-tests false false f g = refl

-- an ordering computed from two tests is `Less` exactly where the first one holds
pub less_by : (b c : Bool) → is_lt (cond b Less (cond c Greater Equal)) ≡ b
less_by true c = refl
less_by false true = refl
less_by false false = refl
