-- Sequences of calls.
use Rattle.std.proofs.Common.{List, [], ◌∷◌, ◌++◌, subst, sym}
use Rattle.program.specs.Calls.{HappenInOrder}

pub HappenInOrder-append : {S C : Type 0} → (happens : S → C → S → Type 0) (s t u : S) (before after : List C)
    → HappenInOrder happens s before t → HappenInOrder happens t after u
    → HappenInOrder happens s (before ++ after) u
HappenInOrder-append {S = S} happens s t u [] after is on = let From : S → Type 0 =
    λ v. HappenInOrder happens v after u in subst From (sym is) on
HappenInOrder-append happens s t u (call ∷ before) after led on =
    (led.0, led.1, HappenInOrder-append happens led.0 t u before after led.2 on)
