-- Keys of lines, line by line: which of them were seen before, and with which values.
use Rattle.std.proofs.Common.{arith, drop-cons}
use Rattle.box_file.proofs.Names.{Bool, IsEquivalence, List, None, Option, Some, [], any_pair, ap, cond, drop, false, get_or, length, list_any, map}
use Rattle.box_file.proofs.Names.{not, not-not, refl, sym, true, ℕ, ◌&&◌, ◌+◌, ◌<◌, ◌||◌, ◌∙◌, ◌∷◌, ◌≡◌}

pub not_is : (b v : Bool) → not b ≡ v → b ≡ not v
not_is b v e = sym (not-not b) ∙ ap not e

pub no_some : {A : Type 0} (o : Option A) → ((x : A) → o ≡ Some x → ⊥) → o ≡ None
no_some None h = refl
no_some (Some x) h = absurd (h x refl)

-- one of the keys was seen before, or two of them are a pair
abbrev pub repeats : {K : Type 0} → (K → K → Bool) → (K → Bool) → List K → Bool
repeats t seen ks = list_any seen ks || any_pair t ks

pub none_seen : {K : Type 0} (t : K → K → Bool) (seen : K → Bool) → ((q : K) → seen q ≡ false) → (ks : List K)
    → repeats t seen ks ≡ any_pair t ks
none_seen t seen none [] = refl
none_seen t seen none (k ∷ ks) = grind (arith, none, none_seen t seen none ks)

seen_either : {K : Type 0} (old new p : K → Bool) → ((q : K) → new q ≡ cond (p q) true (old q)) → (ks : List K)
    → list_any new ks ≡ (list_any p ks || list_any old ks)
seen_either old new p is [] = refl
seen_either old new p is (k ∷ ks) = grind (arith, is, seen_either old new p is ks)

-- the line at an index, with its key
module _ {L K : Type 0} (f : L → K) (ls : List L) (i : ℕ) {d : L} {k : K} (within : i < length ls) (item : d ≡ get_or ls i d) (is : k ≡ f d) where
  keys_left : map f (drop i ls) ≡ k ∷ map f (drop (i + 1) ls)
  keys_left = grind (arith, drop-cons, item, is, within)

  pub repeat_found : (t : K → K → Bool) (seen : K → Bool) → seen k ≡ true → true ≡ repeats t seen (map f (drop i ls))
  repeat_found t seen e = rw (keys_left, e) refl

  pub key_more : (t : K → K → Bool) (seen new : K → Bool) → seen k ≡ false → ((q : K) → new q ≡ cond (t k q) true (seen q))
      → repeats t new (map f (drop (i + 1) ls)) ≡ repeats t seen (map f (drop i ls))
  key_more t seen new fresh now = grind (arith, keys_left, fresh, seen_either seen new (t k) now)

-- ---- keys with values

-- another value than the known one
abbrev pub differs : {V : Type 0} → (V → V → Bool) → Option V → V → Bool
differs same None v = false
differs same (Some w) v = not (same w v)

pub value_more : {V : Type 0} (same : V → V → Bool) → IsEquivalence same → (b : Bool) (o p : Option V) (u v : V)
    → (b ≡ true → o ≡ p) → differs same p u ≡ false
    → differs same (cond b (Some u) o) v ≡ cond (b && not (same u v)) true (differs same o v)
value_more same laws false o p u v alike agrees = refl
value_more same laws true o None u v alike agrees = grind (arith, alike)
value_more same laws true o (Some w) u v alike agrees = grind (arith, alike)
