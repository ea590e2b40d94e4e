-- The indices of names.
use Rattle.std.proofs.Common.{◌≡◌, ℕ, suc, ◌+◌, ◌<◌, List, [], ◌∷◌, ◌++◌, Bool, true, false, not, cond, length, get_or, refl, sym, ap, subst, ◌∙◌, arith}
use Rattle.std.specs.Prelude.{if◌then◌else◌}
use Rattle.std.specs.Borrow.{Bor}
use Rattle.std.specs.List.{list_any, position_or_len}
use Rattle.std.specs.Cmp.Lexicographic.{same_text}
use Rattle.std.proofs.lemmas.Bool.Decides.{nat_tests}
use Rattle.std.proofs.lemmas.List.{length-append}
use Rattle.std.proofs.lemmas.List.Folds.{position_or_len_push}
use Rattle.list_laws.specs.Lists.{text-refl}
use Rattle.nft_tree.specs.Tree.{Text}
use Rattle.rule_values.specs.steps.MapEntries.{named, IsNameIndex, KeepsIndices}

-- ---- one more name

abbrev pub with_key : Bor Text → List (Bor Text) → List (Bor Text)
with_key key keys = if list_any (named key.now) keys then keys else keys ++ key ∷ []

pub keeps-key : (key : Bor Text) (keys new : List (Bor Text)) → new ≡ with_key key keys → KeepsIndices keys new
keeps-key key keys new is = record { kept = λ name i h. subst (λ ns. IsNameIndex ns name i) (sym is) (by (list_any (named key.now) keys) name i h) }
  where
    by : (b : Bool) (name : Text) (i : ℕ) → IsNameIndex keys name i → IsNameIndex (if b then keys else keys ++ key ∷ []) name i
    by true name i h = h
    by false name i h =
        let is : position_or_len (named name) (keys ++ key ∷ []) ≡ position_or_len (named name) keys =
        grind (arith, nat_tests, position_or_len_push (named name) keys key, h.within) in
        record { is = is ∙ h.is; within = grind (arith, is, length-append keys (key ∷ []), h.within) }

pub name_index-key : (key : Bor Text) (keys new : List (Bor Text)) (i : ℕ) → new ≡ with_key key keys
    → i ≡ position_or_len (named key.now) keys → i < length new → IsNameIndex new key.now i
name_index-key key keys new i is at within =
    let same : position_or_len (named key.now) new ≡ i = ap (position_or_len (named key.now)) is ∙ by (list_any (named key.now) keys) ∙ sym at in
    record { is = same; within = omega (arith, same) }
  where
    by : (b : Bool) → position_or_len (named key.now) (if b then keys else keys ++ key ∷ []) ≡ position_or_len (named key.now) keys
    by true = refl
    by false = grind (arith, nat_tests, position_or_len_push (named key.now) keys key, text-refl key.now)

-- ---- an index belongs to one name

passes-there : (p : Bor Text → Bool) (keys : List (Bor Text)) (d : Bor Text) → position_or_len p keys < length keys
    → p (get_or keys (position_or_len p keys) d) ≡ true
passes-there p [] d within = absurd (omega arith)
passes-there p (k ∷ ks) d within = by (p k) refl within (λ rest. passes-there p ks d rest)
  where
    by : (b : Bool) → p k ≡ b → cond (not b) (1 + position_or_len p ks) 0 < length (k ∷ ks)
        → (position_or_len p ks < length ks → p (get_or ks (position_or_len p ks) d) ≡ true)
        → p (get_or (k ∷ ks) (cond (not b) (1 + position_or_len p ks) 0) d) ≡ true
    by true e within more = e
    by false e within more =
        let next : suc (position_or_len p ks) ≡ 1 + position_or_len p ks = omega arith in
        subst (λ (i : ℕ). p (get_or (k ∷ ks) i d) ≡ true) next (more (omega arith))

pub one-name : (a b : Text) (keys : List (Bor Text)) → position_or_len (named a) keys ≡ position_or_len (named b) keys
    → position_or_len (named a) keys < length keys → position_or_len (named b) keys < length keys → a ≡ b
one-name a b [] e f g = absurd (omega arith)
one-name a b (k ∷ ks) e f g =
    let there = λ (i : ℕ). get_or (k ∷ ks) i k in
    same_text a _ (sym (passes-there (named a) (k ∷ ks) k f)) ∙ ap (λ i. (there i).now) e
    ∙ sym (same_text b _ (sym (passes-there (named b) (k ∷ ks) k g)))
