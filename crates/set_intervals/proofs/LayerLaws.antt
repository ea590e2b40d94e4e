-- The first value at each number, when intervals are overlaid.
use Rattle.std.proofs.Common.{◌≡◌, ℕ, suc, ◌+◌, ◌<◌, ◌≤◌, List, [], ◌∷◌, ◌++◌, length, get_or, set, take, drop, max}
use Rattle.std.proofs.Common.{min, Bool, true, false, ◌||◌, inl, inr, refl, sym, ap, ◌∙◌, subst, arith, Option}
use Rattle.std.proofs.Common.{Some, None, if◌then◌else◌, append_assoc}
use Rattle.std.specs.Option.{option_or}
use Rattle.std.proofs.lemmas.Bool.{cases_lt, and_from, and_left, and_right, le-leb, lt-leb}
use Rattle.std.proofs.lemmas.Bool.Decides.{nat_tests}
use Rattle.std.proofs.lemmas.List.{append-nil, drop_more, take-append-drop}
use Rattle.set_intervals.specs.declared.range.Range.{Range}
use Rattle.set_intervals.specs.Pairs.{in_range, first_value}
use Rattle.set_intervals.specs.steps.Pieces.{IsTable, IsSeparate}
use Rattle.set_intervals.specs.steps.Layers.{SameFirstValues, EndsBefore, IsRising, Follows, AddsBelow}
use Rattle.set_intervals.proofs.PairLaws.{by_last, set_last}
use Rattle.set_intervals.proofs.PieceLaws.{separate_push, merged_push}

-- ---- `Covers` as a test

within : (r : Range) (key : ℕ) → r.low ≤ key → key ≤ r.high → in_range r key ≡ true
within r key low high = and_from _ _ (le-leb r.low key low) (le-leb key r.high high)

under : (r : Range) (key : ℕ) → key < r.low → in_range r key ≡ false
under r key low = and_left _ _ (lt-leb r.low key low)

past : (r : Range) (key : ℕ) → r.high < key → in_range r key ≡ false
past r key high = and_right _ _ (lt-leb key r.high high)

-- ---- one pair

hit : {V : Type 0} (r : Range) (v : V) (xs : List (Range × V)) (key : ℕ) → in_range r key ≡ true → first_value ((r, v) ∷ xs) key ≡ Some v
hit r v xs key e = rw e

miss : {V : Type 0} (r : Range) (v : V) (xs : List (Range × V)) (key : ℕ) → in_range r key ≡ false → first_value ((r, v) ∷ xs) key ≡ first_value xs key
miss r v xs key e = rw e

-- ---- appending lists

choose : {V : Type 0} (b : Bool) (v : V) (o p q : Option V) → o ≡ option_or p q → (if b then Some v else o) ≡ option_or (if b then Some v else p) q
choose true v o p q e = refl
choose false v o p q e = e

pub first_value-append : {V : Type 0} (xs ys : List (Range × V)) (key : ℕ) → first_value (xs ++ ys) key ≡ option_or (first_value xs key) (first_value ys key)
first_value-append [] ys key = refl
first_value-append (x ∷ xs) ys key = choose (in_range x.0 key) x.1 (first_value (xs ++ ys) key) (first_value xs key)
    (first_value ys key) (first_value-append xs ys key)

-- appending preserves equality of first values, on the left and on the right
front_at : {V : Type 0} (xs ys zs : List (Range × V)) (key : ℕ) → first_value xs key ≡ first_value ys key
    → first_value (xs ++ zs) key ≡ first_value (ys ++ zs) key
front_at xs ys zs key same = first_value-append xs zs key ∙ ap (λ o. option_or o (first_value zs key)) same ∙ sym (first_value-append ys zs key)

pub same_front : {V : Type 0} (xs ys zs : List (Range × V)) → SameFirstValues xs ys → SameFirstValues (xs ++ zs) (ys ++ zs)
same_front xs ys zs same key = front_at xs ys zs key (same key)

pub same_back : {V : Type 0} (zs xs ys : List (Range × V)) (key : ℕ) → first_value xs key ≡ first_value ys key
    → first_value (zs ++ xs) key ≡ first_value (zs ++ ys) key
same_back zs xs ys key same = first_value-append zs xs key ∙ ap (λ o. option_or (first_value zs key) o) same ∙ sym (first_value-append zs ys key)

-- a list without a value at the number
skip : {V : Type 0} (xs ys : List (Range × V)) (key : ℕ) → first_value xs key ≡ None → first_value (xs ++ ys) key ≡ first_value ys key
skip xs ys key none = first_value-append xs ys key ∙ ap (λ o. option_or o (first_value ys key)) none

-- ---- lists in order

-- no value at a number below all ranges
none_below : {V : Type 0} (n key : ℕ) (xs : List (Range × V)) → key < n → IsRising n xs → first_value xs key ≡ None
none_below n key [] lt h = refl
none_below n key (x ∷ xs) lt h = miss x.0 x.1 xs key (under x.0 key (omega (arith, h.0)))
    ∙ none_below (x.0.high + 1) key xs (omega (arith, h.0, x.0.ordered)) h.1

pub follows : {V : Type 0} (done : List (Range × V)) (n : ℕ) (xs : List (Range × V)) → EndsBefore done n → IsRising n xs → Follows done xs
follows done n [] ends rising = tt
follows done n (x ∷ xs) ends rising = (λ i d lt. omega (arith, ends i d lt, rising.0), rising.1)

rising : {V : Type 0} (n : ℕ) (xs : List (Range × V)) → IsSeparate xs → ((d : Range × V) → 0 < length xs → n ≤ (get_or xs 0 d).0.low) → IsRising n xs
rising n [] sep first = tt
rising n (x ∷ xs) sep first = (
  first x (omega arith),
  rising (x.0.high + 1) xs
      (λ i j d lt in_list. sep (suc i) (suc j) d (omega arith) (omega arith))
      (λ d some. omega (arith, sep 0 1 d (omega arith) (omega arith))),
)

-- a table follows the empty list
pub table_follows : {V : Type 0} (done xs : List (Range × V)) → done ≡ [] → IsTable xs → Follows done xs
table_follows {V} done xs none table = subst (λ l. Follows l xs) (sym none)
    (follows [] 0 xs (λ i d lt. absurd (omega arith)) (rising 0 xs table.separate (λ d some. omega arith)))

-- ---- a piece above all others

-- it may be moved to the end of the list
pub table_past : {V : Type 0} (xs : List (Range × V)) (p : Range × V) → IsTable xs → EndsBefore xs p.0.low
    → ((i : ℕ) (d : Range × V) → i + 1 ≡ length xs → (get_or xs i d).0.high + 1 ≡ p.0.low → (get_or xs i d).1 ≡ p.1
    → ⊥) → IsTable (xs ++ p ∷ [])
table_past xs p table ends apart = grind (arith, separate_push, table.separate, merged_push, table.merged)

-- the last piece merged with an adjacent range
merged_range : (p r q : Range) (key : ℕ) → p.high + 1 ≡ r.low → q.low ≡ p.low → q.high ≡ max p.high r.high → in_range q key ≡ (in_range p key || in_range r key)
merged_range p r q key touch low high = grind (arith, nat_tests, p.ordered, r.ordered)

either : {V : Type 0} (a b c : Bool) (v : V) → c ≡ (a || b) → (if c then Some v else None) ≡ (if a then Some v else (if b then Some v else None))
either true b c v e = ap (λ t. if t then Some v else None) e
either false b c v e = ap (λ t. if t then Some v else None) e

pub merged_last : {V : Type 0} (xs : List (Range × V)) (i : ℕ) (p : Range × V) (r q : Range) (v : V) → i + 1
    ≡ length xs → p ≡ get_or xs i p → p.1 ≡ v → p.0.high + 1 ≡ r.low → q.low ≡ p.0.low → q.high ≡ max p.0.high r.high
    → SameFirstValues (set xs i (q, p.1)) (xs ++ (r, v) ∷ [])
merged_last {V} xs i p r q v last is value touch low high key =
    let front = take i xs in
    ap (λ l. first_value l key) (set_last xs i (q, p.1) last)
    ∙ same_back front ((q, p.1) ∷ []) (p ∷ (r, p.1) ∷ []) key
    (either (in_range p.0 key) (in_range r key) (in_range q key) p.1 (merged_range p.0 r q key touch low high))
    ∙ ap (λ l. first_value l key) (sym (append_assoc front (p ∷ []) ((r, p.1) ∷ [])))
    ∙ ap (λ l. first_value (l ++ (r, p.1) ∷ []) key) (sym (by_last xs i p last is))
    ∙ ap (λ w. first_value (xs ++ (r, w) ∷ []) key) value

-- ---- the part of a range before another one

-- appending a pair with a range or part of it, at numbers that both contain or neither does
pub pushed : {V : Type 0} (xs : List (Range × V)) (r s : Range) (v : V) (key : ℕ) → in_range r key ≡ in_range s key
    → first_value (xs ++ (r, v) ∷ []) key ≡ first_value (xs ++ (s, v) ∷ []) key
pushed xs r s v key same = same_back xs ((r, v) ∷ []) ((s, v) ∷ []) key (ap (λ b. if b then Some v else None) same)

pub unpushed : {V : Type 0} (xs : List (Range × V)) (r : Range) (v : V) (key : ℕ) → in_range r key ≡ false
    → first_value (xs ++ (r, v) ∷ []) key ≡ first_value xs key
unpushed xs r v key none = same_back xs ((r, v) ∷ []) [] key (miss r v [] key none) ∙ ap (λ l. first_value l key) (append-nil xs)

pub adds_part : {V : Type 0} (old new : List (Range × V)) (r part other : Range) (v : V) → r.low < other.low
    → part.low ≡ r.low → part.high + 1 ≡ min (r.high + 1) other.low → SameFirstValues new (old ++ (part, v) ∷ [])
    → AddsBelow old r v other.low new
adds_part {V} old new r part other v begins low high same = grind (arith, pushed, unpushed, past)

pub adds_nothing : {V : Type 0} (old : List (Range × V)) (r other : Range) (v : V) → other.low ≤ r.low → AddsBelow old r v other.low old
adds_nothing old r other v le = grind (arith, unpushed, under)

-- ---- a range under the first of the upper pieces

-- what is left of the range after that piece has its values above the piece, and none below it
over : {V : Type 0} (old new tail : List (Range × V)) (first : Range × V) (others : List (Range × V)) (r : Range) (v : V)
    → IsRising (first.0.high + 1) others → AddsBelow old r v first.0.low new
    → ((key : ℕ) → key < first.0.low → first_value tail key ≡ None)
    → ((key : ℕ) → first.0.high < key → first_value tail key ≡ first_value ((r, v) ∷ []) key)
    → SameFirstValues (new ++ (first ∷ others ++ tail)) (old ++ (first ∷ others ++ (r, v) ∷ []))
over {V} old new tail first others r v rises adds silent above key = elim (cases_lt key first.0.low) [
  | inl less ↦
      let none = none_below first.0.low key (first ∷ others) less (omega arith, rises) in
      same_back new (first ∷ others ++ tail) [] key (skip (first ∷ others) tail key none ∙ silent key less)
      ∙ ap (λ l. first_value l key) (append-nil new)
      ∙ adds.lesser key less
      ∙ same_back old ((r, v) ∷ []) (first ∷ others ++ (r, v) ∷ []) key (sym (skip (first ∷ others) ((r, v) ∷ []) key none))
  | inr more ↦
      front_at new old (first ∷ others ++ tail) key (adds.others key more)
      ∙ same_back old (first ∷ others ++ tail) (first ∷ others ++ (r, v) ∷ []) key (elim (cases_lt first.0.high key) [
        | inl beyond ↦ same_back (first ∷ others) tail ((r, v) ∷ []) key (above key beyond)
        | inr inside ↦
            let here = within first.0 key more inside in
            hit first.0 first.1 (others ++ tail) key here ∙ sym (hit first.0 first.1 (others ++ (r, v) ∷ []) key here)
      ])
]

-- no part of the range is above that piece
pub covered : {V : Type 0} (old new : List (Range × V)) (first : Range × V) (others : List (Range × V)) (r : Range)
    (v : V) → r.high ≤ first.0.high → IsRising (first.0.high + 1) others → AddsBelow old r v first.0.low new
    → SameFirstValues (new ++ first ∷ others) (old ++ (first ∷ others ++ (r, v) ∷ []))
covered {V} old new first others r v ends rises adds key =
    ap (λ l. first_value (new ++ first ∷ l) key) (sym (append-nil others))
    ∙ over old new [] first others r v rises adds (λ k less. refl) (λ k beyond. sym (miss r v [] k (past r k (omega (arith, ends, beyond))))) key

-- the rest of the range is above that piece, which is appended
pub passed : {V : Type 0} (old new newer : List (Range × V)) (first : Range × V) (others : List (Range × V))
    (r part : Range) (v : V) → part.low ≡ max r.low (first.0.high + 1) → part.high ≡ r.high
    → IsRising (first.0.high + 1) others → AddsBelow old r v first.0.low new
    → SameFirstValues newer (new ++ first ∷ []) → SameFirstValues (newer ++ (others ++ (part, v) ∷ []))
    (old ++ (first ∷ others ++ (r, v) ∷ []))
passed {V} old new newer first others r part v low high rises adds appended key =
    same_front newer (new ++ first ∷ []) (others ++ (part, v) ∷ []) appended key
    ∙ ap (λ l. first_value l key) (append_assoc new (first ∷ []) (others ++ (part, v) ∷ []))
    ∙ over old new ((part, v) ∷ []) first others r v rises adds
    (λ k less. miss part v [] k (under part k (omega (arith, first.0.ordered))))
    (λ k beyond. pushed [] part r v k (grind (arith, nat_tests, low, high, beyond))) key

-- no upper piece is left, and the rest of the range is the last
pub follows_none : {V : Type 0} (done xs : List (Range × V)) → length xs < 1 → Follows done xs
follows_none done [] none = tt
follows_none done (x ∷ xs) none = absurd (omega arith)

pub passed_all : {V : Type 0} (pieces new left all : List (Range × V)) (r : Range) (v : V) → length left < 1
    → SameFirstValues new (pieces ++ (r, v) ∷ []) → SameFirstValues (pieces ++ (left ++ (r, v) ∷ [])) all
    → SameFirstValues (new ++ left) all
passed_all pieces new [] all r v none last so_far key = ap (λ l. first_value l key) (append-nil new) ∙ last key ∙ so_far key
passed_all pieces new (x ∷ xs) all r v none last so_far key = absurd (omega arith)

-- ---- overlaying two lists

pub table_none : {V : Type 0} (xs : List (Range × V)) → xs ≡ [] → IsTable xs
table_none {V} xs none = subst IsTable (sym none) (record { separate = λ i j d lt in_list. absurd (omega arith); merged = λ i d lt. absurd (omega arith) })

-- one more lower piece is done
pub laid_more : {V : Type 0} (pieces left new left' lower all : List (Range × V)) (i : ℕ) (item : Range × V)
    → i < length lower → item ≡ get_or lower i item → SameFirstValues (new ++ left') (pieces ++ (left ++ item ∷ []))
    → SameFirstValues (pieces ++ (left ++ drop i lower)) all → SameFirstValues (new ++ (left' ++ drop (i + 1) lower)) all
laid_more {V} pieces left new left' lower all i item lt is one so_far key =
    let rest = drop (i + 1) lower in
    ap (λ l. first_value l key) (sym (append_assoc new left' rest))
    ∙ same_front (new ++ left') (pieces ++ (left ++ item ∷ [])) rest one key
    ∙ ap (λ l. first_value l key) (append_assoc pieces (left ++ item ∷ []) rest ∙ ap (λ l. pieces ++ l) (append_assoc left (item ∷ []) rest))
    ∙ ap (λ l. first_value (pieces ++ (left ++ l)) key) (ap (λ p. p ∷ rest) is ∙ sym (drop_more lower i item lt))
    ∙ so_far key

-- the first values of both halves determine those of the whole
pub same_halves : {V : Type 0} (upper lower pairs : List (Range × V)) (n : ℕ) → SameFirstValues upper (take n pairs)
    → SameFirstValues lower (drop n pairs) → SameFirstValues (upper ++ lower) pairs
same_halves upper lower pairs n front back key =
    same_front upper (take n pairs) lower front key
    ∙ same_back (take n pairs) lower (drop n pairs) key (back key)
    ∙ ap (λ l. first_value l key) (take-append-drop n pairs)
