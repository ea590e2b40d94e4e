-- Counters after the events of one more record.
use Rattle.report.proofs.Imports.{AllWithin, Bool, CounterStart, Entry, Event, List, None, Option, Some, StatementPosition, TableTree, Tallies, Tally, [], ap}
use Rattle.report.proofs.Imports.{arith, changed, changed_from_one, cond, count_by, counted_all, counter_at, false, length, numbered_from_one}
use Rattle.report.proofs.Imports.{option_and_then, option_map, refl, slice_get, suc, sum_by-cons, sym, tally_at, tally_of, true, zero, ℕ, ◌*◌, ◌+◌, ◌<◌, ◌==◌}
use Rattle.report.proofs.Imports.{◌^◌, ◌∙◌, ◌∷◌, ◌≡◌, ◌≤◌}
use Rattle.std.proofs.Common.{◌&&◌}
use Rattle.std.specs.Prelude.{min}
use Rattle.std.proofs.Math.Bool.{and_assoc}
use Rattle.std.proofs.Math.Dec.{eqb-suc-suc, eqb-suc-zero, eqb-zero-suc}
use Rattle.std.proofs.lemmas.Option.{none-some}
use Rattle.report.specs.Report.{counts_at, is_counted_at, same_position}
use Rattle.report.specs.steps.Tallying.{GREATEST, counted, counted_event, raised}
use Rattle.rule_meaning.specs.declared.event.Event.TheVariants as events

-- ---- one packet more

-- the item at a position is changed where it is the one that is meant
abbrev pub changed_if : {A : Type 0} → Bool → (A → A) → Option A → Option A
changed_if same f o = cond same (option_map f o) o

none_changed : {A : Type 0} (same : Bool) (f : A → A) → None ≡ changed_if same f None
none_changed true f = refl
none_changed false f = refl

changed_at : {A : Type 0} (f : A → A) (n m : ℕ) (xs : List A) → slice_get (changed f n xs) m ≡ changed_if (n == m) f (slice_get xs m)
changed_at f n m [] = none_changed (n == m) f
changed_at f zero zero (x ∷ xs) = refl
changed_at f zero (suc m) (x ∷ xs) = rw eqb-zero-suc refl
changed_at f (suc n) zero (x ∷ xs) = rw eqb-suc-zero refl
changed_at f (suc n) (suc m) (x ∷ xs) = rw eqb-suc-suc (changed_at f n m xs)

changed_from_one_at : {A : Type 0} (f : A → A) (n m : ℕ) (xs : List A)
    → numbered_from_one (changed_from_one f n xs) m ≡ changed_if (n == m) f (numbered_from_one xs m)
changed_from_one_at f n zero xs = none_changed (n == zero) f
changed_from_one_at f zero (suc m) xs = rw eqb-zero-suc refl
changed_from_one_at f (suc n) (suc m) xs = rw eqb-suc-suc (changed_at f n m xs)

-- a part of it is changed where both are meant
part_changed : {A B : Type 0} (get : A → Option B) (outer : A → A) (f : B → B) (same inside : Bool)
    (now then : Option A) → ((x : A) → get (outer x) ≡ changed_if inside f (get x)) → now ≡ changed_if same outer then
    → option_and_then get now ≡ changed_if (same && inside) f (option_and_then get then)
part_changed get outer f false inside now then part is = ap (option_and_then get) is
part_changed get outer f true inside now None part is = ap (option_and_then get) is ∙ none_changed inside f
part_changed get outer f true inside now (Some x) part is = ap (option_and_then get) is ∙ part x

counted_at : (size : ℕ) (p at : StatementPosition) (ts : Tallies)
    → tally_at (counted size p ts) at ≡ changed_if (same_position p at) (raised size) (tally_at ts at)
counted_at size p at ts =
    rw (← and_assoc (p.rule.table == at.rule.table && p.rule.chain == at.rule.chain) (p.rule.rule == at.rule.rule) (p.statement == at.statement))
    (part_changed (λ xs. numbered_from_one xs at.statement) _ (raised size) _ _ _ _ (changed_from_one_at (raised size) p.statement at.statement)
    (part_changed (λ xs. numbered_from_one xs at.rule.rule) _ _ _ _ _ _ (changed_from_one_at _ p.rule.rule at.rule.rule)
    (part_changed (λ xs. slice_get xs at.rule.chain) _ _ _ _ _ _ (changed_at _ p.rule.chain at.rule.chain)
    (changed_at _ p.rule.table at.rule.table ts))))

-- an event changes the counter that it counts
event_at : (size : ℕ) (e : Event) (at : StatementPosition) (ts : Tallies)
    → tally_at (counted_event size e ts) at ≡ changed_if (is_counted_at at e) (raised size) (tally_at ts at)
event_at size (events.Counted p) at ts = counted_at size p at ts
event_at size _ at ts = refl

-- ---- as many packets more as the events say

-- so many packets of one size more, up to the greatest number
abbrev pub grown : ℕ → ℕ → Tally → Tally
grown size n t = record { packets = min (t.packets + n) GREATEST; bytes = min (t.bytes + n * size) GREATEST }

same_tally : (a b c d : ℕ) → a ≡ c → b ≡ d → ◌≡◌ {A = Tally} (record { packets = a; bytes = b }) (record { packets = c; bytes = d })
same_tally a b c d p q = rw (p, q)

changed_grown : (size : ℕ) (same : Bool) (t : Tally) → t.packets ≤ GREATEST → t.bytes ≤ GREATEST
    → changed_if same (raised size) (Some t) ≡ Some (grown size (cond same 1 0) t)
changed_grown size true t p q = ap Some (same_tally _ _ _ _ refl (omega arith))
changed_grown size false t p q = ap Some (same_tally t.packets t.bytes _ _ (omega (arith, p)) (omega (arith, q)))

grown_twice : (size m n : ℕ) (t : Tally) → grown size n (grown size m t) ≡ grown size (m + n) t
grown_twice size m n t =
    let product : (m + n) * size ≡ m * size + n * size = grind arith in
    same_tally _ _ _ _ (omega arith) (omega (arith, product))

all_at : (size : ℕ) (es : List Event) (at : StatementPosition) (ts : Tallies) (t : Tally) → t.packets ≤ GREATEST
    → t.bytes ≤ GREATEST → tally_at ts at ≡ Some t
    → tally_at (counted_all size es ts) at ≡ Some (grown size (count_by (is_counted_at at) es) t)
all_at size [] at ts t p q is = is ∙ changed_grown size false t p q
all_at size (e ∷ es) at ts t p q is =
    let k : ℕ = cond (is_counted_at at e) 1 0 in
    let first : tally_at (counted_event size e ts) at ≡ Some (grown size k t) = event_at size e at ts
    ∙ ap (changed_if (is_counted_at at e) (raised size)) is ∙ changed_grown size (is_counted_at at e) t p q in
    all_at size es at (counted_event size e ts) (grown size k t) (omega arith) (omega arith) first
    ∙ ap Some (grown_twice size k (count_by (is_counted_at at) es) t
    ∙ ap (λ n. grown size n t) (sym (sum_by-cons (λ x. cond (is_counted_at at x) 1 0) e es)))

-- ---- the bounds

changed_within : (size n : ℕ) (same : Bool) (o : Option Tally) (t : Tally) → size < 2 ^ 16
    → ((x : Tally) → o ≡ Some x → (x.packets ≤ n) × (x.bytes ≤ n * 2 ^ 16)) → changed_if same (raised size) o ≡ Some t
    → (t.packets ≤ n + 1) × (t.bytes ≤ (n + 1) * 2 ^ 16)
changed_within size n false o t small were is = let h = were t is in (omega (arith, h.0), omega (arith, h.1))
changed_within size n true None t small were is = absurd (none-some t is)
changed_within size n true (Some x) t small were is = grind arith

pub within_all : (size n m : ℕ) (es : List Event) (ts : Tallies) → AllWithin n ts → size < 2 ^ 16 → n + length es ≤ m
    → AllWithin m (counted_all size es ts)
within_all size n m [] ts were small fits = λ at t is. let h = were at t is in (omega (arith, h.0, fits), omega (arith, h.1, fits))
within_all size n m (e ∷ es) ts were small fits = within_all size (n + 1) m es (counted_event size e ts) (λ at t is.
    changed_within size n (is_counted_at at e) (tally_at ts at) t small (were at) (sym (event_at size e at ts) ∙ is)) small
    (omega (arith, fits))

-- ---- a history with one more entry

-- within 2 ^ 110 packets no counter is at the greatest number
pub tallies_more : (rules : List TableTree) (history : List Entry) (e : Entry) (ts : Tallies) (n : ℕ)
    → AllWithin n ts → e.length < 2 ^ 16 → n + length e.events < 2 ^ 110
    → ((at : StatementPosition) (start : CounterStart) → counter_at rules at ≡ Some start
    → tally_at ts at ≡ Some (tally_of start at history))
    → (at : StatementPosition) (start : CounterStart) → counter_at rules at ≡ Some start
    → tally_at (counted_all e.length e.events ts) at ≡ Some (tally_of start at (e ∷ history))
tallies_more rules history e ts n within small few were at start is =
    let old = were at start is in
    let bound = within at (tally_of start at history) old in
    let p = sum_by-cons (counts_at at) e history in
    let b = sum_by-cons (λ (x : Entry). counts_at at x * x.length) e history in
    let new = all_at e.length e.events at ts (tally_of start at history) (omega (arith, bound.0, few))
    (omega (arith, bound.1, few)) old in
    let fits = within_all e.length n (n + length e.events) e.events ts within small (omega arith) at _ new in
    new ∙ ap Some (same_tally _ _ _ _ (omega (arith, p, fits.0, few)) (omega (arith, b, fits.1, few)))
