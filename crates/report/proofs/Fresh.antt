-- A report before the first record.
use Rattle.report.proofs.Imports.{All, All-push, AllWithin, CounterStart, List, None, Option, Some, StatementPosition, TableTree, Tallies, Tally, [], arith}
use Rattle.report.proofs.Imports.{common_steps, counter_at, counter_in, fresh_statement, get_or, length, map, numbered_from_one, option_and_then, option_map}
use Rattle.report.proofs.Imports.{refl, slice_get, slice_get-map, slice_index, suc, sym, take, tally_at, tally_of, zero, ℕ, ◌*◌, ◌++◌, ◌+◌, ◌<◌, ◌^◌, ◌∷◌, ◌≡◌}
use Rattle.std.specs.Prelude.{replicate}
use Rattle.std.proofs.lemmas.List.{map-append, take_more}
use Rattle.std.proofs.lemmas.Option.{get_or_from_slice_get, option_and_then_some, slice_get_within}
use Rattle.nft_tree.specs.TableItems.{rule_numbered}
use Rattle.report.specs.steps.Tallying.{fresh}

-- ---- a counter of a new report has its initial value

numbered_from_one-map : {A B : Type 0} (f : A → B) (xs : List A) (n : ℕ)
    → numbered_from_one (map f xs) n ≡ option_map f (numbered_from_one xs n)
numbered_from_one-map f xs zero = refl
numbered_from_one-map f xs (suc n) = slice_get-map f xs n

-- what is found in a part's image is the image of what is found in the part
found_in-map : {A B C D : Type 0} (f : A → B) (g : C → D) (find : A → Option C) (find' : B → Option D) (o : Option A)
    → ((a : A) → find' (f a) ≡ option_map g (find a))
    → option_and_then find' (option_map f o) ≡ option_map g (option_and_then find o)
found_in-map f g find find' None same = refl
found_in-map f g find find' (Some a) same = same a

fresh_there : (rules : List TableTree) (at : StatementPosition) → tally_at (fresh rules) at
    ≡ option_map fresh_statement (option_and_then (λ r. numbered_from_one r.statements at.statement) (rule_numbered rules at.rule))
fresh_there rules at =
    grind (arith, slice_get, at.rule.table, slice_get-map, at.rule.chain, found_in-map, at.rule.rule, at.rule, numbered_from_one-map, at.statement)

pub fresh_starts : (rules : List TableTree) (at : StatementPosition) (start : CounterStart)
    → counter_at rules at ≡ Some start → tally_at (fresh rules) at ≡ Some (tally_of start at [])
fresh_starts rules at start is = grind (arith, fresh_there)

-- ---- bounds

-- a counter starts at numbers of 64 bits
abbrev pub FitsStart : Tally → Type 0
FitsStart n = (n.packets < 2 ^ 64) × (n.bytes < 2 ^ 64)

-- the image of one element more
pub mapped_more : {A B C : Type 0} (f : B → C) (g : A → B) (xs : List A) (i : ℕ) (x : A) {ys more : List C} {y : C} → i < length xs
    → x ≡ get_or xs i x → ys ≡ map f (map g (take i xs)) → more ≡ ys ++ y ∷ [] → y ≡ f (g x) → more ≡ map f (map g (take (i + 1) xs))
mapped_more f g xs i x h is are to made = rw (to, are, made, take_more xs i x h, sym is) (simp map-append)

-- each counter of tallies that are pushed fits
pub ruleset growing = (common_steps, All-push, FitsStart)

-- what holds of each element holds of one that is there
at_place : {A : Type 0} (P : A → Type 0) (xs : List A) (n : ℕ) (x : A) → All P xs → slice_get xs n ≡ Some x → P x
at_place P xs n x all is = grind (arith, slice_get_within, get_or, get_or_from_slice_get)

at_number : {A : Type 0} (P : A → Type 0) (xs : List A) (n : ℕ) (x : A) → All P xs → numbered_from_one xs n ≡ Some x → P x
at_number P xs zero x all is = absurd (cc)
at_number P xs (suc n) x all is = at_place P xs n x all is

pub fresh_fits : (tallies : Tallies) → All (All (All (All FitsStart))) tallies → AllWithin ((0 + 1) * 2 ^ 64) tallies
fresh_fits tallies all at tally is =
    let fits : FitsStart tally =
    option_and_then_some (λ r. numbered_from_one r at.statement) _ tally is (λ r rule here.
    option_and_then_some (λ c. numbered_from_one c at.rule.rule) _ r rule (λ c chain in_chain.
    option_and_then_some (λ t. slice_get t at.rule.chain) (slice_get tallies at.rule.table) c chain (λ t table in_table.
    let there = at_place (All (All FitsStart)) t at.rule.chain c (at_place (All (All (All FitsStart))) tallies at.rule.table t all table) in_table in
    at_number FitsStart r at.statement tally (at_number (All FitsStart) c at.rule.rule r there in_chain) here))) in
    (omega arith, omega arith)

-- ---- no record is dropped yet

pub none_at : (n i : ℕ) → slice_index (replicate n 0) i ≡ 0
none_at zero i = refl
none_at (suc n) zero = refl
none_at (suc n) (suc i) = none_at n i
