-- Bounds of concatenations as sets: of the first selector, and of the others.
use Rattle.std.proofs.Common.{◌≡◌, ◌-◌, ◌^◌, ◌/◌, ◌%◌, ◌==◌, ◌&&◌, ◌||◌, ℕ, ◌<◌, ◌≤◌, List, [], ◌∷◌, length, get_or, take, drop, Bool, refl, min}
use Rattle.std.proofs.Common.{Result, IfOk, Option, Some, None, IfSome}
use Rattle.packet_sets.specs.declared.fault.SetError.{SetError}
use Rattle.packet_sets.specs.declared.packet_set.PacketSet.{PacketSet}
use Rattle.packet_sets.specs.Sets.{DiagramsView, Keeps, Means, holds}
use Rattle.nft_tree.specs.declared.selector.Selector.{Selector}
use Rattle.nft_tree.specs.ValueTypes.{selector_width}
use Rattle.rule_meaning.specs.Matches.{tests}
use Rattle.rule_meaning.specs.Selectors.{joined_value, value}
use Rattle.list_laws.specs.Lists.{head_and_rest}
use Rattle.action_cases.specs.declared.concatenations.Bound.{Bound}
use Rattle.action_cases.specs.declared.concatenations.Bound.TheVariants as bounds
use Rattle.fact_sets.specs.declared.readings.Reader.{Reader}
use Rattle.fact_sets.specs.Cases.{seen}
use Rattle.action_cases.specs.steps.Bounds.{bound_passes, is_beyond, joined_width}
use Rattle.fact_sets.proofs.SetLaws.{and_means, means_kept, ok_as, or_ok}
use Rattle.action_cases.proofs.JoinedLaws.{Below, Fit, joined_is, parts_of}

got-own : {A : Type 0} (xs : List A) (d : A) → get_or xs 0 d ≡ get_or xs 0 (get_or xs 0 d)
got-own [] d = refl
got-own (x ∷ xs) d = refl

pub first_and_rest : (xs : List Selector) (d : Selector) → 1 ≤ length xs → xs ≡ get_or xs 0 d ∷ take (length xs - 1) (drop 1 xs)
first_and_rest xs d some = head_and_rest xs (get_or xs 0 d) some (got-own xs d)

-- values of selectors within the widths of their types
abbrev pub Narrow : Reader → Type 0
Narrow r = (s : Selector) (f : ℕ → Bool) → IfSome (value s (seen r f)) (λ n. n < 2 ^ selector_width s)

below : (v : Option ℕ) (k : ℕ) → IfSome v (λ n. n < k) → Below v k
below None k h = tt
below (Some n) k h = h

fit : (r : Reader) (ss : List Selector) (f : ℕ → Bool) → Narrow r → Fit (parts_of ss (seen r f))
fit r [] f h = tt
fit r (s ∷ ss) f h = (below (value s (seen r f)) (2 ^ selector_width s) (h s f), fit r ss f h)

-- what the calls gave, by the names of their results
pub record Parts (r : Reader) (bound : Bound) (number bits q b : ℕ) (s : Selector) (ss : List Selector) (d1 d2 d3 d4 d5 : DiagramsView)
    (equal beyond within any at past : PacketSet) : Type 0 where
  pub bits_are : bits ≡ min 128 (joined_width ss)
  pub small : number < 2 ^ 128
  pub narrow : Narrow r
  pub front : q ≡ number / 2 ^ bits
  pub back : b ≡ number % 2 ^ bits
  pub equals : Means d1 equal (λ p. tests (value s (seen r p)) (λ n. n == q))
  pub beyonds : Means d1 beyond (λ p. tests (value s (seen r p)) (is_beyond bound q))
  pub withins : Means d2 within (λ p. tests (joined_value ss (seen r p)) (bound_passes bound b))
  pub anys : Means d3 any (λ p. tests (joined_value ss (seen r p)) (bound_passes bounds.Least 0))
  pub ats : Means d4 at (λ p. holds d3 equal p && holds d3 within p)
  pub pasts : Means d5 past (λ p. holds d4 beyond p && holds d4 any p)
  pub keeps_two : Keeps d1 d2
  pub keeps_three : Keeps d2 d3
  pub keeps_four : Keeps d3 d4
  pub keeps_five : Keeps d4 d5

pub bounded_ok : (r : Reader) (bound : Bound) (number bits q b : ℕ) (s : Selector) (ss all : List Selector) (d1 d2 d3 d4 d5 new : DiagramsView)
    (equal beyond within any at past : PacketSet) (res : Result PacketSet SetError) → all ≡ s ∷ ss
    → Parts r bound number bits q b s ss d1 d2 d3 d4 d5 equal beyond within any at past
    → IfOk res (λ set. Means new set (λ p. holds d5 past p || holds d5 at p))
    → IfOk res (λ set. Means new set (λ p. tests (joined_value all (seen r p)) (bound_passes bound number)))
bounded_ok r bound number bits q b s ss all d1 d2 d3 d4 d5 new equal beyond within any at past res e is ok =
    let te : (ℕ → Bool) → Bool = λ p. tests (value s (seen r p)) (λ n. n == q) in
    let tb : (ℕ → Bool) → Bool = λ p. tests (value s (seen r p)) (is_beyond bound q) in
    let tw : (ℕ → Bool) → Bool = λ p. tests (joined_value ss (seen r p)) (bound_passes bound b) in
    let ta : (ℕ → Bool) → Bool = λ p. tests (joined_value ss (seen r p)) (bound_passes bounds.Least 0) in
    let h_at = and_means d3 d4 equal within at te tw
    (means_kept d2 d3 equal te is.keeps_three (means_kept d1 d2 equal te is.keeps_two is.equals))
    (means_kept d2 d3 within tw is.keeps_three is.withins) is.ats in
    let h_past = and_means d4 d5 beyond any past tb ta
    (means_kept d3 d4 beyond tb is.keeps_four (means_kept d2 d3 beyond tb is.keeps_three (means_kept d1 d2 beyond tb is.keeps_two is.beyonds)))
    (means_kept d3 d4 any ta is.keeps_four is.anys) is.pasts in
    ok_as new _ _ res (λ p. rw (is.front, is.back, e) (joined_is bound number bits s ss (seen r p) is.bits_are is.small (fit r ss p is.narrow)))
    (or_ok d5 new past at (λ p. tb p && ta p) (λ p. te p && tw p) res h_past (means_kept d4 d5 at (λ p. te p && tw p) is.keeps_five h_at) ok)
