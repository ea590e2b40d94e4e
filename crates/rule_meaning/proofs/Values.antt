-- Matches whose selector has no value.
use Rattle.std.proofs.Common.{◌≡◌, ℕ, zero, suc, ◌+◌, ◌*◌, ◌^◌, ◌<◌, Bool, false, List, [], ◌∷◌, length}
use Rattle.std.proofs.Common.{slice_index_or, map, Contains, Option, Some, None, refl, ap, arith}
use Rattle.std.specs.Option.{option_and_then}
use Rattle.nft_tree.specs.declared.selector.Selector.{Selector}
use Rattle.nft_tree.specs.declared.selector.Selector.TheVariants as selectors
use Rattle.nft_tree.specs.Tree as tree
use Rattle.nft_tree.specs.Tree.{MatchTree}
use Rattle.nft_tree.specs.ValueTypes.{selector_width}
use Rattle.rule_meaning.specs.declared.facts.Facts.{Facts}
use Rattle.rule_meaning.specs.Selectors.{value, join, joined_value}
use Rattle.rule_meaning.specs.Sets.{Scope}
use Rattle.rule_meaning.specs.Matches.{tests, holds, bit_selector}
use Rattle.rule_meaning.specs.Laws.{selectors_of}

no_test : (v : Option ℕ) (test : ℕ → Bool) → v ≡ None → tests v test ≡ false
no_test v test e = ap (λ x. tests x test) e

module _ (s : Selector) (f : Facts) (nothing : value s f ≡ None) where
  none_joined : (ss : List Selector) (k high : ℕ) → k < length ss → slice_index_or ss k s ≡ s → join high (map (λ x. (selector_width x, value x f)) ss) ≡ None
  none_joined [] k high within is = absurd (omega (arith, within))
  none_joined (x ∷ xs) zero high within is = grind arith
  none_joined (x ∷ xs) (suc k) high within is = by_value (value x f) (λ n. none_joined xs k (high * 2 ^ selector_width x + n) (omega arith) is)
    where
      by_value : (v : Option ℕ)
          → ((n : ℕ) → join (high * 2 ^ selector_width x + n) (map (λ y. (selector_width y, value y f)) xs) ≡ None)
          → option_and_then (λ n. join (high * 2 ^ selector_width x + n) (map (λ y. (selector_width y, value y f)) xs)) v ≡ None
      by_value None h = refl
      by_value (Some n) h = h n

  pub no_joined : (ss : List Selector) → Contains ss s → joined_value ss f ≡ None
  no_joined ss has = none_joined ss has.0 0 has.1 has.2

  -- the one selector of a match
  only : (x : Selector) → Contains (x ∷ []) s → value x f ≡ None
  only x has = grind arith

  pub reads_nothing : (scope : Scope) (m : MatchTree) → Contains (selectors_of m) s → holds scope m f ≡ false
  reads_nothing scope (tree.compare x o r) has = no_test _ _ (only x has)
  reads_nothing scope (tree.is_in ss set) has = no_test _ _ (no_joined ss has)
  reads_nothing scope (tree.not_in ss set) has = no_test _ _ (no_joined ss has)
  reads_nothing scope (tree.bits field test words) has = no_test _ _ (only (bit_selector field) has)
  reads_nothing scope (tree.any_flag fs) has = no_test _ _ (only selectors.TcpFlags has)
  reads_nothing scope (tree.exact_flags fs) has = no_test _ _ (only selectors.TcpFlags has)
  reads_nothing scope (tree.masked_flags wanted mask) has = no_test _ _ (only selectors.TcpFlags has)
  reads_nothing scope (tree.masked_flags_unequal wanted mask) has = no_test _ _ (only selectors.TcpFlags has)
