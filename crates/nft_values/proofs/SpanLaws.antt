-- The bounds of values, names and prefixes are in order.
use Rattle.std.proofs.Common.{◌≡◌, ℕ, ◌+◌, ◌-◌, ◌*◌, ◌/◌, ◌^◌, ◌<◌, ◌≤◌, Bool, true, false, ◌&&◌, cond, Option, Some, None, ap, ◌∙◌, arith}
use Rattle.std.specs.Prelude.{MatchOption}
use Rattle.std.specs.Option.{option_map}
use Rattle.std.proofs.lemmas.Bool.{leb-true, and_parts}
use Rattle.std.proofs.Math.Pow.{pow_pos}
use Rattle.nft_tree.specs.Tree as tree
use Rattle.nft_tree.specs.Tree.{Text, ValueTree, RangeTree}
use Rattle.nft_tree.specs.declared.selector.ValueType.TheVariants as types
use Rattle.nft_tree.specs.declared.compared_types.ComparedType.{ComparedType}
use Rattle.nft_tree.specs.declared.compared_types.ComparedType.TheVariants.{Named, Unnamed}
use Rattle.box_file.specs.Box.{PlantTree}
use Rattle.set_intervals.specs.declared.range.Range.{Range}
use Rattle.nft_values.specs.Values.{Span, span_of, wildcard_prefix, is_range, has_numbers, name_span, text_span, value_span, range_span, numbers_of}
use Rattle.nft_values.proofs.NameLaws.{padded-le}

name-rises : (n : Text) (beginning : Option Text) → (name_span n beginning).low ≤ (name_span n beginning).high
name-rises n None = omega arith
name-rises n (Some beginning) = padded-le beginning

text-rises : (network : PlantTree) (k : ComparedType) (n : Text) → (text_span network k n).low ≤ (text_span network k n).high
text-rises network (Named types.InterfaceName) n = name-rises n (wildcard_prefix n)
text-rises network (Named types.InterfaceIndex) n = omega arith
text-rises network (Named t) n = omega arith
text-rises network (Unnamed width) n = omega arith

value-rises : (network : PlantTree) (k : ComparedType) (v : ValueTree) → (value_span network k v).low ≤ (value_span network k v).high
value-rises network k (tree.number n) = omega arith
value-rises network k (tree.address a) = omega arith
value-rises network k (tree.word w) = text-rises network k w
value-rises network k (tree.string s) = text-rises network k s

prefix-rises : (low size : ℕ) → 0 < size → low ≤ low + size - 1
prefix-rises low size some = omega arith

range-rises : (network : PlantTree) (k : ComparedType) (r : RangeTree) → is_range network k r ≡ true → (range_span network k r).low ≤ (range_span network k r).high
range-rises network k (tree.one v) e = value-rises network k v
range-rises network k (tree.between low high) e = leb-true _ _ (and_parts _ _ e).1
range-rises network k (tree.prefix a n) e = prefix-rises (a / 2 ^ (32 - n) * 2 ^ (32 - n)) (2 ^ (32 - n)) (pow_pos (32 - n))

abbrev span : ℕ → ℕ → Span
span low high = record { low = low; high = high }

same-span : (a b : Span) → a.low ≡ b.low → a.high ≡ b.high → a ≡ b
same-span a b e f = ap (λ (n : ℕ). span n a.high) e ∙ ap (span b.low) f

made : (s : Span) (r : Option Range) → s.low ≤ s.high → MatchOption r (s.high < s.low)
    (λ r. (r.low ≡ s.low) × (r.high ≡ s.high)) → option_map span_of r ≡ Some s
made s None rises h = absurd (omega arith)
made s (Some r) rises h = ap Some (same-span (span_of r) s h.0 h.1)

guarded : (a b : Bool) (s t : Span) → a ≡ true → b ≡ true → s ≡ t → Some s ≡ cond (a && b) (Some t) None
guarded true true s t e f same = ap Some same
guarded true false s t e f same = absurd cc
guarded false b s t e f same = absurd cc

pub range_made : (network : PlantTree) (k : ComparedType) (range : RangeTree) (s : Span) (r : Option Range)
    → is_range network k range ≡ true → has_numbers network k range ≡ true → s ≡ range_span network k range
    → MatchOption r (s.high < s.low) (λ r. (r.low ≡ s.low) × (r.high ≡ s.high)) → option_map span_of r
    ≡ numbers_of network k range
range_made network k range s r good here e h = grind (arith, made, range-rises, guarded)
