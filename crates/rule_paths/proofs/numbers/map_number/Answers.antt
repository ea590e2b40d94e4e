use Rattle.std.proofs.Common.{◌≡◌, ℕ, Option, Some, None, length, arith, ap, sym, ◌∙◌, inl, inr}
use Rattle.std.proofs.lemmas.List.{length-map}
use Rattle.nft_tree.specs.TreeViews.{map_tree}
use Rattle.rule_paths.proofs.Callers.{look-map}
use Rattle.rule_paths.proofs.numbers.map_number.Goals as goal

pub overflow_add-result : goal.overflow_add-result
overflow_add-result c =
    let at = sym c.map_index.ensures ∙ c.in-Some.is in
    let m = ap length c.maps-maps.ensures.all in
    let k = length-map c.maps-maps.result.now (λ m. map_tree m.now) in
    elim (look-map c.args.names.now c.args.name.now) [
      | inl r ↦ let same : ◌≡◌ {A = Option ℕ} (Some r.index) (Some c.in-Some.index) = sym r.at ∙ at in
          let is : r.index ≡ c.in-Some.index = cc in
          omega (arith, r.within)
      | inr r ↦ let never : ◌≡◌ {A = Option ℕ} (Some c.in-Some.index) None = sym at ∙ r.at in absurd cc
    ]
