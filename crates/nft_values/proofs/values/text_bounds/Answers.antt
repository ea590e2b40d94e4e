use Rattle.nft_tree.specs.declared.selector.ValueType.TheVariants as types
use Rattle.std.proofs.Common.{◌≡◌, ℕ, ◌^◌, ◌<◌, sym, subst, ◌∙◌, ap, arith}
use Rattle.std.specs.Prelude.{unwrap_or}
use Rattle.std.proofs.Math.Pow.{pow_pos}
use Rattle.nft_tree.specs.declared.compared_types.ComparedType.{ComparedType}
use Rattle.nft_tree.specs.declared.compared_types.ComparedType.TheVariants.{Named}
use Rattle.nft_tree.specs.ComparedTypes.{compared_type_width}
use Rattle.nft_values.proofs.WordLaws.{word-fits}
use Rattle.nft_values.proofs.values.text_bounds.Goals as goal
use Rattle.nft_values.proofs.values.text_bounds.Goals.{in-Named-InterfaceIndex, in-Named, in-Unnamed}

pub returns-clause-fits : goal.returns-clause-fits
returns-clause-fits c =
    let Fitting : ComparedType → Type 0 = λ k. c.one_number.result.high < 2 ^ compared_type_width k in
    let is = c.one_number.ensures.high ∙ c.from.ensures in
    elim c.match-kind.branch [
      | in-Named-InterfaceIndex w ↦ let e : w.in-Named-InterfaceIndex.field-0 ≡ types.InterfaceIndex =
          cc in subst Fitting (sym (w.in-Named-InterfaceIndex.is ∙ ap Named e)) (omega (arith, is, c.unwrap_or.type_inv))
      | in-Named w ↦ subst Fitting (sym w.in-Named.is)
          (subst (λ (n : ℕ). n < 2 ^ compared_type_width (Named w.in-Named.value_type))
          (sym (is ∙ c.unwrap_or.ensures ∙ ap (λ o. unwrap_or o 0) (w.number-is ∙ w.number_of-number.ensures)))
          (word-fits w.in-Named.value_type c.args.text.now))
      | in-Unnamed w ↦ subst (λ (n : ℕ). n < 2 ^ compared_type_width c.args.kind)
          (sym (is ∙ c.unwrap_or.ensures ∙ ap (λ o. unwrap_or o 0) w.number-is)) (pow_pos (compared_type_width c.args.kind))
    ]
