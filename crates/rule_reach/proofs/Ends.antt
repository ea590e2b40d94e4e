-- Ends one after another, and all that is told one after another.
use Rattle.std.proofs.Common.{◌≡◌, ◌∙◌, ◌||◌, ◌+◌, ◌<◌, ℕ, Bool, true, false, cond, not, is_some, List, [], ◌∷◌, ◌++◌, length, drop, get_or, refl, ap}
use Rattle.std.proofs.Common.{subst, take, sym}
use Rattle.std.specs.List.{AllZip, list_any}
use Rattle.std.proofs.lemmas.List.{drop_more, get_or_default}
use Rattle.std.proofs.lemmas.List.Elements.{all_zip_more}
use Rattle.packet_sets.specs.Sets.{DiagramsView, holds}
use Rattle.fact_sets.specs.declared.cases.Case.{Case}
use Rattle.fact_sets.specs.Cases.{AreCases}
use Rattle.rule_sets.specs.Ends.{outcomes_for}
use Rattle.chain_sets.specs.declared.outcomes.ChainEnd.{ChainEnd}
use Rattle.rule_reach.specs.steps.Telling.{SomeEnd, at_end}

or-false : (b x : Bool) → ((b || false) || x) ≡ b || x
or-false true x = refl
or-false false x = refl

pub end_cons : (d : DiagramsView) (c : Case ChainEnd) (cs : List (Case ChainEnd)) (p : ℕ → Bool)
    → at_end d (c ∷ cs) p ≡ at_end d (c ∷ []) p || at_end d cs p
end_cons d c cs p =
    let q = λ (e : ChainEnd). not (is_some e.verdict) in
    elim (holds d c.set p) as (λ v. list_any q (cond v (c.outcome ∷ []) [] ++ outcomes_for d cs p)
    ≡ list_any q (cond v (c.outcome ∷ []) [] ++ []) || list_any q (outcomes_for d cs p)) [
      | true ↦ sym (or-false (q c.outcome) (list_any q (outcomes_for d cs p)))
      | false ↦ refl
    ]

-- the ends from this one on tell it
pub record Left (d : DiagramsView) (ends : List (Case ChainEnd)) (i : ℕ) : Type 0 where
  pub are : AreCases d (drop i ends)
  pub same : (p : ℕ → Bool) → at_end d ends p ≡ at_end d (drop i ends) p

pub left_cons : (d : DiagramsView) (ends : List (Case ChainEnd)) (i : ℕ) (any : Case ChainEnd) → i < length ends → Left d ends i → (p : ℕ → Bool)
    → at_end d ends p ≡ at_end d (get_or ends i any ∷ []) p || at_end d (drop (i + 1) ends) p
left_cons d ends i any inside left p =
    left.same p ∙ ap (λ l. at_end d l p) (drop_more ends i any inside) ∙ end_cons d (get_or ends i any) (drop (i + 1) ends) p

pub left_more : (d : DiagramsView) (ends : List (Case ChainEnd)) (i : ℕ) (any : Case ChainEnd) → i < length ends → Left d ends i
    → SomeEnd d (get_or ends i any ∷ []) false → Left d ends (i + 1)
left_more d ends i any inside left none = record {
  are = (subst (AreCases d) (drop_more ends i any inside) left.are).1;
  same = λ p. left_cons d ends i any inside left p ∙ ap (λ v. v || at_end d (drop (i + 1) ends) p) (none p);
}

pub left_some : (d : DiagramsView) (ends : List (Case ChainEnd)) (i : ℕ) (any : Case ChainEnd) → i < length ends → Left d ends i
    → SomeEnd d (get_or ends i any ∷ []) true → SomeEnd d ends true
left_some d ends i any inside left some =
    (some.0, left_cons d ends i any inside left some.0 ∙ ap (λ v. v || at_end d (drop (i + 1) ends) some.0) some.1)

-- ---- one more

pub zip_more : {X : Type 0} (R : X → X → Type 0) (xs ys zs : List X) (i : ℕ) (any y : X) → i < length xs → zs ≡ ys ++ y ∷ []
    → R (get_or xs i any) y → AllZip R (take i xs) ys → AllZip R (take (i + 1) xs) zs
zip_more R xs ys zs i any y inside is here so_far =
    let x = get_or xs i any in
    subst (AllZip R (take (i + 1) xs)) (sym is) (all_zip_more R xs ys i x y inside (get_or_default xs i any x inside) so_far here)
