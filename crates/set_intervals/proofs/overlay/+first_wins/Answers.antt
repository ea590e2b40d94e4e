use Rattle.std.proofs.Common.{ℕ, ◌∙◌, ◌/◌, length, ap}
use Rattle.std.proofs.lemmas.Result.{IfOk-weaker}
use Rattle.set_intervals.specs.Pairs.{first_value}
use Rattle.set_intervals.proofs.LayerLaws.{same_halves}
use Rattle.set_intervals.proofs.overlay.+first_wins.Goals as goal

pub returns-clause-first_values : goal.returns-clause-first_values
returns-clause-first_values g t c =
    let front = λ (key : ℕ). ap (λ l. first_value l key) c.deref.ensures.value
    ∙ c.in_ok-upper.ensures.first_values key ∙ ap (λ l. first_value l key) c.split_at.ensures.front in
    let back = λ (key : ℕ). ap (λ l. first_value l key) c.deref-2.ensures.value
    ∙ c.in_ok-lower.ensures.first_values key ∙ ap (λ l. first_value l key) c.split_at.ensures.back in
    IfOk-weaker c.overlay.result _ _ (λ pieces laid key. laid key ∙ same_halves c.deref.result.now
    c.deref-2.result.now c.args.pairs.now (length c.args.pairs.now / 2) front back key) c.overlay.ensures.first_values
