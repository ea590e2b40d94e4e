use Rattle.std.proofs.Common.{refl}
use Rattle.diff_laws.proofs.told_same_same_runs.Goals as goal

pub returns : goal.returns
returns c = λ old new box capture trace other_trace count others torn other_torn sent other_sent report other_report before after bytes text told.
    c.all_same_same_runs.ensures.runs old new box capture trace other_trace count others torn other_torn sent other_sent
    report other_report before after bytes
    (λ stage f of_box can. told.are_same refl stage f (record { of_box = of_box; can = can; assumed = refl }))
