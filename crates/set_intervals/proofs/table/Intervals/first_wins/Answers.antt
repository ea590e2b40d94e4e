use Rattle.std.proofs.Common.{◌∙◌, ap}
use Rattle.std.proofs.lemmas.Result.{IfOk-weaker}
use Rattle.set_intervals.specs.Pairs.{first_value}
use Rattle.set_intervals.proofs.table.Intervals.first_wins.Goals as goal

pub returns : goal.returns
returns g c = IfOk-weaker c.of.result _ _ (λ table same key. ap (λ l. first_value l key) same ∙ c.in_ok-pieces.ensures.first_values key) c.of.ensures
