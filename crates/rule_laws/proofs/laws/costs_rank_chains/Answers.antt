use Rattle.rule_laws.proofs.WellTables.{whole, once, shallow}
use Rattle.rule_laws.proofs.Ranks.{costs_rank_chains}
use Rattle.rule_laws.proofs.laws.costs_rank_chains.Goals as goal

pub returns : goal.returns
returns c = λ tables network well number t at cost are depths depths_are.
    costs_rank_chains network number t (once tables network well number t at) (whole tables network well number t at) cost
    are (shallow tables network well number t at) depths depths_are
