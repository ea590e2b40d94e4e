use Rattle.rule_check.proofs.Deciding.{judged}
use Rattle.rule_check.proofs.laws.well_formed_or_least_fault.Goals as goal

pub returns : goal.returns
returns c =
    judged (record {
      names = c.duplicate_names_decidable.ensures;
      cycles =
          c.path_faults_decidable.ensures.cycles;
      deep = c.path_faults_decidable.ensures.deep;
      costly =
          c.path_faults_decidable.ensures.costly;
      nat = c.path_faults_decidable.ensures.nat;
    })
