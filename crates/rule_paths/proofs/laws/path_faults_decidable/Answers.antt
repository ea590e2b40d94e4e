use Rattle.rule_paths.proofs.Callers.{cycles, deep, costly, nat}
use Rattle.rule_paths.proofs.laws.path_faults_decidable.Goals as goal

pub returns : goal.returns
returns c = record { cycles = cycles; deep = deep; costly = costly; nat = nat }
