use Rattle.ip_headers.proofs.Faults.{passes, fault_free}
use Rattle.ip_headers.proofs.laws.no_fault.Goals as goal

pub returns-clause-passes : goal.returns-clause-passes
returns-clause-passes c = passes

pub returns-clause-faultless : goal.returns-clause-faultless
returns-clause-faultless c = fault_free
