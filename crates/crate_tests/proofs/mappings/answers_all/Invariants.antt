use Rattle.std.proofs.Common.{◌≤◌}
use Rattle.ip_headers.specs.declared.tuple.Mapping.{Mapping}
use Rattle.nat_mapping.specs.HeldMappings.{holders_of}
use Rattle.crate_tests.proofs.mappings.answers_all.Given as goal

abbrev pub invariant-loop-number : goal.invariant-loop-number
invariant-loop-number g l = (m : Mapping) → holders_of m l.table.held ≤ l.number
