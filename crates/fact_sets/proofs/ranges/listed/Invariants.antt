use Rattle.std.proofs.Common.{◌&&◌, nat_lt}
use Rattle.packet_sets.specs.Sets.{Keeps, Means}
use Rattle.fact_sets.specs.Facts.{number_in}
use Rattle.fact_sets.specs.Tests.{test_passes}
use Rattle.fact_sets.specs.steps.Readings.{meant}
use Rattle.fact_sets.proofs.ranges.listed.Given as goal

abbrev pub invariant-loop-number : goal.invariant-loop-number
invariant-loop-number l = record {
  keeps : Keeps l.fn.diagrams l.diagrams;
  means : Means l.diagrams l.set (λ packet. nat_lt (number_in l.field packet) l.number && test_passes l.test (meant l.numbers (number_in l.field packet)));
}
