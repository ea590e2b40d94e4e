use Rattle.std.proofs.Common.{◌≤◌, length, take, vec_len}
use Rattle.set_lines.specs.Lines.{number_in}
use Rattle.set_lines.specs.steps.Parts.{AreLines, ways_with}
use Rattle.set_lines.proofs.listing.+set_lines.Given as goal

abbrev pub decreases-set_lines : goal.decreases-set_lines
decreases-set_lines l = length l.fields.now

abbrev pub invariant-loop-way : goal.invariant-loop-way
invariant-loop-way l = record {
  few : vec_len l.found.lines ≤ l.most;
  lines : AreLines l.diagrams l.fn.set (λ packet. ways_with (take l.way-index l.way-items) (number_in l.field packet)) l.found;
}
