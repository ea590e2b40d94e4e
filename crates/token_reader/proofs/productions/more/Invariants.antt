use Rattle.std.proofs.Common.{◌≤◌, ◌-◌, length, map}
use Rattle.token_reader.specs.Readers.{remaining}
use Rattle.token_reader.proofs.Loops.{Read}
use Rattle.token_reader.proofs.productions.more.Given as goal

abbrev pub invariant-loop-part : goal.invariant-loop-part
invariant-loop-part g l = record {
  read : Read g.P.Production.read_at (map g.P.Production.tree l.fn.found.items)
      (map g.P.Production.tree l.found.items) (remaining l.tokens l.at) (remaining l.tokens l.here);
  after : l.at ≤ l.here;
  within : l.at ≤ length l.tokens → l.here ≤ length l.tokens;
}

abbrev pub decreases-loop-part : goal.decreases-loop-part
decreases-loop-part g l = length l.tokens - l.here
