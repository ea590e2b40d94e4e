use Rattle.std.proofs.Common.{◌≤◌, ◌*◌}
use Rattle.port_pool.specs.steps.First.{NoneWithin, is_open}
use Rattle.port_pool.proofs.bitmap.first_free.Given as goal

abbrev pub invariant-words : goal.invariant-words
invariant-words l = record {
  after : l.from ≤ l.i * 64;
  none : NoneWithin (is_open l.words l.mask) l.from (l.i * 64);
}
