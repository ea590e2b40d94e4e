use Rattle.std.proofs.Common.{◌≡◌, ◌+◌, Bool, cond, length, vec_len, ℕ}
use Rattle.set_lines.specs.Lines.{lies_in, number_in, passed}
use Rattle.set_lines.proofs.line.Lines.add.Given as goal

abbrev pub invariant-loop-line : goal.invariant-loop-line
invariant-loop-line l = record {
  count : vec_len l.self.lines ≡ vec_len l.initial.self.lines + length l.yielded;
  lines : (f : ℕ → Bool) → passed l.self.lines.items f
      ≡ passed l.initial.self.lines.items f + cond (lies_in l.ranges (number_in l.field f)) (passed l.yielded f) 0;
  more : l.self.more ≡ l.initial.self.more;
}
