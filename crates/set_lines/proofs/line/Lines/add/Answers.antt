use Rattle.std.proofs.Common.{arith, refl}
use Rattle.std.proofs.lemmas.List.{length_push}
use Rattle.set_lines.specs.Lines.{lies_in, number_in}
use Rattle.set_lines.proofs.LineLaws.{passed_first, passed_under}
use Rattle.set_lines.proofs.line.Lines.add.Goals as goal

pub loop-line-init : goal.loop-line-init
loop-line-init c = record {
  count = omega arith;
  lines = λ f. passed_first (lies_in c.args.ranges.now (number_in c.args.field f)) _ f;
  more = refl;
}

pub loop-line-preserved : goal.loop-line-preserved
loop-line-preserved c = record {
  count =
      let i = c.loop-line.invariant.count in
      let l = c.in_ok-push.ensures.len in
      omega (arith, length_push c.loop-line.yielded c.in-Some.line);
  lines = λ f.
      passed_under (lies_in c.args.ranges.now (number_in c.args.field f)) c.loop-line.self.lines.items
      c.loop-line.yielded c.push.new.self.items _ c.in-Some.line
      c.in_ok-under.field-0 f c.in_ok-push.ensures.items (c.loop-line.invariant.lines f) (c.in_ok-under.ensures f);
  more = c.loop-line.invariant.more;
}
