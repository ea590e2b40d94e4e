use Rattle.set_lines.proofs.LineLaws.{passes_under}
use Rattle.set_lines.proofs.line.Line.under.Goals as goal

pub returns : goal.returns
returns c =
    passes_under c.args.self (record { fields = c.insert.new.self }) c.args.field c.in_ok-ranges.ranges c.args.ranges.now c.in_ok-ranges.ensures.items
    c.in_ok-insert.ensures.items
