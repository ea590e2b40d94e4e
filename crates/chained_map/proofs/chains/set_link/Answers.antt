use Rattle.std.proofs.Common.{arith}
use Rattle.chained_map.proofs.NodeLaws.{writes_head, writes_next}
use Rattle.chained_map.proofs.chains.set_link.Goals as goal

pub returns-then-at-eq0-clause-writes : goal.returns-then-at-eq0-clause-writes
returns-then-at-eq0-clause-writes g c =
    writes_head c.args.heads.now c.args.nodes.now c.args.bucket c.args.at c.args.link c.requires.bucket (omega arith)

pub returns-else-at-eq0-clause-writes : goal.returns-else-at-eq0-clause-writes
returns-else-at-eq0-clause-writes g c =
    writes_next c.args.heads.now c.args.nodes.now _ c.args.bucket c.args.at c.args.link c.requires.at (omega arith)
    c.set_next.ensures.nexts
