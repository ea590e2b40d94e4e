use Rattle.std.proofs.Common.{arith}
use Rattle.box_file.proofs.Names.{ap, drop_all, false, list_any, sym, true, ◌∙◌}
use Rattle.box_file.proofs.RepeatLaws.{not_is, none_seen, key_more, repeat_found}
use Rattle.box_file.proofs.duplicates.has_duplicate.Goals as goal

pub loop-line-init : goal.loop-line-init
loop-line-init g c = none_seen g.K.PartialEq.eq _ (λ q. ap (list_any (g.K.PartialEq.eq q)) c.new-seen.ensures.empty) _

pub loop-line-preserved : goal.loop-line-preserved
loop-line-preserved g c =
    key_more g.L.HasKey.key_of c.args.lines.now c.loop-line.line-index c.loop-line-test.true c.line-item.is c.key.ensures g.K.PartialEq.eq _ _
    (not_is _ true (sym c.in_ok-insert.ensures.added ∙ c.if-not-branch.false)) c.in_ok-insert.ensures.updates.0
    ∙ c.loop-line.invariant

pub returns-then-not-branch : goal.returns-then-not-branch
returns-then-not-branch g c =
    repeat_found g.L.HasKey.key_of c.args.lines.now c.loop-line.line-index c.loop-line-test.true c.line-item.is c.key.ensures g.K.PartialEq.eq _
    (not_is _ false (sym c.in_ok-insert.ensures.added ∙ c.if-not-branch.true))
    ∙ c.loop-line.invariant

pub returns : goal.returns
returns g c = grind (arith, drop_all, c.loop-line.line-index, c.args.lines.now, c.loop-line-test.false, c.loop-line.invariant)
