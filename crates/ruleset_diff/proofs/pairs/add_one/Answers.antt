use Rattle.std.proofs.Common.{refl}
use Rattle.ruleset_diff.proofs.Compared.{adds_more, adds_skip}
use Rattle.ruleset_diff.proofs.pairs.add_one.Goals as goal

pub returns-then-is_none : goal.returns-then-is_none
returns-then-is_none c = λ sets before so_far.
    adds_skip c.args.diagrams.now c.args.stage c.args.old c.args.new sets c.args.set before c.args.differences.now.items c.if-is_none.ensures.none so_far

pub returns : goal.returns
returns c = λ sets before so_far.
    adds_more c.args.diagrams.now c.args.stage c.args.old c.args.new sets c.args.set
    (record { stage = c.args.stage; set = c.args.set; old = c.args.old; new = c.args.new }) before c.args.differences.now.items
    c.push.new.self.items refl c.requires c.if-is_none.ensures.some c.in_ok-push.ensures.items so_far
