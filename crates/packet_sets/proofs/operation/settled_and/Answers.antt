use Rattle.std.proofs.Common.{arith, inl}
use Rattle.packet_sets.proofs.Results.{and_left_all, and_left_none, and_right_all, and_right_none, and_same}
use Rattle.packet_sets.proofs.operation.settled_and.Goals as goal

pub returns-then-left-eq0-clause-some : goal.returns-then-left-eq0-clause-some
returns-then-left-eq0-clause-some c = λ nodes are l r. and_left_none nodes c.args.left c.args.right are l r c.if-left-eq0.true

pub returns-then-right-eq0-clause-some : goal.returns-then-right-eq0-clause-some
returns-then-right-eq0-clause-some c = λ nodes are l r. and_right_none nodes c.args.left c.args.right are l r c.if-right-eq0.true

pub returns-then-left-eq1-clause-some : goal.returns-then-left-eq1-clause-some
returns-then-left-eq1-clause-some c = λ nodes are l r. and_left_all nodes c.args.left c.args.right are l r c.if-left-eq1.true

pub returns-then-right-eq1-clause-some : goal.returns-then-right-eq1-clause-some
returns-then-right-eq1-clause-some c = λ nodes are l r. and_right_all nodes c.args.left c.args.right are l r c.if-right-eq1.true

pub returns-then-left-right-clause-some : goal.returns-then-left-right-clause-some
returns-then-left-right-clause-some c = λ nodes are l r. and_same nodes c.args.left c.args.right are l r c.if-left-right.true

pub returns-clause-none : goal.returns-clause-none
returns-clause-none c = inl (omega arith)
