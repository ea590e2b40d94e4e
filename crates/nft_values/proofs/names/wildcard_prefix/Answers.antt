use Rattle.nft_values.proofs.NameLaws.{star-absent, star-there}
use Rattle.nft_values.proofs.names.wildcard_prefix.Goals as goal

pub returns-then-last-eq42 : goal.returns-then-last-eq42
returns-then-last-eq42 c = star-there c.args.name.now c.in_ok-last.before.now c.in_ok-last.last.now
    (rw (c.in_ok-last.last-is, c.in_ok-last.before-is) at c.in_ok-last.ensures.cases).0 c.if-last-eq42.true

pub returns-else-last-eq42 : goal.returns-else-last-eq42
returns-else-last-eq42 c = star-absent c.args.name.now c.in_ok-last.before.now c.in_ok-last.last.now
    (rw (c.in_ok-last.last-is, c.in_ok-last.before-is) at c.in_ok-last.ensures.cases).0 c.if-last-eq42.false
