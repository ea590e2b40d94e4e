use Rattle.lowering.proofs.Entries.{entry-more}
use Rattle.lowering.proofs.tables.push_entry.Goals as goal

pub returns-in_ok-push : goal.returns-in_ok-push
returns-in_ok-push g c n = rw (c.in-Some.is, c.in_ok-push.ensures.items) (entry-more c.args.entries.now.items c.in-Some.entry n)
