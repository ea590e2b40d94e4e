use Rattle.port_pool.proofs.Bitmaps.{clear_at, set_at}
use Rattle.port_pool.proofs.bitmap.Bitmap.is_clear.Goals as goal

pub returns-clause-clear : goal.returns-clause-clear
returns-clause-clear c = clear_at c.self.inside.words.items c.args.self.now c.self.inside.count c.self.invariant c.self.view_is

pub returns-clause-some : goal.returns-clause-some
returns-clause-some c = set_at c.self.inside.words.items c.args.self.now c.self.inside.count c.self.invariant c.self.view_is
