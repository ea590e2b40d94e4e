use Rattle.std.proofs.Common.{arith}
use Rattle.port_pool.proofs.Bitmaps.{has_gives}
use Rattle.port_pool.proofs.bitmap.Bitmap.has.Goals as goal

pub returns : goal.returns
returns c = has_gives c.self.inside.words.items c.self.inside.count c.args.at c.from.result c.index-word.result.now
    c.self.invariant (omega arith) c.from.ensures c.index-word.ensures c.args.self.now c.self.view_is
