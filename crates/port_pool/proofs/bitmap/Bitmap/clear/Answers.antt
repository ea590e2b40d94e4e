use Rattle.std.proofs.Common.{arith}
use Rattle.port_pool.proofs.Bitmaps.{clear_counts, clear_gives}
use Rattle.port_pool.proofs.bitmap.Bitmap.clear.Goals as goal

pub overflow_sub-self : goal.overflow_sub-self
overflow_sub-self c = (clear_counts c.self.inside.words.items c.self.inside.count c.args.at c.from-i.result
    c.index-word.result.now c.self.invariant
    (omega arith) c.from-i.ensures c.index-word.ensures c.args.self.now c.self.view_is c.requires).0

pub invariant_of-self : goal.invariant_of-self
invariant_of-self c = (clear_counts c.self.inside.words.items c.self.inside.count c.args.at c.from-i.result
    c.index-word.result.now c.self.invariant
    (omega arith) c.from-i.ensures c.index-word.ensures c.args.self.now c.self.view_is c.requires).1

pub returns : goal.returns
returns c = clear_gives c.self.inside.words.items c.self.inside.count c.args.at c.from-i.result c.index-word.result.now
    c.self.invariant (omega arith) c.from-i.ensures c.index-word.ensures c.args.self.now c.self.view_is
