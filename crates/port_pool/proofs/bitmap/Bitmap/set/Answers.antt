use Rattle.std.proofs.Common.{arith}
use Rattle.port_pool.specs.steps.Bits.{bit}
use Rattle.port_pool.proofs.Bitmaps.{count_below-le, set_counts, set_gives}
use Rattle.port_pool.proofs.bitmap.Bitmap.set.Goals as goal

pub overflow_add-self : goal.overflow_add-self
overflow_add-self c = let counts = c.self.invariant.counts in let most = count_below-le (bit c.self.inside.words.items) 65536 in omega arith

pub invariant_of-self : goal.invariant_of-self
invariant_of-self c = set_counts c.self.inside.words.items c.self.inside.count c.args.at c.from-i.result
    c.index-word.result.now c.self.invariant
    (omega arith) c.from-i.ensures c.index-word.ensures c.args.self.now c.self.view_is c.requires

pub returns : goal.returns
returns c = set_gives c.self.inside.words.items c.self.inside.count c.args.at c.from-i.result c.index-word.result.now
    c.self.invariant (omega arith) c.from-i.ensures c.index-word.ensures c.args.self.now c.self.view_is
