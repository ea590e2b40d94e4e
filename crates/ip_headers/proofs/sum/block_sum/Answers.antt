use Rattle.std.proofs.Common.{arith}
use Rattle.ip_headers.proofs.Sums.{block_words, lanes_are}
use Rattle.ip_headers.proofs.sum.block_sum.Goals as goal

pub overflow_mul-result : goal.overflow_mul-result
overflow_mul-result c = grind arith

pub overflow_add-result : goal.overflow_add-result
overflow_add-result c = grind arith

pub returns : goal.returns
returns c = rw (lanes_are 16 c.args.block.now c.requires) (block_words 8 c.args.block.now c.requires)
