use Rattle.std.proofs.Common.{arith}
use Rattle.chained_map.proofs.ChainLaws.{last_out}
use Rattle.chained_map.proofs.NodeLaws.{unlinks_last}
use Rattle.chained_map.proofs.chains.unlink_last.Goals as goal

pub returns-then-out-last-clause-chained : goal.returns-then-out-last-clause-chained
returns-then-out-last-clause-chained g c = last_out _ _ _ _ _ _ (omega arith) c.requires.chained

pub returns-clause-chained : goal.returns-clause-chained
returns-clause-chained g c =
    unlinks_last c.args.heads.now c.args.nodes.now c.index-nodes-last.result c.args.out c.bucket_of-bucket.result
    (omega arith) (omega arith) c.index-nodes-last.is c.bucket_of-bucket.ensures.within
    c.bucket_of-bucket.ensures.value c.requires.chained
