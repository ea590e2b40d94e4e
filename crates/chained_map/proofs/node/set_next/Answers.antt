use Rattle.std.proofs.Common.{refl}
use Rattle.std.proofs.lemmas.List.{map-set}
use Rattle.std.proofs.Math.Seq.{map-set_same}
use Rattle.chained_map.proofs.node.set_next.Goals as goal

pub returns-clause-nexts : goal.returns-clause-nexts
returns-clause-nexts g c = map-set (λ n. n.next) c.args.nodes.now c.args.index _

pub returns-clause-hashes : goal.returns-clause-hashes
returns-clause-hashes g c = map-set_same (λ n. n.hash) c.args.nodes.now c.args.index _ c.index-nodes-index.result refl

pub returns-clause-entries : goal.returns-clause-entries
returns-clause-entries g c = map-set_same (λ n. (n.key, n.value)) c.args.nodes.now c.args.index _ c.index-nodes-index.result refl

pub bounds-nodes-index : goal.bounds-nodes-index
bounds-nodes-index g c = c.requires
