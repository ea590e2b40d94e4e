use Rattle.std.proofs.Common.{length, sym, ap, ◌∙◌, arith}
use Rattle.chained_map.specs.steps.Buckets.{bucket_of}
use Rattle.chained_map.proofs.NodeLaws.{links, none_left_out}
use Rattle.chained_map.proofs.chains.relink.Goals as goal

pub returns-then-index-nodes-clause-chained : goal.returns-then-index-nodes-clause-chained
returns-then-index-nodes-clause-chained g c =
    none_left_out c.args.heads.now c.args.nodes.now c.args.index (omega arith) (omega arith) c.requires.chained

pub returns-clause-chained : goal.returns-clause-chained
returns-clause-chained g c =
    let heads = c.args.heads.now in
    let node = c.index-nodes-index in
    let place = c.find_place-place in
    let bucket = c.bucket_of-bucket in
    let own = bucket.ensures.value ∙ ap (λ n. bucket_of (length heads) n.hash) (sym node.is) in
    links heads c.set_link.new.heads c.args.nodes.now c.set_next.new.nodes c.set_link.new.nodes node.result
    c.args.index bucket.result place.result.at place.result.link c.set_link.ensures.long c.set_next.auto.nodes c.set_link.auto.nodes
    c.set_next.ensures.hashes c.set_link.ensures.hashes (omega arith) (omega arith) node.is
    bucket.ensures.within own c.requires.chained place.ensures c.set_next.ensures.nexts c.set_link.ensures.writes

pub find_place-place-requires : goal.find_place-place-requires
find_place-place-requires g c = record {
  chained = c.requires.chained;
  bucket = c.bucket_of-bucket.ensures.within;
  index = omega arith;
  few = omega arith;
}

pub set_link-requires : goal.set_link-requires
set_link-requires g c = record {
  bucket = c.bucket_of-bucket.ensures.within;
  at = omega (arith, c.find_place-place.ensures.within, c.set_next.auto.nodes);
}
