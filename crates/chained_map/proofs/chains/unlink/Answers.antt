use Rattle.std.proofs.Common.{arith}
use Rattle.chained_map.proofs.NodeLaws.{unlinks}
use Rattle.chained_map.proofs.chains.unlink.Goals as goal

pub returns-clause-chained : goal.returns-clause-chained
returns-clause-chained g c =
    let place = c.find_place-place.result in
    unlinks c.args.heads.now c.set_link.new.heads c.args.nodes.now c.set_link.new.nodes c.index-nodes-index.result
    c.args.index c.bucket_of-bucket.result place.at place.link c.set_link.ensures.long c.set_link.auto.nodes c.set_link.ensures.hashes
    (omega arith) c.requires.index c.index-nodes-index.is c.bucket_of-bucket.ensures.within c.bucket_of-bucket.ensures.value
    c.requires.chained c.find_place-place.ensures c.set_link.ensures.writes

pub find_place-place-requires : goal.find_place-place-requires
find_place-place-requires g c = record {
  chained = c.requires.chained;
  bucket = c.bucket_of-bucket.ensures.within;
  index = c.requires.index;
  few = omega arith;
}

pub set_link-requires : goal.set_link-requires
set_link-requires g c = record { bucket = c.bucket_of-bucket.ensures.within; at = c.find_place-place.ensures.within }
