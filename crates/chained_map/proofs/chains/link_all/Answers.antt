use Rattle.std.proofs.Common.{◌≡◌, ◌+◌, length, refl, sym, ap, subst, ◌∙◌, arith}
use Rattle.std.specs.Prelude.{slice_index}
use Rattle.std.proofs.lemmas.List.{get_or-replicate, length-set}
use Rattle.chained_map.specs.steps.Buckets.{bucket_of}
use Rattle.chained_map.specs.steps.Chains.{IsChainedUpTo, nowhere}
use Rattle.chained_map.proofs.ChainLaws.{no_chains}
use Rattle.chained_map.proofs.NodeLaws.{chains_next}
use Rattle.chained_map.proofs.chains.link_all.Goals as goal

pub loop-index-preserved : goal.loop-index-preserved
loop-index-preserved g c =
    let at = c.loop-index in
    let i = at.index in
    let bucket = c.bucket_of-bucket in
    let own = bucket.ensures.value ∙ ap (λ n. bucket_of (length at.heads) n.hash) (sym c.index-nodes-index.is) in
    record {
      chained = chains_next at.heads at.nodes c.set_next.new.nodes c.index-nodes-index.result i bucket.result (omega arith) (omega arith)
          c.index-nodes-index.is bucket.ensures.within own c.set_next.ensures.hashes c.set_next.ensures.nexts at.invariant.chained;
      long = length-set at.heads bucket.result (i + 1) ∙ at.invariant.long;
      hashes = c.set_next.ensures.hashes ∙ at.invariant.hashes;
      entries = c.set_next.ensures.entries ∙ at.invariant.entries;
    }

pub returns-clause-chained : goal.returns-clause-chained
returns-clause-chained g c =
    let all : c.loop-index.index ≡ length c.loop-index.nodes = omega arith in
    subst (λ n. IsChainedUpTo n nowhere c.loop-index.heads c.loop-index.nodes) all c.loop-index.invariant.chained

pub loop-index-init : goal.loop-index-init
loop-index-init g c =
    let heads = c.args.heads.now in
    record {
      chained = no_chains _ _ _ _ (λ b lt. ap (λ hs. slice_index hs b) c.requires.empty
          ∙ get_or-replicate (length heads) b 0 0 lt);
      long = refl;
      hashes = refl;
      entries = refl;
    }

pub bucket_of-bucket-requires : goal.bucket_of-bucket-requires
bucket_of-bucket-requires g c =
    let long = c.loop-index.invariant.long in
    (omega arith, omega (arith, long, c.requires.few.1))
