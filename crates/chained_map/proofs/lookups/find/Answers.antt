use Rattle.std.proofs.Common.{◌≡◌, ◌-◌, ◌<◌, false, length, get_or, sym, ap, ◌∙◌, arith}
use Rattle.std.specs.Map.{keys_of}
use Rattle.chained_map.specs.steps.Nodes.{entries_of}
use Rattle.chained_map.proofs.NodeLaws.{falls, key_at, walk_begins, walks}
use Rattle.chained_map.proofs.lookups.find.Goals as goal
use Rattle.chained_map.proofs.lookups.find.Goals.{else-node-hash-via-then-node-hash+else-eq, else-node-hash-via-else-node-hash}

pub returns-then-eq-clause-found : goal.returns-then-eq-clause-found
returns-then-eq-clause-found g c =
    let i = c.loop-link.link - 1 in
    let within : i < length c.args.nodes.now = omega (arith, c.loop-link.invariant.within) in (
      within,
      λ d. sym c.if-eq.true ∙ c.eq.ensures
          ∙ ap (g.K.PartialEq.eq c.args.key) (sym (key_at c.args.nodes.now i c.index-nodes-index.result d within c.index-nodes-index.is)),
    )

pub loop-link-init : goal.loop-link-init
loop-link-init g c =
    walk_begins c.args.heads.now c.args.nodes.now c.args.hash c.bucket_of.result _ (omega arith)
    c.bucket_of.ensures.within c.bucket_of.ensures.value c.requires.chained

pub loop-link-preserved : goal.loop-link-preserved
loop-link-preserved g c =
    let nodes = c.args.nodes.now in
    let link = c.loop-link.link in
    let node = c.index-nodes-index.result in
    let eq = g.K.PartialEq.eq c.args.key in
    walks c.args.heads.now nodes c.args.hash link node (λ i. (d : g.row.K.Denot) → false ≡ eq (get_or (keys_of (entries_of nodes)) i d))
    (omega arith) c.loop-link-test.true c.index-nodes-index.is c.requires.chained c.loop-link.invariant
    (λ same d. elim c.else-node-hash.branch [
      | else-node-hash-via-then-node-hash+else-eq w ↦ sym w.if-eq.false ∙ w.eq.ensures
          ∙ ap eq (sym (key_at nodes (link - 1) node d (omega (arith, c.loop-link.invariant.within)) c.index-nodes-index.is))
      | else-node-hash-via-else-node-hash w ↦ absurd (w.if-node-hash.false same)
    ])

pub loop-link-smaller : goal.loop-link-smaller
loop-link-smaller g c =
    falls c.args.heads.now c.args.nodes.now c.loop-link.link c.index-nodes-index.result (omega arith)
    c.loop-link-test.true c.loop-link.invariant.within c.index-nodes-index.is c.requires.chained

pub returns : goal.returns
returns g c = record {
  found = tt;
  absent = λ i below same. c.loop-link.invariant.missed i (omega arith) below same;
}
