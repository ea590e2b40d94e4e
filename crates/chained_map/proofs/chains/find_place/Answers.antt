use Rattle.std.proofs.Common.{◌-◌, ◌<◌, length, get_or, arith}
use Rattle.std.proofs.lemmas.List.{get_or-map}
use Rattle.chained_map.proofs.ChainLaws.{walk_starts, walk_goes_on, walk_falls, walk_ends}
use Rattle.chained_map.proofs.chains.find_place.Goals as goal

pub loop-link-init : goal.loop-link-init
loop-link-init g c = walk_starts _ _ _ _ _ _ _ _ c.requires.chained c.requires.bucket

pub loop-link-preserved : goal.loop-link-preserved
loop-link-preserved g c =
    let at = c.loop-link.link - 1 in
    let within : at < length c.args.nodes.now = omega (arith, c.loop-link.invariant.ahead) in
    walk_goes_on _ _ _ _ _ _ _ _ c.requires.chained c.requires.bucket c.loop-link.at c.loop-link.link
    c.loop-link-test.true c.loop-link.invariant _
    (get_or-map (λ n. n.next) c.args.nodes.now at c.index-nodes-at.result 0 within)

pub loop-link-smaller : goal.loop-link-smaller
loop-link-smaller g c =
    let at = c.loop-link.link - 1 in
    let within : at < length c.args.nodes.now = omega (arith, c.loop-link.invariant.ahead) in
    walk_falls _ _ _ _ _ _ _ _ c.requires.chained c.requires.bucket c.loop-link.at c.loop-link.link
    c.loop-link-test.true c.loop-link.invariant
    (get_or c.args.nodes.now at c.index-nodes-at.result).next
    (get_or-map (λ n. n.next) c.args.nodes.now at c.index-nodes-at.result 0 within)

pub returns : goal.returns
returns g c = walk_ends _ _ _ _ _ _ _ _ _ c.loop-link.invariant c.loop-link-test.false
