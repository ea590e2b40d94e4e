use Rattle.std.proofs.Common.{◌≡◌, ◌-◌, ◌<◌, ◌≤◌, ◌^◌, [], ◌∷◌, ◌++◌, length, sym, ap, subst, ◌∙◌, arith}
use Rattle.std.specs.HashMap.{hasher_of, spare}
use Rattle.std_collections.proofs.HashLookup.{IsAbsent-from_position}
use Rattle.chained_map.specs.Values.{hash_map, position}
use Rattle.chained_map.specs.steps.Buckets.{hash_of}
use Rattle.chained_map.specs.steps.Chains.{IsChained}
use Rattle.chained_map.specs.steps.Nodes.{entries_of}
use Rattle.chained_map.proofs.NodeLaws.{given_back}
use Rattle.chained_map.proofs.MapLaws.{pushed_table}
use Rattle.chained_map.proofs.map.ChainedMap.push.Goals as goal

pub invariant_of-self : goal.invariant_of-self
invariant_of-self g c =
    let is = c.self.view_is in
    let after = c.push_node.ensures in
    let hash = c.requires.hash ∙ ap (λ m. hash_of (hasher_of m) (g.K.Hash.hash_input c.args.key)) (sym is) in
    let absent = IsAbsent-from_position _ (entries_of c.self.inside.nodes.items)
    (ap (λ m. position (g.K.PartialEq.eq c.args.key) m.entries) is ∙ c.requires.absent) in
    let heads = c.self.inside.heads in
    let back = given_back heads.len heads.items c.push_node.new.heads (sym (after.long ∙ c.deref_mut.ensures.len)) in
    pushed_table _ _ g.met.K.Eq.laws _ _ c.self.inside.nodes.items _ _ _ c.args.hash c.args.key c.args.value hash absent
    (omega (arith, c.requires.spare, ap spare is)) (ap length back ∙ after.long ∙ ap length c.deref_mut.ensures.value)
    after.capacity after.one_more after.hashes after.entries
    (subst (λ hs. IsChained hs c.push_node.new.nodes.items) (sym back) after.chained) c.self.invariant

pub push_node-requires : goal.push_node-requires
push_node-requires g c =
    let table = c.self.invariant in
    let nodes = c.self.inside.nodes.items in
    let is = sym c.deref_mut.ensures.value in
    let some : length nodes < length c.self.inside.heads.items
    = omega (arith, c.requires.spare, ap spare c.self.view_is) in
    record {
      chained = subst (λ hs. IsChained hs nodes) is table.chained;
      few = subst (λ hs. (length nodes < length hs) × (length hs ≤ 2 ^ 31)) is (some, table.few);
      room = omega (arith, some, table.reserved);
    }

pub returns : goal.returns
returns g c =
    let after = c.push_node.ensures in
    let inside = c.self.inside in
    let heads = inside.heads in
    let back = given_back heads.len heads.items c.push_node.new.heads (sym (after.long ∙ c.deref_mut.ensures.len)) in
    let long = ap length back ∙ after.long ∙ ap length c.deref_mut.ensures.value in
    let entry : g.row.K.Denot × g.row.V.Denot = (c.args.key, c.args.value) in
    let more = c.push_node.new.nodes.items in
    let fewer : length heads.items - length more ≡ (length heads.items - length inside.nodes.items) - 1
    = omega (arith, after.one_more) in
    (λ t. hash_map (after.entries t) inside.keys (long t - length more))
    ∙ ap (hash_map (entries_of inside.nodes.items ++ entry ∷ []) inside.keys) fewer
    ∙ ap (λ m. hash_map (m.entries ++ entry ∷ []) (hasher_of m) (spare m - 1)) c.self.view_is
