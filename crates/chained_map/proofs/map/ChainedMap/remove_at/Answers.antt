use Rattle.std.proofs.Common.{◌≡◌, ◌+◌, ◌-◌, ◌≤◌, ◌^◌, length, sym, ap, subst, ◌∙◌, arith}
use Rattle.std.specs.Prelude.{slice_get}
use Rattle.std.specs.HashMap.{hasher_of, spare}
use Rattle.std.specs.HashMap as map
use Rattle.std.specs.List.{swap_remove}
use Rattle.chained_map.specs.Values.{hash_map}
use Rattle.chained_map.specs.steps.Chains.{IsChained}
use Rattle.chained_map.specs.steps.Nodes.{entries_of}
use Rattle.chained_map.proofs.NodeLaws.{given_back}
use Rattle.chained_map.proofs.MapLaws.{removed_table, length_of}
use Rattle.chained_map.proofs.map.ChainedMap.remove_at.Goals as goal

pub invariant_of-self : goal.invariant_of-self
invariant_of-self g c =
    let after = c.remove_node.ensures in
    let heads = c.self.inside.heads in
    let back = given_back heads.len heads.items c.remove_node.new.heads (sym (after.long ∙ c.deref_mut.ensures.len)) in
    removed_table _ _ g.met.K.Eq.laws _ _ c.self.inside.nodes.items _ _ _ c.args.index
    (omega (arith, c.requires, ap map.hash_map_len c.self.view_is, length_of c.self.inside.nodes.items))
    (ap length back ∙ after.long ∙ ap length c.deref_mut.ensures.value) after.capacity after.one_fewer after.hashes after.entries
    (subst (λ hs. IsChained hs c.remove_node.new.nodes.items) (sym back) after.chained) c.self.invariant

pub returns-clause-after : goal.returns-clause-after
returns-clause-after g c entry =
    let after = c.remove_node.ensures in
    let inside = c.self.inside in
    let heads = inside.heads in
    let back = given_back heads.len heads.items c.remove_node.new.heads (sym (after.long ∙ c.deref_mut.ensures.len)) in
    let long = ap length back ∙ after.long ∙ ap length c.deref_mut.ensures.value in
    let more : length heads.items - length c.remove_node.new.nodes.items ≡ (length heads.items - length inside.nodes.items) + 1
    = omega (arith, after.one_fewer, c.self.invariant.room) in
    (λ t. hash_map (after.entries entry t) inside.keys (long t - length c.remove_node.new.nodes.items))
    ∙ ap (hash_map (swap_remove (entries_of inside.nodes.items) c.args.index entry) inside.keys) more
    ∙ ap (λ m. hash_map (swap_remove m.entries c.args.index entry) (hasher_of m) (spare m + 1)) c.self.view_is

pub remove_node-requires : goal.remove_node-requires
remove_node-requires g c =
    let table = c.self.invariant in
    let nodes = c.self.inside.nodes.items in
    let is = sym c.deref_mut.ensures.value in
    record {
      chained = subst (λ hs. IsChained hs nodes) is table.chained;
      index = omega (arith, c.requires, ap map.hash_map_len c.self.view_is, length_of nodes);
      few = subst (λ hs. (length nodes ≤ length hs) × (length hs ≤ 2 ^ 31)) is (table.room, table.few);
    }

pub returns-clause-before : goal.returns-clause-before
returns-clause-before g c = ap (λ m. slice_get (map.values m) c.args.index) (sym c.self.view_is)
    ∙ c.remove_node.ensures.value

pub returns-clause-was_unique : goal.returns-clause-was_unique
returns-clause-was_unique g c = subst (map.IsUnique g.K.PartialEq.eq) c.self.view_is c.self.invariant.hashed.0
