use Rattle.std.proofs.Common.{◌-◌, length, sym, ap, ◌∙◌, arith}
use Rattle.std.proofs.lemmas.List.{length-set}
use Rattle.std.specs.Prelude.{slice_get}
use Rattle.std.specs.HashMap.{values}
use Rattle.std.specs.HashMap as map
use Rattle.chained_map.specs.Values.{set_value_at}
use Rattle.chained_map.proofs.NodeLaws.{value_at}
use Rattle.chained_map.proofs.MapLaws.{written_table, entries_set, length_of}
use Rattle.chained_map.proofs.map.ChainedMap.replace_value.Goals as goal

pub invariant_of-self : goal.invariant_of-self
invariant_of-self g c =
    let is = c.index_mut.ensures.value in
    written_table _ _ _ _ _ _ _ c.index_mut.result.now (ap (λ n. n.key) is) (ap (λ n. n.hash) is) (ap (λ n. n.next) is) c.self.invariant

pub returns-clause-before : goal.returns-clause-before
returns-clause-before g c =
    let nodes = c.self.inside.nodes.items in
    ap (λ m. slice_get (values m) c.args.index) (sym c.self.view_is)
    ∙ value_at nodes c.args.index c.index.result.now
    (omega (arith, c.requires, ap map.hash_map_len c.self.view_is, length_of nodes)) c.index.ensures

pub returns-clause-entries : goal.returns-clause-entries
returns-clause-entries g c =
    entries_set c.self.inside.nodes.items c.args.index _ c.index_mut.result.now (ap (λ n. n.key) c.index_mut.ensures.value)
    ∙ ap (λ m. set_value_at m.entries c.args.index c.args.value) c.self.view_is

pub index-requires : goal.index-requires
index-requires g c =
    omega (
      arith,
      c.requires,
      ap map.hash_map_len c.self.view_is,
      length_of c.self.inside.nodes.items,
      c.self.inside.nodes.ok.0,
    )

pub index_mut-requires : goal.index_mut-requires
index_mut-requires g c =
    omega (
      arith,
      c.requires,
      ap map.hash_map_len c.self.view_is,
      length_of c.self.inside.nodes.items,
      c.self.inside.nodes.ok.0,
    )

pub returns-clause-spare : goal.returns-clause-spare
returns-clause-spare g c =
    ap (λ n. length c.self.inside.heads.items - n) (length-set c.self.inside.nodes.items c.args.index _)
    ∙ ap map.spare c.self.view_is

pub returns-clause-hasher : goal.returns-clause-hasher
returns-clause-hasher g c = ap map.hasher_of c.self.view_is
