use Rattle.std.proofs.Common.{◌≡◌, List, filter, drop, slice_get, Some}
use Rattle.nft_tree.specs.Tree.{TableTree}
use Rattle.nft_tree.specs.TableItems.{chains_of}
use Rattle.rule_meaning.specs.Hooks.{BaseChain, base_chains_from}
use Rattle.lowering.specs.Lowered.{HasDeclared}
use Rattle.coming_sets.specs.Bases.{runs}
use Rattle.rule_reach.specs.Sets.{AreSetsOf}
use Rattle.rule_reach.proofs.Bases.{Done}
use Rattle.rule_reach.proofs.making.add_table.Given as goal

abbrev pub invariant-loop-index : goal.invariant-loop-index
invariant-loop-index l = record {
  declared : HasDeclared l.place.setting.network.now l.place.setting.names.now l.lookups;
  limit : l.diagrams.limit ≡ l.initial.diagrams.limit;
  sets : (tables : List TableTree) (before : List BaseChain) → slice_get tables l.table ≡ Some l.place.setting.names.now
      → AreSetsOf l.place.setting.network.now tables l.initial.diagrams before l.initial.bases.items
      → Done l.place.setting.network.now tables l.diagrams before (filter runs (base_chains_from l.table 0 (chains_of l.place.setting.names.now)))
      (filter runs (base_chains_from l.table l.index (drop l.index (chains_of l.place.setting.names.now)))) l.bases.items;
}
