use Rattle.std.proofs.Common.{map, take}
use Rattle.std.specs.List.{filter_map}
use Rattle.nft_tree.specs.TreeViews.{pair_tree}
use Rattle.rule_values.specs.Faults.{map_entry_of}
use Rattle.rule_values.specs.steps.Views.{elements_tree}
use Rattle.rule_values.specs.steps.MapEntries.{RepresentEach}
use Rattle.rule_values.proofs.contradictions.add_entries.Given as goal

-- the pairs are those of the elements so far
abbrev pub invariant-loop-pair : goal.invariant-loop-pair
invariant-loop-pair l = RepresentEach l.names.keys
    (filter_map (map_entry_of l.network (elements_tree l.elements)) (map pair_tree (take l.pair-index l.pair-items))) l.pairs.items
