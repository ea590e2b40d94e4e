use Rattle.std.proofs.Common.{◌≡◌, ◌++◌, drop, filter, map}
use Rattle.nft_tree.specs.TableItems.{chains_of}
use Rattle.rule_meaning.specs.Hooks.{base_chains_from}
use Rattle.stage_sets.specs.steps.Bases.{base_chain, is_asked}
use Rattle.stage_sets.proofs.bases.add_table.Given as goal

-- with the base chains of the chains that are left those of the table are added
abbrev pub invariant-loop-index : goal.invariant-loop-index
invariant-loop-index l =
    map base_chain l.bases.items ++ filter (is_asked l.asked) (base_chains_from l.table l.index (drop l.index (chains_of l.names)))
    ≡ map base_chain l.initial.bases.items ++ filter (is_asked l.asked) (base_chains_from l.table 0 (chains_of l.names))
