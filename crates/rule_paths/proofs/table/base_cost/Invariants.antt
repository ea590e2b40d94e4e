use Rattle.std.proofs.Common.{◌≡◌, ℕ, take}
use Rattle.std.specs.Prelude.{sum_by}
use Rattle.nft_tree.specs.TableItems.{chains_of}
use Rattle.chain_graph.specs.Measures.{saturated}
use Rattle.rule_paths.specs.Paths.{Caller, AreCosts, base_cost}
use Rattle.rule_paths.proofs.table.base_cost.Given as goal

abbrev pub invariant-loop-index : goal.invariant-loop-index
invariant-loop-index l = (cost : Caller → ℕ) → AreCosts l.names cost → l.sum
    ≡ saturated (sum_by (λ c. base_cost cost c.name c.head) (take l.index (chains_of l.names)))
