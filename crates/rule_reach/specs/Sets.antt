-- What packets do in base chains, as sets of packets. (own)
use Rattle.std.specs.Prelude.{◌≡◌, List}
use Rattle.std.specs.List.{AllZip}
use Rattle.nft_tree.specs.Tree.{TableTree}
use Rattle.box_file.specs.Box.{PlantTree}
use Rattle.packet_sets.specs.Sets.{DiagramsView, Means}
use Rattle.rule_meaning.specs.Hooks.{BaseChain}
use Rattle.fact_sets.specs.Boxes.{NOTHING}
use Rattle.fact_sets.specs.Facts.{facts_of}
use Rattle.rule_sets.specs.Interfaces.{interfaces_of}
use Rattle.chain_sets.specs.ChainSets.{AreOnWays}
use Rattle.chain_sets.specs.RuleSets.{sets_of}
use Rattle.rule_reach.specs.declared.sets.BaseSets.{BaseSets}
use Rattle.rule_reach.specs.declared.sets.ReachSets.{ReachSets}
use Rattle.coming_sets.specs.Coming.{can_come}
use Rattle.rule_reach.specs.Reach.{run_chains}
use Rattle.chain_ways.specs.BaseWays.{base_way, program_at}

module _ (network : PlantTree) (tables : List TableTree) where
  -- of these diagrams, the sets are those of the base chain: the packets that can come to it, and on their ways
  -- through it those that come to each rule and meet its last statement, and all ends
  pub record AreBaseSets (d : DiagramsView) (b : BaseChain) (sets : BaseSets) : Type 0 where
    pub chain : sets.chain ≡ b.number
    pub coming : Means d sets.coming (λ packet. can_come b (facts_of (interfaces_of network) NOTHING packet))
    pub on_ways : AreOnWays (program_at network tables b.number.table) (interfaces_of network)
        (base_way network tables b) d d sets.coming (sets_of sets.rules) sets.ends.items

  -- they are those of these base chains, one after another
  abbrev pub AreSetsOf : DiagramsView → List BaseChain → List BaseSets → Type 0
  AreSetsOf d bases sets = AllZip (AreBaseSets d) bases sets

  -- of all base chains to which packets come, in text order
  abbrev pub AreReachSets : ReachSets → Type 0
  AreReachSets sets = AreSetsOf sets.diagrams (run_chains tables) sets.bases.items
