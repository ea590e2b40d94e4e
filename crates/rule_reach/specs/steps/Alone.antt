-- The packets that would meet rules as they came to base chains, as sets.
use Rattle.std.specs.Prelude.{List, [], Option, map, slice_get, unwrap_or}
use Rattle.std.specs.Option.{option_map}
use Rattle.nft_tree.specs.declared.ruleset.RuleNo.{RuleNo}
use Rattle.nft_tree.specs.Tree.{Statement, TableTree}
use Rattle.nft_tree.specs.TableItems.{chains_of}
use Rattle.box_file.specs.Box.{PlantTree}
use Rattle.packet_sets.specs.declared.packet_set.PacketSet.{PacketSet}
use Rattle.packet_sets.specs.Sets.{DiagramsView, Means}
use Rattle.fact_sets.specs.Boxes.{NOTHING}
use Rattle.fact_sets.specs.Facts.{facts_of}
use Rattle.rule_sets.specs.Interfaces.{interfaces_of}
use Rattle.chain_ways.specs.BaseWays.{program_at}
use Rattle.rule_reach.specs.Takers.{meets_alone, numbered}

-- the statements of a rule of the table
abbrev pub statements_at : TableTree → RuleNo → Option (List Statement)
statements_at t r =
    numbered (unwrap_or (option_map (λ chain. map (λ r. r.statements) chain.rules) (slice_get (chains_of t) r.chain)) [])
    r.rule

-- the set has the packets that meet the rule's last statement by the facts that their bits write
abbrev pub MeansAlone : PlantTree → List TableTree → DiagramsView → RuleNo → PacketSet → Type 0
MeansAlone network tables d r set = Means d set
    (λ packet. meets_alone (program_at network tables r.table) r (facts_of (interfaces_of network) NOTHING packet))
