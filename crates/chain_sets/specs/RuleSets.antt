-- The sets of the rules of a table, by the index of a rule's chain and its number there, from 1. (own)
use Rattle.std.specs.Prelude.{ℕ, Bool, ◌==◌, ◌&&◌, unwrap_or}
use Rattle.std.specs.HashMap.{get}
use Rattle.packet_sets.specs.declared.packet_set.PacketSet.{PacketSet}
use Rattle.chain_sets.specs.declared.visits.RuleKey.{RuleKey}
use Rattle.chain_sets.specs.declared.visits.RuleSets.{RuleSets}
use Rattle.chain_sets.specs.declared.visits.Visits.{Visits}

abbrev pub no_packet : PacketSet
no_packet = record { node = 0 }

-- those of a rule to which no packet comes
abbrev pub no_packets : RuleSets
no_packets = record { reached = no_packet; met = no_packet }

abbrev pub same_rule : RuleKey → RuleKey → Bool
same_rule a b = a.chain == b.chain && a.rule == b.rule

abbrev pub sets_of : Visits → ℕ → ℕ → RuleSets
sets_of visits c n = unwrap_or (get same_rule visits.sets (record { chain = c; rule = n })) no_packets
