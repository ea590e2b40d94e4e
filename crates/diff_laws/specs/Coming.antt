-- With which facts packets come to the stages of hooks, in the runs of a ruleset on a box: on the path of
-- stepping, whose steps before the stage they passed. (own)
use Rattle.std.specs.Prelude.{◌≡◌, ◌<◌, ℕ, List, [], ◌∷◌, All, Option, Some, None, Ok}
use Rattle.conntrack.specs.declared.connection.ConntrackEntry.{ConntrackEntry}
use Rattle.pcap_io.specs.Pcap.{Recorded}
use Rattle.rule_meaning.specs.declared.facts.Facts.{Facts}
use Rattle.rule_meaning.specs.declared.facts.Interface.{Interface}
use Rattle.rule_meaning.specs.declared.stage.HookStage.{HookStage}
use Rattle.rule_meaning.specs.declared.stage.HookStage.TheVariants as stages
use Rattle.history.specs.Setup.{Setup}
use Rattle.history.specs.History.{Entry}
use Rattle.translation.specs.declared.ct_info.CtInfo.{CtInfo}
use Rattle.translation.specs.declared.ct_info.CtInfo.TheVariants.{New}
use Rattle.translation.specs.LiveMappings.{mappings_in}
use Rattle.stepping.specs.Carried.{ReceivedPacket, carried, interface_facts}
use Rattle.stepping.specs.Lookups.{others_beside}
use Rattle.stepping.specs.Paths.{PathState, Step, Continue, DestinationNat, Routing, RunsStage, SourceNat}
use Rattle.stepping.specs.Paths.{on_arrival}
use Rattle.stepping.specs.Next.{LookUp, Next, live_at_record}

-- ---- histories of bytes

abbrev pub AreBytes : List ℕ → Type 0
AreBytes bytes = All (λ b. b < 256) bytes

-- a history whose records, one after another, were bytes
pub data HistoryOfBytes (setup : Setup) : List Entry → Type 0 where
  empty : HistoryOfBytes setup []
  one_more : (history : List Entry) (r : Recorded) (e : Entry) → HistoryOfBytes setup history
      → AreBytes r.bytes → Next setup history r e → HistoryOfBytes setup (e ∷ history)

-- ---- the path of one packet

-- where a packet goes from routing: to the box itself without an output interface, else it is forwarded
abbrev pub stage_behind_routing : Option Interface → HookStage
stage_behind_routing None = stages.Input
stage_behind_routing (Some output) = stages.Forward

module _ (setup : Setup) (live : List ConntrackEntry) (a : ReceivedPacket) where
  -- a step takes the packet from one state to the other
  abbrev pub Passes : Step → PathState → PathState → Type 0
  Passes step s t = step s (Continue t)

  -- beside these connections the packet stands before a stage in this state
  pub data StandsBefore : HookStage → List ConntrackEntry → PathState → Type 0 where
    arrived : StandsBefore stages.PreroutingRaw live
        (on_arrival a.packet (interface_facts setup.network a.interface))
    looked_up : (s t u : PathState) → StandsBefore stages.PreroutingRaw live s
        → Passes (RunsStage setup stages.PreroutingRaw) s t → Passes (LookUp live a.packet) t u
        → StandsBefore stages.PreroutingBeforeNat (others_beside u.info live a.packet) u
    before_destination_nat : (others : List ConntrackEntry) (s t : PathState)
        → StandsBefore stages.PreroutingBeforeNat others s
        → Passes (RunsStage setup stages.PreroutingBeforeNat) s t → StandsBefore stages.PreroutingNat others t
    behind_destination_nat : (others : List ConntrackEntry) (s t : PathState)
        → StandsBefore stages.PreroutingNat others s → Passes (DestinationNat setup (mappings_in others)) s t
        → StandsBefore stages.PreroutingAfterNat others t
    routed : (others : List ConntrackEntry) (s t u : PathState)
        → StandsBefore stages.PreroutingAfterNat others s
        → Passes (RunsStage setup stages.PreroutingAfterNat) s t → Passes (Routing setup) t u
        → StandsBefore (stage_behind_routing u.facts.output) others u
    forwarded : (others : List ConntrackEntry) (s t : PathState) → StandsBefore stages.Forward others s
        → Passes (RunsStage setup stages.Forward) s t → StandsBefore stages.PostroutingBeforeNat others t
    before_source_nat : (others : List ConntrackEntry) (s t : PathState)
        → StandsBefore stages.PostroutingBeforeNat others s
        → Passes (RunsStage setup stages.PostroutingBeforeNat) s t
        → StandsBefore stages.PostroutingNat others t
    behind_source_nat : (others : List ConntrackEntry) (s t : PathState)
        → StandsBefore stages.PostroutingNat others s → Passes (SourceNat setup (mappings_in others)) s t
        → StandsBefore stages.PostroutingAfterNat others t

-- ---- all packets

-- chains of type nat see only the first packet of a connection (nft(8), CHAINS)
abbrev pub IsSeenBy : HookStage → CtInfo → Type 0
IsSeenBy stages.PreroutingNat (New new_connection) = Unit {0}
IsSeenBy stages.PreroutingNat _ = ⊥
IsSeenBy stages.PostroutingNat (New new_connection) = Unit {0}
IsSeenBy stages.PostroutingNat _ = ⊥
IsSeenBy _ _ = Unit {0}

-- in some run a packet comes to the chains of the stage with these facts
pub record ComesTo (setup : Setup) (stage : HookStage) (f : Facts) : Type 0 where
  pub history : List Entry
  pub of_bytes : HistoryOfBytes setup history
  pub r : Recorded
  pub bytes : AreBytes r.bytes
  pub a : ReceivedPacket
  pub carries : carried setup r ≡ Ok a
  pub others : List ConntrackEntry
  pub state : PathState
  pub stands : StandsBefore setup (live_at_record setup history r) a stage others state
  pub seen : IsSeenBy stage state.info
  pub facts : f ≡ state.facts
