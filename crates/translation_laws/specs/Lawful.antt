-- That calls keep the laws of NAT (own).
use Rattle.std.specs.Prelude.{◌≡◌, List, [], ◌∷◌, ◌++◌}
use Rattle.pcap_io.specs.Pcap.{Recorded}
use Rattle.history.specs.declared.outcome.Outcome.{Outcome}
use Rattle.history.specs.Setup.{Setup}
use Rattle.history.specs.History.{Entry}
use Rattle.stepping.specs.Next.{IsHistoryOf, Next}
use Rattle.stepping.specs.Representing.{EngineState, Represents, packet_of}
use Rattle.translation_laws.specs.Laws.{EntryLaws, HistoryLaws}
use Rattle.translation_laws.specs.Histories.{IsHistory}

-- an engine that represented this history processed a record with this outcome
pub record StepKeepsLaws (before : EngineState) (history : List Entry) (r : Recorded) (after : EngineState)
    (outcome : Outcome)
    : Type 0 where
  -- the record's entry, and the forwarded packet that the engine shows
  pub entry : Entry
  pub next : Next before.setup history r entry
  pub ends : outcome ≡ entry.outcome
  pub leaves : packet_of after.newest ≡ entry.packet
  -- it represents the extended history
  pub represents : Represents after (entry ∷ history)
  pub is_history_from_start : IsHistory after.setup (entry ∷ history)
  -- the laws of the entry and of the extended history
  pub laws : EntryLaws before.setup history r entry
  pub after_it : HistoryLaws after.setup (entry ∷ history)

-- each prefix of the records has a history, which obeys the laws and extends to the whole one
abbrev pub AtEachPrefix : Setup → List Recorded → List Entry → Type 0
AtEachPrefix setup records history =
    (first rest : List Recorded) → records ≡ first ++ rest
    → (begun : List Entry) × IsHistoryOf setup [] first begun × IsHistoryOf setup begun rest history
    × HistoryLaws setup begun
