-- What calls answer keeps the laws.
use Rattle.std.proofs.Common.{◌≡◌, List, ◌∷◌, Result, Ok, Err, IfOk, sym, ap, subst, arith}
use Rattle.conntrack.specs.declared.connection.Connection.{Connection}
use Rattle.pcap_io.specs.Pcap.{Recorded}
use Rattle.history.specs.declared.outcome.Outcome.{Outcome}
use Rattle.history.specs.Setup.{Setup}
use Rattle.history.specs.History.{Entry, moment_of}
use Rattle.stepping.specs.Next.{Next}
use Rattle.stepping.specs.Representing.{EngineState, Represents, packet_of}
use Rattle.translation_laws.specs.Laws.{LiveLaws, HistoryLaws}
use Rattle.translation_laws.specs.Histories.{EntriesFollow, IsHistory, listed_at}
use Rattle.translation_laws.specs.Lawful.{StepKeepsLaws}

pub ok_so : {A E : Type 0} (answer : Result A E) (P Q : A → Type 0) → ((x : A) → P x → Q x) → IfOk answer P
    → IfOk answer Q
ok_so (Ok x) P Q so p = so x p
ok_so (Err e) P Q so p = p

pub list_obeys : (setup : Setup) (history : List Entry) → HistoryLaws setup history → (all : List Connection)
    → all ≡ listed_at setup history (moment_of history)
    → LiveLaws setup history (moment_of history) all
list_obeys setup history laws all is =
    subst (λ (l : List Connection). LiveLaws setup history (moment_of history) l) (sym is)
    (laws.live (moment_of history) (omega arith))

module _ (obeys : (setup : Setup) (history : List Entry) → IsHistory setup history → HistoryLaws setup history)
    (entries : (setup : Setup) → EntriesFollow setup)
    (before after : EngineState) (history : List Entry) (r : Recorded) where
  abbrev pub Follows : Outcome → Type 0
  Follows outcome = (e : Entry) × Next before.setup history r e × Represents after (e ∷ history) × (outcome ≡ e.outcome)

  pub steps_so : IsHistory before.setup history → after.setup ≡ before.setup → (outcome : Outcome) → Follows outcome
      → StepKeepsLaws before history r after outcome
  steps_so is setup outcome f =
      let longer : IsHistory after.setup (f.0 ∷ history) =
      subst (λ (s : Setup). IsHistory s (f.0 ∷ history)) (sym setup)
      ((entries before.setup history f.0).1 (is, (r, f.1))) in
      record {
        entry = f.0;
        next = f.1;
        ends = f.3;
        leaves = ap packet_of f.2.newest;
        represents = f.2;
        is_history_from_start = longer;
        laws = (obeys before.setup history is).next r f.0 f.1;
        after_it = obeys after.setup (f.0 ∷ history) longer;
      }
