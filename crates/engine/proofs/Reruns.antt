-- A rerun one record later.
use Rattle.engine.proofs.Names.{EngineState, Entry, List, Replay, Represents, Setup, ap, length, live_in, subst, sym, ℕ, ◌∙◌, ◌∷◌, ◌≡◌}
use Rattle.engine.specs.Fullest.{IsFullest}
use Rattle.engine.specs.Rerunning.{RerunState, StandsBehindNext}
use Rattle.engine.specs.declared.fullest.Fullest.{Fullest}
use Rattle.engine.specs.steps.Replayed.{StepsLast}
use Rattle.pcap_io.specs.CaptureStates.{CaptureState}
use Rattle.std.proofs.lemmas.Option.{IfSome_then}

-- what is noted of one more record
abbrev pub Notes : Fullest → Fullest → ℕ → ℕ → Type 0
Notes before after live count = (setup : Setup) (e : Entry) (history : List Entry) → IsFullest setup history before
    → live ≡ length (live_in setup (e ∷ history)) → count ≡ length (e ∷ history) → IsFullest setup (e ∷ history) after

pub stands_next : (old now : Replay) (before after : RerunState) (live count : ℕ) → StepsLast old now
    → now.engine.setup ≡ old.engine.setup → before.engine ≡ old.engine → after.engine ≡ now.engine
    → after.records ≡ old.records
    → ((history : List Entry) → Represents now.engine history → live ≡ length (live_in now.engine.setup history))
    → count ≡ now.engine.records → Notes before.fullest after.fullest live count → StandsBehindNext before after
stands_next old now before after live count steps kept is_before is_after read lives counted noted = λ history was.
    let represented = subst (λ (e : EngineState). Represents e history) is_before was.represents in
    let same = ap (λ (e : EngineState). e.setup) is_before in
    let before_it = subst (λ (s : Setup). IsFullest s history before.fullest) (same ∙ sym kept) was.is_fullest in
    let last = ap (λ (s : CaptureState). s.last) read in
    rw (last, same) (IfSome_then old.records.last (steps history represented) (λ taken t. (
      t.0,
      t.1,
      record {
        represents = subst (λ (e : EngineState). Represents e (t.0 ∷ history)) (sym is_after) t.2;
        is_fullest = subst (λ (s : Setup). IsFullest s (t.0 ∷ history) after.fullest) (sym (ap (λ (e : EngineState). e.setup) is_after))
            (noted now.engine.setup t.0 history before_it (lives (t.0 ∷ history) t.2) (counted ∙ t.2.records));
      },
    )))
