-- Two texts and a capture have a meaning, or a refusal; and two texts are judged, or refused.
use Rattle.engine.proofs.Names.{Accepted, Bool, Box, Capture, CaptureFault, Captured, Check, CheckFault, Counts, Ending, HasBoxFault, IsBox, IsOfTexts}
use Rattle.engine.proofs.Names.{IsRefusal, JudgeRefuses, Judged, LeastFault, List, Malformed, Meaning, Over, Pcap, PlantTree, Refuses, Rules, RunFault, Some}
use Rattle.engine.proofs.Names.{Spelled, TableTree, Text, Torn, WellFormed, Whole, [], capture_text, chain_count, decoded_records, ending_of, false}
use Rattle.engine.proofs.Names.{header_fault, inl, inr, length, min, refl, report_text, rule_count, rules, true, ℕ, ◌-◌, ◌^◌, ◌≡◌, ◌⊎◌}
use Rattle.engine.proofs.Histories.{SomeEntry, some_history}
use Rattle.engine.proofs.Refusing.{accepted_by, misjudged, refusal_of}
use Rattle.box_file.specs.declared.fault.BoxFault.{BoxFault}
use Rattle.nft_parser.specs.Spells.{HasTextFault, Spells}
use Rattle.nft_parser.specs.declared.fault.TextFault.{TextFault}
use Rattle.pcap_io.specs.declared.fault.CaptureFault.TheVariants as captures

-- two texts are judged, or refused
abbrev pub Judgement : List ℕ → List ℕ → Type 0
Judgement rules box =
    ((counts : Counts) × Judged rules box counts) ⊎ ((fault : RunFault) × IsOfTexts fault × JudgeRefuses rules box fault)

-- by what the readers of the texts promise
pub judgement : ((text : List ℕ) → ((tables : List TableTree) × Spells tables text) ⊎ ((fault : TextFault) × HasTextFault text fault))
    → ((text : List ℕ) → ((p : PlantTree) × IsBox text p) ⊎ ((fault : BoxFault) × HasBoxFault text fault))
    → ((tables : List TableTree) (p : PlantTree) → WellFormed tables p ⊎ ((fault : CheckFault) × LeastFault fault tables p))
    → (rules box : List ℕ) → Judgement rules box
judgement text network check rules box = elim (text rules) [
  | inr h ↦ inr (Rules (Text h.0), tt, h.1)
  | inl s ↦ elim (network box) [
    | inr h ↦ inr (Box h.0, tt, (s.0, s.1, h.1))
    | inl p ↦
        let texts : Spelled rules box = record { tables = s.0; spelled = s.1; network = p.0; read = p.1 } in
        elim (check s.0 p.0) [
          | inr found ↦ inr (Rules (Check found.0), tt, (texts, found.1))
          | inl well ↦
              inl (
                record {
                  tables = length s.0;
                  chains = min (chain_count s.0) (2 ^ 64 - 1);
                  rules = min (rule_count s.0) (2 ^ 64 - 1);
                },
                record { texts = texts; well_formed = well; all_tables = refl; all_chains = refl; all_rules = refl },
              )
        ]
  ]
]

-- ---- the capture

module _ (judged : (rules box : List ℕ) → Judgement rules box)
    (reading : (bytes : List ℕ) → ((fault : CaptureFault) × (header_fault bytes ≡ Some fault))
    ⊎ ((records : List Captured) × (ending : Ending) × Pcap bytes records ending))
    (entry : SomeEntry) (rules box capture : List ℕ) (trace : Bool)
  where
    abbrev Answer : Type 0
    Answer =
        ((count : ℕ) × (torn : Bool) × (sent : List ℕ) × (report : List ℕ)
        × Meaning rules box capture trace count torn sent report)
        ⊎ ((fault : RunFault) × IsRefusal fault × Refuses rules box (Some capture) fault)

    meant : (accepted : Accepted rules box) (records : List Captured) (torn : Bool)
        → Pcap capture records (ending_of torn) → Answer
    meant accepted records torn read =
        let s = some_history entry accepted.setup accepted.well_formed [] (decoded_records read.format records) in
        inl (
          length records,
          torn,
          capture_text s.0,
          report_text accepted.setup trace s.0 torn,
          record {
            accepted = accepted;
            records = records;
            read = read;
            counted = refl;
            history = s.0;
            is_history = s.1;
            captured = refl;
            reported = refl;
          },
        )

    -- by how it is read
    captured : Accepted rules box → ((fault : CaptureFault) × (header_fault capture ≡ Some fault))
        ⊎ ((records : List Captured) × (ending : Ending) × Pcap capture records ending) → Answer
    captured a (inl h) = inr (Capture h.0, tt, (a, inl h.1))
    captured a (inr (records, Whole, read)) = meant a records false read
    captured a (inr (records, Torn, read)) = meant a records true read
    captured a (inr (records, Malformed, read)) =
        inr (Capture captures.Malformed, tt, (a, inr (records, Malformed, read, refl)))
    captured a (inr (records, Over, read)) = inr (Capture captures.TooMany, tt, (a, inr (records, Over, read, refl)))

    pub answered : Answer
    answered = elim (judged rules box) [
      | inl j ↦ captured (accepted_by rules box j.1.texts j.1.well_formed) (reading capture)
      | inr f ↦ inr (f.0, refusal_of f.0 f.1, misjudged rules box (Some capture) f.0 f.2)
    ]
