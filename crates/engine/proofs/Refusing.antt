-- Inputs have at most one refusal, and then no meaning; and two texts have at most one judgement.
use Rattle.engine.proofs.Names.{Accepted, Bool, Box, Capture, CaptureFault, Captured, Check, CheckFault, Counts, Ending, IsOfTexts, IsRefusal, IsRefused}
use Rattle.engine.proofs.Names.{JudgeRefuses, Judged, Laws, LeastFault, List, Meaning, Option, Pcap, Refuses, Rules, RunFault, Some, Spelled, Text, WellFormed}
use Rattle.engine.proofs.Names.{[], ap, arith, chain_count, ending_of, fault_at, header_fault, inl, inr, length, min, rule_count, rules, sym, ℕ, ◌-◌, ◌^◌, ◌∙◌}
use Rattle.engine.proofs.Names.{◌≡◌}
use Rattle.std.specs.Result.{result_err}

-- where judging the texts refuses them a run does
pub misjudged : (rules box : List ℕ) (input : Option (List ℕ)) (fault : RunFault) → JudgeRefuses rules box fault
    → Refuses rules box input fault
misjudged rules box input fault h = grind arith

pub refusal_of : (fault : RunFault) → IsOfTexts fault → IsRefusal fault
refusal_of fault is = grind arith

-- a well-formed ruleset is accepted
pub accepted_by : (rules box : List ℕ) (texts : Spelled rules box) → WellFormed texts.tables texts.network
    → Accepted rules box
accepted_by rules box texts well = record {
  setup = record { rules = texts.tables; network = texts.network };
  spelled = texts.spelled;
  read = texts.read;
  well_formed = well;
}

-- a header with a fault has no records after it
not_both : (capture : List ℕ) (fault : CaptureFault) (records : List Captured) (ending : Ending)
    → header_fault capture ≡ Some fault → Pcap capture records ending → ⊥
not_both capture fault records ending h read = let e = sym h ∙ ap result_err read.accepted in cc

module _ (laws : Laws) where
  one_of : (capture : List ℕ) (fault other : CaptureFault) → IsRefused capture fault → IsRefused capture other
      → fault ≡ other
  one_of capture fault other (inl h) (inl k) = let e = sym h ∙ k in cc
  one_of capture fault other (inl h) (inr k) = absurd (not_both capture fault k.0 k.1 h k.2)
  one_of capture fault other (inr h) (inl k) = absurd (not_both capture other h.0 h.1 k h.2)
  one_of capture fault other (inr h) (inr k) =
      let e = sym h.3 ∙ ap fault_at (laws.reading capture h.0 k.0 h.1 k.1 h.2 k.2).1 ∙ k.3 in cc

  not_read : (capture : List ℕ) (fault : CaptureFault) (records : List Captured) (torn : Bool)
      → IsRefused capture fault → Pcap capture records (ending_of torn) → ⊥
  not_read capture fault records torn (inl h) read = not_both capture fault records (ending_of torn) h read
  not_read capture fault records torn (inr h) read =
      let same = (laws.reading capture h.0 records h.1 (ending_of torn) h.2 read).1 in
      let e : fault_at (ending_of torn) ≡ Some fault = rw (← same) h.3 in absurd (grind arith)

module _ (laws : Laws) (rules box : List ℕ) where
  -- the texts spell one ruleset and one box
  same_tables : (a b : Spelled rules box) → a.tables ≡ b.tables
  same_tables a b = laws.tree rules a.tables b.tables a.spelled b.spelled

  least_in : (fault : CheckFault) (a b : Spelled rules box) → LeastFault fault a.tables a.network
      → LeastFault fault b.tables b.network
  least_in fault a b h = rw (← same_tables a b, ← laws.network box a.network b.network a.read b.read) h

  -- texts that are accepted have no fault
  unaccepted : (fault : RunFault) → IsOfTexts fault → Accepted rules box → JudgeRefuses rules box fault → ⊥
  unaccepted (Rules (Text f)) is a h = laws.faultless rules a.setup.rules f a.spelled h
  unaccepted (Rules (Check f)) is a h =
      let texts : Spelled rules box =
      record { tables = a.setup.rules; spelled = a.spelled; network = a.setup.network; read = a.read } in
      a.well_formed f (least_in f h.0 texts h.1).wrong
  unaccepted (Box f) is a h = laws.sound_box box a.setup.network f a.read h.2
  unaccepted _ is a h = is

  -- what is refused means nothing
  pub refused_means_nothing : (capture : List ℕ) (fault : RunFault) (trace : Bool) (count : ℕ) (torn : Bool)
      (sent report : List ℕ) → IsRefusal fault → Refuses rules box (Some capture) fault
      → Meaning rules box capture trace count torn sent report → ⊥
  refused_means_nothing capture (Rules f) trace count torn sent report is h m = unaccepted (Rules f) tt m.accepted h
  refused_means_nothing capture (Box f) trace count torn sent report is h m = unaccepted (Box f) tt m.accepted h
  refused_means_nothing capture (Capture f) trace count torn sent report is h m =
      not_read laws capture f m.records torn h.1 m.read
  refused_means_nothing capture _ trace count torn sent report is h m = is

  -- there is one refusal at most
  pub alone : (capture : List ℕ) (fault other : RunFault) → IsRefusal fault → IsRefusal other
      → Refuses rules box (Some capture) fault → Refuses rules box (Some capture) other → fault ≡ other
  alone capture (Rules (Text f)) (Rules (Text g)) is is' h k = ap (λ x. Rules (Text x)) (laws.one_fault rules f g h k)
  alone capture (Rules (Text f)) (Rules (Check g)) is is' h k = absurd (laws.faultless rules k.0.tables f k.0.spelled h)
  alone capture (Rules (Text f)) (Box g) is is' h k = absurd (laws.faultless rules k.0 f k.1 h)
  alone capture (Rules (Check f)) (Rules (Text g)) is is' h k = absurd (laws.faultless rules h.0.tables g h.0.spelled k)
  alone capture (Rules (Check f)) (Rules (Check g)) is is' h k =
      ap (λ x. Rules (Check x)) (laws.one_check h.0.tables h.0.network f g h.1 (least_in g k.0 h.0 k.1))
  alone capture (Rules (Check f)) (Box g) is is' h k = absurd (laws.sound_box box h.0.network g h.0.read k.2)
  alone capture (Rules f) (Capture g) is is' h k = absurd (unaccepted (Rules f) tt k.0 h)
  alone capture (Box f) (Capture g) is is' h k = absurd (unaccepted (Box f) tt k.0 h)
  alone capture (Box f) (Rules (Text g)) is is' h k = absurd (laws.faultless rules h.0 g h.1 k)
  alone capture (Box f) (Rules (Check g)) is is' h k = absurd (laws.sound_box box k.0.network f k.0.read h.2)
  alone capture (Box f) (Box g) is is' h k = ap Box (laws.one_box_fault box f g h.2 k.2)
  alone capture (Capture f) (Rules g) is is' h k = absurd (unaccepted (Rules g) tt h.0 k)
  alone capture (Capture f) (Box g) is is' h k = absurd (unaccepted (Box g) tt h.0 k)
  alone capture (Capture f) (Capture g) is is' h k = ap Capture (one_of laws capture f g h.1 k.1)
  alone capture fault other is is' h k = grind arith

  -- ---- judging

  -- texts that are judged have one count of tables, chains and rules
  pub judged_once : (counts other : Counts) → Judged rules box counts → Judged rules box other → counts ≡ other
  judged_once counts other j k =
      let same : j.texts.tables ≡ k.texts.tables = same_tables j.texts k.texts in
      λ i. record {
        tables = (j.all_tables ∙ ap length same ∙ sym k.all_tables) i;
        chains = (j.all_chains ∙ ap (λ ts. min (chain_count ts) (2 ^ 64 - 1)) same ∙ sym k.all_chains) i;
        rules = (j.all_rules ∙ ap (λ ts. min (rule_count ts) (2 ^ 64 - 1)) same ∙ sym k.all_rules) i;
      }

  -- and no fault
  pub judged_or_faulty : (counts : Counts) (fault : RunFault) → IsOfTexts fault → Judged rules box counts
      → JudgeRefuses rules box fault → ⊥
  judged_or_faulty counts fault is j h = unaccepted fault is (accepted_by rules box j.texts j.well_formed) h

  -- at most one
  pub misjudged_once : (fault other : RunFault) → IsOfTexts fault → IsOfTexts other → JudgeRefuses rules box fault
      → JudgeRefuses rules box other → fault ≡ other
  misjudged_once fault other is is' h k =
      alone [] fault other (refusal_of fault is) (refusal_of other is') (misjudged rules box (Some []) fault h)
      (misjudged rules box (Some []) other k)
