-- The meaning of a run's inputs (own): the texts, the capture, and the two outputs.
use Rattle.std.specs.Prelude.{◌≡◌, ℕ, Bool, true, false, List, [], length, Option}
use Rattle.std.specs.Io.KnownBytes.{Appends}
use Rattle.nft_parser.specs.Spells.{Spells}
use Rattle.box_file.specs.Box.{IsBox}
use Rattle.pcap_io.specs.Pcap.{Captured, Pcap, Ending, Whole, Torn, decoded_records}
use Rattle.history.specs.History.{Entry, capture_text}
use Rattle.report.specs.Report.{report_text}
use Rattle.history.specs.Setup.{Setup}
use Rattle.stepping.specs.Next.{IsHistoryOf}
use Rattle.rule_check.specs.WellFormed.{WellFormed}

-- both texts are accepted: they spell a ruleset and a box, and the ruleset is well-formed on the box
pub record Accepted (rules box : List ℕ) : Type 0 where
  pub setup : Setup
  pub spelled : Spells setup.rules rules
  pub read : IsBox box setup.network
  pub well_formed : WellFormed setup.rules setup.network

abbrev pub ending_of : Bool → Ending
ending_of true = Torn
ending_of false = Whole

-- accepted inputs, with a capture of so many records and a torn end or none, mean this output capture and
-- this report: those of the history of the records
pub record Meaning (rules box capture : List ℕ) (trace : Bool) (count : ℕ) (torn : Bool) (sent report : List
    ℕ)
    : Type 0 where
  pub accepted : Accepted rules box
  pub records : List Captured
  pub read : Pcap capture records (ending_of torn)
  pub counted : count ≡ length records
  pub history : List Entry
  pub is_history : IsHistoryOf accepted.setup [] (decoded_records read.format records) history
  pub captured : sent ≡ capture_text history
  pub reported : report ≡ report_text accepted.setup trace history torn

-- the writers got the two outputs of the meaning, and there is no other meaning
pub record WroteOutputs (rules box capture : List ℕ) (trace : Bool) (count : ℕ) (torn : Bool)
    (old new old_report new_report : Option (List ℕ)) : Type 0 where
  pub sent : List ℕ
  pub report : List ℕ
  pub meaning : Meaning rules box capture trace count torn sent report
  pub only : (others : ℕ) (other_torn : Bool) (other_sent other_report : List ℕ)
      → Meaning rules box capture trace others other_torn other_sent other_report
      → (others ≡ count) × (other_torn ≡ torn) × (other_sent ≡ sent) × (other_report ≡ report)
  pub appends : Appends old new sent
  pub appends_report : Appends old_report new_report report
