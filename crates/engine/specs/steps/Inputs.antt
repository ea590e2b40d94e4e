-- The two texts of a run, read and checked; and what is promised of all that is read.
use Rattle.std.specs.Prelude.{◌≡◌, ℕ, List}
use Rattle.nft_tree.specs.Tree.{TableTree}
use Rattle.nft_parser.specs.declared.fault.TextFault.{TextFault}
use Rattle.nft_parser.specs.Spells.{Spells, HasTextFault}
use Rattle.box_file.specs.declared.fault.BoxFault.{BoxFault}
use Rattle.box_file.specs.Box.{PlantTree, IsBox, HasBoxFault}
use Rattle.pcap_io.specs.Pcap.{Captured, Pcap, Ending}
use Rattle.rule_check.specs.declared.fault.CheckFault.{CheckFault}
use Rattle.rule_check.specs.WellFormed.{LeastFault, WellFormed}
use Rattle.rule_check.specs.Checked.{CheckedTree}

-- what the readers of the texts and of the capture promise
pub record Laws : Type 0 where
  -- a text spells one ruleset at most
  pub tree : (text : List ℕ) (first second : List TableTree) → Spells first text → Spells second text
      → first ≡ second
  -- and none where it has a fault
  pub faultless : (text : List ℕ) (tables : List TableTree) (fault : TextFault) → Spells tables text
      → HasTextFault text fault → ⊥
  pub one_fault : (text : List ℕ) (first second : TextFault) → HasTextFault text first
      → HasTextFault text second → first ≡ second
  -- nor has a ruleset on a box more than one least fault
  pub one_check : (tables : List TableTree) (network : PlantTree) (fault other : CheckFault)
      → LeastFault fault tables network → LeastFault other tables network → fault ≡ other
  -- and alike for boxes
  pub network : (text : List ℕ) (p q : PlantTree) → IsBox text p → IsBox text q → p ≡ q
  pub sound_box : (text : List ℕ) (p : PlantTree) (fault : BoxFault) → IsBox text p → HasBoxFault text fault
      → ⊥
  pub one_box_fault : (text : List ℕ) (fault other : BoxFault) → HasBoxFault text fault
      → HasBoxFault text other → fault ≡ other
  -- a capture has one reading at most
  pub reading : (bytes : List ℕ) (xs ys : List Captured) (ending other : Ending) (one : Pcap bytes xs ending)
      (two : Pcap bytes ys other) → (xs ≡ ys) × (ending ≡ other) × (one.format ≡ two.format)

-- the texts spell the checked ruleset and box
pub record IsChecked (rules box : List ℕ) (checked : CheckedTree) : Type 0 where
  pub spelled : Spells checked.rules rules
  pub read : IsBox box checked.network
  pub well_formed : WellFormed checked.rules checked.network
