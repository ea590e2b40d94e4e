-- The faults of a ruleset on a box, N01 to N15, of which the one with the lowest number is reported. (own;
-- each fault's definition has its source)
use Rattle.std.specs.Prelude.{◌≡◌, ◌≤◌, ℕ, true, List}
use Rattle.std.specs.List.{list_any}
use Rattle.nft_tree.specs.Tree.{TableTree}
use Rattle.box_file.specs.Box.{PlantTree}
use Rattle.rule_check.specs.Limits.{too_large}
use Rattle.rule_names.specs.Names.{DuplicateName, jumps_to_unknown_chain, refers_to_unknown_set, jumps_to_base_chain}
use Rattle.rule_paths.specs.Paths.{Cycles, TooDeep, TooCostly, MisplacedNat}
use Rattle.rule_types.specs.Types.{table_mismatches}
use Rattle.rule_values.specs.Faults.{has_wrong_value, has_contradiction, names_unknown_interface}
use Rattle.rule_check.specs.Chains.{has_misplaced_chain, has_unreachable_statement}
use Rattle.rule_check.specs.declared.fault.CheckFault.{CheckFault}
use Rattle.rule_check.specs.declared.fault.CheckFault.TheVariants as faults

-- the ruleset has this fault on the box
abbrev pub Wrong : CheckFault → List TableTree → PlantTree → Type 0
Wrong faults.DuplicateName tables network = DuplicateName tables
Wrong faults.NoSuchChain tables network = list_any jumps_to_unknown_chain tables ≡ true
Wrong faults.NoSuchSet tables network = list_any refers_to_unknown_set tables ≡ true
Wrong faults.Cycle tables network = Cycles tables
Wrong faults.TooDeep tables network = TooDeep tables
Wrong faults.TooCostly tables network = TooCostly tables
Wrong faults.BaseChainCalled tables network = list_any jumps_to_base_chain tables ≡ true
Wrong faults.TypeMismatch tables network = list_any table_mismatches tables ≡ true
Wrong faults.WrongValue tables network = list_any (has_wrong_value network) tables ≡ true
Wrong faults.MisplacedNat tables network = MisplacedNat tables
Wrong faults.MisplacedNatChain tables network = list_any has_misplaced_chain tables ≡ true
Wrong faults.Contradiction tables network = list_any (has_contradiction network) tables ≡ true
Wrong faults.NoSuchInterface tables network = list_any (names_unknown_interface network) tables ≡ true
Wrong faults.StatementAfterVerdict tables network = list_any has_unreachable_statement tables ≡ true
Wrong faults.TooLarge tables network = too_large tables ≡ true

-- N01 to N15
abbrev pub fault_number : CheckFault → ℕ
fault_number faults.DuplicateName = 1
fault_number faults.NoSuchChain = 2
fault_number faults.NoSuchSet = 3
fault_number faults.Cycle = 4
fault_number faults.TooDeep = 5
fault_number faults.TooCostly = 6
fault_number faults.BaseChainCalled = 7
fault_number faults.TypeMismatch = 8
fault_number faults.WrongValue = 9
fault_number faults.MisplacedNat = 10
fault_number faults.MisplacedNatChain = 11
fault_number faults.Contradiction = 12
fault_number faults.NoSuchInterface = 13
fault_number faults.StatementAfterVerdict = 14
fault_number faults.TooLarge = 15

-- the ruleset's fault with the lowest number
pub record LeastFault (fault : CheckFault) (tables : List TableTree) (network : PlantTree) : Type 0 where
  pub wrong : Wrong fault tables network
  pub least : (other : CheckFault) → Wrong other tables network → fault_number fault ≤ fault_number other

-- the ruleset has no fault
abbrev pub WellFormed : List TableTree → PlantTree → Type 0
WellFormed tables network = (fault : CheckFault) → Wrong fault tables network → ⊥
