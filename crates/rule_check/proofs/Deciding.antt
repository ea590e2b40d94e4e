-- Every ruleset is well formed on a box, or has a least fault.
use Rattle.std.proofs.Common.{◌≡◌, ◌+◌, ◌⊎◌, ℕ, Bool, true, false, List, refl, inl, inr, arith}
use Rattle.std.specs.List.{list_any}
use Rattle.nft_tree.specs.Tree.{TableTree}
use Rattle.box_file.specs.Box.{PlantTree}
use Rattle.rule_check.specs.Limits.{too_large}
use Rattle.rule_names.specs.Names.{DuplicateName, jumps_to_unknown_chain, refers_to_unknown_set, jumps_to_base_chain}
use Rattle.rule_paths.specs.Paths.{Cycles, TooDeep, TooCostly, MisplacedNat}
use Rattle.rule_types.specs.Types.{table_mismatches}
use Rattle.rule_values.specs.Faults.{has_wrong_value, has_contradiction, names_unknown_interface}
use Rattle.rule_check.specs.Chains.{has_misplaced_chain, has_unreachable_statement}
use Rattle.rule_check.specs.declared.fault.CheckFault.{CheckFault}
use Rattle.rule_check.specs.declared.fault.CheckFault.TheVariants as faults
use Rattle.rule_check.specs.WellFormed.{Wrong, LeastFault, WellFormed, fault_number}
use Rattle.rule_check.specs.steps.FaultRanges.{HasNone}
use Rattle.rule_check.proofs.LeastFaults.{and_then, least, well_formed, without}

abbrev Decided : Type 0 → Type 0
Decided P = P ⊎ (P → ⊥)

-- the statements of the laws of names and paths
pub record Laws : Type 0 where
  pub names : (tables : List TableTree) → Decided (DuplicateName tables)
  pub cycles : (tables : List TableTree) → Decided (Cycles tables)
  pub deep : (tables : List TableTree) → (Cycles tables → ⊥) → Decided (TooDeep tables)
  pub costly : (tables : List TableTree) → (Cycles tables → ⊥) → Decided (TooCostly tables)
  pub nat : (tables : List TableTree) → (Cycles tables → ⊥) → Decided (MisplacedNat tables)

test : (b : Bool) → Decided (b ≡ true)
test true = inl refl
test false = inr (λ e. cc)

module _ (tables : List TableTree) (network : PlantTree) where
  abbrev Found : Type 0
  Found = (fault : CheckFault) × LeastFault fault tables network

  -- a least fault, or none of those below a number
  abbrev SoFar : ℕ → Type 0
  SoFar n = Found ⊎ HasNone 1 n tables network

  step : (fault : CheckFault) → Decided (Wrong fault tables network) → SoFar (fault_number fault) → SoFar (fault_number fault + 1)
  step fault decided (inl found) = inl found
  step fault (inl wrong) (inr none) = inl (fault, least tables network fault none wrong)
  step fault (inr not_it) (inr none) = inr (and_then tables network 1 (fault_number fault) (fault_number fault + 1) none (without tables network fault not_it))

  start : SoFar 1
  start = inr (λ fault from to wrong. omega (arith, from, to))

  -- if there is a cycle it is reported, and paths are not analyzed
  paths : Laws → SoFar 4 → SoFar 7
  paths laws (inl found) = inl found
  paths laws (inr none) = by_cycles (laws.cycles tables)
    where
      by_cycles : Decided (Cycles tables) → SoFar 7
      by_cycles (inl wrong) = inl (faults.Cycle, least tables network faults.Cycle none wrong)
      by_cycles (inr acyclic) =
          step faults.TooCostly (laws.costly tables acyclic) (step faults.TooDeep (laws.deep tables acyclic) (step faults.Cycle (inr acyclic) (inr none)))

  places : Laws → SoFar 10 → SoFar 11
  places laws (inl found) = inl found
  places laws (inr none) = step faults.MisplacedNat (laws.nat tables (none faults.Cycle (omega arith) (omega arith))) (inr none)

  first_three : Laws → SoFar 4
  first_three laws =
      step faults.NoSuchSet (test (list_any refers_to_unknown_set tables))
      (step faults.NoSuchChain (test (list_any jumps_to_unknown_chain tables))
      (step faults.DuplicateName (laws.names tables) start))

  up_to_values : Laws → SoFar 10
  up_to_values laws =
      step faults.WrongValue (test (list_any (has_wrong_value network) tables))
      (step faults.TypeMismatch (test (list_any table_mismatches tables))
      (step faults.BaseChainCalled (test (list_any jumps_to_base_chain tables)) (paths laws (first_three laws))))

  all : Laws → SoFar 16
  all laws =
      step faults.TooLarge (test (too_large tables))
      (step faults.StatementAfterVerdict (test (list_any has_unreachable_statement tables))
      (step faults.NoSuchInterface (test (list_any (names_unknown_interface network) tables))
      (step faults.Contradiction (test (list_any (has_contradiction network) tables))
      (step faults.MisplacedNatChain (test (list_any has_misplaced_chain tables)) (places laws (up_to_values laws))))))

-- well formed, or with a least fault
pub judged : Laws → (tables : List TableTree) (network : PlantTree) → WellFormed tables network ⊎ ((fault : CheckFault) × LeastFault fault tables network)
judged laws tables network = by_all (all tables network laws)
  where
    by_all : SoFar tables network 16 → WellFormed tables network ⊎ ((fault : CheckFault) × LeastFault fault tables network)
    by_all (inl found) = inr found
    by_all (inr none) = inl (well_formed tables network none)
