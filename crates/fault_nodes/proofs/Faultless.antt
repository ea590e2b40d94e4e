-- A ruleset without tables has no fault.
use Rattle.std.proofs.Common.{◌≡◌, [], true, false, arith}
use Rattle.list_laws.specs.Decisions.{Contains-none}
use Rattle.box_file.specs.Box.{PlantTree}
use Rattle.rule_names.specs.Names.{two_tables, two_chains, two_sets_or_maps}
use Rattle.rule_paths.specs.Paths.{misplaced_source, misplaced_destination}
use Rattle.rule_check.specs.WellFormed.{WellFormed}
use Rattle.rule_check.specs.declared.fault.CheckFault.TheVariants as faults

false-is-true : false ≡ true → ⊥
false-is-true e = cc

pub empty_fine : (network : PlantTree) → WellFormed [] network
empty_fine network faults.DuplicateName (two_tables family names) = omega (arith, names.apart, names.within)
empty_fine network faults.DuplicateName (two_chains t member names) = Contains-none t member
empty_fine network faults.DuplicateName (two_sets_or_maps t member names) = Contains-none t member
empty_fine network faults.NoSuchChain wrong = false-is-true wrong
empty_fine network faults.NoSuchSet wrong = false-is-true wrong
empty_fine network faults.Cycle wrong = Contains-none wrong.table wrong.member
empty_fine network faults.TooDeep wrong = Contains-none wrong.table wrong.member
empty_fine network faults.TooCostly wrong = omega (arith, wrong.over)
empty_fine network faults.BaseChainCalled wrong = false-is-true wrong
empty_fine network faults.TypeMismatch wrong = false-is-true wrong
empty_fine network faults.WrongValue wrong = false-is-true wrong
empty_fine network faults.MisplacedNat (misplaced_source t member chain) = Contains-none t member
empty_fine network faults.MisplacedNat (misplaced_destination t member chain) = Contains-none t member
empty_fine network faults.MisplacedNatChain wrong = false-is-true wrong
empty_fine network faults.Contradiction wrong = false-is-true wrong
empty_fine network faults.NoSuchInterface wrong = false-is-true wrong
empty_fine network faults.StatementAfterVerdict wrong = false-is-true wrong
empty_fine network faults.TooLarge wrong = false-is-true wrong
