-- The least fault within a range of numbers.
use Rattle.std.specs.Prelude.{ℕ, ◌<◌, ◌≤◌, List, Option, Some, None}
use Rattle.nft_tree.specs.Tree.{TableTree}
use Rattle.box_file.specs.Box.{PlantTree}
use Rattle.rule_check.specs.declared.fault.CheckFault.{CheckFault}
use Rattle.rule_check.specs.WellFormed.{Wrong, fault_number}

-- the ruleset has none of the faults with numbers in `from..to`
abbrev pub HasNone : ℕ → ℕ → List TableTree → PlantTree → Type 0
HasNone from to tables network =
    (fault : CheckFault) → from ≤ fault_number fault → fault_number fault < to → Wrong fault tables network → ⊥

-- the fault is the least of those with numbers in `from..to`; or the ruleset has none of them
abbrev pub IsLeastFaultIn : ℕ → ℕ → List TableTree → PlantTree → Option CheckFault → Type 0
IsLeastFaultIn from to tables network None = HasNone from to tables network
IsLeastFaultIn from to tables network (Some fault) =
    (from ≤ fault_number fault) × (fault_number fault < to) × Wrong fault tables network
    × HasNone from (fault_number fault) tables network
