-- The least fault, stage by stage.
use Rattle.std.proofs.Common.{◌≡◌, ◌≤◌, ◌<◌, ◌+◌, ℕ, Bool, true, false, List, Option, Some, None, subst, arith}
use Rattle.std.specs.Prelude.{IsTrue, ◌↔◌}
use Rattle.nft_tree.specs.Tree.{TableTree}
use Rattle.box_file.specs.Box.{PlantTree}
use Rattle.rule_check.specs.declared.fault.CheckFault.{CheckFault}
use Rattle.rule_check.specs.WellFormed.{Wrong, LeastFault, WellFormed, fault_number}
use Rattle.rule_check.specs.steps.FaultRanges.{HasNone, IsLeastFaultIn}
use Rattle.rule_check.proofs.Numbers.{below_16, from_one, same_number}

-- a test that fails doesn't hold
pub not_true : (b : Bool) → b ≡ false → b ≡ true → ⊥
not_true b e f = cc

-- a fault whose test fails is absent
pub not_so : (b : Bool) (P : Type 0) → IsTrue b ↔ P → b ≡ false → P → ⊥
not_so b P either e p = let f : b ≡ true = either.1 p in cc

module _ (tables : List TableTree) (network : PlantTree) where
  -- one absent fault
  pub without : (fault : CheckFault) → (Wrong fault tables network → ⊥) → HasNone (fault_number fault) (fault_number fault + 1) tables network
  without fault not_it other from to wrong = not_it (subst (λ (f : CheckFault). Wrong f tables network) (same_number other fault (omega (arith, from, to))) wrong)

  pub and_then : (a b c : ℕ) → HasNone a b tables network → HasNone b c tables network → HasNone a c tables network
  and_then a b c first second fault from to wrong = grind arith

  -- one more absent fault
  pub more : (from : ℕ) (fault : CheckFault) → HasNone from (fault_number fault) tables network
      → (Wrong fault tables network → ⊥) → HasNone from (fault_number fault + 1) tables network
  more from fault none not_it = and_then from (fault_number fault) (fault_number fault + 1) none (without fault not_it)

  pub none_yet : (from : ℕ) → HasNone from from tables network
  none_yet from fault low high wrong = omega (arith, low, high)

  -- a fault after absent ones
  pub reported : (from : ℕ) (fault : CheckFault) (to : ℕ) → from ≤ fault_number fault → fault_number fault < to
      → HasNone from (fault_number fault) tables network → Wrong fault tables network
      → IsLeastFaultIn from to tables network (Some fault)
  reported from fault to low high none wrong = (low, high, wrong, none)

  -- the least of all
  pub least : (fault : CheckFault) → HasNone 1 (fault_number fault) tables network → Wrong fault tables network → LeastFault fault tables network
  least fault none wrong = grind arith

  -- after absent faults, the reported one is the least
  pub least_reported : (from to : ℕ) (fault : CheckFault) (answer : Option CheckFault) → HasNone 1 from tables network
      → answer ≡ Some fault → IsLeastFaultIn from to tables network answer → LeastFault fault tables network
  least_reported from to fault answer none is is_least = grind arith

  pub none_reported : (from to : ℕ) (answer : Option CheckFault) → HasNone 1 from tables network → answer ≡ None
      → IsLeastFaultIn from to tables network answer → HasNone 1 to tables network
  none_reported from to answer none is is_least = and_then 1 from to none (subst (λ (o : Option CheckFault). IsLeastFaultIn from to tables network o) is is_least)

  pub well_formed : HasNone 1 16 tables network → WellFormed tables network
  well_formed none fault wrong = none fault (from_one fault) (below_16 fault) wrong

-- the least fault is unique
pub one_least : (tables : List TableTree) (network : PlantTree) (fault other : CheckFault)
    → LeastFault fault tables network → LeastFault other tables network → fault ≡ other
one_least tables network fault other a b = same_number fault other (omega (arith, a.least other b.wrong, b.least fault a.wrong))
