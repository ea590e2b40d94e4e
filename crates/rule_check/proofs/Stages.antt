-- The stages of the checks, each after absent faults.
use Rattle.std.proofs.Common.{◌≡◌, List, Option, Some, None, subst}
use Rattle.std.specs.Prelude.{MatchOption}
use Rattle.nft_tree.specs.Tree.{TableTree}
use Rattle.box_file.specs.Box.{PlantTree}
use Rattle.rule_names.specs.Names.{DuplicateName}
use Rattle.rule_paths.specs.Findings.{AreFindings}
use Rattle.rule_paths.specs.declared.analysis.Findings.{Findings}
use Rattle.rule_check.specs.declared.fault.CheckFault.{CheckFault}
use Rattle.rule_check.specs.declared.fault.CheckFault.TheVariants as faults
use Rattle.rule_check.specs.steps.FaultRanges.{HasNone, IsLeastFaultIn}
use Rattle.rule_check.proofs.LeastFaults.{more, none_reported, without}

-- ---- options with a known value

pub at_none : {A : Type 0} (o : Option A) (P : Type 0) (Q : A → Type 0) → o ≡ None → MatchOption o P Q → P
at_none {A = A} o P Q is h = subst (λ (p : Option A). MatchOption p P Q) is h

pub at_some : {A : Type 0} (o : Option A) (P : Type 0) (Q : A → Type 0) (x : A) → o ≡ Some x → MatchOption o P Q → Q x
at_some {A = A} o P Q x is h = subst (λ (p : Option A). MatchOption p P Q) is h

-- ---- the stages

module _ (tables : List TableTree) (network : PlantTree) where
  pub after_names : (names : List TableTree) (answer : Option CheckFault) → (DuplicateName tables → ⊥) → names
      ≡ tables → answer ≡ None → IsLeastFaultIn 2 4 names network answer → HasNone 1 4 tables network
  after_names names answer apart same is is_least =
      none_reported tables network 2 4 answer (without tables network faults.DuplicateName apart) is
      (subst (λ (ts : List TableTree). IsLeastFaultIn 2 4 ts network answer) same is_least)

  pub findings_of : (names : List TableTree) (found : Findings) → names ≡ tables → AreFindings names found → AreFindings tables found
  findings_of names found same h = subst (λ (ts : List TableTree). AreFindings ts found) same h

  pub after_cycles : (found : Findings) → HasNone 1 4 tables network → AreFindings tables found → HasNone 1 5 tables network
  after_cycles found none known = more tables network 1 faults.Cycle none known.acyclic
