use Rattle.std.proofs.Common.{All, filter, map, take, ◌≡◌}
use Rattle.std.specs.List.{AllZip}
use Rattle.packet_sets.specs.Sets.{Keeps}
use Rattle.lowering.specs.Lowered.{HasDeclared}
use Rattle.rule_reach.specs.Reach.{run_chains}
use Rattle.rule_reach.specs.Takers.{IsUnmet, is_unmet}
use Rattle.rule_reach.proofs.unmet.unmet_by.Given as goal

abbrev pub invariant-loop-rule : goal.invariant-loop-rule
invariant-loop-rule l = record {
  keeps : Keeps l.initial.diagrams l.diagrams;
  declared : AllZip (HasDeclared l.checked.network) l.checked.rules l.lookups;
  rules : map (λ u. u.rule) l.all.items ≡ map (λ r. r.rule) (filter is_unmet (take l.rule-index l.reach.rules.items));
  why : All (IsUnmet l.checked.network l.checked.rules (run_chains l.checked.rules)) l.all.items;
}
