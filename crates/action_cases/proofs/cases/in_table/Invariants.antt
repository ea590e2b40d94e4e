use Rattle.std.proofs.Common.{◌≡◌, ◌||◌, ℕ, Bool, drop, is_some}
use Rattle.packet_sets.specs.Sets.{IsSet, Keeps, holds}
use Rattle.set_intervals.specs.Pairs.{first_value}
use Rattle.rule_meaning.specs.Matches.{tests}
use Rattle.rule_meaning.specs.Selectors.{joined_value}
use Rattle.fact_sets.specs.Cases.{seen}
use Rattle.action_cases.proofs.cases.in_table.Given as goal

-- with the ranges that are left, the set of all
abbrev pub invariant-loop-range : goal.invariant-loop-range
invariant-loop-range l = record {
  keeps : Keeps l.fn.diagrams l.diagrams;
  is_set : IsSet l.diagrams l.set;
  same : (f : ℕ → Bool)
      → (holds l.diagrams l.set f
      || tests (joined_value l.selectors (seen l.reader f)) (λ n. is_some (first_value (drop l.range-index l.table) n)))
      ≡ tests (joined_value l.selectors (seen l.reader f)) (λ n. is_some (first_value l.table n));
}
