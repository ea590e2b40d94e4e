use Rattle.std.proofs.Common.{◌≡◌, ℕ, Bool, drop}
use Rattle.std.specs.Option.{option_and_then, option_or}
use Rattle.packet_sets.specs.Sets.{Keeps}
use Rattle.set_intervals.specs.Pairs.{first_value}
use Rattle.rule_meaning.specs.Selectors.{value}
use Rattle.fact_sets.specs.Cases.{AreCases, picked, seen}
use Rattle.action_cases.proofs.cases.found.Given as goal

-- with the ranges that are left, what all have
abbrev pub invariant-loop-range : goal.invariant-loop-range
invariant-loop-range g l = record {
  keeps : Keeps l.fn.diagrams l.diagrams;
  are : AreCases l.diagrams l.cases.items;
  same : (f : ℕ → Bool)
      → option_or (picked l.diagrams l.cases.items f) (option_and_then (first_value (drop l.range-index l.table)) (value l.selector (seen l.reader f)))
      ≡ option_and_then (first_value l.table) (value l.selector (seen l.reader f));
}
