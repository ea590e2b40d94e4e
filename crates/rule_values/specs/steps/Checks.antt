-- The checks of single values and numbers.
use Rattle.std.specs.Prelude.{Bool, not, List, ◌∷◌, Option}
use Rattle.std.specs.List.{list_any}
use Rattle.nft_tree.specs.declared.compared_types.ComparedType.{ComparedType}
use Rattle.nft_tree.specs.Tree.{RangeTree, PairTree, RuleTree, HeadTree}
use Rattle.box_file.specs.Box.{PlantTree}
use Rattle.nft_values.specs.Values.{is_range_on_box}
use Rattle.rule_values.specs.declared.value_check.ValueCheck.{ValueCheck}
use Rattle.rule_values.specs.declared.value_check.ValueCheck.TheVariants as value_checks
use Rattle.rule_values.specs.TypedValues.{TypedRange, TypedMap, data_ranges}
use Rattle.rule_values.specs.Faults.{is_of_type, statement_out_of_range, priority_out_of_range, if_some}

-- ---- values

-- the value fails the check
abbrev pub fails : ValueCheck → PlantTree → TypedRange → Bool
fails value_checks.IsOfType network r = not (is_of_type network r)
fails value_checks.IsOnBox network r = not (is_range_on_box network r.kind r.range)

abbrev pub typed_range : ComparedType → RangeTree → TypedRange
typed_range k r = record { kind = k; range = r }

-- the key and the datum of a map element
abbrev pub pair_ranges : TypedMap → PairTree → List TypedRange
pair_ranges m p = typed_range m.key p.key ∷ data_ranges m.value p.value

-- ---- numbers

abbrev pub rule_out_of_range : RuleTree → Bool
rule_out_of_range r = list_any statement_out_of_range r.statements

abbrev pub head_out_of_range : Option HeadTree → Bool
head_out_of_range h = if_some (λ h. priority_out_of_range h.priority) h
