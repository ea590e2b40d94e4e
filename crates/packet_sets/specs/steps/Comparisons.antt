-- Comparisons of a field with a number.
use Rattle.std.specs.Prelude.{◌≡◌, ◌==◌, ℕ, ◌<◌, ◌≤◌, Bool, true, false, nat_le, List, length}
use Rattle.packet_sets.specs.Sets.{field_value, meaning}
use Rattle.packet_sets.specs.steps.Nodes.{bit_of}
use Rattle.packet_sets.specs.declared.branch.Branch.{Branch}
use Rattle.packet_sets.specs.declared.fields.Comparison.{Comparison}
use Rattle.packet_sets.specs.declared.fields.Comparison.TheVariants.{AtLeast, AtMost, Equal}
use Rattle.packet_sets.specs.declared.fields.Field.{Field}

-- whether a field's value compares so with a number
abbrev pub compared : Comparison → ℕ → ℕ → Bool
compared AtLeast value number = nat_le number value
compared AtMost value number = nat_le value number
compared Equal value number = value == number

-- whether every lesser value does
abbrev pub less_passes : Comparison → Bool
less_passes AtLeast = false
less_passes AtMost = true
less_passes Equal = false

-- whether every greater value does
abbrev pub greater_passes : Comparison → Bool
greater_passes AtLeast = true
greater_passes AtMost = false
greater_passes Equal = false

-- the node of the packets whose field does; it has no bit before the field's
pub record IsComparison (nodes : List Branch) (comparison : Comparison) (field : Field)
    (number n : ℕ) : Type 0 where
  pub below : n < length nodes
  pub after : field.first ≤ bit_of nodes n
  pub meaning : (packet : ℕ → Bool) → meaning nodes n packet
      ≡ compared comparison (field_value field.first field.width packet) number
