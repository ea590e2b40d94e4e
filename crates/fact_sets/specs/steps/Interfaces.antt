-- Interfaces as the code has them.
use Rattle.std.specs.Prelude.{ℕ, ◌^◌, ◌<◌, List}
use Rattle.rule_meaning.specs.declared.facts.Interface.{Interface}
use Rattle.fact_sets.specs.Facts.{interface_at}

-- each name has at most 128 bits, and each index at most 32
abbrev pub AreNarrow : List Interface → Type 0
AreNarrow interfaces = (n : ℕ)
    → ((interface_at interfaces n).name < 2 ^ 128) × ((interface_at interfaces n).index < 2 ^ 32)
