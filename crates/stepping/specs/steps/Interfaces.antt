-- The interfaces of a box, laid out as rules read them.
use Rattle.std.specs.Prelude.{ℕ, Bool, ◌==◌, List, map}
use Rattle.box_file.specs.Box.{PlantTree}
use Rattle.rule_meaning.specs.declared.facts.Interface.{Interface}
use Rattle.stepping.specs.Carried.{interface_facts}

-- one for each `interface` line, in text order
abbrev pub interfaces_of : PlantTree → List Interface
interfaces_of network = map (interface_facts network) (map (λ i. i.index) network.interfaces)

abbrev pub is_at : ℕ → Interface → Bool
is_at index i = i.index == index
