-- The interfaces of a box, as rules see them. (own: their order)
use Rattle.std.specs.Prelude.{ℕ, List, [], map, unwrap_or}
use Rattle.box_file.specs.Box.{PlantTree, name_of}
use Rattle.nft_values.specs.Values.{padded}
use Rattle.rule_meaning.specs.declared.facts.Interface.{Interface}

-- an interface by its index; its name is padded with zeros
abbrev pub interface_facts : PlantTree → ℕ → Interface
interface_facts network index = record { index = index; name = padded 0 (unwrap_or (name_of network index) []) }

-- one for each `interface` line, in text order
abbrev pub interfaces_of : PlantTree → List Interface
interfaces_of network = map (λ i. interface_facts network i.index) network.interfaces
