-- An interface found among those laid out.
use Rattle.stepping.proofs.Names.{List, [], arith, find, interface_facts, interfaces_of, is_at, map, refl, ℕ, ◌∷◌, ◌≡◌}
use Rattle.box_file.specs.Box.{Interface, PlantTree, has_index, name_of}
use Rattle.std.specs.Option.{option_map}

found_in : (network : PlantTree) (index : ℕ) (is : List Interface)
    → find (is_at index) (map (interface_facts network) (map (λ i. i.index) is))
    ≡ option_map (λ name. interface_facts network index) (option_map (λ i. i.name) (find (has_index index) is))
found_in network index [] = refl
found_in network index (i ∷ is) = grind (arith, found_in network index is)

pub found : (network : PlantTree) (index : ℕ) → find (is_at index) (interfaces_of network)
    ≡ option_map (λ name. interface_facts network index) (name_of network index)
found network index = found_in network index network.interfaces
