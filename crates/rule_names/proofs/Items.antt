-- A duplicate set or a duplicate map is a duplicate among sets and maps.
use Rattle.rule_names.proofs.Names.{Bool, Contains, HasDuplicate, List, Text, [], arith, list_any, map, refl, subst, ⊎_elim, ◌||◌, ◌∷◌, ◌≡◌}
use Rattle.std.specs.List.{filter_map}
use Rattle.nft_tree.specs.Tree.{ItemTree}
use Rattle.nft_tree.specs.TableItems.{map_in, set_in}
use Rattle.rule_names.specs.Names.{set_or_map_name}
use Rattle.rule_names.proofs.Duplicates.{repeats-here, repeats-more, repeats-split}
use Rattle.list_laws.specs.Elements.{Contains-cases, Contains-tail}
use Rattle.list_laws.specs.Lists.{Contains-head}
use Rattle.nft_tree.specs.Tree as tree

-- the names of sets, of maps and of both among these items
abbrev pub of_sets : List ItemTree → List Text
of_sets items = map (λ s. s.name) (filter_map set_in items)

abbrev pub of_maps : List ItemTree → List Text
of_maps items = map (λ m. m.name) (filter_map map_in items)

abbrev pub of_both : List ItemTree → List Text
of_both items = filter_map set_or_map_name items

-- a test of the names of both kinds
pub any-both : (test : Text → Bool) (items : List ItemTree) → list_any test (of_both items) ≡ list_any test (of_sets items) || list_any test (of_maps items)
any-both test [] = refl
any-both test (tree.comment text ∷ rest) = any-both test rest
any-both test (tree.chain c ∷ rest) = any-both test rest
any-both test (tree.set s ∷ rest) = grind (arith, any-both test rest)
any-both test (tree.map_item m ∷ rest) = grind (arith, any-both test rest)

pub among-same : (n : Text) (small large : List Text) (name : Text)
    → (Contains small name → Contains large name) → Contains (n ∷ small) name → Contains (n ∷ large) name
among-same n small large name more a =
    ⊎_elim (λ e. subst (Contains (n ∷ large)) e (Contains-head n large)) (λ rest. Contains-tail n large name (more rest)) (Contains-cases n small name a)

pub repeats-same : (n : Text) (small large : List Text) → (Contains small n → Contains large n)
    → (HasDuplicate small → HasDuplicate large) → HasDuplicate (n ∷ small) → HasDuplicate (n ∷ large)
repeats-same n small large among more r = ⊎_elim (λ a. repeats-here n large (among a)) (λ rest. repeats-more n large (more rest)) (repeats-split n small r)

pub sets-among : (items : List ItemTree) (name : Text) → Contains (of_sets items) name → Contains (of_both items) name
sets-among [] name a = a
sets-among (tree.comment text ∷ rest) name a = sets-among rest name a
sets-among (tree.chain c ∷ rest) name a = sets-among rest name a
sets-among (tree.set s ∷ rest) name a = among-same s.name (of_sets rest) (of_both rest) name (sets-among rest name) a
sets-among (tree.map_item m ∷ rest) name a = Contains-tail m.name (of_both rest) name (sets-among rest name a)

pub maps-among : (items : List ItemTree) (name : Text) → Contains (of_maps items) name → Contains (of_both items) name
maps-among [] name a = a
maps-among (tree.comment text ∷ rest) name a = maps-among rest name a
maps-among (tree.chain c ∷ rest) name a = maps-among rest name a
maps-among (tree.set s ∷ rest) name a = Contains-tail s.name (of_both rest) name (maps-among rest name a)
maps-among (tree.map_item m ∷ rest) name a = among-same m.name (of_maps rest) (of_both rest) name (maps-among rest name) a

pub sets-repeat : (items : List ItemTree) → HasDuplicate (of_sets items) → HasDuplicate (of_both items)
sets-repeat [] r = r
sets-repeat (tree.comment text ∷ rest) r = sets-repeat rest r
sets-repeat (tree.chain c ∷ rest) r = sets-repeat rest r
sets-repeat (tree.set s ∷ rest) r = repeats-same s.name (of_sets rest) (of_both rest) (sets-among rest s.name) (sets-repeat rest) r
sets-repeat (tree.map_item m ∷ rest) r = repeats-more m.name (of_both rest) (sets-repeat rest r)

pub maps-repeat : (items : List ItemTree) → HasDuplicate (of_maps items) → HasDuplicate (of_both items)
maps-repeat [] r = r
maps-repeat (tree.comment text ∷ rest) r = maps-repeat rest r
maps-repeat (tree.chain c ∷ rest) r = maps-repeat rest r
maps-repeat (tree.set s ∷ rest) r = repeats-more s.name (of_both rest) (maps-repeat rest r)
maps-repeat (tree.map_item m ∷ rest) r = repeats-same m.name (of_maps rest) (of_both rest) (maps-among rest m.name) (maps-repeat rest) r
