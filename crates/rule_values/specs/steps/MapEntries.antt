-- Map data in comparable form: names of chains are replaced by their indices in a list of names.
use Rattle.std.specs.Prelude.{◌≡◌, ℕ, ◌<◌, Bool, List, [], ◌∷◌, length, Option, Some, None}
use Rattle.std.specs.List.{filter_map, position_or_len}
use Rattle.std.specs.Borrow.{Bor}
use Rattle.std.specs.Str.{bytes_eq}
use Rattle.nft_tree.specs.Tree as tree
use Rattle.nft_tree.specs.Tree.{Text}
use Rattle.box_file.specs.Box.{PlantTree}
use Rattle.nft_values.specs.Values.{span_of}
use Rattle.set_intervals.specs.declared.range.Range.{Range}
use Rattle.rule_values.specs.declared.comparable_data.ComparableData.{ComparableData}
use Rattle.rule_values.specs.declared.comparable_data.ComparableData.TheVariants as comparables
use Rattle.rule_values.specs.TypedValues.{TypedMap}
use Rattle.rule_values.specs.Faults.{ElementData, a_verdict, a_value, MapEntry, map_entry_of}

-- ---- names

abbrev pub named : Text → Bor Text → Bool
named name key = bytes_eq name key.now

-- the index of the name, the number of names where it isn't one of them
abbrev pub name_index_of : Text → List (Bor Text) → ℕ
name_index_of name names = position_or_len (named name) names

pub record IsNameIndex (names : List (Bor Text)) (name : Text) (name_index : ℕ) : Type 0 where
  pub is : name_index_of name names ≡ name_index
  pub within : name_index_of name names < length names

-- names keep their indices when names are added
pub record KeepsIndices (old new : List (Bor Text)) : Type 0 where
  pub kept : (name : Text) (name_index : ℕ) → IsNameIndex old name name_index
      → IsNameIndex new name name_index

-- ---- data

abbrev pub comparable_form : List (Bor Text) → ElementData → ComparableData
comparable_form names (a_verdict tree.accept) = comparables.Accept
comparable_form names (a_verdict tree.drop) = comparables.Drop
comparable_form names (a_verdict tree.continue) = comparables.Continue
comparable_form names (a_verdict tree.return) = comparables.Return
comparable_form names (a_verdict (tree.jump name)) = comparables.Jump (name_index_of name names)
comparable_form names (a_verdict (tree.goto name)) = comparables.Goto (name_index_of name names)
comparable_form names (a_value span) = comparables.Numbers span.low span.high

-- the name in the data is one of the names
abbrev pub HasName : List (Bor Text) → ElementData → Type 0
HasName names (a_verdict (tree.jump name)) = name_index_of name names < length names
HasName names (a_verdict (tree.goto name)) = name_index_of name names < length names
HasName names _ = Unit {0}

-- it is the comparable form of the data
pub record RepresentsData (names : List (Bor Text)) (given : ElementData)
    (comparable_data : ComparableData) : Type 0 where
  pub is : comparable_form names given ≡ comparable_data
  pub has_name : HasName names given

abbrev pub RepresentsOptionalData : List (Bor Text) → Option ElementData → Option ComparableData → Type 0
RepresentsOptionalData names None o = o ≡ None
RepresentsOptionalData names (Some given) None = ⊥
RepresentsOptionalData names (Some given) (Some o) = RepresentsData names given o

-- ---- entries

-- the range and the comparable form of the entry's key and data
pub record RepresentsEntry (names : List (Bor Text)) (entry : MapEntry)
    (pair : Range × ComparableData) : Type 0 where
  pub keys : span_of pair.0 ≡ entry.keys
  pub comparable_data : RepresentsData names entry.given pair.1

abbrev pub RepresentsOptionalEntry : List (Bor Text) → Option MapEntry → Option (Range × ComparableData)
    → Type 0
RepresentsOptionalEntry names None p = p ≡ None
RepresentsOptionalEntry names (Some entry) None = ⊥
RepresentsOptionalEntry names (Some entry) (Some p) = RepresentsEntry names entry p

abbrev pub RepresentEach : List (Bor Text) → List MapEntry → List (Range × ComparableData) → Type 0
RepresentEach names [] [] = Unit {0}
RepresentEach names (e ∷ es) (p ∷ ps) = RepresentsEntry names e p × RepresentEach names es ps
RepresentEach names _ _ = ⊥

abbrev pub entries_of : PlantTree → TypedMap → List MapEntry
entries_of network m = filter_map (map_entry_of network m) m.elements

-- the pairs represent the entries, for some list of names
pub record RepresentsEntries (pairs : List (Range × ComparableData)) (entries : List MapEntry) : Type 0 where
  pub names : List (Bor Text)
  pub each : RepresentEach names entries pairs
