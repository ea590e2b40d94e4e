-- Duplicate names in a ruleset.
use Rattle.rule_names.proofs.Names.{All, Bool, HasDuplicate, HasUniqueNames, List, TableTree, [], ap, cond, false, get_or, length, map, map-append, map-more}
use Rattle.rule_names.proofs.Names.{refl, subst, sym, table_names, table_tree, take, true, ℕ, ◌++◌, ◌+◌, ◌<◌, ◌∙◌, ◌∷◌, ◌≡◌}
use Rattle.std.proofs.Common.{arith, drop, inl, inr}
use denote.Enum.Bare.{sameb}
use Rattle.std.specs.Prelude.{IsTrue}
use Rattle.std.proofs.lemmas.List.Elements.{All-contains, filter-append}
use Rattle.std.proofs.lemmas.List.{append-nil, get_or-map, length-map}
use Rattle.nft_tree.specs.contracts.ruleset.Family.{the_type}
use Rattle.nft_tree.specs.declared.ruleset.Family.{Family}
use Rattle.nft_tree.specs.declared.ruleset.Table.{Table}
use Rattle.rule_names.specs.declared.ruleset_names.ItemNames.{ItemNames}
use Rattle.rule_names.specs.Indexed.{names_in}
use Rattle.rule_names.specs.Names.{DuplicateName, same_family, two_chains, two_sets_or_maps, two_tables}
use Rattle.rule_names.proofs.Lists.{map-around}
use Rattle.rule_names.proofs.Duplicates.{repeats-on}
use Rattle.nft_tree.specs.declared.ruleset.Family.TheVariants as families

pub is-not-true : (b : Bool) → b ≡ false → IsTrue b → ⊥
is-not-true b e h = let q : true ≡ false = sym h ∙ e in cc

-- ---- one more table

-- the result of `==`
pub same-family : (f g : Family) → sameb the_type f g ≡ same_family f g
same-family families.Ip families.Ip = refl
same-family families.Inet families.Inet = refl
same-family families.Ip families.Inet = refl
same-family families.Inet families.Ip = refl

pub names-append : (family : Family) (ts us : List TableTree) → table_names family (ts ++ us) ≡ table_names family ts ++ table_names family us
names-append family ts us = simp (filter-append, map-append)

module _ (family : Family) (tables : List Table) (i : ℕ) (x : Table) (inside : i < length tables) (is : x ≡ get_or tables i x) where
  more : table_names family (map table_tree (take (i + 1) tables))
      ≡ table_names family (map table_tree (take i tables)) ++ table_names family (table_tree x ∷ [])
  more = ap (table_names family) (map-more table_tree tables i x inside is) ∙ names-append family (map table_tree (take i tables)) (table_tree x ∷ [])

  pub names-more : same_family x.family family ≡ true → table_names family (map table_tree (take (i + 1) tables))
      ≡ table_names family (map table_tree (take i tables)) ++ x.name.items ∷ []
  names-more e = more ∙ ap (λ b. table_names family (map table_tree (take i tables)) ++ map (λ t. t.name) (cond b (table_tree x ∷ []) [])) e

  pub names-same : same_family x.family family ≡ false → table_names family (map table_tree (take (i + 1) tables))
      ≡ table_names family (map table_tree (take i tables))
  names-same e = more ∙ ap (λ b. table_names family (map table_tree (take i tables))
      ++ map (λ t. t.name) (cond b (table_tree x ∷ []) [])) e ∙ append-nil (table_names family (map table_tree (take i tables)))

  pub names-duplicate : HasDuplicate (table_names family (map table_tree (take (i + 1) tables))) → HasDuplicate (table_names family (map table_tree tables))
  names-duplicate r =
      subst HasDuplicate (sym (names-append family (map table_tree (take (i + 1) tables))
      (map table_tree (drop (i + 1) tables)))
      ∙ ap (table_names family) (ap (λ ts. ts ++ map table_tree (drop (i + 1) tables))
      (map-more table_tree tables i x inside is) ∙ map-around table_tree tables i x inside is))
      (repeats-on (table_names family (map table_tree (take (i + 1) tables))) (table_names family (map table_tree (drop (i + 1) tables))) r)

-- ---- all tables

pub none-duplicate : (tables : List TableTree) → (HasDuplicate (table_names families.Ip tables) → ⊥)
    → (HasDuplicate (table_names families.Inet tables) → ⊥) → All HasUniqueNames tables → DuplicateName tables → ⊥
none-duplicate tables ip inet all (two_tables families.Ip r) = ip r
none-duplicate tables ip inet all (two_tables families.Inet r) = inet r
none-duplicate tables ip inet all (two_chains t h r) = All-contains HasUniqueNames tables t all h (inl r)
none-duplicate tables ip inet all (two_sets_or_maps t h r) = All-contains HasUniqueNames tables t all h (inr r)

-- the names of a table at its place
pub names-at : (tables : List Table) (i : ℕ) (x : Table) (names : ItemNames) → i < length tables → x ≡ get_or tables i x
    → names ≡ get_or (map names_in (map table_tree tables)) i names → names ≡ names_in (table_tree x)
names-at tables i x names inside is at =
    let same = length-map tables table_tree in
    at ∙ get_or-map names_in (map table_tree tables) i (table_tree x) names (omega arith)
    ∙ ap names_in (get_or-map table_tree tables i x (table_tree x) inside ∙ ap table_tree (sym is))
