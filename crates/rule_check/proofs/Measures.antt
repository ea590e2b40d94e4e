-- Costs and depths of well-formed rulesets.
use Rattle.std.proofs.Common.{◌≡◌, ◌⊎◌, ℕ, suc, ◌+◌, ◌<◌, ◌≤◌, List, [], ◌∷◌, length, get_or, map, sum_by}
use Rattle.std.proofs.Common.{Some, None, refl, sym, ap, subst, ◌∙◌, inl, inr, arith, Vec, Global}
use Rattle.std.specs.Prelude.{◌-◌, ◌^◌, min, Contains, slice_get, slice_index}
use Rattle.std.specs.List.{zip}
use Rattle.std.specs.Option.{option_map}
use Rattle.std.proofs.lemmas.Bool.{cases_lt}
use Rattle.std.proofs.lemmas.Option.{get_or_from_slice_get, slice_get-map, slice_get_within, slice_get_cases}
use Rattle.std.proofs.lemmas.List.{get_or_past, length-map}
use Rattle.std.proofs.lemmas.List.Elements.{Contains-get_or}
use Rattle.std.proofs.lemmas.List.Sums.{sum_by-cons, get_or-le-sum_by}
use Rattle.nft_tree.specs.Tree.{Text, ChainTree, HeadTree, TableTree}
use Rattle.nft_tree.specs.TableItems.{chains_of}
use Rattle.box_file.specs.Box.{PlantTree}
use Rattle.rule_names.specs.declared.ruleset_names.ItemNames.{ItemNames}
use Rattle.rule_names.specs.Indexed.{names_in}
use Rattle.rule_names.specs.Names.{chain_names}
use Rattle.rule_paths.specs.Paths.{Caller, a_chain, AreCosts, AreAllCosts, MAX_COST, MAX_JUMPS, base_cost, table_cost, ruleset_cost}
use Rattle.rule_paths.specs.Findings.{AreChainCosts, AreFindings, HasDepth, numbers_at}
use Rattle.rule_paths.specs.declared.analysis.Findings.{Findings}
use Rattle.rule_check.specs.declared.fault.CheckFault.TheVariants as faults
use Rattle.rule_check.specs.WellFormed.{WellFormed}
use Rattle.rule_check.specs.Checked.{AreRulesetCosts, AreRulesetDepths, IsChecked, base_part, base_sum, ruleset_sum, rows}

-- ---- from the findings

stands : (tables : List TableTree) (i : ℕ) (t : TableTree) → slice_get tables i ≡ Some t → Contains tables t
stands tables i t at =
    let within : i < length tables = slice_get_within tables i t at in
    subst (Contains tables) (get_or_from_slice_get tables i t t at) (Contains-get_or tables i t within)

none_past : {A : Type 0} (xs : List A) (i : ℕ) → slice_get xs i ≡ None → length xs ≤ i
none_past xs i at =
    elim (slice_get_cases xs i).1 [ inl h ↦ (let is = h.2 in absurd cc) | inr h ↦ h.0 ]

pub is_checked : (tables : List TableTree) (network : PlantTree) (names : List ItemNames) (found : Findings) → WellFormed tables network
    → names ≡ map names_in tables → AreFindings tables found → IsChecked tables network names found.costs.items
is_checked tables network names found fine named known = record {
  fine = fine;
  named = named;
  costs = record {
    long = length-map found.costs.items (λ r. r.items) ∙ known.costs_long;
    are = λ i t at. known.costs i t (slice_get_within tables i t at) (sym (get_or_from_slice_get tables i t t at));
  };
  has_depths = (
    rows found.depths.items,
    record {
      long = length-map found.depths.items (λ r. r.items) ∙ known.depths_long;
      are = λ i t at. known.depths i t (slice_get_within tables i t at) (sym (get_or_from_slice_get tables i t t at));
    },
  );
  has_costs = known.has_costs;
}

-- ---- costs

-- saturation is the identity up to 64 bits
abbrev capped : ℕ → ℕ
capped n = min n (2 ^ 64 - 1)

-- the list has the cost of each chain at its index
cost_at : (t : TableTree) (costs : List ℕ) (cost : Caller → ℕ) (j : ℕ) (c : ChainTree) → costs
    ≡ map (λ d. capped (cost (a_chain d.name))) (chains_of t) → slice_get (chains_of t) j ≡ Some c
    → slice_index costs j ≡ capped (cost (a_chain c.name))
cost_at t costs cost j c is at =
    ap (λ xs. slice_index xs j) is ∙ get_or_from_slice_get (map (λ d. capped (cost (a_chain d.name))) (chains_of t)) j (capped (cost (a_chain c.name))) 0
    (slice_get-map (λ (d : ChainTree). capped (cost (a_chain d.name))) (chains_of t) j ∙ ap (option_map (λ (d : ChainTree). capped (cost (a_chain d.name)))) at)

part_le : (cost : Caller → ℕ) (c : ChainTree) → base_part c.head (capped (cost (a_chain c.name))) ≤ base_cost cost c.name c.head
part_le cost c = grind arith

parts_le : (cost : Caller → ℕ) (cs : List ChainTree) → sum_by (λ p. base_part p.0.head p.1)
    (zip cs (map (λ c. capped (cost (a_chain c.name))) cs)) ≤ sum_by (λ c. base_cost cost c.name c.head) cs
parts_le cost [] = omega arith
parts_le cost (c ∷ cs) =
    let here = sum_by-cons (λ (p : ChainTree × ℕ). base_part p.0.head p.1) (c, capped (cost (a_chain c.name)))
    (zip cs (map (λ d. capped (cost (a_chain d.name))) cs)) in
    let there = sum_by-cons (λ (d : ChainTree). base_cost cost d.name d.head) c cs in
    omega (arith, here, there, part_le cost c, parts_le cost cs)

-- the sum by the list is no more than the cost of the table's base chains
table_le : (t : TableTree) (costs : List ℕ) (cost : Caller → ℕ) → AreChainCosts t costs → AreCosts t cost → base_sum t costs ≤ table_cost cost t
table_le t costs cost are is = subst (λ xs. base_sum t xs ≤ table_cost cost t) (sym (are.are cost is)) (parts_le cost (chains_of t))

tables_le : (f : TableTree → ℕ) (tables : List TableTree) (costs : List (List ℕ))
    → ((i : ℕ) (t : TableTree) → slice_get tables i ≡ Some t → base_sum t (get_or costs i []) ≤ f t)
    → ruleset_sum tables costs ≤ sum_by f tables
tables_le f [] costs each = omega arith
tables_le f (t ∷ ts) [] each = omega arith
tables_le f (t ∷ ts) (ks ∷ kss) each =
    let here = sum_by-cons (λ (p : TableTree × List ℕ). base_sum p.0 p.1) (t, ks) (zip ts kss) in
    let there = sum_by-cons f t ts in
    omega (arith, here, there, each 0 t refl, tables_le f ts kss (λ i u at. each (suc i) u at))

module _ (tables : List TableTree) (network : PlantTree) (names : List ItemNames) (costs : List (Vec ℕ Global)) (k : IsChecked tables network names costs) where
  abbrev cost : TableTree → Caller → ℕ
  cost = let has = k.has_costs in has.0

  are_costs : AreAllCosts tables cost
  are_costs = let has = k.has_costs in has.1

  whole_cost : ruleset_cost cost tables ≤ MAX_COST
  whole_cost = by_size (cases_lt MAX_COST (ruleset_cost cost tables))
    where
      by_size : (MAX_COST < ruleset_cost cost tables) ⊎ (ruleset_cost cost tables ≤ MAX_COST) → ruleset_cost cost tables ≤ MAX_COST
      by_size (inl over) = absurd (k.fine faults.TooCostly (record { cost = cost; are = are_costs; over = over }))
      by_size (inr low) = low

  one_table : (i : ℕ) (t : TableTree) → slice_get tables i ≡ Some t → table_cost (cost t) t ≤ MAX_COST
  one_table i t at =
      let within : i < length tables = slice_get_within tables i t at in
      let part = get_or-le-sum_by (λ u. table_cost (cost u) u) tables i t within in
      let is : table_cost (cost (get_or tables i t)) (get_or tables i t) ≡ table_cost (cost t) t =
      ap (λ u. table_cost (cost u) u) (get_or_from_slice_get tables i t t at) in
      omega (arith, part, is, whole_cost)

  pub costs_of : (i : ℕ) (t : TableTree) → slice_get tables i ≡ Some t → AreChainCosts t (numbers_at costs i)
  costs_of i t at = k.costs.are i t at

  pub base : (i : ℕ) (t : TableTree) (j : ℕ) (c : ChainTree) (head : HeadTree) → slice_get tables i ≡ Some t
      → slice_get (chains_of t) j ≡ Some c → c.head ≡ Some head → slice_index (numbers_at costs i) j < MAX_COST
  base i t j c head at chain_at is =
      let within : j < length (chains_of t) = slice_get_within (chains_of t) j c chain_at in
      let part = get_or-le-sum_by (λ (d : ChainTree). base_cost (cost t) d.name d.head) (chains_of t) j c within in
      let same : get_or (chains_of t) j c ≡ c = get_or_from_slice_get (chains_of t) j c c chain_at in
      let there : base_cost (cost t) (get_or (chains_of t) j c).name (get_or (chains_of t) j c).head ≡ 1
      + cost t (a_chain c.name) = ap (λ (d : ChainTree). base_cost (cost t) d.name d.head) same
      ∙ ap (base_cost (cost t) c.name) is in
      let reported = cost_at t (numbers_at costs i) (cost t) j c ((costs_of i t at).are (cost t) (are_costs t (stands tables i t at))) chain_at in
      omega (arith, one_table i t at, part, there, reported)

  pub total : (others : List (List ℕ)) → AreRulesetCosts tables others → ruleset_sum tables others ≤ MAX_COST
  total others are =
      omega (
        arith,
        whole_cost,
        tables_le (λ t. table_cost (cost t) t) tables others
            (λ i t at. table_le t (get_or others i []) (cost t) (are.are i t at) (are_costs t (stands tables i t at))),
      )

  -- ---- depths

  not_deep : (t : TableTree) → Contains tables t → (name : Text) (depth : ℕ) → Contains (chain_names t) name
      → HasDepth t (a_chain name) depth → depth ≤ MAX_JUMPS
  not_deep t at name depth named has = by_size (cases_lt MAX_JUMPS depth)
    where
      by_size : (MAX_JUMPS < depth) ⊎ (depth ≤ MAX_JUMPS) → depth ≤ MAX_JUMPS
      by_size (inl over) =
          let deep = has.deep in
          absurd (k.fine faults.TooDeep
          (record {
            table = t;
            member = at;
            deep =
                record {
                  chain = name;
                  member = named;
                  path =
                      record { from = a_chain name; to = has.to; along = has.along; path = has.path; over = omega arith };
                  begins = refl;
                };
          }))
      by_size (inr low) = low

  -- ---- past the end, and the same in any lists

  pub no_costs : (i : ℕ) → slice_get tables i ≡ None → numbers_at costs i ≡ []
  no_costs i at = get_or_past (rows costs) i [] (omega (arith, k.costs.long, none_past tables i at))

  pub same_costs : (others : List (List ℕ)) → AreRulesetCosts tables others → (i : ℕ) → numbers_at costs i ≡ get_or others i []
  same_costs others are i = grind (arith, slice_get, get_or, no_costs, get_or_past, are.long, none_past, are_costs, stands, costs_of, are.are)

  module _ (depths : List (List ℕ)) (are : AreRulesetDepths tables depths) where
    no_depths : (i : ℕ) → slice_get tables i ≡ None → get_or depths i [] ≡ []
    no_depths i at = get_or_past depths i [] (omega (arith, are.long, none_past tables i at))

    shallow_in : (i : ℕ) (t : TableTree) → slice_get tables i ≡ Some t → (j : ℕ) → slice_index (get_or depths i []) j ≤ MAX_JUMPS
    shallow_in i t at j = grind (arith, cases_lt, slice_index, are.are i t at, length-map, get_or, Contains-get_or, not_deep, stands, get_or_past)

    pub shallow : (i j : ℕ) → slice_index (get_or depths i []) j ≤ MAX_JUMPS
    shallow i j = grind (arith, slice_get, slice_index, no_depths, shallow_in)
