-- A ruleset that is read to its end is the whole ruleset.
use Rattle.std.proofs.Common.{◌≡◌, ℕ, zero, suc, ◌+◌, ◌-◌, ◌<◌, ◌≤◌, leb, List, [], ◌∷◌, length, map}
use Rattle.std.proofs.Common.{Option, Some, None, refl, ap, ◌∙◌, inl, inr, ◌⊎◌, arith}
use Rattle.std.specs.List.{sum_by, slice_range}
use Rattle.std.specs.Option.{option_map}
use Rattle.std.proofs.lemmas.Bool.{le-leb, lt-leb, cond-true, cond-false}
use Rattle.std.proofs.lemmas.List.{take_all}
use Rattle.std.proofs.lemmas.List.Sums.{sum_by-cons}
use Rattle.nft_tree.specs.Tree as tree
use Rattle.nft_tree.specs.Tree.{SetRefTree, MapRefTree, MapLookupTree, Statement, RuleTree, ItemTree, TableTree}
use Rattle.rule_check.specs.Limits.{set_ref_elements, map_ref_elements, statement_elements, length_if}
use Rattle.fault_nodes.specs.Parts.{statement_parts, rule_parts, item_parts, table_declarations, table_parts}
use Rattle.fault_nodes.specs.Parts.{declarations, ruleset_parts}
use Rattle.fault_nodes.specs.ReadParts.{set_ref_with, map_ref_with, lookup_with, statement_with, statement_between}
use Rattle.fault_nodes.specs.ReadParts.{rule_between, item_between, table_between, ruleset_between}
use Rattle.fault_nodes.specs.ReadParts.{table_declared, first_declarations, read_up_to}
use Rattle.fault_nodes.proofs.PartLists.{between_whole, all_whole}
use Rattle.fault_nodes.proofs.Ranges.{whole_range}
use Rattle.fault_nodes.proofs.Declared.{first_of_none, first_step}

-- ---- statements

whole_set_ref : (n : ℕ) (set : SetRefTree) → set_ref_elements set ≤ n → set_ref_with 0 n set ≡ set
whole_set_ref n (tree.named_set name) all = refl
whole_set_ref n (tree.elements es) all = ap tree.elements (whole_range n es all)

whole_map_ref : (n : ℕ) (m : MapRefTree) → map_ref_elements m ≤ n → map_ref_with 0 n m ≡ m
whole_map_ref n (tree.named_map name) all = refl
whole_map_ref n (tree.pairs ps) all = ap tree.pairs (whole_range n ps all)

whole_lookup : (n : ℕ) (l : MapLookupTree) → map_ref_elements l.map ≤ n → lookup_with 0 n l ≡ l
whole_lookup n l all = ap (λ m. record l { map = m }) (whole_map_ref n l.map all)

whole_elements : (n : ℕ) (s : Statement) → statement_elements s ≤ n → statement_with 0 n s ≡ s
whole_elements n (tree.matching (tree.is_in ss set)) all =
    ap (λ x. tree.matching (tree.is_in ss x)) (whole_set_ref n set all)
whole_elements n (tree.matching (tree.not_in ss set)) all =
    ap (λ x. tree.matching (tree.not_in ss x)) (whole_set_ref n set all)
whole_elements n (tree.set_mark m (tree.looked_up l)) all =
    ap (λ x. tree.set_mark m (tree.looked_up x)) (whole_lookup n l all)
whole_elements n (tree.verdict_map s m) all = ap (tree.verdict_map s) (whole_map_ref n m all)
whole_elements n (tree.nat (tree.source (tree.source_lookup l))) all =
    ap (λ x. tree.nat (tree.source (tree.source_lookup x))) (whole_lookup n l all)
whole_elements n (tree.nat (tree.destination (tree.destination_lookup l))) all =
    ap (λ x. tree.nat (tree.destination (tree.destination_lookup x))) (whole_lookup n l all)
whole_elements n s all = refl

whole_statement : (n : ℕ) (s : Statement) → statement_parts s ≤ n → statement_between 0 n s ≡ s
whole_statement n s all = whole_elements (n - 1) s (omega (arith, all))

-- ---- rules, items and tables

whole_rule : (n : ℕ) (r : RuleTree) → rule_parts r ≤ n → rule_between 0 n r ≡ r
whole_rule n r all =
    ap (λ ss. record r { statements = ss })
    (between_whole statement_parts statement_between whole_statement (λ s. omega arith) (n - 1) r.statements
    (omega (arith, all)))

whole_listed : {A : Type 0} (n : ℕ) (o : Option (List A)) → length_if o ≤ n
    → option_map (λ xs. slice_range xs 0 n) o ≡ o
whole_listed n None all = refl
whole_listed n (Some xs) all = ap Some (whole_range n xs all)

whole_item : (n : ℕ) (item : ItemTree) → item_parts item ≤ n → item_between 0 n item ≡ item
whole_item n (tree.comment text) all = refl
whole_item n (tree.chain c) all =
    ap (λ rs. tree.chain (record c { rules = rs }))
    (between_whole rule_parts rule_between whole_rule (λ r. omega arith) n c.rules all)
whole_item n (tree.set s) all = ap (λ es. tree.set (record s { elements = es })) (whole_listed n s.elements all)
whole_item n (tree.map_item m) all =
    ap (λ es. tree.map_item (record m { elements = es })) (whole_listed n m.elements all)

whole_table : (n : ℕ) (t : TableTree) → table_parts t ≤ n → table_between 0 n t ≡ t
whole_table n t all = ap (λ is. record t { items = is }) (all_whole item_parts item_between whole_item n t.items all)

-- ---- declarations, where there are no parts

without_parts : (items : List ItemTree) → sum_by item_parts items ≤ 0 → map (item_between 0 0) items ≡ items
without_parts [] none = refl
without_parts (i ∷ is) none =
    let sum = sum_by-cons item_parts i is in
    let here : item_parts i ≤ 0 = omega arith in
    let rest : sum_by item_parts is ≤ 0 = omega arith in
    ap (λ x. x ∷ map (item_between 0 0) is) (whole_item 0 i here) ∙ ap (λ xs. i ∷ xs) (without_parts is rest)

-- a table without parts that is declared in full
declared_whole : (n : ℕ) (t : TableTree) → length t.items ≤ n → table_parts t ≤ 0 → table_declared n t ≡ t
declared_whole n t all none =
    ap (λ is. record t { items = map (item_between 0 0) is }) (take_all n t.items all)
    ∙ ap (λ is. record t { items = is }) (without_parts t.items none)

tables_declared : (n : ℕ) (tables : List TableTree) → declarations tables ≤ n → ruleset_parts tables ≤ 0
    → first_declarations n tables ≡ tables
tables_declared n [] all none = first_of_none n
tables_declared n (t ∷ ts) all none =
    let sum = sum_by-cons table_declarations t ts in
    let parts = sum_by-cons table_parts t ts in
    let here : length t.items ≤ n - 1 = omega arith in
    let bare : table_parts t ≤ 0 = omega arith in
    let rest : declarations ts ≤ n - table_declarations t = omega arith in
    let rest_bare : ruleset_parts ts ≤ 0 = omega arith in
    first_step n t ts (omega arith)
    ∙ ap (λ x. x ∷ first_declarations (n - table_declarations t) ts) (declared_whole (n - 1) t here bare)
    ∙ ap (λ xs. t ∷ xs) (tables_declared (n - table_declarations t) ts rest rest_bare)

-- ---- rulesets

-- among the declarations
pub read_low : (n : ℕ) (tables : List TableTree) → n ≤ declarations tables
    → read_up_to n tables ≡ first_declarations n tables
read_low n tables low =
    cond-true (leb n (declarations tables)) (first_declarations n tables)
    (ruleset_between 0 (n - declarations tables) tables) (le-leb n (declarations tables) low)

-- among the parts
pub read_high : (n : ℕ) (tables : List TableTree) → declarations tables < n
    → read_up_to n tables ≡ ruleset_between 0 (n - declarations tables) tables
read_high n tables high =
    cond-false (leb n (declarations tables)) (first_declarations n tables)
    (ruleset_between 0 (n - declarations tables) tables) (lt-leb n (declarations tables) high)

-- nothing is read yet
pub read_none : (tables : List TableTree) → read_up_to 0 tables ≡ []
read_none tables = read_low 0 tables (omega arith)

low_or_high : (n : ℕ) → (n ≤ 0) ⊎ (0 < n)
low_or_high zero = inl (omega arith)
low_or_high (suc n) = inr (omega arith)

-- all is read
pub read_all : (tables : List TableTree) → read_up_to (declarations tables + ruleset_parts tables) tables ≡ tables
read_all tables =
    elim (low_or_high (ruleset_parts tables)) [
      | inl none ↦ read_low (declarations tables + ruleset_parts tables) tables (omega (arith, none))
          ∙ tables_declared (declarations tables + ruleset_parts tables) tables (omega arith) none
      | inr some ↦ read_high (declarations tables + ruleset_parts tables) tables (omega (arith, some))
          ∙ all_whole table_parts table_between whole_table
          (declarations tables + ruleset_parts tables - declarations tables) tables (omega arith)
    ]
