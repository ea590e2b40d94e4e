-- The targets of a table's statements are lighter, if all named chains exist and the cost equations have a solution.
use Rattle.std.proofs.Common.{◌≡◌, ℕ, suc, ◌+◌, ◌<◌, ◌≤◌, Bool, true, false, not, ◌||◌, cond, List, [], ◌∷◌, ◌++◌}
use Rattle.std.proofs.Common.{length, map, flat_map, find, slice_get, Option, Some, None, is_some, unwrap_or}
use Rattle.std.proofs.Common.{option_map, refl, sym, ap, ◌∙◌, subst, inl, inr, arith}
use Rattle.std.specs.List.{filter_map, cons_option, list_any}
use Rattle.std.specs.Str.{bytes_eq}
use Rattle.std.proofs.lemmas.List.{map-append}
use Rattle.std.proofs.lemmas.Slice.Eq.{bytes_eq-Decides}
use Rattle.nft_tree.specs.Tree as tree
use Rattle.nft_tree.specs.Tree.{Text, VerdictTree, DataTree, PairTree, Statement, RuleTree, ChainTree, ItemTree, TableTree}
use Rattle.nft_tree.specs.TableItems.{chain_in, map_in, chains_of, maps_of}
use Rattle.box_file.specs.Box.{PlantTree}
use Rattle.chain_graph.specs.Graph.{Call, greatest, chain_cost, node_cost}
use Rattle.rule_names.specs.Names.{index_in, chain_named, target_of, data_target, pair_targets, one_or_none}
use Rattle.rule_names.specs.Names.{statement_targets, rule_targets, some_of, item_targets, targets_of}
use Rattle.list_laws.specs.Decisions.{Contains-none, Contains-cases}
use Rattle.rule_paths.specs.Paths.{Caller, a_chain, verdict_calls, data_calls, pair_calls, statement_calls, chain_node, AreCosts}
use Rattle.rule_meaning.specs.declared.event.RuleVerdict.{RuleVerdict}
use Rattle.rule_meaning.specs.declared.event.RuleVerdict.TheVariants as decisions
use Rattle.rule_meaning.specs.Statements.{chain_number}
use Rattle.rule_meaning.specs.Runs.{Program, table_program}
use Rattle.rule_laws.specs.Ranking.{weight_by}
use Rattle.rule_laws.proofs.Lists.{Every, every_found}
use Rattle.rule_laws.proofs.Running as running
use Rattle.rule_laws.proofs.Running.{rules_weight, GoodRule, GoodRules, Lighter, Leads, Falls}
use Rattle.rule_laws.proofs.Verdicts as verdicts
use Rattle.rule_laws.proofs.Verdicts.{Among, Chooses, Decides, decides}

-- ---- a chain by its name

-- the index of the first element with a name
pub record Placed (cs : List ChainTree) (name : Text) (c : ChainTree) : Type 0 where
  pub place : ℕ
  pub is : index_in name (map (λ x. x.name) cs) ≡ Some place
  pub stands : slice_get cs place ≡ Some c
  pub same_name : c.name ≡ name

pub placed : (cs : List ChainTree) (name : Text) (c : ChainTree) → find (λ x. bytes_eq x.name name) cs ≡ Some c → Placed cs name c
placed [] name c found = absurd cc
placed (x ∷ xs) name c found = by_test (bytes_eq x.name name) refl found (placed xs name c)
  where
    by_test : (b : Bool) → bytes_eq x.name name ≡ b → cond b (Some x) (find (λ y. bytes_eq y.name name) xs) ≡ Some c
        → (find (λ y. bytes_eq y.name name) xs ≡ Some c → Placed xs name c) → Placed (x ∷ xs) name c
    by_test true e here later =
        let same : x ≡ c = ap (λ o. unwrap_or o x) here in
        record {
          place = 0;
          is = ap (λ v. cond v (Some 0) (option_map suc (index_in name (map (λ y. y.name) xs)))) e;
          stands = here;
          same_name = ap (λ y. y.name) (sym same) ∙ (bytes_eq-Decides x.name name).0 e;
        }
    by_test false e there later =
        let q = later there in
        record {
          place = suc q.place;
          is =
              ap (λ v. cond v (Some 0) (option_map suc (index_in name (map (λ y. y.name) xs)))) e
              ∙ ap (option_map suc) q.is;
          stands = q.stands;
          same_name = q.same_name;
        }

-- ---- names

or_false : (b c : Bool) → not b || c ≡ false → (b ≡ true) × (c ≡ false)
or_false true c e = (refl, e)
or_false false c e = absurd cc

module _ (t : TableTree) where
  -- all the names are chains of the table
  abbrev pub There : List Text → Type 0
  There [] = Unit {0}
  There (n ∷ ns) = (is_some (chain_named t n) ≡ true) × There ns

  pub there : (ns : List Text) → list_any (λ name. not (is_some (chain_named t name))) ns ≡ false → There ns
  there [] e = tt
  there (n ∷ ns) e = let q = or_false (is_some (chain_named t n)) _ e in (q.0, there ns q.1)

  left : (ms ns : List Text) → There (ms ++ ns) → There ms
  left [] ns h = tt
  left (m ∷ ms) ns h = (h.0, left ms ns h.1)

  right : (ms ns : List Text) → There (ms ++ ns) → There ns
  right [] ns h = h
  right (m ∷ ms) ns h = right ms ns h.1

  -- all names in the chains and maps of the table
  pub chains_there : (items : List ItemTree) → There (flat_map item_targets items)
      → Every (λ c. There (flat_map rule_targets c.rules)) (filter_map chain_in items)
  chains_there [] h = tt
  chains_there (tree.chain c ∷ items) h = (left (flat_map rule_targets c.rules) _ h, chains_there items (right (flat_map rule_targets c.rules) _ h))
  chains_there (tree.comment text ∷ items) h = chains_there items h
  chains_there (tree.set s ∷ items) h = chains_there items h
  chains_there (tree.map_item m ∷ items) h = chains_there items (right (pair_targets (some_of m.elements)) _ h)

  maps_there : (items : List ItemTree) → There (flat_map item_targets items) → Every (λ m. There (pair_targets (some_of m.elements))) (filter_map map_in items)
  maps_there [] h = tt
  maps_there (tree.map_item m ∷ items) h = (left (pair_targets (some_of m.elements)) _ h, maps_there items (right (pair_targets (some_of m.elements)) _ h))
  maps_there (tree.comment text ∷ items) h = maps_there items h
  maps_there (tree.set s ∷ items) h = maps_there items h
  maps_there (tree.chain c ∷ items) h = maps_there items (right (flat_map rule_targets c.rules) _ h)

-- ---- costs

module _ (cost : Caller → ℕ) where
  greatest_left : (xs ys : List (Call Caller)) → greatest cost xs ≤ greatest cost (xs ++ ys)
  greatest_left [] ys = omega arith
  greatest_left (x ∷ xs) ys = omega (arith, greatest_left xs ys)

  greatest_right : (xs ys : List (Call Caller)) → greatest cost ys ≤ greatest cost (xs ++ ys)
  greatest_right [] ys = omega arith
  greatest_right (x ∷ xs) ys = omega (arith, greatest_right xs ys)

  cost_append : (xs ys : List (List (Call Caller))) → chain_cost cost (xs ++ ys) ≡ chain_cost cost xs + chain_cost cost ys
  cost_append [] ys = omega arith
  cost_append (x ∷ xs) ys = omega (arith, cost_append xs ys)

  module _ (network : PlantTree) (number : ℕ) (t : TableTree) where
    abbrev pub Good : Statement → Type 0
    Good s = There t (statement_targets s)

    abbrev p : Program Statement
    p = table_program network number t

    rule_good : (ss : List Statement) → There t (flat_map statement_targets ss) → GoodRule p (weight_by cost) Good ss
    rule_good [] h = tt
    rule_good (s ∷ ss) h = (left t (statement_targets s) _ h, rule_good ss (right t (statement_targets s) _ h))

    pub rules_good : (rs : List RuleTree) → There t (flat_map rule_targets rs) → GoodRules p (weight_by cost) Good (map (λ r. r.statements) rs)
    rules_good [] h = tt
    rules_good (r ∷ rs) h = (rule_good r.statements (left t (rule_targets r) _ h), rules_good rs (right t (rule_targets r) _ h))

    rule_weighs : (ss : List Statement) → running.rule_weight p (weight_by cost) Good ss ≡ chain_cost cost (map statement_calls ss)
    rule_weighs [] = refl
    rule_weighs (s ∷ ss) = omega (arith, rule_weighs ss)

    pub rules_weigh : (rs : List RuleTree) → rules_weight p (weight_by cost) Good (map (λ r. r.statements) rs)
        ≡ chain_cost cost (map statement_calls (flat_map (λ r. r.statements) rs))
    rules_weigh [] = refl
    rules_weigh (r ∷ rs) = grind (arith, map-append, r.statements, flat_map, cost_append, rule_weighs, (rules_weigh rs))

    module _ (are : AreCosts t cost) (whole : There t (targets_of t)) where
      lighter_at : (s : Statement) (name : Text) (o : Option ChainTree) → chain_named t name ≡ o → is_some o ≡ true
          → cost (a_chain name) < weight_by cost s → Lighter p (weight_by cost) Good s (chain_number t name)
      lighter_at s name None found e less = absurd cc
      lighter_at s name (Some c) found e less =
          let q = placed (chains_of t) name c found in
          let weighs = are (a_chain name) ∙ ap (λ o. node_cost cost (chain_node o)) found in
          record {
            chain = map (λ r. r.statements) c.rules;
            stands = ap (λ i. p.rules_at (unwrap_or i (length (chains_of t)))) q.is
                ∙ ap (option_map (λ (x : ChainTree). map (λ r. r.statements) x.rules)) q.stands;
            good = rules_good c.rules (every_found (λ x. There t (flat_map rule_targets x.rules))
                (λ x. bytes_eq x.name name) (chains_of t) c found (chains_there t t.items whole));
            less = omega (arith, weighs, rules_weigh c.rules, less);
          }

      -- the target of each verdict of the statement exists, and costs less
      one_there : (o : Option Text) (ns : List Text) → There t (cons_option o ns) → There t (one_or_none o) × There t ns
      one_there None ns h = (tt, h)
      one_there (Some n) ns h = ((h.0, tt), h.1)

      there_among : (ps : List PairTree) (v : VerdictTree) → There t (pair_targets ps) → Among ps v → There t (one_or_none (target_of v))
      there_among [] v h has = absurd (Contains-none _ has)
      there_among (x ∷ xs) v h has =
          let q = one_there (data_target x.value) (pair_targets xs) h in
          elim (Contains-cases x.value (tree.to_verdict v) (map (λ y. y.value) xs) has) [
            | inl e ↦ subst (λ (d : DataTree). There t (one_or_none (data_target d))) e q.0
            | inr later ↦
                there_among xs v q.1 later
          ]

      least_among : (ps : List PairTree) (v : VerdictTree) → Among ps v → greatest cost (verdict_calls v) ≤ greatest cost (pair_calls ps)
      least_among [] v has = absurd (Contains-none _ has)
      least_among (x ∷ xs) v has =
          elim (Contains-cases x.value (tree.to_verdict v) (map (λ y. y.value) xs) has) [
            | inl e ↦ omega (
              arith,
              ap (λ (d : DataTree). greatest cost (data_calls d)) e,
              greatest_left (data_calls x.value) (pair_calls xs),
            )
            | inr later ↦ omega
                (arith, least_among xs v later, greatest_right (data_calls x.value) (pair_calls xs))
          ]

      pub there_chosen : (s : Statement) (v : VerdictTree) → Good s → Chooses t s v → There t (one_or_none (target_of v))
      there_chosen s v h verdicts.itself = h
      there_chosen s v h (verdicts.of_pairs {ps = ps} has) = there_among ps v h has
      there_chosen s v h (verdicts.of_map {name = name} m found has) =
          there_among (some_of m.elements) v (every_found (λ x. There t (pair_targets (some_of x.elements)))
          (λ x. bytes_eq x.name name) (maps_of t) m found (maps_there t t.items whole)) has

      pub less_chosen : (s : Statement) (v : VerdictTree) → Chooses t s v → greatest cost (verdict_calls v) < weight_by cost s
      less_chosen s v verdicts.itself = omega arith
      less_chosen s v (verdicts.of_pairs {ps = ps} has) = omega (arith, least_among ps v has)
      less_chosen s v (verdicts.of_map {name = name} m found has) = grind (arith, least_among, m.elements)

      lighter : (s : Statement) (i : ℕ) (name : Text) → chain_number t name ≡ i → is_some (chain_named t name) ≡ true
          → cost (a_chain name) < weight_by cost s → Lighter p (weight_by cost) Good s i
      lighter s i name is h less = subst (Lighter p (weight_by cost) Good s) is (lighter_at s name (chain_named t name) refl h less)

      leads : (s : Statement) → Good s → (d : RuleVerdict) → Decides t s d → Leads p (weight_by cost) Good s d
      leads s h decisions.Accept q = tt
      leads s h decisions.Drop q = tt
      leads s h decisions.Continue q = tt
      leads s h decisions.Return q = tt
      leads s h (decisions.Translate x) q = tt
      leads s h (decisions.Jump i) q = lighter s i q.0 q.1 (there_chosen s (tree.jump q.0) h q.2).0 (omega (arith, less_chosen s (tree.jump q.0) q.2))
      leads s h (decisions.Goto i) q = lighter s i q.0 q.1 (there_chosen s (tree.goto q.0) h q.2).0 (omega (arith, less_chosen s (tree.goto q.0) q.2))

      pub falls : Falls p (weight_by cost) Good
      falls s h at f d is = leads s h d (decides t network s at f d is)
