-- Costs and depths are a ranking of a table's program.
use Rattle.std.proofs.Common.{◌≡◌, ℕ, zero, suc, ◌+◌, ◌<◌, ◌≤◌, Bool, true, false, cond, if◌then◌else◌, List, [], ◌∷◌}
use Rattle.std.proofs.Common.{◌++◌, length, get_or, map, flat_map, find, sum_by, slice_get, slice_index, Contains}
use Rattle.std.proofs.Common.{Option, Some, None, is_some, unwrap_or, option_map, refl, sym, ap, ap₂, ◌∙◌, subst, ◌⊎◌}
use Rattle.std.proofs.Common.{inl, inr, arith}
use Rattle.std.specs.Str.{bytes_eq}
use Rattle.std.proofs.lemmas.Bool.{cases_lt}
use Rattle.std.proofs.lemmas.List.{length-map}
use Rattle.std.proofs.lemmas.List.Sums.{sum_by-cons}
use Rattle.std.proofs.lemmas.List.Elements.{Contains-append_left, Contains-append_right}
use Rattle.std.proofs.lemmas.Slice.Eq.{bytes_eq-Decides}
use Rattle.list_laws.specs.Lists.{Contains-head}
use Rattle.nft_tree.specs.Tree as tree
use Rattle.nft_tree.specs.Tree.{Text, VerdictTree, PairTree, Statement, RuleTree, ChainTree, TableTree}
use Rattle.nft_tree.specs.TableItems.{chains_of}
use Rattle.box_file.specs.Box.{PlantTree}
use Rattle.chain_graph.specs.Graph.{Call, identity, calls_in, IsPath, jumps, node_cost}
use Rattle.rule_names.specs.Names.{HasDuplicate, chain_named, chain_names, rule_targets, some_of, targets_of}
use Rattle.list_laws.specs.Decisions.{Contains-none, Contains-there, Contains-cases}
use Rattle.rule_paths.specs.Paths.{Caller, a_chain, a_map, verdict_calls, data_calls, pair_calls, statement_calls}
use Rattle.rule_paths.specs.Paths.{statements_of, chain_node, map_node, CallsOf, AreCosts, MAX_JUMPS, HasDeepPath}
use Rattle.rule_paths.specs.Findings.{HasDepth, AreChainDepths}
use Rattle.rule_meaning.specs.declared.facts.Facts.{Facts}
use Rattle.rule_meaning.specs.declared.event.StatementPosition.{StatementPosition}
use Rattle.rule_meaning.specs.declared.event.RuleVerdict.TheVariants.{Jump, Goto}
use Rattle.rule_meaning.specs.Statements.{give, chain_number}
use Rattle.rule_meaning.specs.Runs.{Program, table_program}
use Rattle.rule_laws.specs.Ranking.{IsStatementOf, IsRanking, weight_by, cost_of, chain_cost_by}
use Rattle.rule_laws.proofs.Lists.{every_got}
use Rattle.rule_laws.proofs.Running.{rule_weight, rules_weight, GoodRule, GoodRules}
use Rattle.rule_laws.proofs.Verdicts as verdicts
use Rattle.rule_laws.proofs.Verdicts.{Among, Chooses, decides}
use Rattle.rule_laws.proofs.Tables.{placed, There, chains_there, Good, rules_good, rules_weigh, there_chosen, less_chosen}

-- ---- elements

got_within : {A : Type 0} (xs : List A) (i : ℕ) (x : A) → slice_get xs i ≡ Some x → i < length xs
got_within [] i x e = absurd cc
got_within (y ∷ ys) zero x e = omega arith
got_within (y ∷ ys) (suc i) x e = omega (arith, got_within ys i x e)

-- ---- a chain by its own name, where names are unique

name_at : (cs : List ChainTree) (i : ℕ) (c : ChainTree) → slice_get cs i ≡ Some c → get_or (map (λ x. x.name) cs) i [] ≡ c.name
name_at [] i c e = absurd cc
name_at (x ∷ xs) zero c e = ap (λ o. (unwrap_or o x).name) e
name_at (x ∷ xs) (suc i) c e = name_at xs i c e

name_stands : (cs : List ChainTree) (i : ℕ) (c : ChainTree) → slice_get cs i ≡ Some c → Contains (map (λ x. x.name) cs) c.name
name_stands [] i c e = absurd cc
name_stands (x ∷ xs) zero c e = grind arith
name_stands (x ∷ xs) (suc i) c e = Contains-there x.name c.name (map (λ y. y.name) xs) (name_stands xs i c e)

twice_behind : (n : Text) (ns : List Text) → HasDuplicate ns → HasDuplicate (n ∷ ns)
twice_behind n ns r = record { first = suc r.first; second = suc r.second; apart = omega (arith, r.apart); within = omega (arith, r.within); same = r.same }

own_name : (cs : List ChainTree) (i : ℕ) (c : ChainTree) → slice_get cs i ≡ Some c
    → (HasDuplicate (map (λ x. x.name) cs) → ⊥) → find (λ x. bytes_eq x.name c.name) cs ≡ Some c
own_name [] i c e once = absurd cc
own_name (x ∷ xs) zero c e once = grind (arith, unwrap_or, bytes_eq-Decides, x.name, c.name)
own_name (x ∷ xs) (suc i) c e once = by_test (bytes_eq x.name c.name) refl (own_name xs i c e (λ r. once (twice_behind x.name (map (λ y. y.name) xs) r)))
  where
    by_test : (b : Bool) → bytes_eq x.name c.name ≡ b → find (λ y. bytes_eq y.name c.name) xs ≡ Some c
        → cond b (Some x) (find (λ y. bytes_eq y.name c.name) xs) ≡ Some c
    by_test true is later =
        let within : suc i < length (x.name ∷ map (λ y. y.name) xs) = omega (arith, got_within xs i c e, length-map xs (λ (y : ChainTree). y.name)) in
        absurd (once (record {
          first = 0;
          second = suc i;
          apart = omega arith;
          within = within;
          same =
              (bytes_eq-Decides x.name c.name).0 is ∙ sym (name_at xs i c e);
        }))
    by_test false is later = later

-- ---- paths

module _ {K : Type 0} (calls : K → Call K → Type 0) where
  path_append : (a b z : K) (es fs : List (Call K)) → IsPath calls a es b → IsPath calls b fs z → IsPath calls a (es ++ fs) z
  path_append a b z [] fs p q = subst (λ x. IsPath calls x fs z) (sym p) q
  path_append a b z (e ∷ es) fs p q = (p.0, path_append e.to b z es fs p.1 q)

jumps_append : {K : Type 0} (es fs : List (Call K)) → jumps (es ++ fs) ≡ jumps es + jumps fs
jumps_append [] fs = omega arith
jumps_append (e ∷ es) fs = omega (arith, jumps_append es fs)

-- ---- calls

in_pairs : (ps : List PairTree) (v : VerdictTree) (e : Call Caller) → Among ps v → Contains (verdict_calls v) e → Contains (pair_calls ps) e
in_pairs [] v e has called = absurd (Contains-none _ has)
in_pairs (x ∷ xs) v e has called =
    elim (Contains-cases x.value (tree.to_verdict v) (map (λ y. y.value) xs) has) [
      | inl is ↦ Contains-append_left (data_calls x.value) (pair_calls xs) e
          (subst (λ d. Contains (data_calls d) e) (sym is) called)
      | inr later ↦ Contains-append_right
          (data_calls x.value) (pair_calls xs) e (in_pairs xs v e later called)
    ]

in_statements : (rs : List RuleTree) (rule : List Statement) (s : Statement)
    → Contains (map (λ r. r.statements) rs) rule → Contains rule s → Contains (flat_map (λ r. r.statements) rs) s
in_statements [] rule s has in_rule = absurd (Contains-none _ has)
in_statements (r ∷ rs) rule s has in_rule =
    elim (Contains-cases r.statements rule (map (λ x. x.statements) rs) has) [
      | inl is ↦ Contains-append_left r.statements (flat_map (λ x. x.statements) rs) s
          (subst (λ l. Contains l s) (sym is) in_rule)
      | inr later ↦ Contains-append_right r.statements
          (flat_map (λ x. x.statements) rs) s (in_statements rs rule s later in_rule)
    ]

in_calls : (ss : List Statement) (s : Statement) (e : Call Caller) → Contains ss s → Contains (statement_calls s) e
    → Contains (flat_map identity (map statement_calls ss)) e
in_calls [] s e has called = absurd (Contains-none _ has)
in_calls (x ∷ xs) s e has called =
    elim (Contains-cases x s xs has) [
      | inl is ↦ Contains-append_left (statement_calls x)
          (flat_map identity (map statement_calls xs)) e (subst (λ y. Contains (statement_calls y) e) (sym is) called)
      | inr later ↦ Contains-append_right (statement_calls x) (flat_map identity (map statement_calls xs)) e
          (in_calls xs s e later called)
    ]

module _ (network : PlantTree) (number : ℕ) (t : TableTree) where
  abbrev p : Program Statement
  p = table_program network number t

  -- ---- the path to the chain of a verdict

  record CallPath (a : Caller) (e : Call Caller) : Type 0 where
    along : List (Call Caller)
    path : IsPath (CallsOf t) a along e.to
    as_deep : jumps along ≡ (if e.is_jump then 1 else 0)

  no_more : (b : Bool) → (if b then 1 else 0) + 0 ≡ (if b then 1 else 0)
  no_more true = refl
  no_more false = refl

  call_path : (a : Caller) (s : Statement) (v : VerdictTree) (e : Call Caller)
      → ((x : Call Caller) → Contains (statement_calls s) x → CallsOf t a x) → Chooses t s v
      → Contains (verdict_calls v) e → CallPath a e
  call_path a s v e calls verdicts.itself called = record { along = e ∷ []; path = (calls e called, refl); as_deep = no_more e.is_jump }
  call_path a s v e calls (verdicts.of_pairs {ps = ps} has) called =
      record { along = e ∷ []; path = (calls e (in_pairs ps v e has called), refl); as_deep = no_more e.is_jump }
  call_path a s v e calls (verdicts.of_map {name = name} m found has) called =
      let to_map : Call Caller = record { to = a_map name; is_jump = false } in
      let on : CallsOf t (a_map name) e = subst (λ o. Contains (calls_in (map_node o)) e) (sym found) (in_pairs (some_of m.elements) v e has called) in
      record { along = to_map ∷ e ∷ []; path = (calls to_map (Contains-head to_map []), (on, refl)); as_deep = omega (arith, no_more e.is_jump) }

  module _ (once : HasDuplicate (chain_names t) → ⊥) (whole : There t (targets_of t)) (cost : Caller → ℕ) (are : AreCosts t cost) where
    -- ---- costs

    sum_is : (ss : List Statement) → sum_by (weight_by cost) ss ≡ rule_weight p (weight_by cost) (Good cost network number t) ss
    sum_is [] = refl
    sum_is (s ∷ ss) = sum_by-cons (weight_by cost) s ss ∙ ap (λ n. weight_by cost s + n) (sum_is ss)

    sums_are : (rs : List (List Statement)) → sum_by (sum_by (weight_by cost)) rs ≡ rules_weight p (weight_by cost) (Good cost network number t) rs
    sums_are [] = refl
    sums_are (r ∷ rs) = sum_by-cons (sum_by (weight_by cost)) r rs ∙ ap₂ (λ m n. m + n) (sum_is r) (sums_are rs)

    -- the cost of a chain of the table
    costs_at : (i : ℕ) (c : ChainTree) → slice_get (chains_of t) i ≡ Some c → cost (a_chain c.name)
        ≡ sum_by (sum_by (weight_by cost)) (map (λ r. r.statements) c.rules)
    costs_at i c at = are (a_chain c.name) ∙ ap (λ o. node_cost cost (chain_node o))
        (own_name (chains_of t) i c at once) ∙ sym (rules_weigh cost network number t c.rules)
        ∙ sym (sums_are (map (λ r. r.statements) c.rules))

    sums_at : (i : ℕ) (rules : List (List Statement)) (o : Option ChainTree) → slice_get (chains_of t) i ≡ o
        → option_map (λ (c : ChainTree). map (λ r. r.statements) c.rules) o ≡ Some rules
        → sum_by (sum_by (weight_by cost)) rules ≤ cost_of cost o
    sums_at i rules None at is = absurd cc
    sums_at i rules (Some c) at is = grind (arith, sum_by, unwrap_or, costs_at)

    -- ---- depths

    module _ (deep : HasDeepPath t → ⊥) (depths : List ℕ) (depths_are : AreChainDepths t depths) where
      depth_at : (i : ℕ) (c : ChainTree) → slice_get (chains_of t) i ≡ Some c → HasDepth t (a_chain c.name) (slice_index depths i)
      depth_at i c at = grind (arith, slice_index, name_at, got_within)

      bounded : (i : ℕ) (c : ChainTree) → slice_get (chains_of t) i ≡ Some c → (b : Caller) (es : List (Call Caller))
          → IsPath (CallsOf t) (a_chain c.name) es b → jumps es ≤ MAX_JUMPS
      bounded i c at b es path = by_test (cases_lt MAX_JUMPS (jumps es))
        where
          by_test : (MAX_JUMPS < jumps es) ⊎ (jumps es ≤ MAX_JUMPS) → jumps es ≤ MAX_JUMPS
          by_test (inl over) =
              absurd (deep (record {
                chain = c.name;
                member = name_stands (chains_of t) i c at;
                path =
                    record { from = a_chain c.name; to = b; along = es; path = path; over = omega (arith, over) };
                begins = refl;
              }))
          by_test (inr within) = within

      deeper : (i j : ℕ) (c d : ChainTree) (es : List (Call Caller)) → slice_get (chains_of t) i ≡ Some c
          → slice_get (chains_of t) j ≡ Some d → IsPath (CallsOf t) (a_chain c.name) es (a_chain d.name)
          → slice_index depths j + jumps es ≤ slice_index depths i
      deeper i j c d es at_i at_j path =
          let from = depth_at i c at_i in
          let on = depth_at j d at_j in
          let whole_path = path_append (CallsOf t) (a_chain c.name) (a_chain d.name) on.to es on.along path on.path in
          let n = jumps_append es on.along in
          let few = bounded i c at_i on.to (es ++ on.along) whole_path in
          let most = from.most on.to (es ++ on.along) whole_path in
          let least = on.deep in
          omega arith

      -- ---- a statement of a chain

      -- the chain with a name
      record Target (name : Text) (i : ℕ) : Type 0 where
        chain : ChainTree
        stands : slice_get (chains_of t) i ≡ Some chain
        same_name : chain.name ≡ name

      target : (name : Text) (i : ℕ) → chain_number t name ≡ i → (o : Option ChainTree) → chain_named t name ≡ o → is_some o ≡ true → Target name i
      target name i is None found e = absurd cc
      target name i is (Some c) found e =
          let q = placed (chains_of t) name c found in
          let there : i ≡ q.place = sym is ∙ ap (λ o. unwrap_or o (length (chains_of t))) q.is in
          record { chain = c; stands = ap (slice_get (chains_of t)) there ∙ q.stands; same_name = q.same_name }

      good_in_rule : (ss : List Statement) (s : Statement) → GoodRule p (weight_by cost) (Good cost network number t) ss
          → Contains ss s → Good cost network number t s
      good_in_rule [] s h has = absurd (Contains-none s has)
      good_in_rule (x ∷ xs) s h has = elim (Contains-cases x s xs has)
          [ inl e ↦ subst (Good cost network number t) e h.0 | inr later ↦ good_in_rule xs s h.1 later ]

      good_in : (rs : List (List Statement)) (rule : List Statement) (s : Statement)
          → GoodRules p (weight_by cost) (Good cost network number t) rs → Contains rs rule → Contains rule s
          → Good cost network number t s
      good_in [] rule s h has in_rule = absurd (Contains-none rule has)
      good_in (r ∷ rs) rule s h has in_rule =
          elim (Contains-cases r rule rs has) [
            | inl e ↦ good_in_rule rule s
                (subst (GoodRule p (weight_by cost) (Good cost network number t)) e h.0) in_rule
            | inr later ↦ good_in rs
                rule s h.1 later in_rule
          ]

      -- its target costs less, and is that much less deep
      abbrev Falls : ℕ → ℕ → Statement → ℕ → Type 0
      Falls c d s n = (chain_cost_by t cost d + 1 ≤ weight_by cost s) × (slice_index depths d + n ≤ slice_index depths c)

      module _ (c d : ℕ) (s : Statement) (name : Text) (v : VerdictTree) (e : Call Caller) (to : e.to ≡ a_chain name)
          (called : Contains (verdict_calls v) e) (is : chain_number t name ≡ d) (chosen : Chooses t s v)
          (there : Good cost network number t s → is_some (chain_named t name) ≡ true)
          (less : cost (a_chain name) < weight_by cost s) where
        falls_from : (x : ChainTree) → slice_get (chains_of t) c ≡ Some x → (rule : List Statement)
            → Contains (map (λ r. r.statements) x.rules) rule → Contains rule s → Falls c d s (if e.is_jump then 1 else 0)
        falls_from x at rule in_chain in_rule =
            let good : Good cost network number t s =
            good_in (map (λ r. r.statements) x.rules) rule s
            (rules_good cost network number t x.rules
            (every_got (λ y. There t (flat_map rule_targets y.rules)) (chains_of t) c x
            at (chains_there t t.items whole))) in_chain in_rule in
            let goal = target name d is (chain_named t name) refl (there good) in
            let calls = in_calls (statements_of x) s in
            let on : CallPath (a_chain x.name) e =
            call_path (a_chain x.name) s v e (λ y has. subst (λ o. Contains (calls_in (chain_node o)) y)
            (sym (own_name (chains_of t) c x at once))
            (calls y (in_statements x.rules rule s in_chain in_rule) has)) chosen called in
            let path = subst (IsPath (CallsOf t) (a_chain x.name) on.along) (to ∙ ap a_chain (sym goal.same_name)) on.path in
            let costs : chain_cost_by t cost d ≡ cost (a_chain name) = ap (cost_of cost) goal.stands ∙ ap (λ n. cost (a_chain n)) goal.same_name in
            (omega (arith, costs, less), omega (arith, deeper c d x goal.chain on.along at goal.stands path, on.as_deep))

        falls_by : (o : Option ChainTree) → slice_get (chains_of t) c ≡ o → (rules : List (List Statement))
            → option_map (λ (x : ChainTree). map (λ r. r.statements) x.rules) o ≡ Some rules → (rule : List Statement)
            → Contains rules rule → Contains rule s → Falls c d s (if e.is_jump then 1 else 0)
        falls_by None at rules has rule in_chain in_rule = absurd cc
        falls_by (Some x) at rules has rule in_chain in_rule =
            let same : map (λ r. r.statements) x.rules ≡ rules = ap (λ o. unwrap_or o rules) has in
            falls_from x at rule (subst (λ l. Contains l rule) (sym same) in_chain) in_rule

      falls_jump : (c d : ℕ) (s : Statement) (at : StatementPosition) (f : Facts) → IsStatementOf p c s → p.effect_of at s f ≡ give (Jump d) → Falls c d s 1
      falls_jump c d s at f stands effect_of =
          let q = decides t network s at f (Jump d) effect_of in
          let e : Call Caller = record { to = a_chain q.0; is_jump = true } in
          let less = less_chosen cost network number t are whole s (tree.jump q.0) q.2 in
          falls_by c d s q.0 (tree.jump q.0) e refl (Contains-head e []) q.1 q.2
          (λ good. (there_chosen cost network number t are whole s (tree.jump q.0) good q.2).0)
          (omega (arith, less)) (slice_get (chains_of t) c) refl stands.rules stands.has stands.rule
          stands.in_chain stands.in_rule

      falls_goto : (c d : ℕ) (s : Statement) (at : StatementPosition) (f : Facts) → IsStatementOf p c s → p.effect_of at s f ≡ give (Goto d) → Falls c d s 0
      falls_goto c d s at f stands effect_of =
          let q = decides t network s at f (Goto d) effect_of in
          let e : Call Caller = record { to = a_chain q.0; is_jump = false } in
          let less = less_chosen cost network number t are whole s (tree.goto q.0) q.2 in
          falls_by c d s q.0 (tree.goto q.0) e refl (Contains-head e []) q.1 q.2
          (λ good. (there_chosen cost network number t are whole s (tree.goto q.0) good q.2).0)
          (omega (arith, less)) (slice_get (chains_of t) c) refl stands.rules stands.has stands.rule
          stands.in_chain stands.in_rule

      pub costs_rank_chains : IsRanking p (weight_by cost) (chain_cost_by t cost) (λ c. slice_index depths c)
      costs_rank_chains = record {
        some = λ s. omega arith;
        sums = λ c rules has. sums_at c rules (slice_get (chains_of t) c) refl has;
        jumps = falls_jump;
        gotos = λ c d s at f stands effect_of. let q = falls_goto c d s at f stands effect_of in (q.0, omega (arith, q.1));
      }
