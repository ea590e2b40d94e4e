-- From the analysis of the graph of a table to the findings about its chains, about tables, and about rulesets.
use Rattle.std.proofs.Common.{◌≡◌, ℕ, zero, suc, ◌+◌, ◌-◌, ◌<◌, ◌≤◌, ◌⊎◌, max, List, [], ◌∷◌, ◌++◌, Some, Bool, false, ◌||◌, nat_lt}
use Rattle.std.proofs.Common.{length, get_or, map, take, replicate, flat_map, sym, refl, ap, ap₂, subst, ◌∙◌, inl, inr, arith, Vec, Global}
use Rattle.std.proofs.Common.{ltb-true, lt-ltb, get_or-take, Contains}
use Rattle.std.specs.Prelude.{IsTrue, ◌↔◌}
use Rattle.std.specs.List.{list_any}
use Rattle.std.proofs.lemmas.List.{ext_get_or, length-map, length-take-le, get_or_default, get_or_append_left, length_push}
use Rattle.std.proofs.lemmas.List.{get_or_push, map-append}
use Rattle.std.proofs.lemmas.List.Folds.{list_any_at, Any-from_list_any}
use Rattle.std.proofs.lemmas.List.Elements.{Contains-push_cases, Contains-push, Contains-append_left}
use Rattle.std.proofs.lemmas.List.Sums.{sum_by_push}
use Rattle.std.proofs.lemmas.Bool.{cases_lt}
use Rattle.list_laws.specs.Elements.{Contains-at, Contains-map, Contains-unmap}
use Rattle.nft_tree.specs.Tree.{Text, Statement, ChainTree, TableTree}
use Rattle.nft_tree.specs.TableItems.{chains_of}
use Rattle.rule_names.specs.Names.{chain_names}
use Rattle.chain_graph.specs.Graph.{Call, NodeTree, chain, verdict_map, identity, calls_in, IsPath, jumps, HasCycle, greatest}
use Rattle.chain_graph.specs.Graph.{chain_cost, node_cost}
use Rattle.chain_graph.specs.declared.analysis.GraphAnalysis.{GraphAnalysis}
use Rattle.chain_graph.specs.Nodes.{Graph, Calls, calls_of, node_at, InRange}
use Rattle.chain_graph.specs.Measures.{saturated, IsDepth, IsAnalysisOf, ReachesMarked}
use Rattle.rule_paths.specs.Paths.{Caller, a_chain, a_map, CallsOf, AreCosts, table_cost, node_of, HasDeepPath, chain_has, caller_has}
use Rattle.rule_paths.specs.Paths.{MAX_COST, Cycles}
use Rattle.rule_paths.specs.Findings.{HasDepth, AreChainCosts, AreChainDepths, numbers_at, AreFindings}
use Rattle.rule_paths.specs.declared.analysis.Findings.{Findings}
use Rattle.rule_paths.specs.declared.marks.NatKind.{NatKind}
use Rattle.rule_paths.specs.declared.table.TableFindings.{TableFindings}
use Rattle.rule_paths.specs.steps.Index.{chain_count, index_of, numbered_call, numbered, IsTableGraph, translates, marks_of, ReachesMisplaced}
use Rattle.rule_paths.specs.steps.Tables.{MisplacesAs, MisplacesIn, AreRows, AreTableFindings, SomeTable, AreFindingsSoFar}
use Rattle.rule_paths.proofs.Callers.{read, read-left, read-right, look-chain, look-map, none_empty, deep_path_as, misplaces_as, Leads, one_cost}
use Rattle.rule_paths.proofs.Callers.{cost_of, costs, deep_as, nat_as, to_costly}

-- ==== From the graph of a table to its chains.

-- ---- nodes

map-flat : {X Y : Type 0} (f : X → Y) (xss : List (List X)) → map f (flat_map identity xss) ≡ flat_map identity (map (map f) xss)
map-flat f [] = refl
map-flat f (xs ∷ xss) = map-append f xs (flat_map identity xss) ∙ ap (λ ys. map f xs ++ ys) (map-flat f xss)

module _ {K : Type 0} (number : K → ℕ) where
  calls-numbered : (n : NodeTree K) → calls_in (numbered number n) ≡ map (numbered_call number) (calls_in n)
  calls-numbered (chain ss) = sym (map-flat (numbered_call number) ss)
  calls-numbered (verdict_map es) = refl

  greatest-numbered : (f : ℕ → ℕ) (es : List (Call K)) → greatest f (map (numbered_call number) es) ≡ greatest (λ a. f (number a)) es
  greatest-numbered f [] = refl
  greatest-numbered f (e ∷ es) = ap (max (f (number e.to))) (greatest-numbered f es)

  chain-numbered : (f : ℕ → ℕ) (ss : List (List (Call K))) → chain_cost f (map (map (numbered_call number)) ss) ≡ chain_cost (λ a. f (number a)) ss
  chain-numbered f [] = refl
  chain-numbered f (es ∷ ss) = ap₂ (λ x y. 1 + x + y) (greatest-numbered f es) (chain-numbered f ss)

  cost-numbered : (f : ℕ → ℕ) (n : NodeTree K) → node_cost f (numbered number n) ≡ node_cost (λ a. f (number a)) n
  cost-numbered f (chain ss) = chain-numbered f ss
  cost-numbered f (verdict_map es) = greatest-numbered f es

  jumps-numbered : (es : List (Call K)) → jumps (map (numbered_call number) es) ≡ jumps es
  jumps-numbered [] = refl
  jumps-numbered (e ∷ es) = omega (arith, jumps-numbered es)

-- ---- marks

replicate-false : (n i : ℕ) → get_or (replicate n false) i false ≡ false
replicate-false zero i = refl
replicate-false (suc n) zero = refl
replicate-false (suc n) (suc i) = replicate-false n i

module _ (test : Statement → Bool) (count : ℕ) (t : TableTree) where
  unmarked : (i : ℕ) → chain_count t ≤ i → get_or (marks_of test count t) i false ≡ false
  unmarked i h = read-right (λ (c : ChainTree). chain_has test (Some c)) (chains_of t) _ false i (i - chain_count t) (omega (arith, h))
      ∙ replicate-false (count - chain_count t) (i - chain_count t)

  mark : (a : Caller) → get_or (marks_of test count t) (index_of t a) false ≡ caller_has test t a
  mark (a_chain name) = elim (look-chain t name) [
    | inl r ↦ rw (r.at, r.finds) (read-left (λ (c : ChainTree). chain_has test (Some c)) (chains_of t) _ false r.index r.item r.within r.is)
    | inr r ↦ rw r.finds (unmarked (index_of t (a_chain name)) (rw r.at (omega arith)))
  ]
  mark (a_map name) = unmarked (index_of t (a_map name)) (elim (look-map t name) [ inl r ↦ rw r.at (omega arith) | inr r ↦ rw r.at (omega arith) ])

module _ (t : TableTree) (g : Graph) (s : IsTableGraph t g) where
  -- ---- paths, by name and by index

  abbrev by_index : List (Call Caller) → List (Call ℕ)
  by_index es = map (numbered_call (index_of t)) es

  calls-at : (a : Caller) (i : ℕ) → index_of t a ≡ i → calls_of g i ≡ by_index (calls_in (node_of t a))
  calls-at a i is = ap (calls_of g) (sym is) ∙ ap calls_in (s.node a) ∙ calls-numbered (index_of t) (node_of t a)

  path-down : (a : Caller) (i : ℕ) → index_of t a ≡ i → (es : List (Call Caller)) (b : Caller) → IsPath (CallsOf t) a es b
      → IsPath (Calls g) i (by_index es) (index_of t b)
  path-down a i is [] b p = sym is ∙ ap (index_of t) p
  path-down a i is (e ∷ es) b p = (
    subst (λ xs. Contains xs (numbered_call (index_of t) e)) (sym (calls-at a i is)) (Contains-map (numbered_call (index_of t)) (calls_in (node_of t a)) e p.0),
    path-down e.to (index_of t e.to) refl es b p.1,
  )

  call-up : (a : Caller) (i : ℕ) → index_of t a ≡ i → (x : Call ℕ) → Calls g i x
      → (e : Call Caller) × CallsOf t a e × (numbered_call (index_of t) e ≡ x)
  call-up a i is x h = Contains-unmap (numbered_call (index_of t)) (calls_in (node_of t a)) x (subst (λ xs. Contains xs x) (calls-at a i is) h)

  path-up : (a : Caller) (i : ℕ) → index_of t a ≡ i → (xs : List (Call ℕ)) (j : ℕ) → IsPath (Calls g) i xs j
      → (es : List (Call Caller)) × (b : Caller) × IsPath (CallsOf t) a es b × (index_of t b ≡ j) × (by_index es ≡ xs)
  path-up a i is [] j p = ([], a, refl, is ∙ p, refl)
  path-up a i is (x ∷ xs) j p =
      let c = call-up a i is x p.0 in
      let more = path-up c.0.to x.to (ap (λ (e : Call ℕ). e.to) c.2) xs j p.1 in
      (c.0 ∷ more.0, more.1, (c.1, more.2), more.3, ap₂ (λ y ys. y ∷ ys) c.2 more.4)

  -- a node with calls has a key
  caller : (i : ℕ) (x : Call ℕ) → Calls g i x → (a : Caller) × (index_of t a ≡ i)
  caller i x h = elim (s.back i) [ inl a ↦ a | inr none ↦ absurd (none_empty (node_at g i) x none h) ]

  pub in-range : (n : ℕ) → n ≡ length g → InRange g n
  in-range n long i x h =
      let a = caller i x h in
      let c = call-up a.0 i a.1 x h in
      let is : index_of t c.0.to ≡ x.to = ap (λ (e : Call ℕ). e.to) c.2 in
      omega (arith, s.inside c.0.to)

  pub cycle-up : HasCycle (Calls g) → HasCycle (CallsOf t)
  cycle-up k =
      let a = caller k.chain k.first k.path.0 in
      let c = call-up a.0 k.chain a.1 k.first k.path.0 in
      let more = path-up c.0.to k.first.to (ap (λ (e : Call ℕ). e.to) c.2) k.rest k.chain k.path.1 in
      let same : a.0 ≡ more.1 = elim (s.apart a.0 more.1 (a.1 ∙ sym more.3)) [ inl e ↦ e | inr none ↦ absurd (none_empty (node_of t a.0) c.0 none c.1) ] in
      record { chain = a.0; first = c.0; rest = more.0; path = (c.1, subst (IsPath (CallsOf t) c.0.to more.0) (sym same) more.2) }

  -- ---- depth

  has-depth : (a : Caller) (i : ℕ) → index_of t a ≡ i → (depth : ℕ) → IsDepth g i depth → HasDepth t a depth
  has-depth a i is depth d =
      let up = path-up a i is d.along d.to d.path in
      record {
        most = λ b es p. omega (arith, d.most (index_of t b) (by_index es) (path-down a i is es b p), jumps-numbered (index_of t) es);
        to = up.1;
        along = up.0;
        path = up.2;
        deep = omega (arith, jumps-numbered (index_of t) up.0, ap jumps up.4, d.deep);
      }

  -- ---- the first entries of the analysis, which are those of the chains

  module _ (analysis : GraphAnalysis) (j : IsAnalysisOf g analysis) where
    table-cycle : HasCycle (CallsOf t) → ⊥
    table-cycle k = j.acyclic (record {
      chain = index_of t k.chain;
      first = numbered_call (index_of t) k.first;
      rest = by_index k.rest;
      path = path-down k.chain (index_of t k.chain) refl (k.first ∷ k.rest) k.chain k.path;
    })

    analysis-depths : AreChainDepths t (take (chain_count t) analysis.depths.items)
    analysis-depths =
        let n : length (take (chain_count t) analysis.depths.items) ≡ chain_count t =
        length-take-le (chain_count t) analysis.depths.items (omega (arith, s.long, j.depths_long)) in
        record {
          long = n;
          are = λ i h. let l : i < chain_count t = omega arith in
              has-depth (a_chain (get_or (chain_names t) i [])) i (s.first i l) _
              (subst (IsDepth g i) (sym (get_or-take (chain_count t) analysis.depths.items i 0 l)) (j.depths i (omega (arith, s.long))));
        }

    pub analysis-costs : AreChainCosts t (take (chain_count t) analysis.costs.items)
    analysis-costs =
        let cost = j.has_costs.0 in
        let up : AreCosts t (λ a. cost (index_of t a)) =
        λ a. j.has_costs.1 (index_of t a) (s.inside a) ∙ ap (node_cost cost) (s.node a) ∙ cost-numbered (index_of t) cost (node_of t a) in
        let n = length-take-le (chain_count t) analysis.costs.items (omega (arith, s.long, j.costs_long)) in
        record {
          are = λ f are. ext_get_or 0 (take (chain_count t) analysis.costs.items) (map (λ c. saturated (f (a_chain c.name))) (chains_of t))
              (n ∙ sym (length-map (chains_of t) (λ c. saturated (f (a_chain c.name)))))
              (λ i h. let l : i < chain_count t = omega (arith, h, n) in
              get_or-take (chain_count t) analysis.costs.items i 0 l
              ∙ j.costs cost j.has_costs.1 i (omega (arith, s.long)) ∙ ap (λ k. saturated (cost k)) (sym (s.first i l))
              ∙ ap saturated (one_cost t table-cycle (λ b. cost (index_of t b)) f up are (a_chain (get_or (chain_names t) i [])))
              ∙ sym (by-name (λ x. saturated (f (a_chain x))) (chains_of t) i l));
          has_costs = (λ a. cost (index_of t a), up);
        }
      where
        by-name : (f : Text → ℕ) (cs : List ChainTree) (i : ℕ) → i < length cs
            → get_or (map (λ c. f c.name) cs) i 0 ≡ f (get_or (map (λ c. c.name) cs) i [])
        by-name f [] i h = absurd (omega (arith, h))
        by-name f (c ∷ cs) zero h = refl
        by-name f (c ∷ cs) (suc i) h = by-name f cs i (omega (arith, h))

    too-deep : (depths : List ℕ) → AreChainDepths t depths → IsTrue (list_any (λ d. nat_lt 16 d) depths) ↔ HasDeepPath t
    too-deep depths known =
        let n = length-map (chains_of t) (λ (c : ChainTree). c.name) in (
          λ h.
              let at = Any-from_list_any (λ d. nat_lt 16 d) depths h in
              let has = known.are at.0 at.2 in
              let over : 16 < at.1 = ltb-true 16 at.1 at.4 in
              let is = get_or_default depths at.0 0 at.1 at.2 ∙ at.3 in
              let name = get_or (chain_names t) at.0 [] in
              (deep_path_as t).0 (
                name,
                Contains-at (chain_names t) at.0 [] name (omega (arith, at.2, known.long)) refl,
                (has.along, has.to, has.path, omega (arith, has.deep)),
              ),
          λ k.
              let d = (deep_path_as t).1 k in
              let i = d.1.0 in
              let h : i < length depths = omega (arith, d.1.1, known.long) in
              let has : HasDepth t (a_chain d.0) (get_or depths i 0) =
              subst (λ name. HasDepth t (a_chain name) (get_or depths i 0)) (get_or_default (chain_names t) i [] d.0 d.1.1 ∙ d.1.2) (known.are i h) in
              list_any_at (λ d. nat_lt 16 d) depths i 0 h (lt-ltb 16 (get_or depths i 0) (omega (arith, has.most d.2.1 d.2.0 d.2.2, d.2.3))),
        )

    -- ---- all findings about a table

    pub table-findings : (found : TableFindings)
        → found.is_too_deep ≡ list_any (λ d. nat_lt 16 d) found.depths.items
        → (IsTrue found.misplaces_nat ↔ MisplacesIn t)
        → ((cost : Caller → ℕ) → AreCosts t cost → found.base_cost ≡ saturated (table_cost cost t))
        → found.costs.items ≡ take (chain_count t) analysis.costs.items
        → found.depths.items ≡ take (chain_count t) analysis.depths.items
        → AreTableFindings t found
    table-findings found deep nat base costs depths = grind (arith, found.depths.items, analysis-depths, table-cycle, analysis-costs, too-deep)

  -- ---- NAT

  module _ (kind : NatKind) (count : ℕ) (reaching : List Bool) (long : count ≡ length g) (known : (c : ℕ) → c < count
      → IsTrue (get_or reaching c false) ↔ ReachesMarked g (marks_of (translates kind) count t) c) where
    -- what is known of a chain's index, by its name
    leads : (c : ChainTree) (i : ℕ) → i < chain_count t → get_or (chains_of t) i c ≡ c → IsTrue (get_or reaching i false) ↔ Leads t kind c.name
    leads c i h e =
        let own : index_of t (a_chain c.name) ≡ i =
        ap (λ name. index_of t (a_chain name)) (sym (read (λ (c : ChainTree). c.name) (chains_of t) [] i c h e)) ∙ s.first i h in
        let marks = known i (omega (arith, h, s.long)) in (
          λ on.
              let l = marks.0 on in
              let up = path-up (a_chain c.name) i own l.along l.to l.path in
              record {
                to = up.1;
                along = up.0;
                path = up.2;
                good = sym (mark (translates kind) count t up.1) ∙ ap (λ k. get_or (marks_of (translates kind) count t) k false) up.3 ∙ l.good;
              },
          λ r. marks.1 (record {
            to = index_of t r.to;
            along = by_index r.along;
            path = path-down (a_chain c.name) i own r.along r.to r.path;
            good = mark (translates kind) count t r.to ∙ r.good;
          }),
        )

    pub misplaced : ReachesMisplaced kind (chains_of t) reaching ↔ MisplacesAs kind t
    misplaced = (
      λ w. (misplaces_as t kind).0 (w.0, w.1, (w.2, (leads w.0 w.1.0 w.1.1 w.1.2).0 w.3)),
      λ m. let n = (misplaces_as t kind).1 m in (n.0, n.1, n.2.0, (leads n.0 n.1.0 n.1.1 n.1.2).1 n.2.1),
    )

-- ==== From the findings about each table to those about all.

pub through : {A B C : Type 0} → (A ↔ B) → (B ↔ C) → A ↔ C
through p q = (λ a. q.0 (p.0 a), λ c. p.1 (q.1 c))

pub either : {P Q : Type 0} (a b : Bool) → (IsTrue a ↔ P) → (IsTrue b ↔ Q) → IsTrue (a || b) ↔ (P ⊎ Q)
either a b p q = grind arith

-- ---- one more table

module _ (ts : List TableTree) (t : TableTree) where
  some-more : (P : TableTree → Type 0) → (SomeTable P ts ⊎ P t) ↔ SomeTable P (ts ++ t ∷ [])
  some-more P = (
    λ h. elim h [ inl k ↦ (k.0, Contains-append_left ts (t ∷ []) k.0 k.1, k.2) | inr p ↦ (t, Contains-push ts t, p) ],
    λ k. elim (Contains-push_cases ts t k.0 k.1) [ inl at ↦ inl (k.0, at, k.2) | inr e ↦ inr (subst P (sym e) k.2) ],
  )

module _ (rows : List (Vec ℕ Global)) (row : Vec ℕ Global) where
  row-before : (i : ℕ) → i < length rows → numbers_at (rows ++ row ∷ []) i ≡ numbers_at rows i
  row-before i h = ap (λ xs. get_or xs i []) (map-append (λ (r : Vec ℕ Global). r.items) rows (row ∷ []))
      ∙ get_or_append_left (map (λ r. r.items) rows) (row.items ∷ []) [] i (omega (arith, h, length-map rows (λ r. r.items)))

  row-last : (i : ℕ) → length rows ≡ i → numbers_at (rows ++ row ∷ []) i ≡ row.items
  row-last i e = ap (λ xs. get_or xs i []) (map-append (λ (r : Vec ℕ Global). r.items) rows (row ∷ []))
      ∙ get_or_push (map (λ r. r.items) rows) row.items [] i (length-map rows (λ r. r.items) ∙ e)

pub none-so-far : AreFindingsSoFar [] false false 0 [] []
none-so-far = grind arith

pub more-so-far : (ts : List TableTree) (t : TableTree) (deep misplaced : Bool) (cost : ℕ) (costs depths : List (Vec ℕ Global))
    (found : TableFindings) → AreFindingsSoFar ts deep misplaced cost costs depths → AreTableFindings t found
    → AreFindingsSoFar (ts ++ t ∷ []) (deep || found.is_too_deep) (misplaced || found.misplaces_nat)
    (saturated (cost + found.base_cost)) (costs ++ found.costs ∷ []) (depths ++ found.depths ∷ [])
more-so-far ts t deep misplaced cost costs depths found s f = record {
  deep = through (either deep found.is_too_deep s.deep f.deep) (some-more ts t HasDeepPath);
  nat = through (either misplaced found.misplaces_nat s.nat f.nat) (some-more ts t MisplacesIn);
  sum = λ cost_of are. omega (
    arith,
    s.sum cost_of (λ u h. are u (Contains-append_left ts (t ∷ []) u h)),
    f.base_cost (cost_of t) (are t (Contains-push ts t)),
    sum_by_push (λ u. table_cost (cost_of u) u) ts t,
  );
  costs_long = length_push costs found.costs ∙ ap (λ n. n + 1) s.costs_long ∙ sym (length_push ts t);
  depths_long = length_push depths found.depths ∙ ap (λ n. n + 1) s.depths_long ∙ sym (length_push ts t);
  rows = λ i u h e. elim (cases_lt i (length ts)) [
    | inl l ↦ rw (row-before costs found.costs i (omega (arith, l, s.costs_long)), row-before depths found.depths i (omega (arith, l, s.depths_long)))
        (s.rows i u l (e ∙ get_or_append_left ts (t ∷ []) u i l))
    | inr l ↦ let last : length ts ≡ i = omega (arith, h, l, length_push ts t) in
        rw (row-last costs found.costs i (s.costs_long ∙ last), row-last depths found.depths i (s.depths_long ∙ last))
        (subst (λ v. AreRows v found.costs.items found.depths.items) (sym (e ∙ get_or_push ts t u i last)) f.rows)
  ];
}

-- ---- all tables

pub all-found : (tables : List TableTree) (cost : ℕ) (found : Findings)
    → AreFindingsSoFar tables found.is_too_deep found.misplaces_nat cost found.costs.items found.depths.items
    → found.is_too_costly ≡ nat_lt MAX_COST cost → AreFindings tables found
all-found tables cost found s e =
    let acyclic : Cycles tables → ⊥ = λ k. (s.rows k.member.0 k.table k.member.1 (sym k.member.2)).acyclic k.cycle in
    record {
      acyclic = acyclic;
      deep = through s.deep (deep_as tables);
      costly = (
        λ h. to_costly tables acyclic (omega (arith, s.sum cost_of (costs tables acyclic), ltb-true MAX_COST cost (sym e ∙ h))),
        λ k. e ∙ lt-ltb MAX_COST cost (omega (arith, s.sum k.cost k.are, k.over)),
      );
      nat = through s.nat (nat_as tables);
      has_costs = (cost_of, costs tables acyclic);
      costs_long = s.costs_long;
      costs = λ i t h is. (s.rows i t h is).costs;
      depths_long = s.depths_long;
      depths = λ i t h is. (s.rows i t h is).depths;
    }
