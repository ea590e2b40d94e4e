-- The chains and maps of a table, by name and by index: the call graph by index shows the calls by name, and what is asked of them is
-- decidable.
use Rattle.std.proofs.Common.{◌≡◌, ◌⊎◌, ℕ, zero, suc, ◌+◌, ◌-◌, ◌<◌, ◌≤◌, max, List, [], ◌∷◌, ◌++◌, Option, Some, None, Bool, true, false}
use Rattle.std.proofs.Common.{length, get_or, map, refl, sym, ap, ap₂, subst, ◌∙◌, inl, inr, arith, sum_by, flat_map, bytes_eq, Contains}
use Rattle.std.specs.Prelude.{find, ◌↔◌}
use Rattle.std.specs.Cmp.Lexicographic.{same_text}
use Rattle.std.proofs.lemmas.Bool.{cases_lt, not-true}
use Rattle.std.proofs.lemmas.List.{length-map, length-append, get_or_append_left, get_or-append-add, get_or_default}
use Rattle.std.proofs.lemmas.List.Elements.{Contains-append_left, Contains-append_right}
use Rattle.std.proofs.lemmas.List.Sums.{sum_by-cons}
use Rattle.std.proofs.Math.ListN.{get_or-map}
use Rattle.list_laws.specs.Lists.{text-refl, Contains-head}
use Rattle.list_laws.specs.Elements.{Contains-at}
use Rattle.list_laws.specs.Decisions.{Decided, Contains-none, Contains-there, Contains-cases, some_decided, decided_as, either_decided}
use Rattle.list_laws.specs.Decisions.{less_decided, texts_decided}
use Rattle.nft_tree.specs.Tree.{Text, HeadTree, ChainTree, MapTree, TableTree}
use Rattle.nft_tree.specs.TableItems.{chains_of, maps_of}
use Rattle.rule_names.specs.Names.{HasDuplicate, index_in, chain_names, map_names}
use Rattle.rule_names.proofs.Duplicates.{repeats-more}
use Rattle.chain_graph.specs.Graph.{Call, NodeTree, chain, verdict_map, identity, calls_in, IsPath, jumps, HasCycle, greatest}
use Rattle.chain_graph.specs.Graph.{chain_cost, node_cost, Reaches}
use Rattle.chain_graph.specs.Nodes.{Graph, node_at}
use Rattle.rule_paths.specs.Paths.{Caller, a_chain, a_map, node_of, CallsOf, Cycles, MAX_JUMPS, HasDeepPath, TooDeep, AreCosts, base_cost}
use Rattle.rule_paths.specs.Paths.{table_cost, ruleset_cost, MAX_COST, TooCostly, caller_has, MisplacedNat, misplaced_source}
use Rattle.rule_paths.specs.Paths.{misplaced_destination}
use Rattle.rule_paths.specs.declared.marks.NatKind.{NatKind}
use Rattle.rule_paths.specs.declared.marks.NatKind.TheVariants.{Source, Destination}
use Rattle.rule_paths.specs.steps.Index.{chain_count, map_count, index_of, chain_at, map_at, numbered, missing_nodes, index_graph}
use Rattle.rule_paths.specs.steps.Index.{IsEmptyNode, IsTableGraph, translates, may_translate, may_not_translate}
use Rattle.rule_paths.specs.steps.Tables.{SomeTable, MisplacesAs, MisplacesIn}

-- ==== Names, their indices, and the call graph of a table by index.

-- ---- reading a mapped list, alone or before or after others

module _ {A B : Type 0} (f : A → B) (xs : List A) where
  pub read : (d : B) (i : ℕ) (x : A) → i < length xs → get_or xs i x ≡ x → get_or (map f xs) i d ≡ f x
  read d i x h e = get_or_default (map f xs) i d (f x) (omega (arith, h, length-map xs f)) ∙ get_or-map f xs i x ∙ ap f e

  pub read-left : (ys : List B) (d : B) (i : ℕ) (x : A) → i < length xs → get_or xs i x ≡ x → get_or (map f xs ++ ys) i d ≡ f x
  read-left ys d i x h e = get_or_append_left (map f xs) ys d i (omega (arith, h, length-map xs f)) ∙ read d i x h e

  pub read-right : (ys : List B) (d : B) (i k : ℕ) → i ≡ length xs + k → get_or (map f xs ++ ys) i d ≡ get_or ys k d
  read-right ys d i k e = ap (λ n. get_or (map f xs ++ ys) n d) (e ∙ ap (λ n. n + k) (sym (length-map xs f)))
      ∙ get_or-append-add (map f xs) ys k d

-- ---- names

module _ {A : Type 0} (name_of : A → Text) where
  -- the first element with a name
  pub record Found (xs : List A) (name : Text) : Type 0 where
    pub index : ℕ
    pub item : A
    pub within : index < length xs
    pub is : get_or xs index item ≡ item
    pub named : get_or (map name_of xs) index name ≡ name
    pub at : index_in name (map name_of xs) ≡ Some index
    pub finds : find (λ x. bytes_eq (name_of x) name) xs ≡ Some item

  pub record Missing (xs : List A) (name : Text) : Type 0 where
    pub at : index_in name (map name_of xs) ≡ None
    pub finds : find (λ x. bytes_eq (name_of x) name) xs ≡ None

  pub look : (xs : List A) (name : Text) → Found xs name ⊎ Missing xs name
  look [] name = inr (record { at = refl; finds = refl })
  look (x ∷ xs) name = grind (arith, bytes_eq, same_text, (look xs name))

-- without duplicates, a name's index is its own
own_index : (ns : List Text) → (HasDuplicate ns → ⊥) → (i : ℕ) → i < length ns → index_in (get_or ns i []) ns ≡ Some i
own_index [] apart i h = absurd (omega (arith, h))
own_index (n ∷ ns) apart zero h = rw (text-refl n) refl
own_index (n ∷ ns) apart (suc i) h =
    by_test (bytes_eq n (get_or ns i [])) refl (own_index ns (λ d. apart (repeats-more n ns d)) i (omega (arith, h)))
  where
    by_test : (b : Bool) → bytes_eq n (get_or ns i []) ≡ b → index_in (get_or ns i []) ns ≡ Some i → index_in (get_or ns i []) (n ∷ ns) ≡ Some (suc i)
    by_test true e later = absurd (apart (record { first = 0; second = suc i; apart = omega arith; within = h; same = same_text n (get_or ns i []) (sym e) }))
    by_test false e later = rw (e, later) refl

-- ---- the graph

nothing_there : (k : ℕ) → IsEmptyNode (get_or missing_nodes k (chain []))
nothing_there zero = refl
nothing_there (suc zero) = refl
nothing_there (suc (suc k)) = refl

pub none_empty : {K : Type 0} (n : NodeTree K) (e : Call K) → IsEmptyNode n → Contains (calls_in n) e → ⊥
none_empty (chain ss) e empty at = Contains-none e (subst (λ ss. Contains (flat_map identity ss) e) empty at)
none_empty (verdict_map es) e empty at = Contains-none e (subst (λ es. Contains es e) empty at)

module _ (t : TableTree) where
  -- the callers, as their indices order them
  abbrev pub callers : List Caller
  callers = map a_chain (chain_names t) ++ map a_map (map_names t)

  callers_long : length callers ≡ chain_count t + map_count t
  callers_long = simp (length-append, length-map)

  pub graph_long : length (index_graph t) ≡ chain_count t + map_count t + 2
  graph_long = simp (length-append, length-map) (omega arith)

  none_at : (i k : ℕ) → i ≡ chain_count t + map_count t + k → node_at (index_graph t) i ≡ get_or missing_nodes k (chain [])
  none_at i k e = read-right (chain_at t) (chains_of t) (map (map_at t) (maps_of t) ++ missing_nodes) (chain []) i (map_count t + k) (omega (arith, e))
      ∙ read-right (map_at t) (maps_of t) missing_nodes (chain []) (map_count t + k) k refl

  pub look-chain : (name : Text) → Found (λ (c : ChainTree). c.name) (chains_of t) name ⊎ Missing (λ (c : ChainTree). c.name) (chains_of t) name
  look-chain name = look (λ (c : ChainTree). c.name) (chains_of t) name

  pub look-map : (name : Text) → Found (λ (m : MapTree). m.name) (maps_of t) name ⊎ Missing (λ (m : MapTree). m.name) (maps_of t) name
  look-map name = look (λ (m : MapTree). m.name) (maps_of t) name

  -- the place of a caller in the graph, and in the list of callers if it is a chain or a map of the table
  record Place (a : Caller) : Type 0 where
    node : node_at (index_graph t) (index_of t a) ≡ numbered (index_of t) (node_of t a)
    known : ((index_of t a < length callers) × (get_or callers (index_of t a) (a_chain []) ≡ a))
        ⊎ (IsEmptyNode (node_of t a) × (length callers ≤ index_of t a) × (index_of t a ≤ length callers + 1))

  place : (a : Caller) → Place a
  place (a_chain name) = elim (look-chain name) [
    | inl r ↦ record {
      node = rw (r.at, r.finds) (read-left (chain_at t) (chains_of t) _ _ r.index r.item r.within r.is);
      known = inl (
        rw r.at (omega (arith, r.within, callers_long)),
        rw r.at (read-left a_chain (chain_names t) _ _ r.index name (omega (arith, r.within, length-map (chains_of t) (λ (c : ChainTree). c.name))) r.named),
      );
    }
    | inr r ↦ record {
      node = rw (r.at, r.finds) (none_at _ 0 (omega arith));
      known = inr (rw r.finds refl, rw r.at (omega (arith, callers_long)), rw r.at (omega (arith, callers_long)));
    }
  ]
  place (a_map name) = elim (look-map name) [
    | inl r ↦ record {
      node = rw (r.at, r.finds) (read-right (chain_at t) (chains_of t) _ _ _ r.index refl
          ∙ read-left (map_at t) (maps_of t) _ _ r.index r.item r.within r.is);
      known = inl (
        rw r.at (omega (arith, r.within, callers_long)),
        rw r.at (read-right a_chain (chain_names t) _ _ _ r.index (omega (arith, length-map (chains_of t) (λ (c : ChainTree). c.name)))
            ∙ read a_map (map_names t) _ r.index name (omega (arith, r.within, length-map (maps_of t) (λ (m : MapTree). m.name))) r.named),
      );
    }
    | inr r ↦ record {
      node = rw (r.at, r.finds) (none_at _ 1 refl);
      known = inr (rw r.finds refl, rw r.at (omega (arith, callers_long)), rw r.at (omega (arith, callers_long)));
    }
  ]

  is_caller : (a : Caller) (e : Call Caller) → CallsOf t a e → Contains callers a
  is_caller a e at = elim (place a).known [
    | inl k ↦ Contains-at callers (index_of t a) (a_chain []) a k.0 k.1
    | inr u ↦ absurd (none_empty (node_of t a) e u.0 at)
  ]

  inside : (a : Caller) → index_of t a < length (index_graph t)
  inside a = elim (place a).known [ inl k ↦ omega (arith, k.0, graph_long, callers_long) | inr u ↦ omega (arith, u.2, graph_long, callers_long) ]

  apart : (a b : Caller) → index_of t a ≡ index_of t b → (a ≡ b) ⊎ IsEmptyNode (node_of t a)
  apart a b e = grind (arith, place, get_or)

  module _ (chains_apart : HasDuplicate (chain_names t) → ⊥) (maps_apart : HasDuplicate (map_names t) → ⊥) where
    first : (i : ℕ) → i < chain_count t → index_of t (a_chain (get_or (chain_names t) i [])) ≡ i
    first i h = rw (own_index (chain_names t) chains_apart i (omega (arith, h, length-map (chains_of t) (λ (c : ChainTree). c.name)))) refl

    back : (i : ℕ) → ((a : Caller) × (index_of t a ≡ i)) ⊎ IsEmptyNode (node_at (index_graph t) i)
    back i = elim (cases_lt i (chain_count t)) [
      | inl l ↦ inl (a_chain (get_or (chain_names t) i []), first i l)
      | inr l ↦ elim (cases_lt i (chain_count t + map_count t)) [
        | inl m ↦
            let k : ℕ = i - chain_count t in
            let h : k < length (map_names t) = omega (arith, length-map (maps_of t) (λ (m : MapTree). m.name)) in
            inl (a_map (get_or (map_names t) k []), rw (own_index (map_names t) maps_apart k h) (omega arith))
        | inr m ↦
            let k : ℕ = i - (chain_count t + map_count t) in
            inr (rw (none_at i k (omega arith)) (nothing_there k))
      ]
    ]

    pub table-graph : (g : Graph) → g ≡ index_graph t → IsTableGraph t g
    table-graph g e = rw e (record {
      node = λ a. (place a).node;
      inside = inside;
      back = back;
      apart = apart;
      first = first;
      long = omega (arith, graph_long);
    })

-- ==== Decidability of cycles, depth, cost and misplaced NAT statements.

callers_decided : (a b : Caller) → Decided (a ≡ b)
callers_decided (a_chain m) (a_chain n) = decided_as (ap a_chain) (λ e. cc) (texts_decided m n)
callers_decided (a_chain m) (a_map n) = inr (λ e. absurd cc)
callers_decided (a_map m) (a_chain n) = inr (λ e. absurd cc)
callers_decided (a_map m) (a_map n) = decided_as (ap a_map) (λ e. cc) (texts_decided m n)

-- all elements have the property, if none gives the other
all_or : {A Q : Type 0} (P : A → Type 0) (xs : List A) → ((x : A) → Contains xs x → P x ⊎ Q) → ((x : A) → Contains xs x → P x) ⊎ Q
all_or P [] each = inl (λ x at. absurd (Contains-none x at))
all_or P (x ∷ xs) each = elim (each x (Contains-head x xs)) [
  | inr q ↦ inr q
  | inl p ↦ elim (all_or P xs (λ y at. each y (Contains-there x y xs at))) [
    | inr q ↦ inr q
    | inl all ↦ inl (λ y at. elim (Contains-cases x y xs at) [ inl e ↦ subst P e p | inr later ↦ all y later ])
  ]
]

-- a list without one of its elements
removed : {A : Type 0} (x : A) (xs : List A) → Contains xs x → (rest : List A) × (suc (length rest) ≡ length xs)
    × ((z : A) → (z ≡ x → ⊥) → Contains xs z → Contains rest z)
removed x [] at = absurd (Contains-none x at)
removed x (y ∷ ys) at = elim (Contains-cases y x ys at) [
  | inl here ↦ (ys, refl, λ z other in_all. elim (Contains-cases y z ys in_all) [ inl e ↦ absurd (other (sym e ∙ here)) | inr later ↦ later ])
  | inr there ↦
      let r = removed x ys there in (
        y ∷ r.0,
        ap suc r.1,
        λ z other in_all. elim (Contains-cases y z ys in_all) [
          | inl e ↦ subst (Contains (y ∷ r.0)) e (Contains-head y r.0)
          | inr later ↦ Contains-there y z r.0 (r.2 z other later)
        ],
      )
]

-- ---- cost functions that agree on all targets

module _ (f g : Caller → ℕ) where
  greatest_same : (es : List (Call Caller)) → ((e : Call Caller) → Contains es e → f e.to ≡ g e.to) → greatest f es ≡ greatest g es
  greatest_same [] same = refl
  greatest_same (e ∷ es) same = ap₂ max (same e (Contains-head e es)) (greatest_same es (λ x at. same x (Contains-there e x es at)))

  chain_cost_same : (ss : List (List (Call Caller))) → ((e : Call Caller) → Contains (flat_map identity ss) e → f e.to ≡ g e.to)
      → chain_cost f ss ≡ chain_cost g ss
  chain_cost_same [] same = refl
  chain_cost_same (s ∷ ss) same =
      ap₂ (λ m n. 1 + m + n) (greatest_same s (λ e at. same e (Contains-append_left s (flat_map identity ss) e at)))
      (chain_cost_same ss (λ e at. same e (Contains-append_right s (flat_map identity ss) e at)))

  node_cost_same : (n : NodeTree Caller) → ((e : Call Caller) → Contains (calls_in n) e → f e.to ≡ g e.to) → node_cost f n ≡ node_cost g n
  node_cost_same (chain ss) same = chain_cost_same ss same
  node_cost_same (verdict_map es) same = greatest_same es same

sum_by_same : {A : Type 0} (f g : A → ℕ) (xs : List A) → ((x : A) → Contains xs x → f x ≡ g x) → sum_by f xs ≡ sum_by g xs
sum_by_same f g [] same = refl
sum_by_same f g (x ∷ xs) same =
    sum_by-cons f x xs ∙ ap₂ (λ m n. m + n) (same x (Contains-head x xs))
    (sum_by_same f g xs (λ y at. same y (Contains-there x y xs at))) ∙ sym (sum_by-cons g x xs)

base_cost_same : (f g : Caller → ℕ) → ((a : Caller) → f a ≡ g a) → (c : ChainTree) → base_cost f c.name c.head ≡ base_cost g c.name c.head
base_cost_same f g same c =
    elim c.head as (λ o. base_cost f c.name o ≡ base_cost g c.name o) [ None ↦ refl | Some head ↦ ap (λ n. 1 + n) (same (a_chain c.name)) ]

is_decided : (b v : Bool) → Decided (b ≡ v)
is_decided true true = inl refl
is_decided true false = inr (λ e. absurd cc)
is_decided false true = inr (λ e. absurd cc)
is_decided false false = inl refl

module _ (t : TableTree) where
  -- ---- cycles

  -- all paths from a caller have fewer calls
  abbrev Bounded : ℕ → Caller → Type 0
  Bounded zero a = ⊥
  Bounded (suc m) a = (e : Call Caller) → CallsOf t a e → Bounded m e.to

  path_on : (a : Caller) (es : List (Call Caller)) (b : Caller) (e : Call Caller) → IsPath (CallsOf t) a es b → CallsOf t b e
      → IsPath (CallsOf t) a (es ++ e ∷ []) e.to
  path_on a [] b e path at = (subst (λ x. CallsOf t x e) (sym path) at, refl)
  path_on a (f ∷ es) b e path at = (path.0, path_on f.to es b e path.1 at)

  no_cycle : (m : ℕ) (a : Caller) (e : Call Caller) (es : List (Call Caller)) → Bounded m a → CallsOf t a e → IsPath (CallsOf t) e.to es a → ⊥
  no_cycle zero a e es bound at path = bound
  no_cycle (suc m) a e [] bound at path = no_cycle m a e [] (subst (Bounded m) path (bound e at)) at path
  no_cycle (suc m) a e (f ∷ es) bound at path = no_cycle m e.to f (es ++ e ∷ []) (bound e at) path.0 (path_on f.to es a e path.1 at)

  -- `left` has the callers from which no path led here: a path that comes to one more leaves fewer, and any other closes a cycle
  bounded_or_cycle : (m : ℕ) (left : List Caller) (a : Caller) → length left < m
      → ((x : Caller) (f : Call Caller) → CallsOf t x f → Contains left x ⊎ ((e : Call Caller) × (es : List (Call Caller)) × IsPath (CallsOf t) x (e ∷ es) a))
      → Bounded m a ⊎ HasCycle (CallsOf t)
  bounded_or_cycle zero left a few trail = absurd (omega (arith, few))
  bounded_or_cycle (suc m) left a few trail = all_or (λ e. Bounded m e.to) (calls_in (node_of t a)) (λ e at. elim (trail a e at) [
    | inr round ↦ inr (record { chain = a; first = round.0; rest = round.1; path = round.2 })
    | inl is_left ↦
        let r = removed a left is_left in
        bounded_or_cycle m r.0 e.to (omega (arith, r.1, few)) (λ x f from. elim (trail x f from) [
          | inr way ↦ inr (way.0, way.1 ++ e ∷ [], (way.2.0, path_on way.0.to way.1 a e way.2.1 at))
          | inl x_left ↦ elim (callers_decided x a) [
            | inl same ↦ inr (e, [], (subst (λ y. CallsOf t y e) (sym same) at, refl))
            | inr other ↦ inl (r.2 x other x_left)
          ]
        ])
  ])

  abbrev bound : ℕ
  bound = suc (length (callers t))

  each_bounded : (a : Caller) → Bounded bound a ⊎ HasCycle (CallsOf t)
  each_bounded a = bounded_or_cycle bound (callers t) a (omega arith) (λ x f from. inl (is_caller t x f from))

  cycle_decided : Decided (HasCycle (CallsOf t))
  cycle_decided = elim (all_or (Bounded bound) (callers t) (λ a at. each_bounded a)) [
    | inr k ↦ inl k
    | inl bounds ↦ inr (λ k. no_cycle bound k.chain k.first k.rest (bounds k.chain (is_caller t k.chain k.first k.path.0)) k.path.0 k.path.1)
  ]

  -- ---- paths

  -- a path that fits
  abbrev pub Walk : (List (Call Caller) → Caller → Type 0) → Caller → Type 0
  Walk Fits a = (es : List (Call Caller)) × (b : Caller) × IsPath (CallsOf t) a es b × Fits es b

  walk_decided : (m : ℕ) (a : Caller) → Bounded m a → (Fits : List (Call Caller) → Caller → Type 0)
      → ((es : List (Call Caller)) (b : Caller) → Decided (Fits es b)) → Decided (Walk Fits a)
  walk_decided zero a bound Fits fits = absurd bound
  walk_decided (suc m) a bound Fits fits = elim (fits [] a) [
    | inl now ↦ inl ([], a, refl, now)
    | inr not_now ↦ decided_as (λ h. (h.0 ∷ h.2.0, h.2.1, (h.1, h.2.2), h.2.3)) (λ w. by_path not_now w.0 w.1 w.2 w.3)
        (some_decided (λ e. Walk (λ es. Fits (e ∷ es)) e.to) (calls_in (node_of t a))
        (λ e at. walk_decided m e.to (bound e at) (λ es. Fits (e ∷ es)) (λ es. fits (e ∷ es))))
  ]
    where
      by_path : (Fits [] a → ⊥) → (es : List (Call Caller)) (b : Caller) → IsPath (CallsOf t) a es b → Fits es b
          → (e : Call Caller) × CallsOf t a e × Walk (λ es. Fits (e ∷ es)) e.to
      by_path not_now [] b path ok = absurd (not_now (subst (Fits []) (sym path) ok))
      by_path not_now (e ∷ es) b path ok = (e, path.0, (es, b, path.1, ok))

  -- a path with more jumps than the stack of callers holds
  abbrev pub DeepFrom : Text → Type 0
  DeepFrom name = Walk (λ es b. MAX_JUMPS < jumps es) (a_chain name)

  pub deep_path_as : ((name : Text) × Contains (chain_names t) name × DeepFrom name) ↔ HasDeepPath t
  deep_path_as = (
    λ h. record { chain = h.0; member = h.1; path = record { from = a_chain h.0; to = h.2.1; along = h.2.0; path = h.2.2; over = h.2.3 }; begins = refl },
    λ d. (d.chain, d.member, (d.path.along, d.path.to, subst (λ a. IsPath (CallsOf t) a d.path.along d.path.to) d.begins d.path.path, d.path.over)),
  )

  -- a chain with NAT statements of this kind is reachable
  abbrev pub Leads : NatKind → Text → Type 0
  Leads kind name = Reaches (CallsOf t) (λ caller. caller_has (translates kind) t caller ≡ true) (a_chain name)

  abbrev pub IsMisplaced : NatKind → ChainTree → Type 0
  IsMisplaced kind c = (may_not_translate kind c.head ≡ true) × Leads kind c.name

  not_allowed-head : (kind : NatKind) (o : Option HeadTree) → may_not_translate kind o ≡ true
      → (head : HeadTree) × (o ≡ Some head) × (may_translate kind head.kind head.hook ≡ false)
  not_allowed-head kind None h = absurd cc
  not_allowed-head kind (Some head) h = (head, refl, not-true (may_translate kind head.kind head.hook) h)

  pub misplaces_as : (kind : NatKind) → ((c : ChainTree) × Contains (chains_of t) c × IsMisplaced kind c) ↔ MisplacesAs kind t
  misplaces_as kind = grind arith

  -- ---- where there is no cycle

  module _ (acyclic : HasCycle (CallsOf t) → ⊥) where
    bounded : (a : Caller) → Bounded bound a
    bounded a = elim (each_bounded a) [ inl b ↦ b | inr k ↦ absurd (acyclic k) ]

    deep_decided : Decided (HasDeepPath t)
    deep_decided = decided_as deep_path_as.0 deep_path_as.1 (some_decided DeepFrom (chain_names t) (λ name at.
        walk_decided bound (a_chain name) (bounded (a_chain name)) (λ es b. MAX_JUMPS < jumps es) (λ es b. less_decided MAX_JUMPS (jumps es))))

    leads_decided : (kind : NatKind) (name : Text) → Decided (Leads kind name)
    leads_decided kind name = decided_as (λ w. record { to = w.1; along = w.0; path = w.2; good = w.3 }) (λ r. (r.along, r.to, r.path, r.good))
        (walk_decided bound (a_chain name) (bounded (a_chain name)) (λ es b. caller_has (translates kind) t b ≡ true)
        (λ es b. is_decided (caller_has (translates kind) t b) true))

    misplaces_decided : (kind : NatKind) → Decided (MisplacesAs kind t)
    misplaces_decided kind = decided_as (misplaces_as kind).0 (misplaces_as kind).1 (some_decided (IsMisplaced kind) (chains_of t) (λ c at.
        elim (is_decided (may_not_translate kind c.head) true) [
          | inl wrong ↦ decided_as (λ l. (wrong, l)) (λ m. m.1) (leads_decided kind c.name)
          | inr allowed ↦ inr (λ m. allowed m.0)
        ]))

    nat_decided : Decided (MisplacesIn t)
    nat_decided = either_decided (misplaces_decided Source) (misplaces_decided Destination)

    -- ---- costs

    -- two solutions agree, and so do two steps towards one
    agree : (f g : ℕ → Caller → ℕ) → ((m : ℕ) (a : Caller) → f (suc m) a ≡ node_cost (f m) (node_of t a))
        → ((m : ℕ) (a : Caller) → g (suc m) a ≡ node_cost (g m) (node_of t a)) → (m : ℕ) (a : Caller) → Bounded m a → f m a ≡ g m a
    agree f g of_f of_g zero a bound = absurd bound
    agree f g of_f of_g (suc m) a bound =
        of_f m a ∙ node_cost_same (f m) (g m) (node_of t a) (λ e at. agree f g of_f of_g m e.to (bound e at)) ∙ sym (of_g m a)

    pub one_cost : (f g : Caller → ℕ) → AreCosts t f → AreCosts t g → (a : Caller) → f a ≡ g a
    one_cost f g of_f of_g a = agree (λ m. f) (λ m. g) (λ m. of_f) (λ m. of_g) bound a (bounded a)

    one_table_cost : (f g : Caller → ℕ) → AreCosts t f → AreCosts t g → table_cost f t ≡ table_cost g t
    one_table_cost f g of_f of_g = sum_by_same (λ c. base_cost f c.name c.head) (λ c. base_cost g c.name c.head)
        (chains_of t) (λ c at. base_cost_same f g (one_cost f g of_f of_g) c)

abbrev cost_to : ℕ → TableTree → Caller → ℕ
cost_to zero t a = 0
cost_to (suc m) t a = node_cost (cost_to m t) (node_of t a)

pub cost_of : TableTree → Caller → ℕ
cost_of t = cost_to (bound t) t

costs_of : (t : TableTree) → (HasCycle (CallsOf t) → ⊥) → AreCosts t (cost_of t)
unfolding cost_of
costs_of t acyclic a = agree t acyclic (λ m. cost_to m t) (λ m. cost_to (suc m) t) (λ m b. refl) (λ m b. refl) (bound t) a (bounded t acyclic a)

-- ---- rulesets

module _ (ts : List TableTree) where
  cycles_as : SomeTable (λ t. HasCycle (CallsOf t)) ts ↔ Cycles ts
  cycles_as = (λ h. record { table = h.0; member = h.1; cycle = h.2 }, λ k. (k.table, k.member, k.cycle))

  pub deep_as : SomeTable HasDeepPath ts ↔ TooDeep ts
  deep_as = (λ h. record { table = h.0; member = h.1; deep = h.2 }, λ d. (d.table, d.member, d.deep))

  of_misplaced : MisplacedNat ts → SomeTable MisplacesIn ts
  of_misplaced (misplaced_source t at m) = (t, at, inl m)
  of_misplaced (misplaced_destination t at m) = (t, at, inr m)

  pub nat_as : SomeTable MisplacesIn ts ↔ MisplacedNat ts
  nat_as = (λ h. elim h.2 [ inl m ↦ misplaced_source h.0 h.1 m | inr m ↦ misplaced_destination h.0 h.1 m ], of_misplaced)

  pub cycles : Cycles ts ⊎ (Cycles ts → ⊥)
  cycles = decided_as cycles_as.0 cycles_as.1 (some_decided (λ t. HasCycle (CallsOf t)) ts (λ t at. cycle_decided t))

  module _ (acyclic : Cycles ts → ⊥) where
    acyclic_table : (t : TableTree) → Contains ts t → HasCycle (CallsOf t) → ⊥
    acyclic_table t at k = acyclic (cycles_as.0 (t, at, k))

    pub deep : TooDeep ts ⊎ (TooDeep ts → ⊥)
    deep = decided_as deep_as.0 deep_as.1 (some_decided HasDeepPath ts (λ t at. deep_decided t (acyclic_table t at)))

    pub nat : MisplacedNat ts ⊎ (MisplacedNat ts → ⊥)
    nat = decided_as nat_as.0 nat_as.1 (some_decided MisplacesIn ts (λ t at. nat_decided t (acyclic_table t at)))

    pub costs : (t : TableTree) → Contains ts t → AreCosts t (cost_of t)
    costs t at = costs_of t (acyclic_table t at)

    pub to_costly : MAX_COST < ruleset_cost cost_of ts → TooCostly ts
    to_costly over = record { cost = cost_of; are = costs; over = over }

    of_costly : TooCostly ts → MAX_COST < ruleset_cost cost_of ts
    of_costly w = subst (λ n. MAX_COST < n) (sum_by_same (λ t. table_cost (w.cost t) t) (λ t. table_cost (cost_of t) t) ts
        (λ t at. one_table_cost t (acyclic_table t at) (w.cost t) (cost_of t) (w.are t at) (costs t at))) w.over

    pub costly : TooCostly ts ⊎ (TooCostly ts → ⊥)
    costly = decided_as to_costly of_costly (less_decided MAX_COST (ruleset_cost cost_of ts))

pub costs_exist : (ts : List TableTree) (t : TableTree) → (Cycles ts → ⊥) → Contains ts t → (f : Caller → ℕ) × AreCosts t f
costs_exist ts t acyclic at = (cost_of t, costs ts acyclic t at)
