-- Nodes, their targets, and the nodes before a node.
use Rattle.chain_graph.proofs.Names.{Call, Calls, Contains, Global, Graph, HasEdge, List, Vec, [], ap, arith, call_of, calls_in, drop, flat_map, get_or}
use Rattle.chain_graph.proofs.Names.{get_or_default, graph_of, identity, length, map, node_of, statements_of, subst, suc, sym, take, targets_of, zero, ℕ, ◌++◌}
use Rattle.chain_graph.proofs.Names.{◌+◌, ◌<◌, ◌∙◌, ◌∷◌, ◌≡◌, ◌≤◌}
use Rattle.std.proofs.Common.{set, take_all}
use Rattle.std.proofs.lemmas.List.{drop_more, get_or-map, length-map}
use Rattle.std.proofs.lemmas.List.Elements.{Contains-append_left, Contains-append_right, Contains-get_or}
use Rattle.chain_graph.specs.declared.node.Edge.{Edge}
use Rattle.chain_graph.specs.declared.node.Node.{Node}
use Rattle.chain_graph.specs.declared.node.Node.TheVariants.{Chain, Map}
use Rattle.chain_graph.specs.Graph.{chain}
use Rattle.chain_graph.specs.Nodes.{InRange, calls_of, node_at}
use Rattle.chain_graph.specs.Order.{IsTopologicalOrder}
use Rattle.chain_graph.specs.steps.Passes.{IsWithin}
use Rattle.chain_graph.specs.steps.Targets.{TargetsInRange}
use Rattle.list_laws.specs.Elements.{Contains-map, Contains-unmap, set-known}
use Rattle.std.proofs.Math.ListN as seq

pub node-is : (nodes : List Node) (c : ℕ) (n : Node) → c < length nodes → n ≡ get_or nodes c n → node_at (graph_of nodes) c ≡ node_of n
node-is nodes c n h e = get_or-map node_of nodes c n (chain []) h ∙ ap node_of (sym e)

pub graph-long : (nodes : List Node) → length (graph_of nodes) ≡ length nodes
graph-long nodes = length-map nodes node_of

pub targets-long : (g : Graph) → length (targets_of g) ≡ length g
targets-long g = length-map g (λ n. map (λ e. e.to) (calls_in n))

pub targets-row : (g : Graph) (c : ℕ) → get_or (targets_of g) c [] ≡ map (λ e. e.to) (calls_of g c)
targets-row g c = seq.get_or-map (λ n. map (λ e. e.to) (calls_in n)) g c (chain [])

pub edge-of : (g : Graph) (c : ℕ) (e : Call ℕ) → Calls g c e → HasEdge (targets_of g) c e.to
edge-of g c e h = subst (λ xs. Contains xs e.to) (sym (targets-row g c)) (Contains-map (λ (e : Call ℕ). e.to) (calls_of g c) e h)

pub call-of : (g : Graph) (a b : ℕ) → HasEdge (targets_of g) a b → (e : Call ℕ) × Calls g a e × (e.to ≡ b)
call-of g a b h = Contains-unmap (λ (e : Call ℕ). e.to) (calls_of g a) b (subst (λ xs. Contains xs b) (targets-row g a) h)

pub range-of : (g : Graph) (n : ℕ) → InRange g n → n ≡ length g → TargetsInRange (targets_of g)
range-of g n range long a b h =
    let e = call-of g a b h in
    let l = range a e.0 e.1 in
    let is = e.2 in
    let long' = targets-long g in
    omega arith

pub flat-at : (statements : List (Vec Edge Global)) (k : ℕ) (d : Vec Edge Global) (j : ℕ) (x : Edge)
    → k < length statements → j < length (get_or statements k d).items
    → Contains (flat_map identity (statements_of statements)) (call_of (get_or (get_or statements k d).items j x))
flat-at [] k d j x h l = absurd (omega (arith, h))
flat-at (s ∷ ss) zero d j x h l = Contains-append_left (map call_of s.items) (flat_map identity (statements_of ss))
    (call_of (get_or s.items j x)) (Contains-map call_of s.items (get_or s.items j x) (Contains-get_or s.items j x l))
flat-at (s ∷ ss) (suc k) d j x h l = Contains-append_right (map call_of s.items)
    (flat_map identity (statements_of ss)) (call_of (get_or (get_or ss k d).items j x))
    (flat-at ss k d j x (omega (arith, h)) l)

pub within-of : (n : ℕ) (node : Node) → ((e : Call ℕ) → Contains (calls_in (node_of node)) e → e.to < n) → IsWithin n node
within-of n (Chain v) range = λ k d l j x m. range (call_of (get_or (get_or v.items k d).items j x)) (flat-at v.items k d j x l m)
within-of n (Map v) range = λ j x m. range (call_of (get_or v.items j x)) (Contains-map call_of v.items (get_or v.items j x) (Contains-get_or v.items j x m))

-- the calls of a node are in range
pub node-within : (nodes : List Node) (c n : ℕ) (node : Node) → c < length nodes → node ≡ get_or nodes c node → InRange (graph_of nodes) n → IsWithin n node
node-within nodes c n node h e range = within-of n node (λ call k. range c call (subst (λ x. Contains (calls_in x) call) (sym (node-is nodes c node h e)) k))

-- the calls that are left
pub calls-rest : (statements : List (Vec Edge Global)) (i : ℕ) (s : Vec Edge Global) → i < length statements → s
    ≡ get_or statements i s → flat_map identity (statements_of (drop i statements)) ≡ map call_of s.items
    ++ flat_map identity (statements_of (drop (i + 1) statements))
calls-rest statements i s h e = grind (arith, drop_more)

pub order-before : (g : Graph) (order : List ℕ) (i c : ℕ) → IsTopologicalOrder (targets_of g) order → i < length order
    → c ≡ get_or order i c → (e : Call ℕ) → Calls g c e → Contains (take i order) e.to
order-before g order i c o h e call k = grind (arith, o.after, call.to, get_or_default, edge-of)

-- each node stands among the first nodes of the order, if these are all
pub all-before : (nodes : List Node) (order : List ℕ) (i x : ℕ) → IsTopologicalOrder (targets_of (graph_of nodes)) order
    → length order ≤ i → x < length nodes → Contains (take i order) x
all-before nodes order i x o h l =
    let long = graph-long nodes in
    let long' = targets-long (graph_of nodes) in
    subst (λ xs. Contains xs x) (sym (take_all i order h)) (o.all x (omega arith))

pub pass-below : (nodes : List Node) (order : List ℕ) (i : ℕ) → IsTopologicalOrder (targets_of (graph_of nodes)) order → i < length order
    → get_or order i 0 < length nodes
pass-below nodes order i o inside = grind (arith, graph-long, targets-long)

-- a pass over the nodes in topological order, at one index of the order
module _ (nodes : List Node) (order : List ℕ) (i : ℕ) (node : Node) (o : IsTopologicalOrder (targets_of (graph_of nodes)) order)
    (inside : i < length order) (read : node ≡ get_or nodes (get_or order i 0) node) where
  pub pass-node : node_of node ≡ node_at (graph_of nodes) (get_or order i 0)
  pass-node = sym (node-is nodes (get_or order i 0) node (pass-below nodes order i o inside) read)

  pub pass-within : {X : Type 0} {table seen : List X} → InRange (graph_of nodes) (length nodes) → length table ≡ length nodes
      → seen ≡ table → IsWithin (length seen) node
  pass-within range long same = node-within nodes (get_or order i 0) _ node (pass-below nodes order i o inside) read
      (subst (InRange (graph_of nodes)) (sym (ap length same ∙ long)) range)

  -- what is known of the nodes so far, and of this node if of all its targets, is known of one node more
  pub pass-more : {X : Type 0} (P : ℕ → X → Type 0) (table : List X) (v d : X) → length table ≡ length nodes
      → (((e : Call ℕ) → Calls (graph_of nodes) (get_or order i 0) e → P e.to (get_or table e.to d)) → P (get_or order i 0) v)
      → ((x : ℕ) → Contains (take i order) x → P x (get_or table x d)) → (x : ℕ) → Contains (take (i + 1) order) x
      → P x (get_or (set table (get_or order i 0) v) x d)
  pass-more P table v d long now before =
      let is = get_or_default order i 0 (get_or order i 0) inside in
      let below = pass-below nodes order i o inside in
      set-known P order table i (get_or order i 0) v d inside is (omega arith)
      (now (λ e k. before e.to (order-before (graph_of nodes) order i (get_or order i 0) o inside is e k))) before
