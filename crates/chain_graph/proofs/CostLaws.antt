-- The cost of a chain as a sum, and that nodes in topological order have costs.
use Rattle.chain_graph.proofs.Names.{Call, Calls, Contains, Global, Graph, List, Vec, [], ap, arith, call_of, calls_in, drop, flat_map, get_or, get_or_default}
use Rattle.chain_graph.proofs.Names.{identity, length, map, refl, saturated, statements_of, subst, suc, sym, targets_of, zero, ℕ, ◌+◌, ◌-◌, ◌<◌, ◌∙◌, ◌∷◌, ◌≡◌}
use Rattle.chain_graph.proofs.Names.{◌≤◌}
use Rattle.std.proofs.Common.{min, ◌^◌}
use Rattle.std.proofs.lemmas.List.{at_drop_more, get_or-take, length-take-le}
use Rattle.std.proofs.lemmas.List.Elements.{Contains-append_left, Contains-append_right}
use Rattle.list_laws.specs.Lists.{Contains-head}
use Rattle.chain_graph.specs.declared.node.Edge.{Edge}
use Rattle.chain_graph.specs.Graph.{NodeTree, chain, chain_cost, greatest, node_cost, verdict_map}
use Rattle.chain_graph.specs.Measures.{IsCost}
use Rattle.chain_graph.specs.Order.{IsTopologicalOrder}
use Rattle.chain_graph.specs.Nodes.{node_at}
use Rattle.list_laws.specs.Elements.{Contains-tail}
use Rattle.chain_graph.proofs.NodeLaws.{edge-of, targets-long}

-- costs that agree up to a bound where those of the targets do
module _ (m : ℕ) (f h : ℕ → ℕ) where
  greatest-up_to : (s : List (Call ℕ)) → ((e : Call ℕ) → Contains s e → min (f e.to) m ≡ min (h e.to) m) → min (greatest f s) m ≡ min (greatest h s) m
  greatest-up_to [] p = refl
  greatest-up_to (e ∷ es) p =
      let here = p e (Contains-head e es) in
      let rest = greatest-up_to es (λ x k. p x (Contains-tail e es x k)) in
      omega arith

  chain-up_to : (row : List (List (Call ℕ))) → ((e : Call ℕ) → Contains (flat_map identity row) e → min (f e.to) m ≡ min (h e.to) m)
      → min (chain_cost f row) m ≡ min (chain_cost h row) m
  chain-up_to [] p = refl
  chain-up_to (s ∷ row) p =
      let here = greatest-up_to s (λ x k. p x (Contains-append_left s (flat_map identity row) x k)) in
      let rest = chain-up_to row (λ x k. p x (Contains-append_right s (flat_map identity row) x k)) in
      omega arith

  pub node-up_to : (n : NodeTree ℕ) → ((e : Call ℕ) → Contains (calls_in n) e → min (f e.to) m ≡ min (h e.to) m)
      → min (node_cost f n) m ≡ min (node_cost h n) m
  node-up_to (chain ss) p = chain-up_to ss p
  node-up_to (verdict_map es) p = greatest-up_to es p

pub cost-rest : (f : ℕ → ℕ) (statements : List (Vec Edge Global)) (i : ℕ) (s : Vec Edge Global)
    → i < length statements → s ≡ get_or statements i s → chain_cost f (statements_of (drop i statements)) ≡ 1
    + greatest f (map call_of s.items) + chain_cost f (statements_of (drop (i + 1) statements))
cost-rest f statements i s h e = at_drop_more (λ xs. chain_cost f (statements_of xs)) statements i s h
    ∙ ap (λ v. 1 + greatest f (map call_of v.items) + chain_cost f (statements_of (drop (i + 1) statements))) (sym e)

pub cost-now : (g : Graph) (c : ℕ) (table : List ℕ) (cost : ℕ → ℕ) → IsCost g cost → c < length g
    → ((e : Call ℕ) → Calls g c e → get_or table e.to 0 ≡ saturated (cost e.to)) → saturated (node_cost (λ k. get_or table k 0) (node_at g c))
    ≡ saturated (cost c)
cost-now g c table cost is l known =
    node-up_to (2 ^ 64 - 1) (λ k. get_or table k 0) cost (node_at g c) (λ e k. let same = known e k in omega arith)
    ∙ ap saturated (sym (is c l))

node-same : (f h : ℕ → ℕ) (n : NodeTree ℕ) → ((e : Call ℕ) → Contains (calls_in n) e → f e.to ≡ h e.to) → node_cost f n ≡ node_cost h n
node-same f h n p =
    let most : ℕ = node_cost f n + node_cost h n in
    let same : min (node_cost f n) most ≡ min (node_cost h n) most = node-up_to most f h n (λ e k. ap (λ x. min x most) (p e k)) in
    omega arith

-- the costs where calls deeper than that cost nothing
abbrev pub cost_within : Graph → ℕ → ℕ → ℕ
cost_within g zero c = 0
cost_within g (suc n) c = node_cost (cost_within g n) (node_at g c)

-- the node at index j of the order has its cost from depth j + 1 on
pub settled : (g : Graph) (o : List ℕ) → IsTopologicalOrder (targets_of g) o → (m j n : ℕ) → j < m → j < length o
    → j < n → cost_within g (suc n) (get_or o j 0) ≡ cost_within g n (get_or o j 0)
settled g o is zero j n a l h = absurd (omega (arith, a))
settled g o is (suc m) j zero a l h = absurd (omega (arith, h))
settled g o is (suc m) j (suc n) a l h =
    node-same (cost_within g (suc n)) (cost_within g n) (node_at g (get_or o j 0))
    (λ e k.
    let at = is.after j e.to l (edge-of g (get_or o j 0) e k) in
    let long = length-take-le j o (let i : j ≤ length o = omega arith in i) in
    let inside = at.1 in
    let below : at.0 < j = omega arith in
    let same : get_or o at.0 0 ≡ e.to = get_or_default o at.0 0 e.to (omega arith) ∙ sym (get_or-take j o at.0 e.to below) ∙ at.2 in
    subst (λ x. cost_within g (suc n) x ≡ cost_within g n x) same (settled g o is m at.0 n (omega arith) (omega arith) (omega arith)))

pub has-costs : (g : Graph) (o : List ℕ) → IsTopologicalOrder (targets_of g) o → (cost : ℕ → ℕ) × IsCost g cost
has-costs g o is = (
  cost_within g (length o),
  λ c h.
      let at = is.all c (let long = targets-long g in omega arith) in
      let same : get_or o at.0 0 ≡ c = get_or_default o at.0 0 c at.1 ∙ at.2 in
      sym (subst (λ x. cost_within g (suc (length o)) x ≡ cost_within g (length o) x) same
      (settled g o is (suc (length o)) at.0 (length o) (let l = at.1 in omega arith) at.1 at.1)),
)
