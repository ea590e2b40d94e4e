-- Paths of calls, and paths of their targets.
use Rattle.chain_graph.proofs.Names.{Call, Calls, Graph, List, [], map, subst, sym, targets_of, ℕ, ◌∙◌, ◌∷◌}
use Rattle.chain_graph.specs.Graph.{HasCycle, IsPath}
use Rattle.chain_graph.specs.steps.Targets.{HasTargetCycle, IsTargetPath}
use Rattle.chain_graph.proofs.NodeLaws.{call-of, edge-of}

pub path-of-calls : (g : Graph) (a b : ℕ) (es : List (Call ℕ)) → IsPath (Calls g) a es b → IsTargetPath (targets_of g) a (map (λ (e : Call ℕ). e.to) es) b
path-of-calls g a b [] p = p
path-of-calls g a b (e ∷ es) p = (edge-of g a e p.0, path-of-calls g e.to b es p.1)

pub path-to-calls : (g : Graph) (a c b : ℕ) (cs : List ℕ) → IsTargetPath (targets_of g) a (c ∷ cs) b → (e : Call ℕ)
    × (es : List (Call ℕ)) × IsPath (Calls g) a (e ∷ es) b
path-to-calls g a c b [] p = let e = call-of g a c p.0 in (e.0, [], (e.1, e.2 ∙ p.1))
path-to-calls g a c b (d ∷ cs) p =
    let e = call-of g a c p.0 in
    let more = path-to-calls g c d b cs p.1 in
    (e.0, more.0 ∷ more.1, (e.1, subst (λ x. IsPath (Calls g) x (more.0 ∷ more.1) b) (sym e.2) more.2))

pub cycle-to-calls : (g : Graph) → HasTargetCycle (targets_of g) → HasCycle (Calls g)
cycle-to-calls g k =
    let p = path-to-calls g k.node k.first k.node k.rest k.path in
    record { chain = k.node; first = p.0; rest = p.1; path = p.2 }

pub cycle-of-calls : (g : Graph) → HasCycle (Calls g) → HasTargetCycle (targets_of g)
cycle-of-calls g k = record {
  node = k.chain;
  first = k.first.to;
  rest = map (λ (e : Call ℕ). e.to) k.rest;
  path =
      path-of-calls g k.chain k.chain (k.first ∷ k.rest) k.path;
}
