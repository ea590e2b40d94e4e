-- Names of other crates and of the definitions, for the proofs.
pub use Rattle.chain_graph.specs.Graph.{Call, calls_in, identity}
pub use Rattle.chain_graph.specs.Measures.{saturated}
pub use Rattle.chain_graph.specs.Nodes.{Calls, Graph, call_of, graph_of, node_of, statements_of, targets_of}
pub use Rattle.chain_graph.specs.Order.{HasEdge}
pub use Rattle.chain_graph.specs.declared.search.Mark.TheVariants.{New}
pub use Rattle.chain_graph.specs.steps.Passes.{deepest, some_call}
pub use Rattle.chain_graph.specs.steps.Targets.{rows_of}
pub use Rattle.std.proofs.Common.{Global, List, Vec, [], ap, arith, drop, false, get_or, inl, inr, length, length-set, map, max, refl, subst, suc, sym, take}
pub use Rattle.std.proofs.Common.{zero, ℕ, ⊎_elim, ◌++◌, ◌+◌, ◌-◌, ◌<◌, ◌∙◌, ◌∷◌, ◌≡◌, ◌≢◌, ◌≤◌}
pub use Rattle.std.proofs.lemmas.Bool.{cases_lt}
pub use Rattle.std.proofs.lemmas.List.{get_or_default, length_push}
pub use Rattle.std.specs.Prelude.{Contains, flat_map, ◌↔◌}
