use Rattle.std.proofs.Common.{sym}
use Rattle.std.proofs.lemmas.List.{length-map}
use Rattle.std.proofs.lemmas.Option.{MatchOption-at_none}
use Rattle.chain_graph.specs.Graph.{HasCycle}
use Rattle.chain_graph.specs.Nodes.{graph_of, Calls, node_of as node_tree}
use Rattle.chain_graph.specs.Measures.{IsAnalysisOf}
use Rattle.rule_paths.proofs.PathFindings.{in-range, cycle-up}
use Rattle.rule_paths.proofs.table.analyze_table.Goals as goal

pub analyze-requires : goal.analyze-requires
analyze-requires c = record {
  range = rw c.deref.ensures.value (in-range c.args.names.now (graph_of c.in_ok-nodes.nodes.items) c.in_ok-nodes.ensures _
      (sym (length-map c.in_ok-nodes.nodes.items node_tree)));
}

pub returns-in_default : goal.returns-in_default
returns-in_default c = cycle-up c.args.names.now (graph_of c.in_ok-nodes.nodes.items) c.in_ok-nodes.ensures
    (rw c.deref.ensures.value at (MatchOption-at_none (HasCycle (Calls (graph_of c.deref.result.now)))
    (λ j. IsAnalysisOf (graph_of c.deref.result.now) j) c.in_default.is c.in_ok-analysis.ensures))
