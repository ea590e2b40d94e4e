use Rattle.std.proofs.Common.{length, sym}
use Rattle.std.proofs.lemmas.List.{length-map}
use Rattle.chain_graph.specs.Nodes.{graph_of, node_of as node_tree}
use Rattle.rule_paths.proofs.PathFindings.{in-range, misplaced, through}
use Rattle.rule_paths.proofs.misplaced.misplaces.Goals as goal

pub reaches_marked-requires-clause-range : goal.reaches_marked-requires-clause-range
reaches_marked-requires-clause-range c = in-range c.args.names.now (graph_of c.args.nodes.now) c.requires.graph
    (length c.args.nodes.now) (sym (length-map c.args.nodes.now node_tree))

pub returns : goal.returns
returns c = through (rw (c.chains-chains.ensures.all, c.deref-2.ensures.value) at c.reaches_misplaced.ensures)
    (misplaced c.args.names.now (graph_of c.args.nodes.now) c.requires.graph c.args.kind (length c.args.nodes.now) _
    (sym (length-map c.args.nodes.now node_tree))
    (rw (c.deref.ensures.value, c.in_ok-marks.ensures) at c.in_ok-reaching.ensures.reaching))
