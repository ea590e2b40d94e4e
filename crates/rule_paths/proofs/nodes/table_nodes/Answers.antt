use Rattle.std.proofs.Common.{append_assoc}
use Rattle.std.proofs.lemmas.List.{map-append}
use Rattle.chain_graph.specs.Nodes.{graph_of}
use Rattle.rule_paths.proofs.Callers.{table-graph}
use Rattle.rule_paths.proofs.nodes.table_nodes.Goals as goal

pub returns : goal.returns
returns c = table-graph c.args.names.now c.chains.ensures.apart c.maps.ensures.apart (graph_of c.push-2.new.self.items)
    (rw (c.in_ok-push-2.ensures.items, c.in_ok-push.ensures.items)
    (simp (map-append, append_assoc, c.in_ok-add_maps.ensures, c.in_ok-add_chains.ensures, c.new-nodes.ensures.items)
    (simp (c.chains.ensures.all, c.maps.ensures.all, c.new.ensures.items, c.new-2.ensures.items))))
