use Rattle.std.proofs.Common.{◌∙◌, ap}
use Rattle.std.specs.Prelude.{nat_lt}
use Rattle.std.specs.List.{list_any}
use Rattle.chain_graph.specs.Nodes.{graph_of}
use Rattle.rule_paths.proofs.PathFindings.{analysis-costs, table-findings, either}
use Rattle.rule_paths.proofs.table.findings.Goals as goal

pub base_cost-base_cost-requires : goal.base_cost-base_cost-requires
base_cost-base_cost-requires c = rw (c.deref-4.ensures.value, c.of_chains-costs.ensures)
    (analysis-costs c.args.names.now (graph_of c.args.nodes.now) c.requires.graph c.args.analysis c.requires.analysis)

pub returns : goal.returns
returns c = table-findings c.args.names.now (graph_of c.args.nodes.now) c.requires.graph c.args.analysis c.requires.analysis _
    (c.is_too_deep-is_too_deep.ensures ∙ ap (list_any (λ d. nat_lt 16 d)) c.deref-3.ensures.value)
    (either c.in_ok-is_source.is_source c.in_ok-is_destination.is_destination
    c.in_ok-is_source.ensures c.in_ok-is_destination.ensures)
    c.base_cost-base_cost.ensures c.of_chains-costs.ensures c.of_chains-depths.ensures
