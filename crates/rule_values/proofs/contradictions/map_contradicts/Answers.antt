use Rattle.rule_values.specs.steps.Views.{elements_tree}
use Rattle.rule_values.specs.steps.MapEntries.{entries_of}
use Rattle.rule_values.proofs.Clashes.{clash-some, clash-none}
use Rattle.rule_values.proofs.contradictions.map_contradicts.Goals as goal

pub returns-in-Ok : goal.returns-in-Ok
returns-in-Ok c = clash-none (entries_of c.args.network.now (elements_tree c.args.elements.now))
    c.in_ok-pairs.pairs.items c.deref.result.now c.in_ok-pairs.ensures c.deref.ensures.value c.in-Ok.ensures.agrees

pub returns-in-Err-Clash : goal.returns-in-Err-Clash
returns-in-Err-Clash c = clash-some (entries_of c.args.network.now (elements_tree c.args.elements.now))
    c.in_ok-pairs.pairs.items c.deref.result.now c.in_ok-pairs.ensures c.deref.ensures.value
    (c.in-Err-Clash.ensures.clash c.in-Err-Clash.field-0-is)
