use Rattle.std.proofs.Common.{ap, ◌∙◌}
use Rattle.std.proofs.lemmas.Option.{slice_get-get_or}
use Rattle.rule_sets.specs.Interfaces.{interfaces_of}
use Rattle.coming_sets.specs.Bases.{STAGES}
use Rattle.ruleset_diff.specs.Differences.{assumption}
use Rattle.chain_sets.proofs.Nesting.{never}
use Rattle.ruleset_diff.proofs.Covering.{to_all, to_more, to_none}
use Rattle.ruleset_diff.proofs.diffing.ruleset_diff.Goals as goal

pub loop-stage-init : goal.loop-stage-init
loop-stage-init c = record {
  limit = c.in_ok-diagrams.ensures.limit;
  are = to_none c.args.old.now.network c.args.old.now.rules c.args.new.now.rules (assumption c.args.assumed) c.in_ok-diagrams.diagrams c.new-differences.result.items
      c.new-differences.ensures.items;
}

pub add_stage-requires-clause-interfaces : goal.add_stage-requires-clause-interfaces
add_stage-requires-clause-interfaces c = c.in_ok-interfaces.ensures ∙ ap interfaces_of c.plant.ensures

pub loop-stage-preserved : goal.loop-stage-preserved
loop-stage-preserved c = record {
  limit = c.add_stage.ensures.keeps.limit ∙ c.loop-stage.invariant.limit;
  are = to_more c.args.old.now.network c.args.old.now.rules c.args.new.now.rules (assumption c.args.assumed) c.loop-stage.diagrams c.add_stage.new.diagrams c.loop-stage.stage-index _
      c.loop-stage.differences.items c.add_stage.new.differences.items (slice_get-get_or STAGES c.loop-stage.stage-index _ c.loop-stage-test.true)
      c.add_stage.ensures.keeps c.in_ok-add_stage.ensures.adds c.loop-stage.invariant.are;
}

pub returns-clause-differences : goal.returns-clause-differences
returns-clause-differences c =
    to_all c.args.old.now.network c.args.old.now.rules c.args.new.now.rules (assumption c.args.assumed) c.loop-stage.diagrams c.loop-stage.stage-index c.loop-stage.differences.items
    c.loop-stage-test.false c.loop-stage.invariant.are

pub returns-clause-limit : goal.returns-clause-limit
returns-clause-limit c = c.loop-stage.invariant.limit

pub returns-in_err-diagrams-clause-too_deep : goal.returns-in_err-diagrams-clause-too_deep
returns-in_err-diagrams-clause-too_deep c = never _ c.from_residual.result _ c.from_residual.ensures.1
