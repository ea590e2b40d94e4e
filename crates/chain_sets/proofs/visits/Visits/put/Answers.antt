use Rattle.std.proofs.Common.{◌&&◌, ◌==◌}
use Rattle.chain_sets.specs.RuleSets.{no_packets}
use Rattle.chain_sets.proofs.Adding.{put-at}
use Rattle.chain_sets.proofs.visits.Visits.put.Goals as goal

pub returns : goal.returns
returns c = λ chain rule.
    put-at (c.args.key.chain == chain && c.args.key.rule == rule) c.args.sets no_packets _ _
    (c.in_ok-insert.ensures.updates.0 (record { chain = chain; rule = rule }))
