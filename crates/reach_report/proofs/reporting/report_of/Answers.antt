use Rattle.reach_report.proofs.Sets.{has_sets}
use Rattle.reach_report.proofs.reporting.report_of.Goals as goal

pub new-requires : goal.new-requires
new-requires c =
    has_sets c.args.checked.now.network c.args.checked.now.rules c.unmet.new.self c.unmet.ensures.sets
