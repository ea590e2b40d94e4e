use Rattle.fact_sets.proofs.FieldNumbers.{none_least}
use Rattle.fact_sets.proofs.ranges.at_least.Goals as goal

pub returns-else-fits-clause-value : goal.returns-else-fits-clause-value
returns-else-fits-clause-value c =
    none_least c.args.diagrams.now c.fixed.result c.args.field.first c.args.field.width c.args.number (c.fits.ensures.1 c.if-fits.false) c.fixed.ensures
