use Rattle.fact_sets.proofs.FieldNumbers.{none_equal}
use Rattle.fact_sets.proofs.ranges.equal.Goals as goal

pub returns-else-fits-clause-value : goal.returns-else-fits-clause-value
returns-else-fits-clause-value c =
    none_equal c.args.diagrams.now c.fixed.result c.args.field.first c.args.field.width c.args.number (c.fits.ensures.1 c.if-fits.false) c.fixed.ensures
