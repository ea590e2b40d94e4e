use Rattle.fact_sets.proofs.FieldNumbers.{all_most}
use Rattle.fact_sets.proofs.ranges.at_most.Goals as goal

pub returns-else-fits-clause-value : goal.returns-else-fits-clause-value
returns-else-fits-clause-value c =
    all_most c.args.diagrams.now c.fixed.result c.args.field.first c.args.field.width c.args.number (c.fits.ensures.1 c.if-fits.false) c.fixed.ensures
