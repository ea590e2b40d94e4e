use Rattle.std.proofs.Common.{sym, arith, ◌∙◌}
use Rattle.std.proofs.lemmas.Bool.{le-leb}
use Rattle.nft_values.proofs.NumberLaws.{fits_wide, shifted_out}
use Rattle.nft_values.proofs.compared_types.fits.Goals as goal

pub returns-then-width-ge64 : goal.returns-then-width-ge64
returns-then-width-ge64 c = le-leb _ _ c.if-width-ge64.true ∙ sym (fits_wide c.args.number c.args.width (omega arith) c.if-width-ge64.true)

pub returns-else-width-ge64 : goal.returns-else-width-ge64
returns-else-width-ge64 c = shifted_out c.args.number c.args.width
