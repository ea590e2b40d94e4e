use Rattle.std.proofs.Common.{sym}
use Rattle.translation.proofs.Fits.{inward_fits}
use Rattle.translation.proofs.destination.to_internal.Goals as goal

pub returns-clause-fits : goal.returns-clause-fits
returns-clause-fits c = λ held same fits.
    inward_fits held c.args.new_connection.now c.in-Some.internal
    (c.inbound_is_held.ensures held _ _ _ (sym (c.in-Some.ensures held same))) fits
