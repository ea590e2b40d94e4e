use Rattle.diff_laws.proofs.Arriving.{comes}
use Rattle.diff_laws.proofs.Boxes.{box_fits}
use Rattle.diff_laws.proofs.packets_come_as_they_can.Goals as goal

pub returns-clause-well_formed : goal.returns-clause-well_formed
returns-clause-well_formed c = λ text setup read well fits stage f x. comes setup well fits (box_fits text setup.network read) stage f x

pub returns-clause-accepted : goal.returns-clause-accepted
returns-clause-accepted c = λ rules box texts stage f x. comes texts.setup texts.well_formed
    (c.spelled_addresses_fit.ensures texts.setup.rules rules texts.spelled) (box_fits box texts.setup.network texts.read) stage f x
