use Rattle.std.proofs.lemmas.List.Elements.{Contains-append_right}
use Rattle.translation.specs.LiveMappings.{listed}
use Rattle.translation.proofs.Fits.{mapped_fits}
use Rattle.translation.proofs.source.translate_source.Goals as goal

pub returns-clause-fits : goal.returns-clause-fits
returns-clause-fits c = λ held same fits.
    let one = c.stays_one_to_one.ensures.within held _
    (λ m has. Contains-append_right (listed c.args.new_connection.now.source) held m has) fits.one in
    rw c.map_source.ensures (mapped_fits held c.args.new_connection.now c.in-Some.external_source c.in_ok-port.port
    (c.stays_one_to_one.ensures.source held _ _ _ _ _ one (c.in_ok-port.ensures.ok held same)) fits)
