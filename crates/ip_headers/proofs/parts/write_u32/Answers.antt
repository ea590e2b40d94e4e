use Rattle.ip_headers.proofs.Writing.{number_put}
use Rattle.ip_headers.proofs.parts.write_u32.Goals as goal

pub returns : goal.returns
returns c = number_put c.args.bytes.now c.write_u32.new.buf c.args.offset c.args.number c.requires c.ranges.number.fits c.write_u32.ensures
