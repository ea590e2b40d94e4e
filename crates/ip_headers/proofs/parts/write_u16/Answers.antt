use Rattle.ip_headers.proofs.Writing.{word_put}
use Rattle.ip_headers.proofs.parts.write_u16.Goals as goal

pub returns : goal.returns
returns c = word_put c.args.bytes.now c.write_u16.new.buf c.args.offset c.args.word c.requires c.ranges.word.fits c.write_u16.ensures
