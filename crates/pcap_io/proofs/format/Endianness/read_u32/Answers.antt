use Rattle.std.proofs.Common.{◌∙◌}
use Rattle.pcap_io.specs.declared.format.Endianness.TheVariants.{Little, Big}
use Rattle.pcap_io.proofs.Steps.{number_at}
use Rattle.pcap_io.proofs.format.Endianness.read_u32.Goals as goal

pub returns-in-Little : goal.returns-in-Little
returns-in-Little c = rw c.in-Little.is (c.read_u32.ensures ∙ number_at Little c.args.offset 4 c.args.bytes.now)

pub returns-in-Big : goal.returns-in-Big
returns-in-Big c = rw c.in-Big.is (c.read_u32-in-Big.ensures ∙ number_at Big c.args.offset 4 c.args.bytes.now)
