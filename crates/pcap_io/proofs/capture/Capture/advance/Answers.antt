use Rattle.std.proofs.Common.{arith}
use Rattle.pcap_io.proofs.Steps.{reads_one}
use Rattle.pcap_io.proofs.capture.Capture.advance.Goals as goal

pub returns-clause-reads : goal.returns-clause-reads
returns-clause-reads c more = grind (arith, c.self.view_is, c.requires.buffered, c.moment-moment.ensures.value, c.take.ensures, reads_one)
