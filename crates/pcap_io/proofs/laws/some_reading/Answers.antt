use Rattle.pcap_io.proofs.Reading.{some_pcap}
use Rattle.pcap_io.proofs.laws.some_reading.Goals as goal

pub returns : goal.returns
returns c = some_pcap
