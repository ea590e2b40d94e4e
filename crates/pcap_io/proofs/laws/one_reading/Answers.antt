use Rattle.pcap_io.proofs.Reading.{one_pcap}
use Rattle.pcap_io.proofs.laws.one_reading.Goals as goal

pub returns : goal.returns
returns c = one_pcap
