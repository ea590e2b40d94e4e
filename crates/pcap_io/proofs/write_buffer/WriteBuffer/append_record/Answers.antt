use Rattle.std.proofs.Common.{arith}
use Rattle.std.proofs.lemmas.List.{with_items_is, places}
use Rattle.pcap_io.proofs.write_buffer.WriteBuffer.append_record.Goals as goal

pub returns : goal.returns
returns c = grind (arith, with_items_is, places, c.append.ensures, c.put_headers.ensures.bytes, c.deref_mut.ensures.value, c.self.view_is)
