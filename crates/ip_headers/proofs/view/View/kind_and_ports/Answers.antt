use Rattle.std.proofs.Common.{◌≡◌, ◌≤◌, ℕ, List, length, false, sym, ap, ◌∙◌, arith}
use Rattle.std.proofs.lemmas.Bool.Decides.{nat_tests}
use Rattle.ip_headers.specs.Header.{payload_of, protocol}
use Rattle.ip_headers.specs.Transport.{transport_in, transport_is_malformed}
use Rattle.ip_headers.specs.declared.transport.Transport.TheVariants.{Icmp}
use Rattle.ip_headers.specs.declared.view.Decoded.{Decoded}
use Rattle.ip_headers.proofs.view.View.kind_and_ports.Goals as goal

long : (number : ℕ) (payload : List ℕ) (message : ℕ) → transport_in number payload ≡ Icmp message
    → transport_is_malformed number payload ≡ false → 8 ≤ length payload
long number payload message carried right = grind (arith, nat_tests)

pub query_kind_and_ports-requires : goal.query_kind_and_ports-requires
query_kind_and_ports-requires c =
    let v = c.args.self.now in
    let p = v.packet.now in
    let carried : transport_in (protocol p) (payload_of p) ≡ Icmp c.in-Icmp.icmp_type = sym (ap (λ (d : Decoded). d.transport) v.fields) ∙ c.in-Icmp.is in
    let right : transport_is_malformed (protocol p) (payload_of p) ≡ false = grind arith in
    rw v.tail (long (protocol p) (payload_of p) c.in-Icmp.icmp_type carried right)
