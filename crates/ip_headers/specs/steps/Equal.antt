-- The equality tests of kinds, endpoints and tuples decide equality.
use Rattle.std.proofs.Common.{◌≡◌, true, refl, ◌∙◌, ap}
use Rattle.std.proofs.lemmas.Bool.{eqb-true, eq-eqb, and_parts, and_from}
use Rattle.ip_headers.specs.declared.tuple.Kind.{Kind}
use Rattle.ip_headers.specs.declared.tuple.Kind.TheVariants.{Tcp, Udp, EchoRequest, EchoReply, Other}
use Rattle.ip_headers.specs.declared.tuple.Endpoint.{Endpoint}
use Rattle.ip_headers.specs.declared.tuple.Tuple.{Tuple}
use Rattle.ip_headers.specs.Same.{same_kind, same_endpoint, same_tuple}

pub same_kind-refl : (k : Kind) → same_kind k k ≡ true
same_kind-refl Tcp = refl
same_kind-refl Udp = refl
same_kind-refl EchoRequest = refl
same_kind-refl EchoReply = refl
same_kind-refl (Other n) = eq-eqb n n refl

pub same_kind-true : (a b : Kind) → same_kind a b ≡ true → a ≡ b
same_kind-true Tcp Tcp h = refl
same_kind-true Udp Udp h = refl
same_kind-true EchoRequest EchoRequest h = refl
same_kind-true EchoReply EchoReply h = refl
same_kind-true (Other a) (Other b) h = ap Other (eqb-true a b h)
same_kind-true a b h = cc

pub same_endpoint-true : (a b : Endpoint) → same_endpoint a b ≡ true → a ≡ b
same_endpoint-true a b h =
    let parts = and_parts _ _ h in
    let address : a.address ≡ b.address = eqb-true _ _ parts.0 in
    let port : a.port ≡ b.port = eqb-true _ _ parts.1 in
    ap (λ x. record { address = x; port = a.port }) address
    ∙ ap (λ x. record { address = b.address; port = x }) port

pub same_endpoint-refl : (e : Endpoint) → same_endpoint e e ≡ true
same_endpoint-refl e = and_from _ _ (eq-eqb e.address e.address refl) (eq-eqb e.port e.port refl)

pub same_tuple-refl : (t : Tuple) → same_tuple t t ≡ true
same_tuple-refl t = and_from _ _ (same_kind-refl t.kind)
    (and_from _ _ (same_endpoint-refl t.source) (same_endpoint-refl t.destination))

pub same_tuple-true : (a b : Tuple) → same_tuple a b ≡ true → a ≡ b
same_tuple-true a b h =
    let kinds = and_parts _ _ h in
    let kind_and_ports = and_parts _ _ kinds.1 in
    let kind : a.kind ≡ b.kind = same_kind-true _ _ kinds.0 in
    let from : a.source ≡ b.source = same_endpoint-true _ _ kind_and_ports.0 in
    let to : a.destination ≡ b.destination = same_endpoint-true _ _ kind_and_ports.1 in
    ap (λ x. record { kind = x; source = a.source; destination = a.destination }) kind
    ∙ ap (λ x. record { kind = b.kind; source = x; destination = a.destination }) from
    ∙ ap (λ x. record { kind = b.kind; source = b.source; destination = x }) to
