-- Addresses and ports that NAT gives fit, and what it leaves of facts.
use Rattle.std.specs.Prelude.{◌^◌, ◌<◌, ◌≤◌, ◌==◌, IfSome, find}
use Rattle.std.specs.List.{range_with_len}
use Rattle.std.specs.Option.{option_map}
use Rattle.std.proofs.Common.{◌≡◌, ℕ, zero, suc, ◌+◌, ◌-◌, max, Bool, true, false, not, if◌then◌else◌, List, [], ◌∷◌, Option, Some, None, is_some, refl, subst, sym, arith, lit<, unwrap_or}
use Rattle.std.proofs.Common.{inl, inr}
use Rattle.std.proofs.lemmas.Bool.{cases_lt}
use Rattle.box_file.specs.Box.{PlantTree, first_address, has_index, owner}
use Rattle.box_file.specs.Box as boxes
use Rattle.nft_tree.specs.ValueTypes.{STATE_NEW}
use Rattle.ip_headers.specs.declared.transport.Transport.{Transport}
use Rattle.ip_headers.specs.declared.transport.Transport.TheVariants.{Tcp, Udp, Icmp, Other}
use Rattle.ip_headers.specs.declared.tuple.Endpoint.{Endpoint}
use Rattle.ip_headers.specs.declared.tuple.Tuple.{Tuple}
use Rattle.ip_headers.specs.declared.tuple.Kind.{Kind}
use Rattle.ip_headers.specs.declared.tuple.Mapping.{Mapping}
use Rattle.ip_headers.specs.declared.tuple.Direction.{Direction}
use Rattle.ip_headers.specs.declared.tuple.Direction.TheVariants as directions
use Rattle.port_pool.specs.declared.order.Order.{Order}
use Rattle.port_pool.specs.declared.order.Order.TheVariants.{Ports, Identifiers, Zero}
use Rattle.port_pool.specs.declared.range.CandidateRange.{CandidateRange}
use Rattle.port_pool.specs.Candidates.{candidates, numbers, or_these, ports_of, preferred, starting_at}
use Rattle.nat_mapping.specs.Mappings.{first_free_port, has_external, has_internal, inbound_of, is_port_held, or_else, order_of, port_of, source_of}
use Rattle.rule_meaning.specs.declared.facts.Facts.{Facts}
use Rattle.rule_meaning.specs.declared.facts.Packet.{Packet}
use Rattle.rule_meaning.specs.declared.facts.CtFacts.{CtFacts}
use Rattle.rule_meaning.specs.declared.facts.CtFacts.TheVariants as ct
use Rattle.rule_meaning.specs.declared.event.PortInterval.{PortInterval}
use Rattle.rule_meaning.specs.declared.event.NatAction.{NatAction}
use Rattle.rule_meaning.specs.declared.event.NatAction.TheVariants as nat_actions
use Rattle.rule_meaning.specs.declared.event.HookVerdict.{HookVerdict}
use Rattle.rule_meaning.specs.declared.event.HookVerdict.TheVariants.{Accepted, Dropped, Translated}
use Rattle.rule_meaning.specs.Selectors.{ct_state}
use Rattle.translation.specs.declared.ct_info.NewConnection.{NewConnection}
use Rattle.translation.specs.declared.ct_info.TrackedConnection.{TrackedConnection}
use Rattle.translation.specs.declared.ct_info.CtInfo.{CtInfo}
use Rattle.translation.specs.declared.ct_info.CtInfo.TheVariants.{Tracked, Related, New, Invalid, Untracked}
use Rattle.translation.specs.declared.external.ExternalSource.{ExternalSource}
use Rattle.translation.specs.CtInfos.{ct_facts_after_nat, ct_facts_of, incoming, outgoing, outgoing_by, outer_destination, outer_source}
use Rattle.translation.specs.CtInfos.{packet_after_destination_nat, packet_after_source_nat, with_destination, with_destination_port, with_source, with_source_port}
use Rattle.translation.specs.Nat.{after_destination_nat, after_source_nat, external_source, hairpin, has_ports, internal_endpoint, is_same_interface, port_named}
use Rattle.translation.specs.Nat.{range_of, statement_destination, statement_source, to_internal, with_destination_nat, with_source_mapping, with_source_nat}
use Rattle.fact_sets.specs.Boxes.{IsCt, IsPacket, IsTransport}
use Rattle.diff_laws.specs.Addresses.{Every}
use Rattle.diff_laws.proofs.Each.{each_append, each_filter, each_find, some_map}
use Rattle.diff_laws.proofs.Fits.{EndpointFits, InfoFits, MappingFits, NewFits, TrackedFits, TupleFits}
use Rattle.diff_laws.proofs.Bytes.{IsHeaderOf}
use Rattle.diff_laws.proofs.Statements.{ActionFits, PortsFit}
use Rattle.diff_laws.proofs.Running.{HookVerdictFits}

-- ---- the addresses of a box

abbrev pub AddressesOf : PlantTree → Type 0
AddressesOf network = Every (λ (i : boxes.Interface). i.address < 2 ^ 32) network.interfaces

or_zero : (o : Option ℕ) → IfSome o (λ n. n < 2 ^ 32) → unwrap_or o 0 < 2 ^ 32
or_zero None h = lit< tt
or_zero (Some n) h = h

first_fits : (network : PlantTree) → AddressesOf network → (n : ℕ) → unwrap_or (first_address network n) 0 < 2 ^ 32
first_fits network h n = or_zero (first_address network n) (some_map (λ (i : boxes.Interface). i.address < 2 ^ 32) (λ a. a < 2 ^ 32) (λ i. i.address) (λ i k. k)
    (find (has_index n) network.interfaces) (each_find (λ i. i.address < 2 ^ 32) (has_index n) network.interfaces h))

-- ---- destinations

named_if : (b : Bool) (port old : ℕ) → port < 2 ^ 16 → old < 2 ^ 16 → (if b then port else old) < 2 ^ 16
named_if true port old h k = h
named_if false port old h k = k

named_fits : (kind : Kind) (port : Option ℕ) (old : ℕ) → IfSome port (λ n. n < 2 ^ 16) → old < 2 ^ 16 → port_named kind port old < 2 ^ 16
named_fits kind None old h k = k
named_fits kind (Some port) old h k = named_if (has_ports kind) port old h k

destination_fits : (network : PlantTree) → AddressesOf network → (f : Facts) (n : NewConnection) → NewFits n → (t : NatAction) → ActionFits t
    → EndpointFits (statement_destination network f n t)
destination_fits network h f n k (nat_actions.Destination a port) t = (t.0, named_fits n.tuple.kind port n.tuple.destination.port t.1 k.tuple.1.1)
destination_fits network h f n k (nat_actions.Redirect port) t =
    (first_fits network h f.input.index, named_fits n.tuple.kind port n.tuple.destination.port t k.tuple.1.1)
destination_fits network h f n k (nat_actions.Source a ports) t = k.tuple.1
destination_fits network h f n k (nat_actions.Masquerade ports) t = k.tuple.1

inbound_fits : (kind : Kind) (e : Endpoint) (held : List Mapping) → Every MappingFits held → IfSome (inbound_of kind e held) EndpointFits
unfolding inbound_of
inbound_fits kind e held h = some_map MappingFits EndpointFits (λ m. m.internal) (λ m k. k.0) (find (has_external kind e) held)
    (each_find MappingFits (has_external kind e) held h)

if_endpoint : (b : Bool) (o : Option Endpoint) → IfSome o EndpointFits → IfSome (if b then o else None) EndpointFits
if_endpoint true o h = h
if_endpoint false o h = tt

internal_fits : (n : NewConnection) → NewFits n → (o : Option Endpoint) → IfSome o EndpointFits → NewFits (to_internal n o)
internal_fits n h None k = h
internal_fits n h (Some e) k = record { original = h.original; tuple = (h.tuple.0, k); source = h.source; dest = (k, h.tuple.1) }

destined : (network : PlantTree) → AddressesOf network → (mappings : List Mapping) → Every MappingFits mappings → (f : Facts) (n : NewConnection) → NewFits n
    → (v : HookVerdict) → HookVerdictFits v → NewFits (with_destination_nat network mappings f n v)
destined network h mappings all f n k (Translated t) w = record {
  original = k.original;
  tuple = (k.tuple.0, destination_fits network h f n k t w);
  source = k.source;
  dest = k.dest;
}
destined network h mappings all f n k Accepted w = internal_fits n k (internal_endpoint mappings n)
    (if_endpoint (has_ports n.tuple.kind) (inbound_of n.tuple.kind n.tuple.destination mappings)
    (inbound_fits n.tuple.kind n.tuple.destination mappings all))
destined network h mappings all f n k Dropped w = k

pub info_after_destination : (network : PlantTree) → AddressesOf network → (mappings : List Mapping) → Every MappingFits mappings → (f : Facts) (info : CtInfo)
    → InfoFits info → (v : HookVerdict) → HookVerdictFits v → InfoFits (after_destination_nat network mappings f info v)
info_after_destination network h mappings all f (New n) k v w = destined network h mappings all f n k v w
info_after_destination network h mappings all f (Tracked c) k v w = k
info_after_destination network h mappings all f (Related c) k v w = k
info_after_destination network h mappings all f Invalid k v w = k
info_after_destination network h mappings all f Untracked k v w = k

-- ---- ports

abbrev IsPort : ℕ → Type 0
IsPort n = n < 2 ^ 16

one_below : (a n limit : ℕ) → a + suc n ≤ limit → a < limit
one_below a n limit h = omega arith

rest_below : (a n limit : ℕ) → a + suc n ≤ limit → a + 1 + n ≤ limit
rest_below a n limit h = omega arith

range_below : (n a limit : ℕ) → a + n ≤ limit → Every (λ p. p < limit) (range_with_len a n)
range_below zero a limit h = tt
range_below (suc n) a limit h = (one_below a n limit h, range_below n (a + 1) limit (rest_below a n limit h))

none_left : (low high : ℕ) → high + 1 ≤ low → high + 1 - low ≡ 0
none_left low high h = omega arith

all_left : (low high : ℕ) → low ≤ high + 1 → high < 65536 → low + (high + 1 - low) ≤ 65536
all_left low high h k = omega arith

numbers_fit : (low high : ℕ) → high < 2 ^ 16 → Every IsPort (numbers low high)
unfolding numbers
numbers_fit low high h = elim (cases_lt low (high + 1)) as (λ x. Every IsPort (range_with_len low (high + 1 - low))) [
  | inl l ↦ range_below (high + 1 - low) low 65536 (all_left low high (omega arith) h)
  | inr g ↦ subst (λ n. Every IsPort (range_with_len low n)) (sym (none_left low high g)) tt
]

abbrev RangeFits : Option CandidateRange → Type 0
RangeFits range = IfSome range (λ r. r.high < 2 ^ 16)

ports_fit : (range : Option CandidateRange) → RangeFits range → Every IsPort (ports_of range)
ports_fit None h = numbers_fit 1 65535 (lit< tt)
ports_fit (Some r) h = numbers_fit (max 1 r.low) r.high h

these_fit : (xs ys : List ℕ) → Every IsPort xs → Every IsPort ys → Every IsPort (or_these xs ys)
these_fit [] ys h k = k
these_fit (x ∷ xs) ys h k = h

preferred_fit : (s : ℕ) (ps : List ℕ) → Every IsPort ps → Every IsPort (preferred s ps)
preferred_fit s ps h = these_fit _ _ (each_filter IsPort _ ps h) (these_fit _ _ (each_filter IsPort _ ps h) h)

starting_fit : (s : ℕ) (ps : List ℕ) → Every IsPort ps → Every IsPort (starting_at s ps)
starting_fit s ps h = each_append IsPort _ _ (each_filter IsPort _ ps h) (each_filter IsPort _ ps h)

candidates_fit : (order : Order) (s : ℕ) (range : Option CandidateRange) → RangeFits range → Every IsPort (candidates order s range)
unfolding candidates
candidates_fit Ports s range h = starting_fit s (preferred s (ports_of range)) (preferred_fit s (ports_of range) (ports_fit range h))
candidates_fit Identifiers s range h = starting_fit s (numbers 0 65535) (numbers_fit 0 65535 (lit< tt))
candidates_fit Zero s range h = (lit< tt, tt)

mapped_port : (kind : Kind) (internal : Endpoint) (address : ℕ) (held : List Mapping) → Every MappingFits held
    → IfSome (port_of kind internal address held) IsPort
unfolding port_of
mapped_port kind internal address held h = some_map MappingFits IsPort (λ m. m.external.port) (λ m k. k.1.1) (find (has_internal kind internal address) held)
    (each_find MappingFits (has_internal kind internal address) held h)

else_fits : (a b : Option ℕ) → IfSome a IsPort → IfSome b IsPort → IfSome (or_else a b) IsPort
else_fits (Some n) b h k = h
else_fits None b h k = k

source_fits : (kind : Kind) (internal : Endpoint) (address : ℕ) (range : Option CandidateRange) (held : List Mapping) → Every MappingFits held → RangeFits range
    → IfSome (source_of kind internal address range held) IsPort
source_fits kind internal address range held h r =
    else_fits (port_of kind internal address held) (first_free_port kind internal address range held) (mapped_port kind internal address held h)
    (each_find IsPort (λ port. not (is_port_held kind address held port)) (candidates (order_of kind) internal.port range)
    (candidates_fit (order_of kind) internal.port range r))

-- ---- sources

abbrev ExternalFits : ExternalSource → Type 0
ExternalFits x = (x.address < 2 ^ 32) × PortsFit x.ports

statement_source_fits : (network : PlantTree) → AddressesOf network → (f : Facts) (t : NatAction) → ActionFits t → IfSome (statement_source network f t) ExternalFits
statement_source_fits network h f (nat_actions.Source a ports) t = t
statement_source_fits network h f (nat_actions.Masquerade ports) t = (first_fits network h (unwrap_or (option_map (λ i. i.index) f.output) 0), t)
statement_source_fits network h f (nat_actions.Destination a port) t = tt
statement_source_fits network h f (nat_actions.Redirect port) t = tt

if_external : (b : Bool) (x : ExternalSource) → ExternalFits x → IfSome (if b then None else Some x) ExternalFits
if_external true x h = tt
if_external false x h = h

hairpin_fits : (network : PlantTree) (entered : ℕ) (dest : Option Mapping) → IfSome dest MappingFits → IfSome (hairpin network entered dest) ExternalFits
hairpin_fits network entered None h = tt
hairpin_fits network entered (Some m) h = if_external (is_same_interface entered (owner network m.external.address)) _ (h.1.0, tt)

external_fits : (network : PlantTree) → AddressesOf network → (f : Facts) (n : NewConnection) → NewFits n → (v : HookVerdict) → HookVerdictFits v
    → IfSome (external_source network f n v) ExternalFits
external_fits network h f n k (Translated t) w = statement_source_fits network h f t w
external_fits network h f n k Accepted w = hairpin_fits network f.input.index n.dest k.dest
external_fits network h f n k Dropped w = tt

range_fits : (ports : Option PortInterval) → PortsFit ports → RangeFits (range_of ports)
range_fits None h = tt
range_fits (Some ports) h = h.1

sourced : (mappings : List Mapping) → Every MappingFits mappings → (n : NewConnection) → NewFits n → (o : Option ExternalSource) → IfSome o ExternalFits
    → IfSome (with_source_nat mappings n o) NewFits
sourced mappings all n h None k = h
sourced mappings all n h (Some x) k =
    some_map IsPort NewFits (with_source_mapping n x)
    (λ port w. record { original = h.original; tuple = ((k.0, w), h.tuple.1); source = (h.tuple.0, (k.0, w)); dest = h.dest })
    (source_of n.tuple.kind n.tuple.source x.address (range_of x.ports) mappings)
    (source_fits n.tuple.kind n.tuple.source x.address (range_of x.ports) mappings all (range_fits x.ports k.1))

pub info_after_source : (network : PlantTree) → AddressesOf network → (mappings : List Mapping) → Every MappingFits mappings → (f : Facts) (info : CtInfo)
    → InfoFits info → (v : HookVerdict) → HookVerdictFits v → IfSome (after_source_nat network mappings f info v) InfoFits
info_after_source network h mappings all f (New n) k v w = some_map NewFits InfoFits (λ after. New after) (λ after x. x)
    (with_source_nat mappings n (external_source network f n v)) (sourced mappings all n k (external_source network f n v) (external_fits network h f n k v w))
info_after_source network h mappings all f (Tracked c) k v w = k
info_after_source network h mappings all f (Related c) k v w = k
info_after_source network h mappings all f Invalid k v w = k
info_after_source network h mappings all f Untracked k v w = k

-- ---- what rules read of the packet

pub record PacketIs (p : Packet) : Type 0 where
  pub fits : IsPacket p
  pub header : IsHeaderOf p.protocol p.transport
  pub long : 20 ≤ p.length

source_port_fits : (port : ℕ) (t : Transport) → IsPort port → IsTransport t → IsTransport (with_source_port port t)
source_port_fits port (Tcp from to bits) h k = (h, k.1, k.2)
source_port_fits port (Udp from to) h k = (h, k.1)
source_port_fits port (Icmp message) h k = k
source_port_fits port Other h k = k

source_header : (port n : ℕ) (t : Transport) → IsHeaderOf n t → IsHeaderOf n (with_source_port port t)
source_header port n (Tcp from to bits) h = h
source_header port n (Udp from to) h = h
source_header port n (Icmp message) h = h
source_header port n Other h = h

destination_port_fits : (port : ℕ) (t : Transport) → IsPort port → IsTransport t → IsTransport (with_destination_port port t)
destination_port_fits port (Tcp from to bits) h k = (k.0, h, k.2)
destination_port_fits port (Udp from to) h k = (k.0, h)
destination_port_fits port (Icmp message) h k = k
destination_port_fits port Other h k = k

destination_header : (port n : ℕ) (t : Transport) → IsHeaderOf n t → IsHeaderOf n (with_destination_port port t)
destination_header port n (Tcp from to bits) h = h
destination_header port n (Udp from to) h = h
destination_header port n (Icmp message) h = h
destination_header port n Other h = h

with_source_is : (e : Endpoint) (p : Packet) → EndpointFits e → PacketIs p → PacketIs (with_source e p)
with_source_is e p h k = record {
  fits = record {
    source = h.0;
    destination = k.fits.destination;
    protocol = k.fits.protocol;
    ttl = k.fits.ttl;
    length = k.fits.length;
    transport = source_port_fits e.port p.transport h.1 k.fits.transport;
  };
  header = source_header e.port p.protocol p.transport k.header;
  long = k.long;
}

with_destination_is : (e : Endpoint) (p : Packet) → EndpointFits e → PacketIs p → PacketIs (with_destination e p)
with_destination_is e p h k = record {
  fits = record {
    source = k.fits.source;
    destination = h.0;
    protocol = k.fits.protocol;
    ttl = k.fits.ttl;
    length = k.fits.length;
    transport = destination_port_fits e.port p.transport h.1 k.fits.transport;
  };
  header = destination_header e.port p.protocol p.transport k.header;
  long = k.long;
}

outgoing_by_fits : (d : Direction) (original reply : Tuple) → TupleFits original → TupleFits reply → TupleFits (outgoing_by d original reply)
outgoing_by_fits directions.Original original reply h k = (k.1, k.0)
outgoing_by_fits directions.Reply original reply h k = (h.1, h.0)

outgoing_fits : (c : TrackedConnection) → TrackedFits c → TupleFits (outgoing c)
outgoing_fits c h = outgoing_by_fits c.direction c.original c.reply h.original h.reply

if_address : (b : Bool) (x y : ℕ) → x < 2 ^ 32 → y < 2 ^ 32 → (if b then x else y) < 2 ^ 32
if_address true x y h k = h
if_address false x y h k = k

related_destination : (c : TrackedConnection) (p : Packet) → TrackedFits c → PacketIs p
    → PacketIs (record p { destination = outer_destination c p.destination })
related_destination c p h k = record {
  fits = record {
    source = k.fits.source;
    destination = if_address (p.destination == (incoming c).destination.address) (outgoing c).destination.address p.destination
        (outgoing_fits c h).1.0 k.fits.destination;
    protocol = k.fits.protocol;
    ttl = k.fits.ttl;
    length = k.fits.length;
    transport = k.fits.transport;
  };
  header = k.header;
  long = k.long;
}

related_source : (c : TrackedConnection) (p : Packet) → TrackedFits c → PacketIs p → PacketIs (record p { source = outer_source c p.source })
related_source c p h k = record {
  fits = record {
    source = if_address (p.source == (incoming c).source.address) (outgoing c).source.address p.source (outgoing_fits c h).0.0 k.fits.source;
    destination = k.fits.destination;
    protocol = k.fits.protocol;
    ttl = k.fits.ttl;
    length = k.fits.length;
    transport = k.fits.transport;
  };
  header = k.header;
  long = k.long;
}

pub packet_after_destination : (info : CtInfo) (p : Packet) → InfoFits info → PacketIs p → PacketIs (packet_after_destination_nat info p)
packet_after_destination (Tracked c) p h k = with_destination_is (outgoing c).destination p (outgoing_fits c h).1 k
packet_after_destination (Related c) p h k = related_destination c p h k
packet_after_destination (New n) p h k = with_destination_is n.tuple.destination p h.tuple.1 k
packet_after_destination Invalid p h k = k
packet_after_destination Untracked p h k = k

pub packet_after_source : (info : CtInfo) (p : Packet) → InfoFits info → PacketIs p → PacketIs (packet_after_source_nat info p)
packet_after_source (Tracked c) p h k = with_source_is (outgoing c).source p (outgoing_fits c h).0 k
packet_after_source (Related c) p h k = related_source c p h k
packet_after_source (New n) p h k = with_source_is n.tuple.source p h.tuple.0 k
packet_after_source Invalid p h k = k
packet_after_source Untracked p h k = k

-- ---- the connection's state

-- a looked-up packet has a state, which is new for the first of a connection
abbrev pub IsStateOf : CtInfo → Option ℕ → Type 0
IsStateOf (New n) state = state ≡ Some STATE_NEW
IsStateOf _ state = is_some state ≡ true

pub state_looked_up : (info : CtInfo) → IsStateOf info (ct_state (ct_facts_of info))
state_looked_up (Tracked c) = refl
state_looked_up (Related c) = refl
state_looked_up (New n) = refl
state_looked_up Invalid = refl
state_looked_up Untracked = refl

pub mark_looked_up : (info : CtInfo) → InfoFits info → IsCt (ct_facts_of info)
mark_looked_up (Tracked c) h = h.mark
mark_looked_up (Related c) h = h.mark
mark_looked_up (New n) h = lit< tt
mark_looked_up Invalid h = tt
mark_looked_up Untracked h = tt

pub state_after_nat : (info : CtInfo) (c : CtFacts) → ct_state c ≡ ct_state (ct_facts_after_nat info c)
state_after_nat (New n) (ct.Known c) = refl
state_after_nat (New n) ct.NotLookedUp = refl
state_after_nat (New n) ct.Notrack = refl
state_after_nat (New n) ct.Untracked = refl
state_after_nat (New n) ct.Invalid = refl
state_after_nat (Tracked t) c = refl
state_after_nat (Related t) c = refl
state_after_nat Invalid c = refl
state_after_nat Untracked c = refl

pub mark_after_nat : (info : CtInfo) (c : CtFacts) → IsCt c → IsCt (ct_facts_after_nat info c)
mark_after_nat (New n) (ct.Known c) h = h
mark_after_nat (New n) ct.NotLookedUp h = h
mark_after_nat (New n) ct.Notrack h = h
mark_after_nat (New n) ct.Untracked h = h
mark_after_nat (New n) ct.Invalid h = h
mark_after_nat (Tracked t) c h = h
mark_after_nat (Related t) c h = h
mark_after_nat Invalid c h = h
mark_after_nat Untracked c h = h

-- NAT doesn't change of which sort the state is
pub sort_after_destination : (network : PlantTree) (mappings : List Mapping) (f : Facts) (info : CtInfo) (v : HookVerdict) (state : Option ℕ)
    → IsStateOf info state → IsStateOf (after_destination_nat network mappings f info v) state
sort_after_destination network mappings f (New n) v state h = h
sort_after_destination network mappings f (Tracked c) v state h = h
sort_after_destination network mappings f (Related c) v state h = h
sort_after_destination network mappings f Invalid v state h = h
sort_after_destination network mappings f Untracked v state h = h

new_sort : (o : Option NewConnection) (state : Option ℕ) → state ≡ Some STATE_NEW → IfSome (option_map (λ after. New after) o) (λ i. IsStateOf i state)
new_sort None state h = tt
new_sort (Some n) state h = h

pub sort_after_source : (network : PlantTree) (mappings : List Mapping) (f : Facts) (info : CtInfo) (v : HookVerdict) (state : Option ℕ)
    → IsStateOf info state → IfSome (after_source_nat network mappings f info v) (λ i. IsStateOf i state)
sort_after_source network mappings f (New n) v state h = new_sort (with_source_nat mappings n (external_source network f n v)) state h
sort_after_source network mappings f (Tracked c) v state h = h
sort_after_source network mappings f (Related c) v state h = h
sort_after_source network mappings f Invalid v state h = h
sort_after_source network mappings f Untracked v state h = h
