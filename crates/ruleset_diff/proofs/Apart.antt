-- Ends of stages that no test tells apart are the same.
use Rattle.std.proofs.Common.{◌≡◌, ◌∙◌, ◌==◌, ℕ, Bool, true, false, cond, refl, ap, sym, eq-eqb, Option, Some, None, is_some, unwrap_or}
use Rattle.std.proofs.lemmas.Bool.{eqb-true}
use Rattle.ip_headers.specs.declared.transport.Transport.{Transport}
use Rattle.ip_headers.specs.declared.transport.Transport.TheVariants.{Tcp, Udp, Icmp, Other}
use Rattle.ip_headers.specs.declared.tuple.Direction.{Direction}
use Rattle.ip_headers.specs.declared.tuple.Direction.TheVariants as directions
use Rattle.rule_meaning.specs.declared.facts.ConnectionFacts.{ConnectionFacts}
use Rattle.rule_meaning.specs.declared.facts.CtFacts.{CtFacts}
use Rattle.rule_meaning.specs.declared.facts.CtFacts.TheVariants as ct
use Rattle.rule_meaning.specs.declared.facts.CtState.{CtState}
use Rattle.rule_meaning.specs.declared.facts.CtState.TheVariants as states
use Rattle.rule_meaning.specs.declared.facts.Facts.{Facts}
use Rattle.rule_meaning.specs.declared.facts.Interface.{Interface}
use Rattle.rule_meaning.specs.declared.facts.Packet.{Packet}
use Rattle.rule_meaning.specs.declared.event.HookVerdict.{HookVerdict}
use Rattle.rule_meaning.specs.declared.event.HookVerdict.TheVariants.{Accepted, Dropped, Translated}
use Rattle.rule_meaning.specs.declared.event.NatAction.{NatAction}
use Rattle.rule_meaning.specs.declared.event.NatAction.TheVariants.{Source, Destination, Masquerade, Redirect}
use Rattle.rule_meaning.specs.declared.event.PortInterval.{PortInterval}
use Rattle.chain_ways.specs.BaseWays.{StageEnd}

-- no test tells them apart
abbrev pub Alike : {X : Type 0} → X → X → Type 0
Alike {X} x y = (test : X → Bool) → test x ≡ test y

by : {X Y : Type 0} (part : X → Y) (x y : X) → Alike x y → Alike (part x) (part y)
by part x y h = λ test. h (λ z. test (part z))

-- ---- numbers, truth values, options

numbers : (x y : ℕ) → Alike x y → x ≡ y
numbers x y h = eqb-true x y (sym (h (λ z. x == z)) ∙ eq-eqb x x refl)

truths : (x y : Bool) → Alike x y → x ≡ y
truths x y h = h (λ z. z)

options : {X : Type 0} (any : X) → ((x y : X) → Alike x y → x ≡ y) → (x y : Option X) → Alike x y → x ≡ y
options any same None None h = refl
options any same (Some x) (Some y) h = ap Some (same x y (by (λ o. unwrap_or o any) (Some x) (Some y) h))
options any same None (Some y) h = let e = h is_some in absurd (cc)
options any same (Some x) None h = let e = h is_some in absurd (cc)

-- ---- verdicts

interval_of : ℕ → ℕ → PortInterval
interval_of low high = record { low = low; high = high }

interval-made : (p : PortInterval) → interval_of p.low p.high ≡ p
unfolding interval_of
interval-made p = refl

intervals : (x y : PortInterval) → Alike x y → x ≡ y
intervals x y h =
    let low : x.low ≡ y.low = numbers x.low y.low (by (λ z. z.low) x y h) in
    let high : x.high ≡ y.high = numbers x.high y.high (by (λ z. z.high) x y h) in
    cc (interval-made x, interval-made y)

action-code : NatAction → ℕ
action-code (Source a ports) = 0
action-code (Destination a port) = 1
action-code (Masquerade ports) = 2
action-code (Redirect port) = 3

action-address : NatAction → ℕ
action-address (Source a ports) = a
action-address (Destination a port) = a
action-address _ = 0

action-ports : NatAction → Option PortInterval
action-ports (Source a ports) = ports
action-ports (Masquerade ports) = ports
action-ports _ = None

action-port : NatAction → Option ℕ
action-port (Destination a port) = port
action-port (Redirect port) = port
action-port _ = None

action_of : ℕ → ℕ → Option PortInterval → Option ℕ → NatAction
action_of code a ports port =
    cond (code == 0) (Source a ports) (cond (code == 1) (Destination a port) (cond (code == 2) (Masquerade ports) (Redirect port)))

action-made : (n : NatAction) → action_of (action-code n) (action-address n) (action-ports n) (action-port n) ≡ n
unfolding action_of action-code action-address action-ports action-port
action-made (Source a ports) = refl
action-made (Destination a port) = refl
action-made (Masquerade ports) = refl
action-made (Redirect port) = refl

any-interval : PortInterval
any-interval = record { low = 0; high = 0 }

actions : (x y : NatAction) → Alike x y → x ≡ y
actions x y h =
    let code : action-code x ≡ action-code y = numbers _ _ (by action-code x y h) in
    let address : action-address x ≡ action-address y = numbers _ _ (by action-address x y h) in
    let ports : action-ports x ≡ action-ports y = options any-interval intervals _ _ (by action-ports x y h) in
    let port : action-port x ≡ action-port y = options 0 numbers _ _ (by action-port x y h) in
    cc (action-made x, action-made y)

verdict-code : HookVerdict → ℕ
verdict-code Accepted = 0
verdict-code Dropped = 1
verdict-code (Translated n) = 2

verdict-action : HookVerdict → NatAction
verdict-action (Translated n) = n
verdict-action _ = Redirect None

verdict_of : ℕ → NatAction → HookVerdict
verdict_of code n = cond (code == 0) Accepted (cond (code == 1) Dropped (Translated n))

verdict-made : (v : HookVerdict) → verdict_of (verdict-code v) (verdict-action v) ≡ v
unfolding verdict_of verdict-code verdict-action
verdict-made Accepted = refl
verdict-made Dropped = refl
verdict-made (Translated n) = refl

verdicts : (x y : HookVerdict) → Alike x y → x ≡ y
verdicts x y h =
    let code : verdict-code x ≡ verdict-code y = numbers _ _ (by verdict-code x y h) in
    let action : verdict-action x ≡ verdict-action y = actions _ _ (by verdict-action x y h) in
    cc (verdict-made x, verdict-made y)

-- ---- packets

transport-code : Transport → ℕ
transport-code (Tcp source destination flags) = 0
transport-code (Udp source destination) = 1
transport-code (Icmp message) = 2
transport-code Other = 3

transport-first : Transport → ℕ
transport-first (Tcp source destination flags) = source
transport-first (Udp source destination) = source
transport-first (Icmp message) = message
transport-first Other = 0

transport-second : Transport → ℕ
transport-second (Tcp source destination flags) = destination
transport-second (Udp source destination) = destination
transport-second _ = 0

transport-flags : Transport → ℕ
transport-flags (Tcp source destination flags) = flags
transport-flags _ = 0

transport_of : ℕ → ℕ → ℕ → ℕ → Transport
transport_of code first second flags =
    cond (code == 0) (Tcp first second flags) (cond (code == 1) (Udp first second) (cond (code == 2) (Icmp first) Other))

transport-made : (t : Transport) → transport_of (transport-code t) (transport-first t) (transport-second t) (transport-flags t) ≡ t
unfolding transport_of transport-code transport-first transport-second transport-flags
transport-made (Tcp source destination flags) = refl
transport-made (Udp source destination) = refl
transport-made (Icmp message) = refl
transport-made Other = refl

transports : (x y : Transport) → Alike x y → x ≡ y
transports x y h =
    let code : transport-code x ≡ transport-code y = numbers _ _ (by transport-code x y h) in
    let first : transport-first x ≡ transport-first y = numbers _ _ (by transport-first x y h) in
    let second : transport-second x ≡ transport-second y = numbers _ _ (by transport-second x y h) in
    let flags : transport-flags x ≡ transport-flags y = numbers _ _ (by transport-flags x y h) in
    cc (transport-made x, transport-made y)

packet_of : ℕ → ℕ → ℕ → ℕ → ℕ → Transport → Packet
packet_of source destination protocol ttl length transport =
    record { source = source; destination = destination; protocol = protocol; ttl = ttl; length = length; transport = transport }

packet-made : (p : Packet) → packet_of p.source p.destination p.protocol p.ttl p.length p.transport ≡ p
unfolding packet_of
packet-made p = refl

packets : (x y : Packet) → Alike x y → x ≡ y
packets x y h =
    let source : x.source ≡ y.source = numbers _ _ (by (λ z. z.source) x y h) in
    let destination : x.destination ≡ y.destination = numbers _ _ (by (λ z. z.destination) x y h) in
    let protocol : x.protocol ≡ y.protocol = numbers _ _ (by (λ z. z.protocol) x y h) in
    let ttl : x.ttl ≡ y.ttl = numbers _ _ (by (λ z. z.ttl) x y h) in
    let length : x.length ≡ y.length = numbers _ _ (by (λ z. z.length) x y h) in
    let transport : x.transport ≡ y.transport = transports _ _ (by (λ z. z.transport) x y h) in
    cc (packet-made x, packet-made y)

-- ---- interfaces and connections

interface_of : ℕ → ℕ → Interface
interface_of index name = record { index = index; name = name }

interface-made : (i : Interface) → interface_of i.index i.name ≡ i
unfolding interface_of
interface-made i = refl

interfaces : (x y : Interface) → Alike x y → x ≡ y
interfaces x y h =
    let index : x.index ≡ y.index = numbers _ _ (by (λ z. z.index) x y h) in
    let name : x.name ≡ y.name = numbers _ _ (by (λ z. z.name) x y h) in
    cc (interface-made x, interface-made y)

state-code : CtState → ℕ
state-code states.Established = 0
state-code states.Related = 1
state-code states.New = 2

state_of : ℕ → CtState
state_of code = cond (code == 0) states.Established (cond (code == 1) states.Related states.New)

state-made : (s : CtState) → state_of (state-code s) ≡ s
unfolding state_of state-code
state-made states.Established = refl
state-made states.Related = refl
state-made states.New = refl

is-reply : Direction → Bool
is-reply directions.Original = false
is-reply directions.Reply = true

direction_of : Bool → Direction
direction_of reply = cond reply directions.Reply directions.Original

direction-made : (d : Direction) → direction_of (is-reply d) ≡ d
unfolding direction_of is-reply
direction-made directions.Original = refl
direction-made directions.Reply = refl

connection_of : CtState → Direction → ℕ → Bool → Bool → Bool → ConnectionFacts
connection_of state direction mark seen source destination = record {
  state = state;
  direction = direction;
  mark = mark;
  seen_reply = seen;
  source_translated = source;
  destination_translated = destination;
}

connection-made : (c : ConnectionFacts)
    → connection_of c.state c.direction c.mark c.seen_reply c.source_translated c.destination_translated ≡ c
unfolding connection_of
connection-made c = refl

connections : (x y : ConnectionFacts) → Alike x y → x ≡ y
connections x y h =
    let code : state-code x.state ≡ state-code y.state = numbers _ _ (by (λ z. state-code z.state) x y h) in
    let state : x.state ≡ y.state = cc (state-made x.state, state-made y.state) in
    let reply : is-reply x.direction ≡ is-reply y.direction = h (λ z. is-reply z.direction) in
    let direction : x.direction ≡ y.direction = cc (direction-made x.direction, direction-made y.direction) in
    let mark : x.mark ≡ y.mark = numbers _ _ (by (λ z. z.mark) x y h) in
    let seen : x.seen_reply ≡ y.seen_reply = h (λ z. z.seen_reply) in
    let source : x.source_translated ≡ y.source_translated = h (λ z. z.source_translated) in
    let destination : x.destination_translated ≡ y.destination_translated = h (λ z. z.destination_translated) in
    cc (connection-made x, connection-made y)

any-connection : ConnectionFacts
any-connection = connection_of states.New directions.Original 0 false false false

ct-code : CtFacts → ℕ
ct-code ct.NotLookedUp = 0
ct-code ct.Notrack = 1
ct-code ct.Untracked = 2
ct-code ct.Invalid = 3
ct-code (ct.Known c) = 4

ct-connection : CtFacts → ConnectionFacts
ct-connection (ct.Known c) = c
ct-connection _ = any-connection

ct_of : ℕ → ConnectionFacts → CtFacts
ct_of code c =
    cond (code == 0) ct.NotLookedUp (cond (code == 1) ct.Notrack (cond (code == 2) ct.Untracked (cond (code == 3) ct.Invalid (ct.Known c))))

ct-made : (f : CtFacts) → ct_of (ct-code f) (ct-connection f) ≡ f
unfolding ct_of ct-code ct-connection
ct-made ct.NotLookedUp = refl
ct-made ct.Notrack = refl
ct-made ct.Untracked = refl
ct-made ct.Invalid = refl
ct-made (ct.Known c) = refl

trackings : (x y : CtFacts) → Alike x y → x ≡ y
trackings x y h =
    let code : ct-code x ≡ ct-code y = numbers _ _ (by ct-code x y h) in
    let connection : ct-connection x ≡ ct-connection y = connections _ _ (by ct-connection x y h) in
    cc (ct-made x, ct-made y)

-- ---- facts and ends

any-interface : Interface
any-interface = interface_of 0 0

facts_by : Packet → Interface → Option Interface → ℕ → CtFacts → Facts
facts_by packet input output mark ct = record { packet = packet; input = input; output = output; mark = mark; ct = ct }

facts-made : (f : Facts) → facts_by f.packet f.input f.output f.mark f.ct ≡ f
unfolding facts_by
facts-made f = refl

facts : (x y : Facts) → Alike x y → x ≡ y
facts x y h =
    let packet : x.packet ≡ y.packet = packets _ _ (by (λ z. z.packet) x y h) in
    let input : x.input ≡ y.input = interfaces _ _ (by (λ z. z.input) x y h) in
    let output : x.output ≡ y.output = options any-interface interfaces _ _ (by (λ z. z.output) x y h) in
    let mark : x.mark ≡ y.mark = numbers _ _ (by (λ z. z.mark) x y h) in
    let tracking : x.ct ≡ y.ct = trackings _ _ (by (λ z. z.ct) x y h) in
    cc (facts-made x, facts-made y)

end_of : HookVerdict → Facts → StageEnd
end_of verdict f = record { verdict = verdict; facts = f }

end-made : (e : StageEnd) → end_of e.verdict e.facts ≡ e
unfolding end_of
end-made e = refl

pub alike_ends : (x y : StageEnd) → Alike x y → x ≡ y
alike_ends x y h =
    let verdict : x.verdict ≡ y.verdict = verdicts _ _ (by (λ z. z.verdict) x y h) in
    let after : x.facts ≡ y.facts = facts _ _ (by (λ z. z.facts) x y h) in
    cc (end-made x, end-made y)
