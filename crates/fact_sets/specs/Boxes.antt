-- The facts of a box, and that bits write each of them. (own)
use Rattle.std.specs.Prelude.{◌≡◌, ℕ, ◌^◌, ◌<◌, Bool, false, List, IfSome}
use Rattle.ip_headers.specs.declared.transport.Transport.{Transport}
use Rattle.ip_headers.specs.declared.transport.Transport.TheVariants.{Tcp, Udp, Icmp, Other}
use Rattle.rule_meaning.specs.declared.facts.Facts.{Facts}
use Rattle.rule_meaning.specs.declared.facts.Packet.{Packet}
use Rattle.rule_meaning.specs.declared.facts.Interface.{Interface}
use Rattle.rule_meaning.specs.declared.facts.CtFacts.{CtFacts}
use Rattle.rule_meaning.specs.declared.facts.CtFacts.TheVariants as ct
use Rattle.fact_sets.specs.declared.written.MarkSource.TheVariants as sources
use Rattle.fact_sets.specs.declared.written.Written.{Written}
use Rattle.fact_sets.specs.Facts.{facts_of, interface_at}

-- ---- what a box can see

-- one of the first 64 interfaces
abbrev pub IsInterface : List Interface → Interface → Type 0
IsInterface interfaces i = (n : ℕ) × (n < 64) × (i ≡ interface_at interfaces n)

abbrev pub IsTransport : Transport → Type 0
IsTransport (Tcp source destination flags) = (source < 2 ^ 16) × (destination < 2 ^ 16) × (flags < 2 ^ 8)
IsTransport (Udp source destination) = (source < 2 ^ 16) × (destination < 2 ^ 16)
IsTransport (Icmp message) = message < 2 ^ 8
IsTransport Other = Unit {0}

pub record IsPacket (p : Packet) : Type 0 where
  pub source : p.source < 2 ^ 32
  pub destination : p.destination < 2 ^ 32
  pub protocol : p.protocol < 2 ^ 8
  pub ttl : p.ttl < 2 ^ 8
  pub length : p.length < 2 ^ 16
  pub transport : IsTransport p.transport

abbrev pub IsCt : CtFacts → Type 0
IsCt (ct.Known c) = c.mark < 2 ^ 32
IsCt _ = Unit {0}

-- the facts fit their types, and their interfaces are the box's
pub record IsOfBox (interfaces : List Interface) (f : Facts) : Type 0 where
  pub packet : IsPacket f.packet
  pub input : IsInterface interfaces f.input
  pub output : IfSome f.output (IsInterface interfaces)
  pub mark : f.mark < 2 ^ 32
  pub ct : IsCt f.ct

-- rules have written nothing yet
abbrev pub NOTHING : Written
NOTHING = record { packet = sources.Packet; connection = sources.Connection; untracked = false }

-- some packet's bits write the facts
abbrev pub HasBits : List Interface → Facts → Type 0
HasBits interfaces f = (packet : ℕ → Bool) × (facts_of interfaces NOTHING packet ≡ f)
