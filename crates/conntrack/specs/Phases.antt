-- The phases of TCP connections, and the timeouts of all kinds.
use Rattle.std.specs.Prelude.{ℕ, ◌*◌, ◌/◌, ◌%◌, ◌==◌, Bool, true, false, not, ◌&&◌, ◌||◌, if◌then◌else◌}
use Rattle.ip_headers.specs.declared.tuple.Kind.{Kind}
use Rattle.ip_headers.specs.declared.tuple.Kind.TheVariants.{Tcp, Udp, EchoRequest, EchoReply, Other}
use Rattle.conntrack.specs.declared.connection.Flags.{Flags}
use Rattle.conntrack.specs.declared.connection.Phase.{Phase}
use Rattle.conntrack.specs.declared.connection.Phase.TheVariants.{Opening, Established, Closing}
use Rattle.conntrack.specs.declared.connection.ConntrackEntry.{ConntrackEntry}
use Rattle.box_file.specs.declared.idle_line.IdleKind.{IdleKind}
use Rattle.box_file.specs.declared.idle_line.IdleKind.TheVariants as idle
use Rattle.box_file.specs.declared.limits.Limits.{Limits}
use Rattle.box_file.specs.Idle.{limit_for}

-- ---- flags (RFC 9293, section 3.1)

abbrev pub no_flags : Flags
no_flags = record { syn = false; ack = false; fin = false; rst = false }

-- FIN is the least significant bit, then come SYN, RST, PSH and ACK (RFC 9293, section 3.1)
abbrev pub flags_of : ℕ → Flags
flags_of bits = record {
  syn = bits / 2 % 2 == 1;
  ack = bits / 16 % 2 == 1;
  fin = bits % 2 == 1;
  rst = bits / 4 % 2 == 1;
}

-- the flags seen before, and a packet's if it counts
abbrev pub seen_more : Bool → Flags → Flags → Flags
seen_more counts flags seen = record {
  syn = (counts && flags.syn) || seen.syn;
  ack = (counts && flags.ack) || seen.ack;
  fin = (counts && flags.fin) || seen.fin;
  rst = (counts && flags.rst) || seen.rst;
}

-- SYN without ACK, FIN and RST: the first segment of a TCP handshake (RFC 9293, section 3.5)
abbrev pub is_lone_syn : Flags → Bool
is_lone_syn flags = flags.syn && not flags.ack && not flags.fin && not flags.rst

-- ---- phases of TCP (own, after RFC 9293, sections 3.5 and 3.6)

-- by the flags seen in each direction: closing once both ends sent FIN or one sent RST; else established
-- once each end sent SYN and ACK, in one segment or in two; else opening
abbrev pub phase_by : Flags → Flags → Phase
phase_by original reply =
    if (original.fin && reply.fin) || (original.rst || reply.rst) then Closing
    else (if (original.syn && original.ack) && (reply.syn && reply.ack) then Established
    else Opening)

abbrev pub phase_of : ConntrackEntry → Phase
phase_of h = phase_by h.from_original h.from_reply

abbrev pub is_closing_phase : Phase → Bool
is_closing_phase Closing = true
is_closing_phase _ = false

abbrev pub is_closing : ConntrackEntry → Bool
is_closing h = is_closing_phase (phase_of h)

-- ---- timeouts (RFC 5382, REQ-5; RFC 4787, REQ-5; RFC 5508, REQ-2; other protocols own)

abbrev pub seconds : ℕ → ℕ
seconds n = n * 1000000000

-- the timeout that a connection has, by kind and phase. TCP has one while it opens and while it closes, the
-- "transitory connection idle-timeout" of RFC 5382, REQ-5. An echo reply has that of its request, though it
-- creates no connection
abbrev pub idle_kind : Kind → Phase → IdleKind
idle_kind Udp phase = idle.Udp
idle_kind Tcp Established = idle.Established
idle_kind Tcp _ = idle.Transitory
idle_kind EchoRequest phase = idle.Echo
idle_kind EchoReply phase = idle.Echo
idle_kind (Other number) phase = idle.Other

-- a timeout in nanoseconds
abbrev pub limit_in : Limits → IdleKind → ℕ
limit_in limits kind = seconds (limit_for limits kind)

abbrev pub limit_by : Limits → Kind → Phase → ℕ
limit_by limits kind phase = limit_in limits (idle_kind kind phase)
