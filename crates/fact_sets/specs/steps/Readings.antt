-- How a selector reads a packet's bits: a field, what its numbers stand for, and which packets have a value.
use Rattle.std.specs.Prelude.{ℕ, ◌+◌, ◌*◌, ◌/◌, ◌%◌, ◌^◌, ◌<◌, ◌≤◌}
use Rattle.std.specs.Prelude.{◌==◌, ◌&&◌, nat_le, Bool, true}
use Rattle.std.specs.Prelude.{if◌then◌else◌}
use Rattle.packet_sets.specs.declared.fields.Field.{Field}
use Rattle.nft_tree.specs.declared.selector.Selector.{Selector}
use Rattle.nft_tree.specs.declared.selector.Selector.TheVariants as selectors
use Rattle.fact_sets.specs.declared.numbers.Numbers.{Numbers}
use Rattle.fact_sets.specs.declared.numbers.Numbers.TheVariants as numbers
use Rattle.fact_sets.specs.declared.readings.Reader.{Reader}
use Rattle.fact_sets.specs.steps.Interfaces.{AreNarrow}
use Rattle.fact_sets.specs.declared.written.MarkSource.{MarkSource}
use Rattle.fact_sets.specs.declared.written.MarkSource.TheVariants as sources
use Rattle.fact_sets.specs.declared.written.Written.{Written}
use Rattle.fact_sets.specs.Facts.{CT_MARK, DESTINATION, DESTINATION_PORT}
use Rattle.fact_sets.specs.Facts.{DIRECTION, FLAGS, HAS_OUTPUT, ICMP_TYPE}
use Rattle.fact_sets.specs.Facts.{INPUT, LENGTH, MARK, OUTPUT}
use Rattle.fact_sets.specs.Facts.{PROTOCOL, SOURCE, SOURCE_PORT, STATUS, TRACKING}
use Rattle.fact_sets.specs.Facts.{TRANSPORT, TTL, interface_at, number_in}

-- the bits of `ct state` for the code of a state
abbrev pub state_meant : ℕ → ℕ
state_meant n =
    if n == 2 then 64
    else (if n == 3 then 1
    else (if n == 4 then 2
    else (if n == 5 then 4
    else 8)))

-- the bits of `ct status`
abbrev pub status_meant : ℕ → ℕ
status_meant n = n % 2 * 2 + n / 2 % 2 * 16 + n / 4 * 32

-- what a field's number stands for
abbrev pub meant : Numbers → ℕ → ℕ
meant numbers.Plain n = n
meant (numbers.Names interfaces) n = (interface_at interfaces.now n).name
meant (numbers.Indexes interfaces) n = (interface_at interfaces.now n).index
meant (numbers.Constant number) n = number
meant numbers.States n = state_meant n
meant numbers.Statuses n = status_meant n

-- the selector has a value for this packet
abbrev pub is_present : Selector → (ℕ → Bool) → Bool
is_present selectors.TcpSource packet = number_in TRANSPORT packet == 1
is_present selectors.TcpDestination packet = number_in TRANSPORT packet == 1
is_present selectors.TcpFlags packet = number_in TRANSPORT packet == 1
is_present selectors.UdpSource packet = number_in TRANSPORT packet == 2
is_present selectors.UdpDestination packet = number_in TRANSPORT packet == 2
is_present selectors.TransportSource packet =
    nat_le 1 (number_in TRANSPORT packet) && nat_le (number_in TRANSPORT packet) 2
is_present selectors.TransportDestination packet =
    nat_le 1 (number_in TRANSPORT packet) && nat_le (number_in TRANSPORT packet) 2
is_present selectors.IcmpType packet = number_in TRANSPORT packet == 3
is_present selectors.OutputName packet = packet HAS_OUTPUT
is_present selectors.OutputIndex packet = packet HAS_OUTPUT
is_present selectors.CtState packet = nat_le 2 (number_in TRACKING packet)
is_present selectors.CtDirection packet = nat_le 4 (number_in TRACKING packet)
is_present selectors.CtStatus packet = nat_le 4 (number_in TRACKING packet)
is_present selectors.CtMark packet = nat_le 4 (number_in TRACKING packet)
is_present _ packet = true

-- the field that has a mark
abbrev pub mark_field : MarkSource → Field
mark_field sources.Packet = MARK
mark_field sources.Connection = CT_MARK
mark_field (sources.Number n) = DIRECTION

-- the mark for the field's number
abbrev pub mark_meant : MarkSource → ℕ → ℕ
mark_meant (sources.Number m) n = m
mark_meant _ n = n

-- the field that a selector reads
abbrev pub field_of : Written → Selector → Field
field_of written selectors.IpSource = SOURCE
field_of written selectors.IpDestination = DESTINATION
field_of written selectors.IpProtocol = PROTOCOL
field_of written selectors.MetaProtocol = PROTOCOL
field_of written selectors.IpTtl = TTL
field_of written selectors.IpLength = LENGTH
field_of written selectors.MetaLength = LENGTH
field_of written selectors.TcpSource = SOURCE_PORT
field_of written selectors.TcpDestination = DESTINATION_PORT
field_of written selectors.UdpSource = SOURCE_PORT
field_of written selectors.UdpDestination = DESTINATION_PORT
field_of written selectors.TransportSource = SOURCE_PORT
field_of written selectors.TransportDestination = DESTINATION_PORT
field_of written selectors.TcpFlags = FLAGS
field_of written selectors.IcmpType = ICMP_TYPE
field_of written selectors.InputName = INPUT
field_of written selectors.InputIndex = INPUT
field_of written selectors.OutputName = OUTPUT
field_of written selectors.OutputIndex = OUTPUT
field_of written selectors.MetaMark = mark_field written.packet
field_of written selectors.CtMark = mark_field written.connection
field_of written selectors.MetaFamily = DIRECTION
field_of written selectors.CtState = TRACKING
field_of written selectors.CtDirection = DIRECTION
field_of written selectors.CtStatus = STATUS

-- the value of a selector for its field's number
abbrev pub value_meant : Reader → Selector → ℕ → ℕ
value_meant reader selectors.InputName n = (interface_at reader.interfaces.now n).name
value_meant reader selectors.OutputName n = (interface_at reader.interfaces.now n).name
value_meant reader selectors.InputIndex n = (interface_at reader.interfaces.now n).index
value_meant reader selectors.OutputIndex n = (interface_at reader.interfaces.now n).index
value_meant reader selectors.MetaMark n = mark_meant reader.written.packet n
value_meant reader selectors.CtMark n = mark_meant reader.written.connection n
value_meant reader selectors.MetaFamily n = 2
value_meant reader selectors.CtState n = state_meant n
value_meant reader selectors.CtStatus n = status_meant n
value_meant reader _ n = n

-- the field is one of a packet's bits
pub record IsField (field : Field) : Type 0 where
  pub first : field.first < 1024
  pub width : field.width ≤ 32

-- what selectors read fits its type
pub record IsNarrow (reader : Reader) : Type 0 where
  pub interfaces : AreNarrow reader.interfaces.now
  pub packet : (n : ℕ) → n < 2 ^ 32 → mark_meant reader.written.packet n < 2 ^ 32
  pub connection : (n : ℕ) → n < 2 ^ 32 → mark_meant reader.written.connection n < 2 ^ 32
