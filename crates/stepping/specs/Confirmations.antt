-- The confirmation of a packet at the end of its path. It begins its connection there, or is dropped where
-- the tuples clash, as by netfilter's nf_conntrack_confirm; that it refreshes one there, and that the table
-- is full there, is (own): Linux does both at the look-up.
use Rattle.std.specs.Prelude.{◌≡◌, ℕ, Bool, nat_le, if◌then◌else◌, List, length, Option, Some, None}
use Rattle.ip_headers.specs.declared.tuple.Mapping.{Mapping}
use Rattle.ip_headers.specs.declared.tuple.Tuple.{Tuple}
use Rattle.ip_headers.specs.Tuple.{inverse}
use Rattle.nat_mapping.specs.Mappings.{port_of}
use Rattle.conntrack.specs.declared.connection.ConntrackEntry.{ConntrackEntry}
use Rattle.conntrack.specs.ConntrackEntry.{is_taken, max_connections}
use Rattle.conntrack.specs.Updates.{Confirmation, Unconfirmed, Confirmed}
use Rattle.rule_meaning.specs.declared.facts.CtFacts.{CtFacts}
use Rattle.rule_meaning.specs.declared.facts.CtFacts.TheVariants.{Known}
use Rattle.history.specs.declared.outcome.Cause.{Cause}
use Rattle.history.specs.declared.outcome.Cause.TheVariants as causes
use Rattle.translation.specs.declared.ct_info.NewConnection.{NewConnection}
use Rattle.translation.specs.declared.ct_info.CtInfo.{CtInfo}
use Rattle.translation.specs.declared.ct_info.CtInfo.TheVariants.{Tracked, New}
use Rattle.translation.specs.LiveMappings.{mappings_in}
use Rattle.stepping.specs.Paths.{PathState, StepResult, Continue, Drop, Step}

-- ---- the step

-- why a connection with this reply tuple can't begin beside the others
abbrev pub refusal : Tuple → List ConntrackEntry → Option Cause
refusal reply others =
    if nat_le max_connections (length others) then Some causes.Full
    else (if is_taken reply others then Some causes.Clash else None)

-- replies come with the inverse of the tuple after NAT (RFC 3022, section 4.1)
abbrev pub reply_to : NewConnection → Tuple
reply_to new_connection = inverse new_connection.tuple

abbrev pub unless_refused : Option Cause → PathState → StepResult
unless_refused None s = Continue s
unless_refused (Some cause) s = Drop cause s

abbrev pub confirmed : List ConntrackEntry → CtInfo → PathState → StepResult
confirmed others (New new_connection) s = unless_refused (refusal (reply_to new_connection) others) s
confirmed others _ s = Continue s

-- a packet that begins a connection is dropped where that can't begin beside the others
abbrev pub Confirm : List ConntrackEntry → Step
Confirm others s r = r ≡ confirmed others s.info s

-- ---- what it does to connections

-- the mark of a connection, as last set
abbrev pub mark_in : CtFacts → ℕ
mark_in (Known c) = c.mark
mark_in _ = 0

-- a packet refreshes its connection (own), or begins one with the mappings that NAT gave it
abbrev pub confirmation_by : CtInfo → ℕ → Confirmation
confirmation_by (Tracked connection) mark = Confirmed mark connection.reply None None
confirmation_by (New new_connection) mark =
    Confirmed mark (reply_to new_connection) new_connection.source new_connection.dest
-- an ICMP error doesn't refresh its connection (nor in netfilter's nf_conntrack_in)
confirmation_by _ mark = Unconfirmed

-- a dropped packet doesn't refresh its connection (own: on Linux it does, but for one dropped before the
-- look-up)
abbrev pub confirmation_of : StepResult → Confirmation
confirmation_of (Continue s) = confirmation_by s.info (mark_in s.facts.ct)
confirmation_of (Drop cause s) = Unconfirmed

-- ---- whether a port range was given where a port was allocated

-- a live mapping is reused, without a new port (RFC 4787, REQ-1)
abbrev pub port_choice_by : Bool → Option ℕ → Option Bool
port_choice_by has_port_range (Some port) = None
port_choice_by has_port_range None = Some has_port_range

abbrev pub port_choice_in : List Mapping → Bool → Option Mapping → Option Bool
port_choice_in mappings has_port_range None = None
port_choice_in mappings has_port_range (Some m) =
    port_choice_by has_port_range (port_of m.kind m.internal m.external.address mappings)

abbrev pub port_choice_for : List Mapping → CtInfo → Option Bool
port_choice_for mappings (New new_connection) =
    port_choice_in mappings new_connection.has_port_range new_connection.source
port_choice_for mappings _ = None

-- beside these other connections
abbrev pub port_choice_of : List ConntrackEntry → StepResult → Option Bool
port_choice_of others (Continue s) = port_choice_for (mappings_in others) s.info
port_choice_of others (Drop cause s) = None
