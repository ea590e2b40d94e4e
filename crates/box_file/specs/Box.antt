-- The box file: interfaces with their addresses, routes, the entering interface and idle timeouts. Its
-- format, its limits and its faults are this project's own (own), but where a comment names an RFC.
use Rattle.std.specs.Prelude.{◌≡◌, ℕ, ◌-◌, ◌/◌, ◌%◌, ◌^◌, ◌<◌, ◌==◌, ◌&&◌, ◌||◌, not, nat_lt, Bool, true}
use Rattle.std.specs.Prelude.{false, List, [], ◌∷◌, length, map, filter, find, max, ◌⊎◌, Option, Some}
use Rattle.std.specs.Prelude.{None, unwrap_or, if◌then◌else◌, IsTrue, codes}
use Rattle.std.specs.List.{filter_map, list_any, list_all}
use Rattle.std.specs.Option.{option_map}
use Rattle.std.specs.Char.{is_ascii_alphanumeric}
use Rattle.std.specs.Fmt.{decimal}
use Rattle.std.specs.Str.Parse.{digits_value}
use Rattle.box_file.specs.declared.fault.BoxFault.{BoxFault}
use Rattle.box_file.specs.declared.fault.BoxFault.TheVariants.{Form, Repeated, UnknownName}
use Rattle.box_file.specs.declared.fault.BoxFault.TheVariants.{TooLarge, OutOfRange}
use Rattle.box_file.specs.declared.fault.BoxError.{BoxError}
use Rattle.box_file.specs.declared.fault.BoxError.TheVariants.{Refused, Memory}
use Rattle.box_file.specs.declared.idle_line.IdleKind.{IdleKind}
use Rattle.box_file.specs.declared.limits.Limits.{Limits}
use Rattle.box_file.specs.Text.{is_nonempty, words_of, lines_of, dotted_prefix, is_numeral}
use Rattle.box_file.specs.Idle.{word_of, is_same_kind, limit_for, usual_limits}
use Rattle.box_file.specs.Idle.{minimum_for, max_idle_seconds}

-- ---- lines

-- an `interface` line: an address of an interface, and the length of its connected prefix
pub record Interface : Type 0 where
  pub index : ℕ
  pub name : List ℕ
  pub address : ℕ
  pub prefix : ℕ

-- a `route` line: a prefix (address and length), and the name of the outgoing interface
pub record NamedRoute : Type 0 where
  pub address : ℕ
  pub prefix : ℕ
  pub name : List ℕ

-- an `idle` line: the timeout of a kind of connection in seconds, by its decimal digits, so a number of any
-- size
pub record Idle : Type 0 where
  pub kind : IdleKind
  pub digits : List ℕ

pub data Line : Type 0 where
  interface_line : Interface → Line
  route_line : NamedRoute → Line
  default_line : List ℕ → Line
  idle_line : Idle → Line

-- the words of a line, as in `interface 2 lan 192.168.1.1/24`, `route 0.0.0.0/0 wan`, `default lan`, `idle
-- udp 120`
abbrev pub words_in : Line → List (List ℕ)
words_in (interface_line i) =
    codes "interface" ∷ decimal i.index ∷ i.name ∷ dotted_prefix i.address i.prefix ∷ []
words_in (route_line r) = codes "route" ∷ dotted_prefix r.address r.prefix ∷ r.name ∷ []
words_in (default_line n) = codes "default" ∷ n ∷ []
words_in (idle_line i) = codes "idle" ∷ word_of i.kind ∷ i.digits ∷ []

-- a letter, a digit, `_`, `-` or `.`
abbrev pub is_name_byte : ℕ → Bool
is_name_byte b = is_ascii_alphanumeric b || b == 95 || b == 45 || b == 46

-- 1 to 15 such bytes, as many as Linux allows in a name (IFNAMSIZ counts the zero byte after it)
abbrev pub IsName : List ℕ → Type 0
IsName n = (0 < length n) × (length n < 16) × IsTrue (list_all is_name_byte n)

-- the values that a line may have
abbrev pub IsLine : Line → Type 0
IsLine (interface_line i) =
    (0 < i.index) × (i.index < 2147483648) × IsName i.name × (i.address < 2 ^ 32) × (0 < i.prefix)
    × (i.prefix < 33)
-- the host bits of a route are zero
IsLine (route_line r) =
    (r.address < 2 ^ 32) × (r.prefix < 33) × (r.address % 2 ^ (32 - r.prefix) ≡ 0) × IsName r.name
IsLine (default_line n) = IsName n
-- no number of a box file has a leading zero
IsLine (idle_line i) = IsTrue (is_numeral i.digits)

abbrev pub each_is_line : List Line → Type 0
each_is_line [] = Unit {0}
each_is_line (l ∷ ls) = IsLine l × each_is_line ls

-- the text consists of these lines; blank lines and comments are skipped
pub record Reads (text : List ℕ) (lines : List Line) : Type 0 where
  pub each : each_is_line lines
  pub written : filter is_nonempty (map words_of (lines_of text)) ≡ map words_in lines

-- ---- the lines of each kind, in text order

abbrev pub interface_in : Line → Option Interface
interface_in (interface_line i) = Some i
interface_in other = None

abbrev pub route_in : Line → Option NamedRoute
route_in (route_line r) = Some r
route_in other = None

abbrev pub default_in : Line → Option (List ℕ)
default_in (default_line n) = Some n
default_in other = None

abbrev pub idle_in : Line → Option Idle
idle_in (idle_line i) = Some i
idle_in other = None

abbrev pub interfaces_in : List Line → List Interface
interfaces_in = filter_map interface_in

abbrev pub routes_in : List Line → List NamedRoute
routes_in = filter_map route_in

abbrev pub defaults_in : List Line → List (List ℕ)
defaults_in = filter_map default_in

abbrev pub idles_in : List Line → List Idle
idles_in = filter_map idle_in

-- ---- faults (own)

abbrev pub same_text : List ℕ → List ℕ → Bool
same_text [] [] = true
same_text (x ∷ xs) (y ∷ ys) = x == y && same_text xs ys
same_text xs ys = false

-- two elements of the list pass the test, the earlier one as its first argument
abbrev pub any_pair : {A : Type 0} → (A → A → Bool) → List A → Bool
any_pair test [] = false
any_pair test (x ∷ xs) = list_any (test x) xs || any_pair test xs

abbrev pub two_names : Interface → Interface → Bool
two_names i j = i.index == j.index && not (same_text i.name j.name)

abbrev pub two_indexes : Interface → Interface → Bool
two_indexes i j = same_text i.name j.name && not (i.index == j.index)

abbrev pub same_address : Interface → Interface → Bool
same_address i j = i.address == j.address

abbrev pub same_prefix : NamedRoute → NamedRoute → Bool
same_prefix r s = r.address == s.address && r.prefix == s.prefix

abbrev pub same_kind : Idle → Idle → Bool
same_kind i j = is_same_kind i.kind j.kind

abbrev pub is_named : List ℕ → Interface → Bool
is_named n i = same_text i.name n

-- no interface has the name
abbrev pub is_unknown : List Interface → List ℕ → Bool
is_unknown interfaces n = not (list_any (is_named n) interfaces)

-- there isn't exactly one default
abbrev pub is_malformed : List (List ℕ) → Bool
is_malformed defaults = not (length defaults == 1)

-- an index has two names, a name has two indexes, or an address, a route's prefix or a kind of timeout is
-- given twice
abbrev pub is_repeated : List Interface → List NamedRoute → List Idle → Bool
is_repeated interfaces routes idles =
    any_pair two_names interfaces || any_pair two_indexes interfaces || any_pair same_address interfaces
    || any_pair same_prefix routes || any_pair same_kind idles

-- a route or the default line uses an unknown name
abbrev pub has_unknown : List Interface → List NamedRoute → List (List ℕ) → Bool
has_unknown interfaces routes defaults =
    list_any (λ r. is_unknown interfaces r.name) routes || list_any (is_unknown interfaces) defaults

-- over 1,048,576 bytes, 64 interface lines or 1024 route lines
abbrev pub is_too_large : List ℕ → List Interface → List NamedRoute → Bool
is_too_large text interfaces routes =
    nat_lt 1048576 (length text) || nat_lt 64 (length interfaces) || nat_lt 1024 (length routes)

abbrev pub seconds_of : Idle → ℕ
seconds_of i = digits_value 10 i.digits

-- below the minimum for its kind, or above a week
abbrev pub is_out_of_range : Idle → Bool
is_out_of_range i = nat_lt (seconds_of i) (minimum_for i.kind) || nat_lt max_idle_seconds (seconds_of i)

-- whether a text of these lines has the fault
abbrev pub has_fault : List ℕ → List Line → BoxFault → Bool
has_fault text lines Form = is_malformed (defaults_in lines)
has_fault text lines Repeated = is_repeated (interfaces_in lines) (routes_in lines) (idles_in lines)
has_fault text lines UnknownName = has_unknown (interfaces_in lines) (routes_in lines) (defaults_in lines)
has_fault text lines TooLarge = is_too_large text (interfaces_in lines) (routes_in lines)
has_fault text lines OutOfRange = list_any is_out_of_range (idles_in lines)

-- the first fault that applies, in the order B1 to B5
abbrev pub least_fault : List ℕ → List Line → Option BoxFault
least_fault text lines =
    find (has_fault text lines) (Form ∷ Repeated ∷ UnknownName ∷ TooLarge ∷ OutOfRange ∷ [])

-- the text is refused with this fault: it doesn't consist of lines (B1), or this is the first fault that
-- applies to them
abbrev pub HasBoxFault : List ℕ → BoxFault → Type 0
HasBoxFault text fault =
    (((lines : List Line) → Reads text lines → ⊥) × (fault ≡ Form))
    ⊎ ((lines : List Line) × Reads text lines × (least_fault text lines ≡ Some fault))

-- the error is the text's fault, or says that memory ran out
abbrev pub IsBoxRefusal : List ℕ → BoxError → Type 0
IsBoxRefusal text (Refused fault) = HasBoxFault text fault
IsBoxRefusal text Memory = Unit {0}

-- ---- what the lines mean

-- an entry of the routing table: a prefix, and the index of the outgoing interface
pub record RouteEntry : Type 0 where
  pub address : ℕ
  pub prefix : ℕ
  pub interface : ℕ

pub record PlantTree : Type 0 where
  -- one for each `interface` line, in text order
  pub interfaces : List Interface
  -- in text order
  pub routes : List RouteEntry
  -- the interface of the default line
  pub entering : ℕ
  -- the idle timeouts
  pub idle : Limits

-- the index of the interface with this name
abbrev pub index_of : List Interface → List ℕ → Option ℕ
index_of interfaces n = option_map (λ i. i.index) (find (is_named n) interfaces)

-- the same for a known name (0 for others)
abbrev pub known_index : List Interface → List ℕ → ℕ
known_index interfaces n = unwrap_or (index_of interfaces n) 0

-- the route of a line: an `interface` line is also a route to its connected prefix, at its position in the
-- text
abbrev pub route_of_line : List Interface → Line → Option RouteEntry
route_of_line interfaces (interface_line i) =
    Some (record { address = i.address; prefix = i.prefix; interface = i.index })
route_of_line interfaces (route_line r) =
    Some (record { address = r.address; prefix = r.prefix; interface = known_index interfaces r.name })
route_of_line interfaces other = None

-- the index of the interface of the first default line
abbrev pub entering_of : List Interface → List (List ℕ) → ℕ
entering_of interfaces [] = 0
entering_of interfaces (n ∷ ns) = known_index interfaces n

abbrev pub is_of_kind : IdleKind → Idle → Bool
is_of_kind kind i = is_same_kind i.kind kind

-- the timeout in seconds: of the first line for the kind, else the default
abbrev pub idle_for : List Idle → IdleKind → ℕ
idle_for idles kind =
    unwrap_or (option_map seconds_of (find (is_of_kind kind) idles)) (limit_for usual_limits kind)

-- these are the timeouts that the lines set
abbrev pub AreLimits : List Idle → Limits → Type 0
AreLimits idles limits = (kind : IdleKind) → limit_for limits kind ≡ idle_for idles kind

-- the box that the lines describe, with these timeouts
abbrev pub plant_of : List Line → Limits → PlantTree
plant_of lines idle =
    record {
      interfaces = interfaces_in lines;
      routes = filter_map (route_of_line (interfaces_in lines)) lines;
      entering = entering_of (interfaces_in lines) (defaults_in lines);
      idle = idle;
    }

-- a text without faults, and the box that it describes
pub record IsBox (text : List ℕ) (network : PlantTree) : Type 0 where
  pub lines : List Line
  pub read : Reads text lines
  pub faultless : least_fault text lines ≡ None
  pub limits : AreLimits (idles_in lines) network.idle
  pub meant : network ≡ plant_of lines network.idle

-- ---- lookups

-- the indexes that an interface may have
abbrev pub IsIndex : ℕ → Type 0
IsIndex n = (0 < n) × (n < 2147483648)

abbrev pub has_address : ℕ → Interface → Bool
has_address a i = i.address == a

abbrev pub has_index : ℕ → Interface → Bool
has_index n i = i.index == n

-- some interface has the address
abbrev pub is_own : PlantTree → ℕ → Bool
is_own network a = list_any (has_address a) network.interfaces

-- the index of the interface that has the address
abbrev pub owner : PlantTree → ℕ → Option ℕ
owner network a = option_map (λ i. i.index) (find (has_address a) network.interfaces)

-- the first address of the interface in the text
abbrev pub first_address : PlantTree → ℕ → Option ℕ
first_address network n = option_map (λ i. i.address) (find (has_index n) network.interfaces)

-- the index of the interface with this name
abbrev pub named : PlantTree → List ℕ → Option ℕ
named network n = index_of network.interfaces n

-- the name of the interface with this index
abbrev pub name_of : PlantTree → ℕ → Option (List ℕ)
name_of network n = option_map (λ i. i.name) (find (has_index n) network.interfaces)

-- the route's prefix contains the address
abbrev pub covers : ℕ → RouteEntry → Bool
covers a r = r.address / 2 ^ (32 - r.prefix) == a / 2 ^ (32 - r.prefix)

abbrev pub greatest : List RouteEntry → ℕ
greatest [] = 0
greatest (r ∷ rs) = max r.prefix (greatest rs)

-- the longest prefix; among equals the first in the text
abbrev pub best_of : List RouteEntry → Option RouteEntry
best_of routes = find (λ r. r.prefix == greatest routes) routes

-- the outgoing interface of the best route for the address
abbrev pub best_interface : List RouteEntry → ℕ → Option ℕ
best_interface routes a = option_map (λ r. r.interface) (best_of (filter (covers a) routes))

-- longest prefix match (RFC 1812, section 5.2.4.3), among equals the first in the text; 224.0.0.0 and above
-- have no route (own)
abbrev pub route : PlantTree → ℕ → Option ℕ
route network a = if nat_lt a 3758096384 then best_interface network.routes a else None
