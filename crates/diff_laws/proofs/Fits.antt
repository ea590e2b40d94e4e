-- Addresses, ports and marks that fit their types, in tuples, connections and states.
use Rattle.std.specs.Prelude.{◌^◌, ◌<◌, ◌==◌, IfSome}
use Rattle.std.proofs.Common.{ℕ, Bool, true, false, if◌then◌else◌, List, [], ◌∷◌, length, filter, Option, Some, None, lit<}
use Rattle.ip_headers.specs.declared.tuple.Endpoint.{Endpoint}
use Rattle.ip_headers.specs.declared.tuple.Tuple.{Tuple}
use Rattle.ip_headers.specs.declared.tuple.Mapping.{Mapping}
use Rattle.ip_headers.specs.declared.tuple.Direction.{Direction}
use Rattle.ip_headers.specs.Same.{same_tuple}
use Rattle.ip_headers.specs.Tuple.{inverse}
use Rattle.box_file.specs.declared.limits.Limits.{Limits}
use Rattle.conntrack.specs.declared.connection.ConnId.{ConnId}
use Rattle.conntrack.specs.declared.connection.ConntrackEntry.{ConntrackEntry}
use Rattle.conntrack.specs.declared.connection.Flags.{Flags}
use Rattle.conntrack.specs.declared.belonging.Belonging.{Belonging}
use Rattle.conntrack.specs.declared.belonging.Belonging.TheVariants.{Ends, Found, NotFound}
use Rattle.conntrack.specs.declared.belonging.ConnectionRef.{ConnectionRef}
use Rattle.conntrack.specs.ConntrackEntry.{belonging_by, belongs_in, may_begin, of_original, of_reply}
use Rattle.conntrack.specs.Histories.{Creation, TrackedPacket, begun_in, connection_in, creation_in, creation_of}
use Rattle.conntrack.specs.Histories.{entries_of, is_alive, is_touch_of, live_list, mark_of, no_creation}
use Rattle.conntrack.specs.Updates.{after_end}
use Rattle.translation.specs.declared.ct_info.CtInfo.{CtInfo}
use Rattle.translation.specs.declared.ct_info.CtInfo.TheVariants.{Tracked, Related, New, Invalid}
use Rattle.translation.specs.declared.ct_info.NewConnection.{NewConnection}
use Rattle.translation.specs.declared.ct_info.TrackedConnection.{TrackedConnection}
use Rattle.translation.specs.CtInfos.{ct_info_by, error_ct_info}
use Rattle.translation.specs.LiveMappings.{listed, mappings_in, mappings_of}
use Rattle.diff_laws.specs.Addresses.{Every}
use Rattle.diff_laws.proofs.Each.{each_always, each_append, each_filter, each_find, each_flat_map, each_map}

abbrev pub EndpointFits : Endpoint → Type 0
EndpointFits e = (e.address < 2 ^ 32) × (e.port < 2 ^ 16)

abbrev pub TupleFits : Tuple → Type 0
TupleFits t = EndpointFits t.source × EndpointFits t.destination

abbrev pub MappingFits : Mapping → Type 0
MappingFits m = EndpointFits m.internal × EndpointFits m.external

pub inverse_fits : (t : Tuple) → TupleFits t → TupleFits (inverse t)
inverse_fits t h = (h.1, h.0)

-- ---- connections

pub record EntryFits (h : ConntrackEntry) : Type 0 where
  pub original : TupleFits h.original
  pub reply : TupleFits h.reply
  pub mark : h.mark < 2 ^ 32
  pub source : IfSome h.source MappingFits
  pub dest : IfSome h.dest MappingFits

pub record CreationFits (c : Creation) : Type 0 where
  pub original : TupleFits c.original
  pub reply : TupleFits c.reply
  pub source : IfSome c.source MappingFits
  pub dest : IfSome c.dest MappingFits

pub record PacketFits (e : TrackedPacket) : Type 0 where
  pub mark : e.mark < 2 ^ 32
  pub created : CreationFits (creation_in e.change)

pub none_created : CreationFits no_creation
none_created = record {
  original = ((lit< tt, lit< tt), (lit< tt, lit< tt));
  reply = ((lit< tt, lit< tt), (lit< tt, lit< tt));
  source = tt;
  dest = tt;
}

created_if : (b : Bool) (c d : Creation) → CreationFits c → CreationFits d → CreationFits (if b then c else d)
created_if true c d h k = h
created_if false c d h k = k

creation_fits : (c : ℕ) (history : List TrackedPacket) → Every PacketFits history → CreationFits (creation_of c history)
creation_fits c [] h = none_created
creation_fits c (e ∷ history) h =
    created_if (length history == c) (creation_in e.change) (creation_of c history) h.0.created (creation_fits c history h.1)

entries_if : (b : Bool) (xs ys : List TrackedPacket) → Every PacketFits xs → Every PacketFits ys → Every PacketFits (if b then xs else ys)
entries_if true xs ys h k = h
entries_if false xs ys h k = k

entries_fit : (c : ℕ) (history : List TrackedPacket) → Every PacketFits history → Every PacketFits (entries_of c history)
entries_fit c [] h = tt
entries_fit c (e ∷ history) h =
    let rest = entries_fit c history h.1 in
    entries_if (length history == c) (e ∷ []) (if is_touch_of c e.change then e ∷ entries_of c history else entries_of c history) (h.0, tt)
    (entries_if (is_touch_of c e.change) (e ∷ entries_of c history) (entries_of c history) (h.0, rest) rest)

mark_fits : (entries : List TrackedPacket) → Every PacketFits entries → mark_of entries < 2 ^ 32
mark_fits [] h = lit< tt
mark_fits (e ∷ entries) h = h.0.mark

connection_fits : (c : ℕ) (history : List TrackedPacket) → Every PacketFits history → EntryFits (connection_in c history)
connection_fits c history h =
    let made = creation_fits c history h in
    record {
      original = made.original;
      reply = made.reply;
      mark = mark_fits (entries_of c history) (entries_fit c history h);
      source = made.source;
      dest = made.dest;
    }

pub live_fit : (limits : Limits) (history : List TrackedPacket) (now : ℕ) → Every PacketFits history → Every EntryFits (live_list limits history now)
live_fit limits history now h =
    let numbers = filter (λ c. is_alive limits c history now) (begun_in history) in
    each_map (λ (c : ℕ). Unit {0}) EntryFits (λ c. connection_in c history) (λ c u. connection_fits c history h) numbers
    (each_always (λ (c : ℕ). Unit {0}) (λ c. tt) numbers)

-- ---- what packets belong to

pub record RefFits (found : ConnectionRef) : Type 0 where
  pub original : TupleFits found.original
  pub reply : TupleFits found.reply
  pub mark : found.mark < 2 ^ 32

abbrev pub BelongingFits : Belonging → Type 0
BelongingFits (Found found) = RefFits found
BelongingFits _ = Unit {0}

belonging_if : (b : Bool) (id : ConnId) (h : ConntrackEntry) (d : Direction) → EntryFits h
    → BelongingFits (if b then Ends id else Found (record {
      id = h.id;
      direction = d;
      original = h.original;
      reply = h.reply;
      mark = h.mark;
      replied = h.replied;
    }))
belonging_if true id h d fits = tt
belonging_if false id h d fits = record { original = fits.original; reply = fits.reply; mark = fits.mark }

belonging_fits : (flags : Flags) (one other : Option ConntrackEntry) → IfSome one EntryFits → IfSome other EntryFits
    → BelongingFits (belonging_by flags one other)
belonging_fits flags (Some h) other x y = belonging_if _ h.id h _ x
belonging_fits flags None (Some h) x y = record { original = y.original; reply = y.reply; mark = y.mark }
belonging_fits flags None None x y = tt

pub belongs_fits : (held : List ConntrackEntry) (t : Tuple) (flags : Flags) → Every EntryFits held → BelongingFits (belongs_in held t flags)
belongs_fits held t flags h = belonging_fits flags (of_original held t) (of_reply held t)
    (each_find EntryFits (λ x. same_tuple x.original t) held h) (each_find EntryFits (λ x. same_tuple x.reply t) held h)

pub others_fit : (b : Belonging) (held : List ConntrackEntry) → Every EntryFits held → Every EntryFits (after_end b held)
others_fit (Ends id) held h = each_filter EntryFits _ held h
others_fit NotFound held h = h
others_fit (Found found) held h = h

-- ---- mappings

listed_fit : (o : Option Mapping) → IfSome o MappingFits → Every MappingFits (listed o)
listed_fit None h = tt
listed_fit (Some m) h = (h, tt)

pub mappings_fit : (live : List ConntrackEntry) → Every EntryFits live → Every MappingFits (mappings_in live)
mappings_fit live h = each_flat_map EntryFits MappingFits mappings_of
    (λ x k. each_append MappingFits (listed x.source) (listed x.dest) (listed_fit x.source k.source) (listed_fit x.dest k.dest)) live h

-- ---- states

pub record TrackedFits (c : TrackedConnection) : Type 0 where
  pub original : TupleFits c.original
  pub reply : TupleFits c.reply
  pub mark : c.mark < 2 ^ 32

pub record NewFits (n : NewConnection) : Type 0 where
  pub original : TupleFits n.original
  pub tuple : TupleFits n.tuple
  pub source : IfSome n.source MappingFits
  pub dest : IfSome n.dest MappingFits

abbrev pub InfoFits : CtInfo → Type 0
InfoFits (Tracked c) = TrackedFits c
InfoFits (Related c) = TrackedFits c
InfoFits (New n) = NewFits n
InfoFits _ = Unit {0}

info_if : (b : Bool) (n : NewConnection) → NewFits n → InfoFits (if b then New n else Invalid)
info_if true n h = h
info_if false n h = tt

pub info_fits : (t : Tuple) (b : Belonging) → TupleFits t → BelongingFits b → InfoFits (ct_info_by t b)
info_fits t (Found found) h k = record { original = k.original; reply = k.reply; mark = k.mark }
info_fits t (Ends id) h k = info_if (may_begin t.kind) _ (record { original = h; tuple = h; source = tt; dest = tt })
info_fits t NotFound h k = info_if (may_begin t.kind) _ (record { original = h; tuple = h; source = tt; dest = tt })

pub error_fits : (b : Belonging) → BelongingFits b → InfoFits (error_ct_info b)
error_fits (Found found) k = record { original = k.original; reply = k.reply; mark = k.mark }
error_fits (Ends id) k = tt
error_fits NotFound k = tt
