use Rattle.std.proofs.Common.{arith}
use Rattle.rewrite.specs.Rewritten.{rewritten, replaced, update_checksums, write_if_some}
use Rattle.rewrite.proofs.Rewritten.{inner_rewritten_is, quote_rewritten, inner_fields, inner_rewritten, inner_rewritten_passes, read_some}
use Rattle.std.proofs.Common.{◌≡◌, ℕ, List, Option, sym, ap, subst, ◌∙◌}
use Rattle.std.specs.Option.{option_and}
use Rattle.ip_headers.specs.Passing.{Passes}
use Rattle.ip_headers.specs.Tuple.{inner_tuple_of}
use Rattle.ip_headers.specs.declared.tuple.Tuple.{Tuple}
use Rattle.rewrite.specs.steps.Fields.{HasFields, fields_at}
use Rattle.rewrite.proofs.Packets.{has_fields}
use Rattle.rewrite.proofs.sending.rewrite_packet.Goals.{Joined-quoted_endpoints, in-None, in-Some}
use Rattle.rewrite.proofs.sending.rewrite_packet.Goals as goal

-- the requested endpoints, where the packet quotes a datagram that can be translated
asked : (p q : List ℕ) (inner combined : Option Tuple) → p ≡ q → combined ≡ option_and (inner_tuple_of q) inner
    → option_and (inner_tuple_of p) inner ≡ combined
asked p q inner combined same joined = ap (λ l. option_and (inner_tuple_of l) inner) same ∙ sym joined

pub rewrite_inner-requires-clause-fields : goal.rewrite_inner-requires-clause-fields
rewrite_inner-requires-clause-fields c =
    let p = c.args.packet.now in
    let ok : Passes p = subst Passes (sym c.requires) (c.no_fault.ensures.passes _ c.args.view.now.whole) in
    inner_fields p ok (read_some (inner_tuple_of p) c.args.change.now.inner c.in-Some.tuple
    (asked p _ _ _ c.requires c.quoted_endpoints.ensures ∙ c.in-Some.is))

pub of-fields-requires-clause-room : goal.of-fields-requires-clause-room
of-fields-requires-clause-room c = has_fields _ (c.no_fault.ensures.passes _ c.args.view.now.whole)

pub read-fields-requires : goal.read-fields-requires
read-fields-requires c =
    let p = c.args.packet.now in
    let change = c.args.change.now in
    let ok : Passes p = subst Passes (sym c.requires) (c.no_fault.ensures.passes _ c.args.view.now.whole) in
    let quotes = asked p _ _ _ c.requires c.quoted_endpoints.ensures ∙ c.in-Some.is in
    let inner = c.rewrite_inner.ensures ∙ ap (λ (o : Option Tuple). write_if_some quote_rewritten p o) (sym quotes)
    ∙ inner_rewritten_is p change in
    subst (λ l. HasFields 0 l) (sym inner) (has_fields (inner_rewritten p change) (inner_rewritten_passes p change ok))

-- the packet after the first step
inner_is : (c : Joined-quoted_endpoints) → c.match-quoted_endpoints.packet ≡ inner_rewritten c.args.packet.now c.args.change.now
inner_is c =
    grind (arith, quote_rewritten, inner_rewritten, asked, c.requires, c.quoted_endpoints.ensures, inner_rewritten_is, c.match-quoted_endpoints.branch)

pub rewrite-requires-clause-room : goal.rewrite-requires-clause-room
rewrite-requires-clause-room c =
    let p = c.args.packet.now in
    let ok : Passes p = subst Passes (sym c.requires) (c.no_fault.ensures.passes _ c.args.view.now.whole) in
    subst (λ l. HasFields 0 l) (sym (inner_is (goal.at.rewrite-requires-clause-room c).Joined-quoted_endpoints))
    (has_fields (inner_rewritten p c.args.change.now) (inner_rewritten_passes p c.args.change.now ok))

pub rewrite-requires-clause-small : goal.rewrite-requires-clause-small
rewrite-requires-clause-small c = elim c.match-quoted_endpoints.branch [
  | in-Some w ↦ rw w.packet-is w.read-fields.ensures.bytes
  | in-None w ↦ rw w.packet-is w.of-fields.ensures.bytes
]

pub rewrite-requires-clause-fields : goal.rewrite-requires-clause-fields
rewrite-requires-clause-fields c = elim c.match-quoted_endpoints.branch [
  | in-Some w ↦ w.fields-is ∙ w.read-fields.ensures.fields ∙ ap (λ l. fields_at 0 l) (sym w.packet-is)
  | in-None w ↦ w.fields-is ∙ w.of-fields.ensures.fields ∙ ap (λ l. fields_at 0 l) (sym c.requires ∙ sym w.packet-is)
]

pub returns : goal.returns
unfolding rewritten
returns c =
    c.rewrite.ensures ∙ ap (λ l. update_checksums 0 l (replaced 0 l c.args.change.now)) (inner_is (goal.at.returns c).Joined-quoted_endpoints)
