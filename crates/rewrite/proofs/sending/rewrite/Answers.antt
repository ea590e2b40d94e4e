use Rattle.std.proofs.Common.{◌≡◌, true, sym, ap, ◌∙◌}
use Rattle.rewrite.specs.declared.fields.Fields.{Fields}
use Rattle.rewrite.specs.steps.Fields.{changed_fields, fields_at, keeps_endpoints, with_fields, with_ttl_field}
use Rattle.rewrite.proofs.Datagrams.{IsDatagram, own_endpoints, whole_is}
use Rattle.rewrite.proofs.sending.rewrite.Goals.{Start}
use Rattle.rewrite.proofs.sending.rewrite.Goals as goal

datagram : (c : Start) → IsDatagram c.args.start c.args.packet.now
datagram c = record { small = c.requires.small; long = c.requires.room.long; whole = c.requires.room.whole }

pub returns-then-keeps_endpoints : goal.returns-then-keeps_endpoints
returns-then-keeps_endpoints c =
    let p = c.args.packet.now in
    let change = c.args.change.now in
    let d = datagram (goal.at.returns-then-keeps_endpoints c).Start in
    let keeps : keeps_endpoints change (fields_at c.args.start p) ≡ true = ap (λ (f : Fields). keeps_endpoints change f) (sym c.requires.fields)
    ∙ sym c.keeps_endpoints.ensures ∙ c.if-keeps_endpoints.true in
    c.write_ttl.ensures ∙ ap (λ (f : Fields). with_ttl_field c.args.start p f change.ttl) c.requires.fields
    ∙ own_endpoints c.args.start p change d keeps ∙ whole_is c.args.start p change d

pub returns-else-keeps_endpoints : goal.returns-else-keeps_endpoints
returns-else-keeps_endpoints c =
    let p = c.args.packet.now in
    let change = c.args.change.now in
    c.write.ensures ∙ ap (λ (f : Fields). with_fields c.args.start p f) (c.changed.ensures
    ∙ ap (λ (f : Fields). changed_fields change f) c.requires.fields)
    ∙ whole_is c.args.start p change (datagram (goal.at.returns-else-keeps_endpoints c).Start)
