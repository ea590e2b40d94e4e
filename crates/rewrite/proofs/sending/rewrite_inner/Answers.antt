use Rattle.rewrite.proofs.Words.{all_fields_by, SameAt, same_at, word_read}
use Rattle.std.proofs.Common.{◌≡◌, ◌+◌, get_or, None, refl, ap, ◌∙◌, arith}
use Rattle.ip_headers.specs.Header.{payload_at}
use Rattle.rewrite.specs.Endpoints.{between}
use Rattle.rewrite.specs.Rewritten.{inner_start}
use Rattle.rewrite.specs.steps.Fields.{fields_at}
use Rattle.rewrite.proofs.Datagrams.{IsDatagram, whole_is}
use Rattle.rewrite.proofs.Packets.{payload_same}
use Rattle.rewrite.proofs.Rewritten.{quote_rewritten_is}
use Rattle.rewrite.proofs.sending.rewrite_inner.Goals.{After-new-parts}
use Rattle.rewrite.proofs.sending.rewrite_inner.Goals as goal

-- the payload's offset stays
place_kept : (c : After-new-parts) → c.new-parts.result.payload ≡ payload_at 0 c.args.packet.now
place_kept c =
    let p = c.args.packet.now in
    c.new-parts.ensures.payload ∙ payload_same c.write.new.packet p (ap (λ l. get_or l 0 0) c.write.ensures
    ∙ all_fields_by (SameAt 0 p) 1 (same_at 0 p) (c.args.payload + 8) p c.changed-new.result (omega arith) refl)

pub set_icmp_checksum-requires : goal.set_icmp_checksum-requires
set_icmp_checksum-requires c = grind (arith, place_kept, c.write.auto.packet, c.requires.fields.whole)

pub returns : goal.returns
returns c =
    let p = c.args.packet.now in
    let t = c.args.tuple in
    let here = c.requires.payload in
    let fields = fields_at (inner_start p) p in
    let d : IsDatagram (inner_start p) p = record {
      small = c.read-old.ensures.bytes;
      long = c.requires.fields.long;
      whole = c.requires.fields.whole;
    } in
    let old : c.read-old.result ≡ fields = c.read-old.ensures.fields ∙ ap (λ n. fields_at (n + 8) p) here in
    let offset = place_kept (goal.at.returns c).After-new-parts in
    let sum = word_read p (c.args.payload + 2) c.read_u16-checksum.result (omega (arith, d.whole, here)) c.read_u16-checksum.ensures in
    let is = whole_is (inner_start p) p (between t None) d in
    let last = quote_rewritten_is p t (omega (arith, c.requires.long, here)) d in
    let bytes = c.new-parts.ensures.bytes in
    let all = c.set_icmp_checksum.ensures.bytes in
    grind (arith, here, old, offset, sum, is, last, bytes, all, c.changed-new.ensures, c.between.ensures, c.write.ensures, c.words_to.ensures, c.update.ensures)
