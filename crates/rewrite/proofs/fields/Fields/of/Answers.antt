use Rattle.std.proofs.Common.{◌≡◌, ◌≤◌, List, ℕ, drop, length, refl, sym, ap, ◌∙◌, arith}
use Rattle.std.proofs.lemmas.Grind.{common_steps}
use Rattle.ip_headers.specs.Bytes.{u16_at}
use Rattle.ip_headers.specs.Header.{payload_at, payload_of, protocol, total_len}
use Rattle.rewrite.specs.steps.Fields.{transport_fields_of}
use Rattle.rewrite.proofs.Words.{word_read}
use Rattle.rewrite.proofs.fields.Fields.of.Goals.{Start}
use Rattle.rewrite.proofs.fields.Fields.of.Goals as goal

behind_header : (p payload : List ℕ) → payload ≡ payload_of p → length p ≡ total_len p → drop (payload_at 0 p) p ≡ payload
behind_header p payload is exact = grind (arith, common_steps)

payload : (c : Start) → drop (payload_at 0 c.args.view.now.packet.now) c.args.view.now.packet.now ≡ c.args.view.now.payload.now
payload c = behind_header _ _ c.args.view.now.tail c.args.view.now.exact

pub of-requires : goal.of-requires
of-requires c = grind (arith, common_steps, payload, c.requires.room.whole)

pub returns-clause-fields : goal.returns-clause-fields
returns-clause-fields c =
    let p = c.args.view.now.packet.now in
    let long : 20 ≤ length p = omega (arith, c.requires.room.long, c.requires.room.whole) in
    let same = ap (λ (l : List ℕ). length l) c.requires.same in
    let transport = c.of.ensures ∙ ap (λ l. transport_fields_of (protocol p) l) (sym (payload (goal.at.returns-clause-fields c).Start)) in
    let sum = word_read c.args.packet.now 10 c.read_u16.result (omega (arith, long, same)) c.read_u16.ensures
    ∙ ap (λ (l : List ℕ). u16_at l 10) c.requires.same in
    rw (c.source.ensures, c.destination.ensures, c.ttl.ensures, sum, transport) refl

pub returns-clause-bytes : goal.returns-clause-bytes
returns-clause-bytes c = λ i. omega (arith, c.type_inv.packet i)
