use Rattle.std.proofs.Common.{◌≡◌, ◌+◌, ◌-◌, ◌*◌, ◌%◌, ◌≤◌, ℕ, List, take, drop, length, get_or, refl, ap, ◌∙◌, arith}
use Rattle.std.proofs.lemmas.List.{get_or-drop}
use Rattle.std.proofs.lemmas.Grind.{common_steps}
use Rattle.list_laws.specs.Lists.{rest_from}
use Rattle.byteorder.specs.Endian.{big_number}
use Rattle.ip_headers.specs.Bytes.{u32_at}
use Rattle.rewrite.specs.steps.Fields.{transport_fields_of}
use Rattle.rewrite.proofs.Words.{word_read}
use Rattle.rewrite.proofs.fields.Fields.read.Goals as goal

number_read : (bytes : List ℕ) (i number : ℕ) → i + 4 ≤ length bytes
    → number ≡ big_number 4 (take (length bytes - i) (drop i bytes)) → number ≡ u32_at bytes i
number_read bytes i number whole read = grind (arith, common_steps, read)

pub returns-clause-fields : goal.returns-clause-fields
returns-clause-fields c =
    let p = c.args.packet.now in
    let start = c.args.start in
    let long : start + 20 ≤ length p = omega (arith, c.requires.long, c.requires.whole) in
    let first : get_or (drop start p) 0 0 ≡ get_or p start 0 = grind (arith, common_steps) in
    let ninth : get_or (drop start p) 9 0 ≡ get_or p (start + 9) 0 = get_or-drop start p 9 0 in
    let payload = c.read.ensures ∙ ap (λ l. transport_fields_of (get_or p (start + 9) 0) l)
    (rest_from p (start + get_or p start 0 % 16 * 4)) in
    rw (
      ninth,
      first,
      number_read p (start + 12) c.read_u32.result (omega (arith, long)) c.read_u32.ensures,
      number_read p (start + 16) c.read_u32-2.result (omega (arith, long)) c.read_u32-2.ensures,
      word_read p (start + 10) c.read_u16.result (omega (arith, long)) c.read_u16.ensures,
      payload,
    ) refl

pub returns-clause-bytes : goal.returns-clause-bytes
returns-clause-bytes c = λ i. omega (arith, c.type_inv.packet i)
