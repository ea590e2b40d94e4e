use Rattle.stepping.proofs.Names.{◌-◌, List, ap, drop, length, length-drop, refl, sym, take, ℕ, ◌∙◌, ◌≡◌}
use Rattle.std.proofs.Math.Seq.{take-length}
use Rattle.stepping.proofs.arrival.carried.Goals as goal

pub returns-in-Err-clause-carried : goal.returns-in-Err-clause-carried
returns-in-Err-clause-carried c = rw (c.link_cause.ensures, ← c.in-Err.ensures.link) refl

pub returns-in_default-clause-carried : goal.returns-in_default-clause-carried
returns-in_default-clause-carried c =
    rw (← c.in-Ok.ensures.link, ← c.input_interface.ensures.index, c.in_default.is) refl

-- the bytes from an offset to the end
from_offset : (offset : ℕ) (bytes : List ℕ) → take (length bytes - offset) (drop offset bytes) ≡ drop offset bytes
from_offset offset bytes =
    ap (λ n. take n (drop offset bytes)) (sym (length-drop offset bytes)) ∙ take-length (drop offset bytes)

pub returns-in-Ok-read-clause-carried : goal.returns-in-Ok-read-clause-carried
returns-in-Ok-read-clause-carried c =
    let behind = from_offset c.in-Ok.link.packet c.args.record.now.bytes.now in
    let fault = rw behind at c.in-Ok-read.ensures.fault in
    let packet = rw behind at c.in-Ok-read.ensures.packet in
    rw (← c.in-Ok.ensures.link, ← c.input_interface.ensures.index, c.in-Some.is, ← fault, packet) refl

pub returns-in-Err-read-clause-carried : goal.returns-in-Err-read-clause-carried
returns-in-Err-read-clause-carried c =
    let behind = from_offset c.in-Ok.link.packet c.args.record.now.bytes.now in
    let fault = rw behind at c.in-Err-read.ensures.fault in
    rw (← c.in-Ok.ensures.link, ← c.input_interface.ensures.index, c.in-Some.is, ← fault, c.cause_of.ensures) refl
