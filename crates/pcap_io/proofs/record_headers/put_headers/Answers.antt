use Rattle.std.proofs.Common.{◌≡◌, ◌++◌, ◌+◌, ◌/◌, ◌%◌, List, ℕ, length, take, append_assoc, ◌∙◌, ap, arith}
use Rattle.byteorder.specs.Endian.{little_bytes, big_bytes}
use Rattle.pcap_io.specs.Sll2.{sent}
use Rattle.pcap_io.proofs.record_headers.put_headers.Goals as goal

-- one more number at the offset where the others end
one_more : (old new start word : List ℕ) (at end : ℕ) → end ≡ at + 4 → take at old ≡ start
    → take (at + 4) new ≡ take at old ++ word → take end new ≡ start ++ word
one_more old new start word at end is so put = cc

-- nine numbers and the packet, one after another
all_behind : (x a b c d e f g h i p : List ℕ)
    → (((((((((x ++ a) ++ b) ++ c) ++ d) ++ e) ++ f) ++ g) ++ h) ++ i) ++ p
    ≡ x ++ (a ++ (b ++ (c ++ (d ++ (e ++ (f ++ (g ++ (h ++ (i ++ p)))))))))
all_behind x a b c d e f g h i p = simp append_assoc

pub returns-clause-bytes : goal.returns-clause-bytes
returns-clause-bytes c =
    let at = c.args.at in
    let s = sent c.args.leaving.now in
    let first = c.put_u32.ensures.bytes in
    let second = one_more _ _ _ _ (at + 4) (at + 8) (omega arith) first c.put_u32-2.ensures.bytes in
    let third = one_more _ _ _ _ (at + 8) (at + 12) (omega arith) second c.put_u32-3.ensures.bytes in
    let fourth = one_more _ _ _ _ (at + 12) (at + 16) (omega arith) third c.put_u32-4.ensures.bytes in
    let fifth = one_more _ _ _ _ (at + 16) (at + 20) (omega arith) fourth c.put_u32-5.ensures.bytes in
    let sixth = one_more _ _ _ _ (at + 20) (at + 24) (omega arith) fifth c.put_u32-6.ensures.bytes in
    let seventh = one_more _ _ _ _ (at + 24) (at + 28) (omega arith) sixth c.put_u32-7.ensures.bytes in
    let eighth = one_more _ _ _ _ (at + 28) (at + 32) (omega arith) seventh c.put_u32-8.ensures.bytes in
    let ninth = one_more _ _ _ _ (at + 32) (at + 36) (omega arith) eighth c.put_u32-9.ensures.bytes in
    ap (λ xs. xs ++ s.packet) ninth ∙ all_behind (take at c.args.bytes.now)
    (little_bytes 4 (s.moment / 1000000000)) (little_bytes 4 (s.moment % 1000000000))
    (little_bytes 4 (20 + length s.packet)) (little_bytes 4 (20 + length s.packet)) (big_bytes 4 134217728)
    (big_bytes 4 s.interface) (big_bytes 4 66560) (big_bytes 4 0) (big_bytes 4 0) s.packet
