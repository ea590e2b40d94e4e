use Rattle.std.proofs.Common.{◌≡◌, ◌≢◌, take, drop, List, ℕ, ◌%◌, length, ◌≤◌, false, true, sym, ap, ◌∙◌, arith}
use Rattle.std.proofs.lemmas.Grind.{common_steps}
use Rattle.ip_headers.specs.Sum.{ones_sum_of}
use Rattle.ip_headers.specs.Transport.{transport_is_malformed}
use Rattle.ip_headers.specs.Header.{header, total_len, header_len, protocol, is_fragment, flags_and_offset, packet_of, payload_of}
use Rattle.ip_headers.specs.Passing.{Passes, PassesHeader}
use Rattle.ip_headers.proofs.Faults.{packet_passes, fault_free, short, other, short_header, too_small, cut, damaged, broken, refused}
use Rattle.ip_headers.proofs.view.View.read.Goals.{After-is_malformed, After-u16_at}
use Rattle.ip_headers.proofs.view.View.read.Goals as goal

unbroken_by : (p : List ℕ) (word : ℕ) → word ≡ flags_and_offset p → word % 16384 ≡ 0 → is_fragment p ≡ false
unbroken_by p word is none = grind (arith, is, none)

broken_by : (p : List ℕ) (word : ℕ) → word ≡ flags_and_offset p → word % 16384 ≢ 0 → is_fragment p ≡ true
broken_by p word is some = grind (arith, is, some)

header-front : (p : List ℕ) (n : ℕ) → header_len p ≤ n → take (header_len p) (take n p) ≡ header p
header-front p n whole = grind (arith, common_steps)

total_len-front : (p : List ℕ) (n : ℕ) → 20 ≤ n → total_len (take n p) ≡ total_len p
total_len-front p n long = grind (arith, common_steps)

header_len-front : (p : List ℕ) (n : ℕ) → 20 ≤ n → header_len (take n p) ≡ header_len p
header_len-front p n long = grind (arith, common_steps)

exact_by : (p : List ℕ) (n : ℕ) → n ≡ total_len p → 20 ≤ n → n ≤ length p → length (take n p) ≡ total_len (take n p)
exact_by p n total long whole = grind (arith, common_steps, total_len-front p n long)

tail_by : (p payload : List ℕ) (n : ℕ) → n ≡ total_len p → 20 ≤ n → n ≤ length p
    → payload ≡ drop (header_len p) (take n p) → payload ≡ payload_of (take n p)
tail_by p payload n total long whole is = grind (arith, common_steps, exact_by)

-- what passed the tests before that for fragments
head : (c : After-u16_at) → PassesHeader c.args.bytes.now
head c = record {
  long = omega arith;
  head = omega arith;
  whole = omega arith;
  four = omega arith;
  sum = ap ones_sum_of (sym (c.split_at.ensures.front ∙ header-front c.args.bytes.now c.u16_at-total_len.result (omega arith)))
      ∙ sym c.header_sum.ensures ∙ c.if-header_sum.false;
}

module _ (c : After-is_malformed) where
  transport : transport_is_malformed (protocol c.args.bytes.now) (payload_of c.args.bytes.now) ≡ c.is_malformed.result
  transport = sym (c.is_malformed.ensures ∙ ap (transport_is_malformed (protocol c.args.bytes.now)) (c.split_at.ensures.back
      ∙ ap (λ n. drop (header_len c.args.bytes.now) (take n c.args.bytes.now)) c.u16_at-total_len.ensures))

  passed : PassesHeader c.args.bytes.now → c.is_malformed.result ≡ false → Passes c.args.bytes.now
  passed head right = record {
    head = head;
    unbroken = unbroken_by c.args.bytes.now c.u16_at.result c.u16_at.ensures c.if-u16_at-ne0.false;
    transport = transport ∙ right;
  }

pub returns-clause-packet : goal.returns-clause-packet
returns-clause-packet c = ap (λ n. take n c.args.bytes.now) c.u16_at-total_len.ensures

pub returns-then-bytes-lt20-clause-fault : goal.returns-then-bytes-lt20-clause-fault
returns-then-bytes-lt20-clause-fault c = sym (short c.args.bytes.now c.if-bytes-lt20.true)

pub returns-then-bytes-ne4-clause-fault : goal.returns-then-bytes-ne4-clause-fault
returns-then-bytes-ne4-clause-fault c = sym (other c.args.bytes.now (omega arith) c.if-bytes-ne4.true)

pub returns-then-header_len-lt20-clause-fault : goal.returns-then-header_len-lt20-clause-fault
returns-then-header_len-lt20-clause-fault c = sym (short_header c.args.bytes.now (omega arith) (omega arith) (omega arith))

pub returns-then-total_len-header_len-clause-fault : goal.returns-then-total_len-header_len-clause-fault
returns-then-total_len-header_len-clause-fault c = sym (too_small c.args.bytes.now (omega arith) (omega arith) (omega arith) (omega arith))

pub returns-then-bytes-total_len-clause-fault : goal.returns-then-bytes-total_len-clause-fault
returns-then-bytes-total_len-clause-fault c = sym (cut c.args.bytes.now (omega arith) (omega arith) (omega arith) (omega arith) (omega arith))

pub returns-then-header_sum-clause-fault : goal.returns-then-header_sum-clause-fault
returns-then-header_sum-clause-fault c =
    sym (damaged c.args.bytes.now (omega arith) (omega arith) (omega arith) (omega arith) (omega arith) (λ sum. c.if-header_sum.true
    (c.header_sum.ensures ∙ ap ones_sum_of (c.split_at.ensures.front ∙ header-front c.args.bytes.now c.u16_at-total_len.result (omega arith)) ∙ sum)))

pub returns-then-u16_at-ne0-clause-fault : goal.returns-then-u16_at-ne0-clause-fault
returns-then-u16_at-ne0-clause-fault c =
    sym (broken c.args.bytes.now (head (goal.at.returns-then-u16_at-ne0-clause-fault c).After-u16_at)
    (broken_by c.args.bytes.now c.u16_at.result c.u16_at.ensures c.if-u16_at-ne0.true))

pub returns-then-is_malformed-clause-fault : goal.returns-then-is_malformed-clause-fault
returns-then-is_malformed-clause-fault c =
    let at = goal.at.returns-then-is_malformed-clause-fault c in
    sym (refused c.args.bytes.now (head at.After-u16_at) (unbroken_by c.args.bytes.now c.u16_at.result c.u16_at.ensures c.if-u16_at-ne0.false)
    (transport at.After-is_malformed ∙ c.if-is_malformed.true))

pub returns-clause-fault : goal.returns-clause-fault
returns-clause-fault c =
    let at = goal.at.returns-clause-fault c in
    sym (fault_free c.args.bytes.now (passed at.After-is_malformed (head at.After-u16_at) c.if-is_malformed.false))

pub invariant_of-result-clause-whole : goal.invariant_of-result-clause-whole
invariant_of-result-clause-whole c =
    let at = goal.at.invariant_of-result-clause-whole c in
    rw c.u16_at-total_len.ensures (fault_free (packet_of c.args.bytes.now) (packet_passes c.args.bytes.now
    (passed at.After-is_malformed (head at.After-u16_at) c.if-is_malformed.false)))

pub invariant_of-result-clause-head : goal.invariant_of-result-clause-head
invariant_of-result-clause-head c = c.split_at.ensures.front ∙ ap (λ k. take k (take c.u16_at-total_len.result c.args.bytes.now))
    (sym (header_len-front c.args.bytes.now c.u16_at-total_len.result (omega arith)))

pub invariant_of-result-clause-tail : goal.invariant_of-result-clause-tail
invariant_of-result-clause-tail c = tail_by c.args.bytes.now c.split_at.result.1.now c.u16_at-total_len.result c.u16_at-total_len.ensures
    (omega arith) (omega arith) c.split_at.ensures.back

pub invariant_of-result-clause-exact : goal.invariant_of-result-clause-exact
invariant_of-result-clause-exact c =
    exact_by c.args.bytes.now c.u16_at-total_len.result c.u16_at-total_len.ensures (omega arith) (omega arith)
