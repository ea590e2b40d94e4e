-- Decoding is unique.
use Rattle.std.proofs.Common.{◌≡◌, ℕ, zero, suc, ◌+◌, ◌<◌, ◌≤◌, List, [], ◌∷◌, ◌++◌, length, take, drop, All, ◌⊎◌}
use Rattle.std.proofs.Common.{inl, inr, None, Option, Result, Ok, Err, Some, refl, sym, ap, subst, ◌∙◌, arith, append_assoc}
use Rattle.std.proofs.Common.{length-append}
use Rattle.std.specs.List.{flat_map}
use Rattle.std.proofs.Math.Seq.{drop-append_seam, take-append_seam}
use Rattle.std.proofs.lemmas.List.Elements.{All-cons, All-head, All-tail}
use Rattle.std.specs.Result.{result_err}
use Rattle.pcap_io.specs.declared.fault.CaptureFault.{CaptureFault}
use Rattle.pcap_io.specs.declared.format.Format.{Format}
use Rattle.pcap_io.specs.Pcap.{Captured, frame, IsRecord, IsGood, format_of, header_fault}
use Rattle.pcap_io.specs.Pcap.{captured_length_in, stream_of, Ending, Ends}
use Rattle.pcap_io.specs.Pcap.{Pcap, HEADER_BYTES, MOST_RECORDS}
use Rattle.pcap_io.proofs.Endings.{begins_at, begins_from, ending_at, ending_from, ends_from}
use Rattle.pcap_io.proofs.Steps.{captured_length_kept, fraction_kept, captured_of, joined_of, is_record_of}

split_front : (x y a b : List ℕ) → length x ≡ length y → x ++ a ≡ y ++ b → x ≡ y
split_front x y a b l e = grind (arith, take-append_seam x a, take-append_seam y b)

split_back : (x y a b : List ℕ) → length x ≡ length y → x ++ a ≡ y ++ b → a ≡ b
split_back x y a b l e = grind (arith, drop-append_seam x a, drop-append_seam y b)

-- the bytes of a record begin with its header
header_first : (format : Format) (r : Captured) (more : List ℕ) → IsRecord format r → take 16 (frame r ++ more) ≡ r.head
header_first format r more is =
    rw (← is.head_length, append_assoc r.head r.bytes more) (take-append_seam r.head (r.bytes ++ more))

-- no record begins where a stream stops
not_ended : (format : Format) (e : Ending) (count : ℕ) (r : Captured) (more : List ℕ) → IsRecord format r
    → count < MOST_RECORDS → Ends format e count (frame r ++ more) → ⊥
not_ended format e count r more is few ends =
    grind (
      arith,
      header_first,
      ending_at,
      begins_at,
      length-append,
      is.head_length,
      captured_length_kept,
      is.captured,
      fraction_kept,
      is.good.0,
      is.good.1,
      ending_from,
    )

-- a stream has one ending
one_ending : (format : Format) (e e' : Ending) (count : ℕ) (rest : List ℕ) → Ends format e count rest
    → Ends format e' count rest → e ≡ e'
one_ending format e e' count rest h k = grind (arith, ending_from)

-- a stream with a first record
stream_cons : (x : Captured) (xs : List Captured) (r : List ℕ) → stream_of (x ∷ xs) r ≡ frame x ++ stream_of xs r
stream_cons x xs r = append_assoc (frame x) (flat_map frame xs) r

-- two records at the beginning of the same bytes are one
one_record : (format : Format) (x y : Captured) (a b : List ℕ) → IsRecord format x → IsRecord format y
    → frame x ++ a ≡ frame y ++ b → (x ≡ y) × (a ≡ b)
one_record format x y a b p q e = grind (arith, append_assoc, split_front, split_back)

-- from so many records on, of n and of m in all
one_stream : (format : Format) (xs ys : List Captured) (e e' : Ending) (r r' : List ℕ) (count n m : ℕ)
    → n ≡ count + length xs → m ≡ count + length ys → n ≤ MOST_RECORDS → m ≤ MOST_RECORDS
    → All (IsRecord format) xs → All (IsRecord format) ys → Ends format e n r → Ends format e' m r'
    → stream_of xs r ≡ stream_of ys r' → (xs ≡ ys) × (e ≡ e')
one_stream format [] [] e e' r r' count n m is_n is_m few few' p q h k same = grind (arith, one_ending)
one_stream format [] (y ∷ ys) e e' r r' count n m is_n is_m few few' p q h k same = grind (arith, not_ended, All-head, stream_cons)
one_stream format (x ∷ xs) [] e e' r r' count n m is_n is_m few few' p q h k same = grind (arith, not_ended, All-head, stream_cons)
one_stream format (x ∷ xs) (y ∷ ys) e e' r r' count n m is_n is_m few few' p q h k same =
    let (first, tails) = one_record format x y (stream_of xs r) (stream_of ys r') (All-head (IsRecord format) x xs p)
    (All-head (IsRecord format) y ys q) (sym (stream_cons x xs r) ∙ same ∙ stream_cons y ys r') in
    let (rest, ending) = one_stream format xs ys e e' r r' (count + 1) n m (omega arith) (omega arith) few few'
    (All-tail (IsRecord format) x xs p) (All-tail (IsRecord format) y ys q) h k tails in
    (rw (first, rest) refl, ending)

pub one_pcap : (bytes : List ℕ) (xs ys : List Captured) (e e' : Ending) (s : Pcap bytes xs e) (t : Pcap bytes ys e')
    → (xs ≡ ys) × (e ≡ e') × (s.format ≡ t.format)
one_pcap bytes xs ys e e' s t =
    let same : t.format ≡ s.format = let accepted = sym t.accepted ∙ s.accepted in cc in
    let each : All (IsRecord s.format) ys = subst (λ (f : Format). All (IsRecord f) ys) same t.each in
    let ends : Ends s.format e' (length ys) t.rest = subst (λ (f : Format). Ends f e' (length ys) t.rest) same t.ends in
    let (records, ending) = one_stream s.format xs ys e e' s.rest t.rest 0 (length xs) (length ys) (omega arith)
    (omega arith) s.not_over t.not_over s.each each s.ends ends (sym s.whole ∙ t.whole) in
    (records, ending, sym same)

-- ---- decoding is total

-- what the bytes after so many records are
record From (format : Format) (count : ℕ) (bytes : List ℕ) : Type 0 where
  records : List Captured
  rest : List ℕ
  ending : Ending
  joined : bytes ≡ stream_of records rest
  each : All (IsRecord format) records
  not_over : count + length records ≤ MOST_RECORDS
  ends : Ends format ending (count + length records) rest

-- no record is left
from_nil : (format : Format) (count : ℕ) (bytes : List ℕ) (ending : Ending) → count ≤ MOST_RECORDS
    → Ends format ending count bytes → From format count bytes
from_nil format count bytes ending few ends = record {
  records = [];
  rest = bytes;
  ending = ending;
  joined = refl;
  each = λ k d lt. absurd (omega arith);
  not_over = omega arith;
  ends = let same : count ≡ count + 0 = omega arith in subst (λ (n : ℕ). Ends format ending n bytes) same ends;
}

-- one record, and then the rest
from_cons : (format : Format) (count : ℕ) (bytes : List ℕ) (r : Captured) (more : List ℕ) → bytes ≡ frame r ++ more
    → IsRecord format r → From format (count + 1) more → From format count bytes
from_cons format count bytes r more e is after = record {
  records = r ∷ after.records;
  rest = after.rest;
  ending = after.ending;
  joined = e ∙ ap (λ ys. frame r ++ ys) after.joined ∙ sym (stream_cons r after.records after.rest);
  each = All-cons (IsRecord format) r after.records is after.each;
  not_over = let few = after.not_over in omega (arith, few);
  ends = let same : (count + 1) + length after.records ≡ count + suc (length after.records) = omega arith in
      subst (λ (n : ℕ). Ends format after.ending n after.rest) same after.ends;
}

-- a record begins here, where its header and its bytes are there
from_record : (format : Format) (count : ℕ) (bytes : List ℕ) → 16 ≤ length bytes → IsGood format bytes
    → 16 + captured_length_in format bytes ≤ length bytes
    → From format (count + 1) (drop (16 + captured_length_in format bytes) bytes) → From format count bytes
from_record format count bytes long good there after =
    let n : ℕ = captured_length_in format bytes in
    from_cons format count bytes (captured_of n bytes) (drop (16 + n) bytes) (joined_of n bytes)
    (is_record_of format n bytes there refl good) after

-- with room for so many records more
reading_from : (format : Format) (room count : ℕ) (bytes : List ℕ) (found : Option Ending)
    → ending_at format count bytes ≡ found → count + room ≡ MOST_RECORDS → From format count bytes
reading_from format room count bytes (Some ending) at is =
    from_nil format count bytes ending (omega arith) (ends_from format ending count bytes (omega arith) at)
reading_from format zero count bytes None at is = absurd ((begins_from format count bytes at).0 (omega arith))
reading_from format (suc room) count bytes None at is =
    let (_, long, good, there) = begins_from format count bytes at in
    let rest = drop (16 + captured_length_in format bytes) bytes in
    from_record format count bytes long good there (reading_from format room (count + 1) rest _ refl (omega arith))

read_by : (bytes : List ℕ) (result : Result Format CaptureFault) → format_of bytes ≡ result
    → ((fault : CaptureFault) × (header_fault bytes ≡ Some fault)) ⊎ ((records : List Captured) × (ending : Ending)
    × Pcap bytes records ending)
read_by bytes (Err fault) e = inl (fault, ap result_err e)
read_by bytes (Ok format) e =
    let from = reading_from format MOST_RECORDS 0 (drop HEADER_BYTES bytes) _ refl refl in
    inr (
      from.records,
      from.ending,
      record {
        format = format;
        accepted = e;
        rest = from.rest;
        whole = from.joined;
        each = from.each;
        not_over = let few = from.not_over in omega (arith, few);
        ends = let same : 0 + length from.records ≡ length from.records = omega arith in
            subst (λ (n : ℕ). Ends format from.ending n from.rest) same from.ends;
      },
    )

pub some_pcap : (bytes : List ℕ) → ((fault : CaptureFault) × (header_fault bytes ≡ Some fault))
    ⊎ ((records : List Captured) × (ending : Ending) × Pcap bytes records ending)
some_pcap bytes = read_by bytes (format_of bytes) refl
