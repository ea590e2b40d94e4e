-- What a buffer holds.
use Rattle.std.proofs.Common.{◌≡◌, ℕ, ◌+◌, ◌-◌, ◌≤◌, Bool, List, [], ◌++◌, length, take, drop, sym, ap, ◌∙◌, arith}
use Rattle.std.proofs.Common.{length-drop}
use Rattle.std.specs.Prelude.{slice_range}
use Rattle.std.proofs.Math.Seq.{take-add, take-append-add}
use Rattle.std.proofs.lemmas.List.{length-take, length-take-le, take-take, take-append-le, drop-drop, drop-take}
use Rattle.std.proofs.lemmas.List.{drop-append-le}
use Rattle.std.proofs.lemmas.Slice.{between_is}
use Rattle.pcap_io.specs.steps.ReadAhead.{BufferState}

-- the bytes before an offset were taken, and those up to another are buffered
abbrev pub ahead_at : List ℕ → ℕ → ℕ → Bool → BufferState
ahead_at bytes start end ended = record { taken = take start bytes; held = slice_range bytes start end; ended = ended }

-- the buffered bytes are those between the offsets
pub held_length : (bytes : List ℕ) (start end : ℕ) → start ≤ end → end ≤ length bytes
    → length (slice_range bytes start end) ≡ end - start
held_length bytes start end h k = grind (arith, length-take, length-drop)

-- some of what is held is taken
pub taken_more : (bytes : List ℕ) (start end count : ℕ) (ended : Bool) → start + count ≤ end
    → ahead_at bytes (start + count) end ended ≡ record {
      taken =
          take start bytes ++ take count (slice_range bytes start end);
      held = drop count (slice_range bytes start end);
      ended = ended;
    }
taken_more bytes start end count ended fits =
    let made : List ℕ → List ℕ → BufferState = λ t h. record { taken = t; held = h; ended = ended } in
    let front : take (start + count) bytes ≡ take start bytes ++ take count (slice_range bytes start end) =
    take-add start count bytes ∙ ap (λ ys. take start bytes ++ ys)
    (sym (take-take count (end - start) (drop start bytes) (omega arith))) in
    let room : end - start ≡ count + (end - (start + count)) = omega arith in
    let back : slice_range bytes (start + count) end ≡ drop count (slice_range bytes start end) =
    ap (take (end - (start + count))) (sym (drop-drop count start bytes))
    ∙ sym (drop-take count (end - (start + count)) (drop start bytes))
    ∙ ap (λ n. drop count (take n (drop start bytes))) (sym room) in
    ap (λ t. made t (slice_range bytes (start + count) end)) front
    ∙ ap (λ h. made (take start bytes ++ take count (slice_range bytes start end)) h) back

-- the bytes read are behind the buffered ones
pub held_more : (bytes buf post : List ℕ) (start end count after : ℕ) → after ≡ end + count → start ≤ end
    → end ≤ length bytes → count ≤ length buf
    → slice_range (take end bytes ++ (buf ++ post)) start after ≡ slice_range bytes start end ++ take count buf
held_more bytes buf post start end count after is h k fits =
    grind (arith, drop-append-le, length-take-le, between_is, take-append-add, take-append-le, held_length)

-- where no taken bytes are left, the buffered ones end at their length
pub at_front : (bytes : List ℕ) (start end : ℕ) {n : ℕ} → start ≤ end → end ≤ length bytes → take start bytes ≡ []
    → length (slice_range bytes start end) ≡ n → end ≡ n
at_front bytes start end h k none is = grind (arith, ap length none, is, length-take, length-drop)
