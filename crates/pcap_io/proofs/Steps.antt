-- One record from the buffer.
use Rattle.std.proofs.Common.{◌≡◌, ℕ, suc, zero, ◌+◌, ◌-◌, ◌*◌, ◌<◌, ◌≤◌, max, List, ◌++◌, length, take, drop, Option, Some, None}
use Rattle.std.proofs.Common.{refl, sym, ap, ◌∙◌, arith, length-drop, length-append, append_assoc}
use Rattle.std.proofs.Math.Seq.{drop-append_seam, take-length}
use Rattle.std.proofs.lemmas.List.{get_or-drop, length-take-le, take-append-drop, take-append-le, drop-take, drop-drop}
use Rattle.byteorder.specs.Endian.{little_from, big_from}
use Rattle.byteorder.specs.Numbers.{little_from-take, big_from-take}
use Rattle.pcap_io.specs.declared.fault.CaptureError.{CaptureError}
use Rattle.pcap_io.specs.declared.format.Endianness.{Endianness}
use Rattle.pcap_io.specs.declared.format.Endianness.TheVariants.{Little, Big}
use Rattle.pcap_io.specs.declared.format.Format.{Format}
use Rattle.pcap_io.specs.Pcap.{Captured, IsRecord, IsGood, frame, own_moment, number_in, nanoseconds}
use Rattle.pcap_io.specs.Pcap.{captured_length_in, seconds_in, fraction_in, MOST_RECORDS}
use Rattle.pcap_io.specs.CaptureStates.{ReadsRecord}
use Rattle.pcap_io.specs.steps.ReadAhead.{BufferState, last_of}
use Rattle.pcap_io.specs.declared.format.LinkType.{LinkType}
use Rattle.pcap_io.specs.steps.CaptureInvariant.{capture_state_of, last_in}

-- a number reads no byte past its end
pub number_in-take : (endianness : Endianness) (i n m : ℕ) (xs : List ℕ) → i + n ≤ m
    → number_in endianness i n (take m xs) ≡ number_in endianness i n xs
number_in-take Little i n m xs h = little_from-take i n m xs h
number_in-take Big i n m xs h = big_from-take i n m xs h

little_from-drop : (n i j k : ℕ) (xs : List ℕ) → j ≡ k + i → little_from i n (drop k xs) ≡ little_from j n xs
little_from-drop zero i j k xs is = refl
little_from-drop (suc n) i j k xs is =
    rw (get_or-drop k xs i 0, ← is, little_from-drop n (suc i) (suc j) k xs (omega arith)) refl

big_from-drop : (n i j k : ℕ) (xs : List ℕ) → j ≡ k + i → big_from i n (drop k xs) ≡ big_from j n xs
big_from-drop zero i j k xs is = refl
big_from-drop (suc n) i j k xs is =
    rw (get_or-drop k xs i 0, ← is, big_from-drop n (suc i) (suc j) k xs (omega arith)) refl

-- the first number of the bytes from an offset on is the one there
pub number_at : (endianness : Endianness) (at n : ℕ) (xs : List ℕ)
    → number_in endianness 0 n (take (length xs - at) (drop at xs)) ≡ number_in endianness at n xs
number_at Little at n xs = rw (← length-drop at xs, take-length (drop at xs)) (little_from-drop n 0 at at xs (omega arith))
number_at Big at n xs = rw (← length-drop at xs, take-length (drop at xs)) (big_from-drop n 0 at at xs (omega arith))

-- nor do the bytes behind change it
pub number_in-append : (endianness : Endianness) (i n m : ℕ) (xs ys : List ℕ) → i + n ≤ m → m ≤ length xs
    → number_in endianness i n (xs ++ ys) ≡ number_in endianness i n xs
number_in-append endianness i n m xs ys h long =
    sym (number_in-take endianness i n m (xs ++ ys) h) ∙ ap (number_in endianness i n) (take-append-le m xs ys long)
    ∙ number_in-take endianness i n m xs h

-- the numbers of a header are those of its 16 bytes
pub captured_length_kept : (format : Format) (xs : List ℕ)
    → captured_length_in format (take 16 xs) ≡ captured_length_in format xs
captured_length_kept format xs = number_in-take format.endianness 8 4 16 xs (omega arith)

pub fraction_kept : (format : Format) (xs : List ℕ) → fraction_in format (take 16 xs) ≡ fraction_in format xs
fraction_kept format xs = number_in-take format.endianness 4 4 16 xs (omega arith)

pub seconds_kept : (format : Format) (xs : List ℕ) → seconds_in format (take 16 xs) ≡ seconds_in format xs
seconds_kept format xs = number_in-take format.endianness 0 4 16 xs (omega arith)

-- the record that some bytes begin with
abbrev pub captured_of : ℕ → List ℕ → Captured
captured_of n bytes = record { head = take 16 bytes; bytes = take n (drop 16 bytes) }

-- its bytes, and then the others
pub joined_of : (n : ℕ) (bytes : List ℕ) → bytes ≡ frame (captured_of n bytes) ++ drop (16 + n) bytes
joined_of n bytes =
    let rest = drop 16 bytes in
    grind (
      arith,
      take-append-drop 16 bytes,
      take-append-drop n rest,
      drop-drop n 16 bytes,
      append_assoc (take 16 bytes) (take n rest) (drop (16 + n) bytes),
    )

-- it is a record
pub is_record_of : (format : Format) (n : ℕ) (bytes : List ℕ) → 16 + n ≤ length bytes
    → n ≡ captured_length_in format bytes → IsGood format bytes → IsRecord format (captured_of n bytes)
is_record_of format n bytes fits is good = grind (arith, length-take-le, captured_length_kept, fraction_kept, length-drop)

-- its bytes are those that were taken last
pub last_taken : (n : ℕ) (taken bytes : List ℕ) → 16 + n ≤ length bytes
    → last_of n (taken ++ take (16 + n) bytes) ≡ take n (drop 16 bytes)
last_taken n taken bytes fits =
    let all = taken ++ take (16 + n) bytes in
    grind (
      arith,
      length-take-le (16 + n) bytes fits,
      length-append,
      drop-drop 16 (length taken) all,
      drop-append_seam taken (take (16 + n) bytes),
      drop-take 16 n bytes,
    )

-- one more record is read
pub reads_one : (format : Format) (a : BufferState) (more : List ℕ)
    (n seconds fraction count next_count latest moment : ℕ) (fault fault' : Option CaptureError) (last : Option ℕ)
    → 16 + n ≤ length a.held
    → n ≡ captured_length_in format a.held → seconds ≡ seconds_in format a.held → fraction ≡ fraction_in format a.held
    → IsGood format a.held
    → count < MOST_RECORDS → next_count ≡ count + 1
    → moment ≡ max latest (seconds * 1000000000 + fraction * nanoseconds format.resolution)
    → ReadsRecord (a.held ++ more) (Some (drop (16 + n) a.held ++ more)) (capture_state_of format a count latest fault
    last)
    (capture_state_of format (record {
      taken = a.taken ++ take (16 + n) a.held;
      held = drop (16 + n) a.held;
      ended = a.ended;
    }) next_count moment fault' (Some n))
reads_one format a more n seconds fraction count next_count latest moment fault fault' last fits is_n is_seconds
    is_fraction good few one_more is_moment =
    let held : List ℕ = a.held in
    let s : seconds ≡ seconds_in format (take 16 held) = is_seconds ∙ sym (seconds_kept format held) in
    let f : fraction ≡ fraction_in format (take 16 held) = is_fraction ∙ sym (fraction_kept format held) in
    let own : seconds * 1000000000 + fraction * nanoseconds format.resolution ≡ own_moment format (captured_of n held) =
    ap (λ k. k * 1000000000 + fraction * nanoseconds format.resolution) s
    ∙ ap (λ k. seconds_in format (take 16 held) * 1000000000 + k * nanoseconds format.resolution) f in
    record {
      captured = captured_of n held;
      rest = drop (16 + n) held ++ more;
      left = refl;
      joined = ap (λ ys. ys ++ more) (joined_of n held)
          ∙ append_assoc (frame (captured_of n held)) (drop (16 + n) held) more;
      is_record = is_record_of format n held fits is_n good;
      fewer = few;
      counted = one_more;
      latest_is = is_moment ∙ ap (λ k. max latest k) own;
      last_is = ap (λ bytes. Some (record { moment = moment; link = format.link; bytes = bytes }))
          (last_taken n a.taken held fits);
    }

-- where no record is shown none was read last
pub no_last : (link : LinkType) (taken : List ℕ) (latest : ℕ) (last : Option ℕ) → last_in link taken latest last ≡ None
    → last ≡ None
no_last link taken latest None is = refl
no_last link taken latest (Some n) is = cc
