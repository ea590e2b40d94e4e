-- How a stream ends at some bytes, unless a record begins there.
use Rattle.std.proofs.Common.{◌≡◌, ◌≢◌, ℕ, ◌+◌, ◌<◌, ◌≤◌, Bool, false, List, [], ◌∷◌, length, ◌⊎◌, inl, inr}
use Rattle.std.proofs.Common.{◌++◌, ◌∙◌, Option, Some, None, Err, append-nil, length-append, refl, ap, arith, sym, true}
use Rattle.std.specs.Prelude.{IsErrOf, ◌||◌, ◌==◌, is_some, nat_lt, not, if◌then◌else◌, cond}
use Rattle.std.proofs.lemmas.Bool.{cases_lt, true≢false}
use Rattle.std.proofs.lemmas.Bool.Decides.{nat_tests}
use Rattle.std.proofs.lemmas.List.{nil_from_length}
use Rattle.pcap_io.specs.declared.fault.CaptureError.{CaptureError}
use Rattle.pcap_io.specs.declared.format.Format.{Format}
use Rattle.pcap_io.specs.Pcap.{Ending, Ends, Whole, Torn, Malformed, Over, IsGood, captured_length_in, fraction_in, per_second}
use Rattle.pcap_io.specs.Pcap.{MOST_CAPTURED, MOST_RECORDS}
use Rattle.pcap_io.specs.declared.fault.CaptureError.TheVariants.{Refused}
use Rattle.pcap_io.specs.declared.fault.CaptureFault.{CaptureFault}
use Rattle.pcap_io.specs.declared.fault.CaptureFault.TheVariants as faults
use Rattle.pcap_io.specs.CaptureStates.{CaptureState, NextAnswers, decides_next, is_ready, IsPartialRecord}
use Rattle.pcap_io.specs.ReadAhead.{READ_AHEAD}
use Rattle.pcap_io.proofs.Steps.{number_in-append}

-- by the bytes' number and the numbers of their header
abbrev pub ending_by : (count size captured fraction most : ℕ) → Option Ending
ending_by count size captured fraction most =
    if size == 0 then Some Whole
    else (if count == MOST_RECORDS then Some Over
    else (if nat_lt size 16 then Some Torn
    else (if nat_lt MOST_CAPTURED captured || not (nat_lt fraction most) then Some Malformed
    else (if nat_lt size (16 + captured) then Some Torn else None))))

abbrev pub ending_at : Format → ℕ → List ℕ → Option Ending
ending_at format count bytes = ending_by count (length bytes) (captured_length_in format bytes) (fraction_in format bytes) (per_second format.resolution)

either : (b v : Bool) → cond b v v ≡ v
either true v = refl
either false v = refl

some_bytes : (bytes : List ℕ) → bytes ≢ [] → 0 < length bytes
some_bytes [] some = absurd (some refl)
some_bytes (x ∷ xs) some = omega arith

some_from : (bytes : List ℕ) → 0 < length bytes → bytes ≢ []
some_from bytes long is = omega (arith, long, ap length is)

by_torn : (count size captured fraction most : ℕ) → count < MOST_RECORDS → 0 < size
    → (size < 16) ⊎ (((captured ≤ MOST_CAPTURED) × (fraction < most)) × (size < 16 + captured))
    → ending_by count size captured fraction most ≡ Some Torn
by_torn count size captured fraction most few some (inl short) = grind (arith, nat_tests)
by_torn count size captured fraction most few some (inr ((small, within), short)) = grind (arith, nat_tests)

by_malformed : (count size captured fraction most : ℕ) → count < MOST_RECORDS → 16 ≤ size
    → (MOST_CAPTURED < captured) ⊎ (most ≤ fraction) → ending_by count size captured fraction most ≡ Some Malformed
by_malformed count size captured fraction most few long (inl over) = grind (arith, nat_tests)
by_malformed count size captured fraction most few long (inr over) = grind (arith, nat_tests)

-- a stream ends as its bytes say
pub ending_from : (format : Format) (ending : Ending) (count : ℕ) (bytes : List ℕ) → Ends format ending count bytes → ending_at format count bytes ≡ Some ending
ending_from format Whole count bytes none = rw none refl
ending_from format Over count bytes (some, most) = let long = some_bytes bytes some in grind (arith, nat_tests)
ending_from format Torn count bytes (some, few, torn) = by_torn _ _ _ _ _ few (some_bytes bytes some) torn
ending_from format Malformed count bytes (few, long, over) = by_malformed _ _ _ _ _ few long over

-- no record begins after as many as a file may have, nor in fewer bytes than it takes
pub begins_from : (format : Format) (count : ℕ) (bytes : List ℕ) → ending_at format count bytes ≡ None
    → (count ≢ MOST_RECORDS) × (16 ≤ length bytes) × IsGood format bytes × (16 + captured_length_in format bytes ≤ length bytes)
begins_from format count bytes is = (
  grind (arith, nat_tests),
  grind (arith, nat_tests),
  (grind (arith, nat_tests), grind (arith, nat_tests)),
  grind (arith, nat_tests),
)

-- a record begins where its header and its bytes are there
pub begins_at : (format : Format) (count : ℕ) (bytes : List ℕ) {captured fraction : ℕ} → count < MOST_RECORDS → 16 + captured ≤ length bytes
    → captured_length_in format bytes ≡ captured → fraction_in format bytes ≡ fraction → captured ≤ MOST_CAPTURED
    → fraction < per_second format.resolution → ending_at format count bytes ≡ None
begins_at format count bytes few there is_captured is_fraction small within = rw (is_captured, is_fraction) (grind (arith, nat_tests))

-- and the other way around
pub ends_from : (format : Format) (ending : Ending) (count : ℕ) (bytes : List ℕ)
    → count ≤ MOST_RECORDS → ending_at format count bytes ≡ Some ending → Ends format ending count bytes
ends_from format Whole count bytes most is = nil_from_length bytes (grind (arith, nat_tests))
ends_from format Over count bytes most is = (some_from bytes (grind (arith, nat_tests)), grind (arith, nat_tests))
ends_from format Torn count bytes most is = grind (arith, some_from, cases_lt)
ends_from format Malformed count bytes most is = grind (arith, cases_lt)

-- bytes that decide nothing are a part of a record, for which the buffer has room
pub part_of : (format : Format) (count : ℕ) (bytes : List ℕ) → count ≤ MOST_RECORDS
    → decides_next format count bytes ≡ false → IsPartialRecord format count bytes × (length bytes < 262160)
part_of format count bytes most is = (
  elim (cases_lt 0 (length bytes)) [
    | inl some ↦ inr (ends_from format Torn count bytes most (grind (arith, nat_tests)))
    | inr none ↦ inl (ends_from format Whole count bytes most (grind (arith, nat_tests)))
  ],
  grind (arith, nat_tests),
)

-- where it isn't ready there is no error and no end, and the bytes decide nothing
not_ready : (fault : Option CaptureError) (ended settled : Bool) → (is_some fault || (ended || settled)) ≡ false
    → (fault ≡ None) × (ended ≡ false) × (settled ≡ false)
not_ready None ended settled is = (refl, grind arith, grind arith)
not_ready (Some x) ended settled is = cc

-- there a part of a record is buffered, with room for more
pub record Waits (s : CaptureState) : Type 0 where
  pub none : s.fault ≡ None
  pub going : s.ended ≡ false
  pub part : IsPartialRecord s.format s.count s.held
  pub room : length s.held < READ_AHEAD

pub waits : {s t : CaptureState} {ready : Bool} → s ≡ t → s.count ≤ MOST_RECORDS → ready ≡ is_ready t → ready ≡ false
    → Waits s
waits {s} same few is not =
    let (none, going, unsettled) = not_ready s.fault s.ended (decides_next s.format s.count s.held) (ap is_ready same ∙ sym is ∙ not) in
    let (part, room) = part_of s.format s.count s.held few unsettled in
    record { none = none; going = going; part = part; room = room }

-- ---- bytes that begin with no whole record

has_ended : (fault : Option CaptureError) (ended settled : Bool) → (is_some fault || (ended || settled)) ≡ true
    → fault ≡ None → settled ≡ false → ended ≡ true
has_ended None true settled ready none unsettled = refl
has_ended None false settled ready none unsettled = absurd (true≢false (sym ready ∙ unsettled))
has_ended (Some x) ended settled ready none unsettled = cc

undecided : (count size captured fraction most : ℕ) → count < MOST_RECORDS
    → (size < 16) ⊎ (((captured ≤ MOST_CAPTURED) × (fraction < most)) × (size < 16 + captured))
    → (if count == MOST_RECORDS then nat_lt 0 size else (if nat_lt size 16 then false
    else (nat_lt MOST_CAPTURED captured || not (nat_lt fraction most)) || not (nat_lt size (16 + captured)))) ≡ false
undecided count size captured fraction most few (inl short) = grind (arith, nat_tests)
undecided count size captured fraction most few (inr ((small, within), short)) = grind (arith, nat_tests)

-- no bytes decide nothing
pub nothing_left : (s : CaptureState) → s.fault ≡ None → is_ready s ≡ true → s.held ≡ [] → s.ended ≡ true
nothing_left s none ready empty =
    has_ended s.fault s.ended (decides_next s.format s.count s.held) ready none (rw empty (either (s.count == MOST_RECORDS) false))

-- a malformed header is one whatever follows
malformed_more : (format : Format) (count : ℕ) (xs ys : List ℕ) → count < MOST_RECORDS → 16 ≤ length xs
    → (MOST_CAPTURED < captured_length_in format xs) ⊎ (per_second format.resolution ≤ fraction_in format xs)
    → Ends format Malformed count (xs ++ ys)
malformed_more format count xs ys few long over =
    let captured = number_in-append format.endianness 8 4 16 xs ys (omega arith) long in
    let fraction = number_in-append format.endianness 4 4 16 xs ys (omega arith) long in
    (few, omega (arith, length-append xs ys), rw (captured, fraction) over)

pub refuses : {T : Type 0} {a s : CaptureState} (new : CaptureState) (fault : CaptureFault) (more : List ℕ) → a ≡ s → s.fault ≡ None
    → is_ready s ≡ true → (s.ended ≡ true → more ≡ []) → a.held ≢ [] → a.count < MOST_RECORDS
    → (IsErrOf {T = T} (Err fault) faults.TornEnd → (length a.held < 16)
    ⊎ (IsGood a.format a.held × (length a.held < 16 + captured_length_in a.format a.held)))
    → (IsErrOf {T = T} (Err fault) faults.Malformed → (16 ≤ length a.held) × ((MOST_CAPTURED < captured_length_in a.format a.held)
    ⊎ (per_second a.format.resolution ≤ fraction_in a.format a.held)))
    → IsErrOf {T = T} (Err fault) faults.TornEnd ⊎ IsErrOf {T = T} (Err fault) faults.Malformed → new.held ≡ s.held
    → NextAnswers (s.held ++ more) (Some (new.held ++ more)) s new (Err (Refused fault))
refuses {a} new fault more view none ready end some few torn malformed (inl e) same =
    let part = torn e in
    let is : fault ≡ faults.TornEnd = cc in
    let unsettled = undecided a.count (length a.held) _ _ _ few part in
    let ended = has_ended a.fault a.ended (decides_next a.format a.count a.held) (ap is_ready view ∙ ready)
    (ap (λ (s : CaptureState). s.fault) view ∙ none) unsettled in
    let over : more ≡ [] = end (sym (ap (λ (s : CaptureState). s.ended) view) ∙ ended) in
    rw (is, same, over, append-nil, ← view) ((some, few, part), refl)
refuses {a} new fault more view none ready end some few torn malformed (inr e) same =
    let (long, over) = malformed e in
    let is : fault ≡ faults.Malformed = cc in
    rw (is, same, ← view) (malformed_more a.format a.count a.held more few long over, refl)

pub some_more : (xs ys : List ℕ) → xs ≢ [] → xs ++ ys ≢ []
some_more [] ys some is = some refl
some_more (x ∷ xs) ys some is = cc

-- by the test of a slice of these bytes
pub are_some : (xs : List ℕ) {ys : List ℕ} {b : Bool} → xs ≡ ys → b ≡ (length xs == 0) → b ≡ false → ys ≢ []
are_some [] same is e none = true≢false (sym is ∙ e)
are_some (x ∷ xs) same is e none = cc
