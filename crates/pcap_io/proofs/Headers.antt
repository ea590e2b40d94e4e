-- The header of a file, and what is read of it.
use Rattle.std.proofs.Common.{◌≡◌, ℕ, ◌≤◌, Bool, true, false, cond, List, ◌++◌, length, drop, ◌⊎◌, inl, inr, Option}
use Rattle.std.proofs.Common.{Some, None, IfSome, Ok, Err, refl, sym, ap, ◌∙◌, arith, append-nil, length-append}
use Rattle.std.proofs.lemmas.Bool.{le-ltb}
use Rattle.std.proofs.lemmas.List.{drop-append-le}
use Rattle.std.specs.Result.{result_err}
use Rattle.std.specs.Io.KnownBytes.{Consumes, IsAtEnd, prepend_known}
use Rattle.pcap_io.specs.declared.fault.CaptureFault.{CaptureFault}
use Rattle.pcap_io.specs.declared.format.Endianness.{Endianness}
use Rattle.pcap_io.specs.declared.format.Endianness.TheVariants.{Little, Big}
use Rattle.pcap_io.specs.declared.format.Resolution.{Resolution}
use Rattle.pcap_io.specs.declared.format.Format.{Format}
use Rattle.pcap_io.specs.Pcap.{format_of, header_fault, format_with_version, encoding_of}
use Rattle.pcap_io.proofs.Steps.{number_in-append}

encoding_kept : (xs ys : List ℕ) → 24 ≤ length xs → encoding_of (xs ++ ys) ≡ encoding_of xs
encoding_kept xs ys long =
    rw (number_in-append Little 0 4 24 xs ys (omega arith) long, number_in-append Big 0 4 24 xs ys (omega arith) long) refl

version_kept : (xs ys : List ℕ) (encoding : Option (Endianness × Resolution)) → 24 ≤ length xs
    → format_with_version (xs ++ ys) encoding ≡ format_with_version xs encoding
version_kept xs ys None long = refl
version_kept xs ys (Some encoding) long =
    rw (
      number_in-append encoding.0 4 2 24 xs ys (omega arith) long,
      number_in-append encoding.0 6 2 24 xs ys (omega arith) long,
      number_in-append encoding.0 20 4 24 xs ys (omega arith) long,
    ) refl

-- the header alone determines the format
pub format_kept : (xs ys : List ℕ) → 24 ≤ length xs → format_of (xs ++ ys) ≡ format_of xs
format_kept xs ys long =
    let longer : 24 ≤ length (xs ++ ys) = omega (arith, length-append xs ys) in
    rw (le-ltb (length (xs ++ ys)) 24 longer, le-ltb (length xs) 24 long, encoding_kept xs ys long)
    (version_kept xs ys (encoding_of xs) long)

-- what follows the header is to come
pub opened : (before after : Option (List ℕ)) (held : List ℕ) (ended : Bool) (format : Format)
    → Consumes before after held → (ended ≡ true → IsAtEnd after) → format_of held ≡ Ok format → 24 ≤ length held
    → IfSome before (λ input. (24 ≤ length input) × (format_of input ≡ Ok format)
    × (cond ended (Some (drop 24 held)) (prepend_known (drop 24 held) after) ≡ Some (drop 24 input)))
opened None after held ended format read end is long = tt
opened (Some x) None held ended format read end is long = absurd read
opened (Some x) (Some y) held false format read end is long =
    rw read (omega (arith, length-append held y), format_kept held y long ∙ is, ap Some (sym (drop-append-le 24 held y long)))
opened (Some x) (Some y) held true format read end is long =
    rw (read ∙ ap (λ l. held ++ l) (end refl) ∙ append-nil held) (long, is, refl)

-- a fault of the bytes that were read is one of the input
pub refused : (before after : Option (List ℕ)) (held : List ℕ) (ended : Bool) (fault : CaptureFault)
    → Consumes before after held → (ended ≡ true → IsAtEnd after) → format_of held ≡ Err fault → (24 ≤ length held)
    ⊎ (ended ≡ true)
    → IfSome before (λ input. header_fault input ≡ Some fault)
refused None after held ended fault read end is whole = tt
refused (Some x) None held ended fault read end is whole = absurd read
refused (Some x) (Some y) held ended fault read end is (inl long) = rw read (ap result_err (format_kept held y long ∙ is))
refused (Some x) (Some y) held ended fault read end is (inr at) =
    rw (read ∙ ap (λ l. held ++ l) (end at) ∙ append-nil held) (ap result_err is)
