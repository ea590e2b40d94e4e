-- The records of a capture of bytes are bytes.
use Rattle.std.specs.Prelude.{◌<◌, All, max}
use Rattle.std.specs.List.{flat_map}
use Rattle.std.proofs.Common.{◌≡◌, ◌++◌, ℕ, List, [], ◌∷◌, drop, subst}
use Rattle.std.proofs.lemmas.List.Elements.{All-cons, All-drop, All-head, All-nil, All-tail}
use Rattle.pcap_io.specs.declared.format.Format.{Format}
use Rattle.pcap_io.specs.Pcap.{Captured, HEADER_BYTES, Recorded, decoded_after, decoded_records, frame, own_moment, stream_of}
use Rattle.std.proofs.lemmas.List.{append_assoc}
use Rattle.diff_laws.specs.Coming.{AreBytes}

abbrev IsByte : ℕ → Type 0
IsByte b = b < 256

module _ {X : Type 0} (P : X → Type 0) where
  all_left : (xs ys : List X) → All P (xs ++ ys) → All P xs
  all_left [] ys all = All-nil P
  all_left (x ∷ xs) ys all = All-cons P x xs (All-head P x (xs ++ ys) all) (all_left xs ys (All-tail P x (xs ++ ys) all))

  all_right : (xs ys : List X) → All P (xs ++ ys) → All P ys
  all_right [] ys all = all
  all_right (x ∷ xs) ys all = all_right xs ys (All-tail P x (xs ++ ys) all)

abbrev RecordsOfBytes : List Recorded → Type 0
RecordsOfBytes records = All (λ r. AreBytes r.bytes) records

decoded_bytes : (format : Format) (latest : ℕ) (records : List Captured) (rest : List ℕ) → AreBytes (stream_of records rest)
    → RecordsOfBytes (decoded_after format latest records)
decoded_bytes format latest [] rest all = All-nil (λ (r : Recorded). AreBytes r.bytes)
decoded_bytes format latest (r ∷ rs) rest all =
    let parts : AreBytes (frame r ++ flat_map frame rs) = all_left IsByte (frame r ++ flat_map frame rs) rest all in
    let here : AreBytes r.bytes = all_right IsByte r.head r.bytes (all_left IsByte (frame r) (flat_map frame rs) parts) in
    let behind : AreBytes (stream_of rs rest) = all_right IsByte (frame r) (flat_map frame rs ++ rest)
    (subst AreBytes (append_assoc (frame r) (flat_map frame rs) rest) all) in
    All-cons (λ (x : Recorded). AreBytes x.bytes) _ _ here
    (decoded_bytes format (max latest (own_moment format r)) rs rest behind)

pub records_of_bytes : (capture : List ℕ) → AreBytes capture → (format : Format) (records : List Captured) (rest : List ℕ)
    → drop HEADER_BYTES capture ≡ stream_of records rest → RecordsOfBytes (decoded_records format records)
records_of_bytes capture bytes format records rest whole = decoded_bytes format 0 records rest
    (subst AreBytes whole (All-drop IsByte HEADER_BYTES capture bytes))
