use Rattle.std.proofs.Common.{◌≡◌, ℕ, ◌+◌, ◌<◌, List, ◌∷◌, length, get_or, drop, map, cond, Some, add-one, ap, Bor}
use Rattle.std.proofs.Math.Seq.{drop-cons}
use Rattle.std.specs.Str.{bytes_eq}
use Rattle.nft_tree.specs.ValueTypes.{entry_in, entry_of}

-- A search from entry i on: entry i if it has the name, else the entries after it.
pub from_one_on : {A : Type 0} (entries : List (Bor (List ℕ) × A)) (i : ℕ) (entry : Bor (List ℕ) × A)
    (name : List ℕ)
    → i < length entries → entry ≡ get_or entries i entry
    → entry_in (map entry_of (drop i entries)) name
    ≡ cond (bytes_eq entry.0.now name) (Some entry.1)
    (entry_in (map entry_of (drop (i + 1) entries)) name)
from_one_on entries i entry name h is =
    let e : drop i entries ≡ entry ∷ drop (i + 1) entries = cc (drop-cons entries i entry h, add-one i) in
    ap (λ rest. entry_in (map entry_of rest) name) e
