use Rattle.std.proofs.Common.{◌≡◌, ◌∙◌, ℕ, ◌+◌, ◌<◌, List, [], ◌∷◌, Bor, Bool, true, false, length, get_or, drop, map, sym, refl, ap, add-one}
use Rattle.std.proofs.Math.Seq.{drop-cons}
use Rattle.std.proofs.lemmas.Cmp.{nat_list_eq_equiv}
use Rattle.std.specs.List.{list_any}
use Rattle.std.specs.Str.{bytes_eq}
use Rattle.nft_rulesets.specs.UnsupportedWords.{word_in}
use Rattle.nft_rulesets.proofs.unsupported_words.find.Goals as goal

-- A search from row i on looks at row i first.
from_one_on : {A : Type 0} (known : List ℕ → Bool) (rows : List (Bor (List ℕ) × A)) (i : ℕ)
    (otherwise : Bor (List ℕ) × A)
    → i < length rows
    → list_any known (map word_in (drop i rows))
    ≡ list_any known (word_in (get_or rows i otherwise) ∷ map word_in (drop (i + 1) rows))
from_one_on known rows i otherwise h =
    let here : drop i rows ≡ get_or rows i otherwise ∷ drop (i + 1) rows =
    cc (drop-cons rows i otherwise h, add-one i) in
    ap (λ rest. list_any known (map word_in rest)) here

if_first : (known : List ℕ → Bool) (word : List ℕ) (words : List (List ℕ))
    → known word ≡ true → true ≡ list_any known (word ∷ words)
if_first known word words is = rw is refl

if_later : (known : List ℕ → Bool) (word : List ℕ) (words : List (List ℕ))
    → known word ≡ false → list_any known words ≡ list_any known (word ∷ words)
if_later known word words other = rw other refl

abbrev no_row : Bor (List ℕ) × Bor (List ℕ)
no_row = (record { ref_ptr = (0, 0); now = [] }, record { ref_ptr = (0, 0); now = [] })

pub returns-then-eq : goal.returns-then-eq
returns-then-eq c =
    let rows = c.args.rows.now in let word = c.args.word.now in let i = c.loop-row.row-index in
    let row = get_or rows i no_row in
    let is : bytes_eq word row.0.now ≡ true = nat_list_eq_equiv.symm word row.0.now ∙ sym c.eq.ensures
    ∙ c.if-eq.true in
    if_first (bytes_eq word) row.0.now (map word_in (drop (i + 1) rows)) is
    ∙ sym (from_one_on (bytes_eq word) rows i no_row c.loop-row-test.true) ∙ c.loop-row.invariant

pub loop-row-preserved : goal.loop-row-preserved
loop-row-preserved c =
    let rows = c.args.rows.now in let word = c.args.word.now in let i = c.loop-row.row-index in
    let row = get_or rows i no_row in
    let other : bytes_eq word row.0.now ≡ false = nat_list_eq_equiv.symm word row.0.now ∙ sym c.eq.ensures
    ∙ c.if-eq.false in
    if_later (bytes_eq word) row.0.now (map word_in (drop (i + 1) rows)) other
    ∙ sym (from_one_on (bytes_eq word) rows i no_row c.loop-row-test.true) ∙ c.loop-row.invariant
