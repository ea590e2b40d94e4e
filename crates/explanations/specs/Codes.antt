-- The codes of faults, each of which has an explanation (own).
use Rattle.std.specs.Prelude.{◌||◌, Bool, ℕ, List, [], ◌∷◌, codes}
use Rattle.std.specs.List.{list_any}
use Rattle.std.specs.Str.{bytes_eq}

-- faults of the ruleset's text
abbrev pub text_codes : List (List ℕ)
text_codes =
    codes "E01" ∷ codes "E02" ∷ codes "E03" ∷ codes "E04" ∷ codes "E05" ∷ codes "E06" ∷ []

-- faults of the box file
abbrev pub plant_codes : List (List ℕ)
plant_codes =
    codes "B1" ∷ codes "B2" ∷ codes "B3" ∷ codes "B4" ∷ codes "B5" ∷ []

-- faults of the ruleset as a whole
abbrev pub ruleset_codes : List (List ℕ)
ruleset_codes =
    codes "N01" ∷ codes "N02" ∷ codes "N03" ∷ codes "N04" ∷ codes "N05"
    ∷ codes "N06" ∷ codes "N07" ∷ codes "N08" ∷ codes "N09" ∷ codes "N10"
    ∷ codes "N11" ∷ codes "N12" ∷ codes "N13" ∷ codes "N14" ∷ codes "N15" ∷ []

-- faults of the capture
abbrev pub capture_codes : List (List ℕ)
capture_codes =
    codes "P1" ∷ codes "P2" ∷ codes "P3" ∷ codes "P4" ∷ codes "P5" ∷ codes "P7" ∷ []

-- a word is one of these codes
abbrev pub has_code : List (List ℕ) → List ℕ → Bool
has_code all word = list_any (λ code. bytes_eq code word) all

-- a word is a code
abbrev pub is_code : List ℕ → Bool
is_code word =
    has_code text_codes word
    || (has_code plant_codes word || (has_code ruleset_codes word || has_code capture_codes word))
