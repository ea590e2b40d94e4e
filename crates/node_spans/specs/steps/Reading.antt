-- Parts that are read one after the other.
use Rattle.std.specs.Prelude.{◌≡◌, ℕ, ◌<◌, ◌≤◌, List, [], ◌∷◌, ◌⊎◌, Option, Some, None, Bool, false, ◌||◌, codes, length}
use Rattle.std.specs.Str.{bytes_eq}
use Rattle.nft_expressions.specs.steps.Reading.{enclosed_at}
use Rattle.nft_lexer.specs.declared.token.Punctuator.TheVariants.{Comma, OpenBrace}
use Rattle.nft_lexer.specs.declared.token.Token.{Token}
use Rattle.nft_lexer.specs.Terminal.{Terminal, punctuator, word}
use Rattle.nft_rulesets.specs.steps.Starts.{elements_start}
use Rattle.token_reader.specs.Readers.{remaining}
use Rattle.token_reader.specs.steps.Reading.{after_ends, after_punctuator, option_else}
use Rattle.node_spans.specs.Spans.{within_braces}
use Rattle.node_spans.specs.declared.token_range.TokenRange.{TokenRange}

-- A part is read at the range, of which the first token is the first one from `at` on that counts.
pub record IsReadAt {A : Type 0} (read : List Terminal → Option (A × List Terminal)) (rest : ℕ → List Terminal)
    (limit at : ℕ) (r : TokenRange) : Type 0 where
  pub ahead : at ≤ r.first
  pub same : rest r.first ≡ rest at
  pub some : r.first < r.end
  pub within : r.end ≤ limit
  pub shorter : length (rest r.end) < length (rest at)
  pub part : A
  pub found : read (rest at) ≡ Some (part, rest r.end)

-- From `at` on a part is read at each of the ranges, with a gap between it and the next one; after the last
-- range there is no gap or no part.
abbrev pub AreRead : {A : Type 0} → (List Terminal → Option (A × List Terminal))
    → (List Terminal → Option (List Terminal)) → (ℕ → List Terminal) → ℕ → ℕ → List TokenRange → Type 0
AreRead read gap rest limit at [] = read (rest at) ≡ None
AreRead read gap rest limit at (r ∷ rs) =
    IsReadAt read rest limit at r
    × (((gap (rest r.end) ≡ None) × (rs ≡ []))
    ⊎ ((next : ℕ) × (gap (rest r.end) ≡ Some (rest next)) × (r.end ≤ next)
    × (length (rest next) ≤ length (rest r.end)) × AreRead read gap rest limit next rs))

-- Where the brace that stands before `at` is closed, a part is read at each of the ranges, with commas between
-- them.
abbrev pub AreReadInBraces : {A : Type 0} → (List Terminal → Option (A × List Terminal)) → List Token → ℕ
    → Option (List TokenRange) → Type 0
AreReadInBraces read tokens at None = enclosed_at (remaining tokens at) ≡ None
AreReadInBraces read tokens at (Some rs) =
    (close : ℕ) × (at ≤ close) × (close < length tokens)
    × (enclosed_at (remaining tokens at) ≡ Some (within_braces tokens close at, remaining tokens close))
    × AreRead read (after_punctuator Comma) (within_braces tokens close) close at rs

-- The tokens behind the start of the elements, in the first of these fields that begins so.
abbrev pub first_elements : (ℕ → List Terminal) → List TokenRange → Option (List Terminal)
first_elements rest [] = None
first_elements rest (r ∷ rs) =
    option_else (elements_start.read (rest r.first)) (λ x. Some x.1) (first_elements rest rs)

-- The elements of a set or a map of which the fields begin at `at`.
abbrev pub AreElementsRead : {A B : Type 0} → (List Terminal → Option (A × List Terminal))
    → (List Terminal → Option (B × List Terminal)) → List Token → ℕ → Option (List TokenRange) → Type 0
AreElementsRead field read tokens at o =
    (fields : List TokenRange) × AreRead field after_ends (remaining tokens) (length tokens) at fields
    × (((first_elements (remaining tokens) fields ≡ None) × (o ≡ Some []))
    ⊎ ((start : ℕ) × (first_elements (remaining tokens) fields ≡ Some (remaining tokens start))
    × AreReadInBraces read tokens start o))

-- Whether the token is "map" or "vmap".
abbrev pub is_map_word : Terminal → Bool
is_map_word (word w) = bytes_eq w (codes "map") || bytes_eq w (codes "vmap")
is_map_word t = false

-- Whether "map" or "vmap" stands before the first opening brace, and the tokens behind it; `before` says it of the
-- first token.
abbrev pub first_brace : Bool → List Terminal → Option (Bool × List Terminal)
first_brace before [] = None
first_brace before (punctuator OpenBrace ∷ ts) = Some (before, ts)
first_brace before (t ∷ ts) = first_brace (is_map_word t) ts
