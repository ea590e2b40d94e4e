-- Looking up the explanation of a code.
use Rattle.std.proofs.Common.{◌≡◌, ◌∙◌, ◌||◌, ◌+◌, ◌<◌, ◌≤◌, ℕ, Bool, true, false, refl, ap, List, Option, Some, None}
use Rattle.std.proofs.Common.{IfSome, is_some, map, length, drop, get_or}
use Rattle.std.proofs.lemmas.List.{drop_all, drop_more}
use Rattle.std.specs.Str.{bytes_eq}
use Rattle.std.specs.Option.{option_or}
use Rattle.explanations.specs.Codes.{has_code}
use Rattle.explanations.specs.declared.explanation.Explanation.{Explanation}

-- the code is in a row from the i-th on
abbrev pub has_from : List Explanation → ℕ → List ℕ → Bool
has_from table i code = has_code (map (λ row. row.code.now) (drop i table)) code

from_row : (table : List Explanation) (i : ℕ) (d : Explanation) (code : List ℕ) → i < length table
    → has_from table i code ≡ (bytes_eq (get_or table i d).code.now code || has_from table (i + 1) code)
from_row table i d code lt = ap (λ (l : List Explanation). has_code (map (λ row. row.code.now) l) code)
    (drop_more table i d lt)

-- a row with another code is skipped
pub passed : (table : List Explanation) (i : ℕ) (d : Explanation) (code : List ℕ) → i < length table
    → bytes_eq (get_or table i d).code.now code ≡ false
    → has_from table i code ≡ has_from table (i + 1) code
passed table i d code lt other = from_row table i d code lt ∙ ap (λ b. b || has_from table (i + 1) code) other

-- a row with the code is found
pub met : (table : List Explanation) (i : ℕ) (d : Explanation) (code : List ℕ) → i < length table
    → bytes_eq (get_or table i d).code.now code ≡ true
    → has_from table i code ≡ true
met table i d code lt same = from_row table i d code lt ∙ ap (λ b. b || has_from table (i + 1) code) same

-- there is none after the last row
pub ended : (table : List Explanation) (i : ℕ) (code : List ℕ) → length table ≤ i → has_from table i code ≡ false
ended table i code le = ap (λ (l : List Explanation). has_code (map (λ row. row.code.now) l) code) (drop_all i table le)

abbrev pub Own : List ℕ → Option Explanation → Type 0
Own code found = IfSome found (λ row. row.code.now ≡ code)

-- the first of two lookups that finds something
pub either_own : (a b : Option Explanation) (code : List ℕ) → Own code a → Own code b → Own code (option_or a b)
either_own (Some x) b code p q = p
either_own None b code p q = q

pub either_some : (a b : Option Explanation) → is_some (option_or a b) ≡ (is_some a || is_some b)
either_some (Some x) b = refl
either_some None b = refl

pub or_moved : (w x y z : Bool) → (((w || x) || y) || z) ≡ (w || (x || (y || z)))
or_moved true x y z = refl
or_moved false true y z = refl
or_moved false false true z = refl
or_moved false false false z = refl
