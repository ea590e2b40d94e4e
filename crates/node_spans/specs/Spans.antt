-- The tokens of a node's parts (own: nft(8) names no places).
use Rattle.std.specs.Prelude.{◌≡◌, ℕ, ◌<◌, ◌≤◌, List, [], ◌∷◌, Option, Some, None, take}
use Rattle.nft_lexer.specs.declared.token.Punctuator.TheVariants.{CloseBrace, Comma}
use Rattle.nft_lexer.specs.declared.token.Token.{Token}
use Rattle.nft_lexer.specs.Terminal.{Terminal, punctuator}
use Rattle.nft_tree.specs.Tree as tree
use Rattle.nft_tree.specs.Tree.{ElementTree, MapRefTree, MatchTree, OperandTree, PairTree, SetRefTree, Statement}
use Rattle.token_reader.specs.Grammar.{Grammar}
use Rattle.token_reader.specs.Readers.{remaining}
use Rattle.token_reader.specs.Repeats.{without_newlines}
use Rattle.node_spans.specs.declared.token_range.TokenRange.{TokenRange}

-- Between the position `at` and the next range stands what `Between` says; `rest` gives the tokens from a position
-- on.
abbrev pub FollowsBy : (List Terminal → List Terminal → Type 0) → (ℕ → List Terminal) → ℕ → List TokenRange → Type 0
FollowsBy Between rest at [] = Unit {0}
FollowsBy Between rest at (r ∷ rs) = Between (rest at) (rest r.first)

-- There is a range for each part, in order, and the tokens of its range spell the part. The ranges are not
-- empty, do not overlap, and stand between the positions `from` and `to`; between one and the next stands what
-- `Between` says.
abbrev pub AreSpelled : {A : Type 0} → Grammar A → (List Terminal → List Terminal → Type 0) → (ℕ → List Terminal)
    → ℕ → ℕ → List A → List TokenRange → Type 0
AreSpelled p Between rest from to [] [] = Unit {0}
AreSpelled p Between rest from to (x ∷ xs) (r ∷ rs) =
    (from ≤ r.first) × (r.first < r.end) × (r.end ≤ to) × p.spells x (rest r.first) (rest r.end)
    × FollowsBy Between rest r.end rs × AreSpelled p Between rest r.end to xs rs
AreSpelled p Between rest from to xs rs = ⊥

-- Nothing, or a comma.
abbrev pub IsNothing : List Terminal → List Terminal → Type 0
IsNothing from to = from ≡ to

abbrev pub IsComma : List Terminal → List Terminal → Type 0
IsComma from to = from ≡ punctuator Comma ∷ to

-- The tokens from a position on, up to the closing brace at `close`, without newlines.
abbrev pub within_braces : List Token → ℕ → ℕ → List Terminal
within_braces tokens close at = without_newlines (remaining (take close tokens) at)

-- The ranges of the parts of a list in braces, which stands between the positions `from` and `to`: there may be
-- newlines anywhere among its tokens. No parts have no ranges.
abbrev pub AreInBraces : {A : Type 0} → Grammar A → List Token → ℕ → ℕ → List A → List TokenRange → Type 0
AreInBraces p tokens from to [] rs = rs ≡ []
AreInBraces p tokens from to (x ∷ xs) rs =
    (close : ℕ) × (close < to) × ((after : List Terminal) × (remaining tokens close ≡ punctuator CloseBrace ∷ after))
    × AreSpelled p IsComma (within_braces tokens close) from close (x ∷ xs) rs

-- ---- anonymous sets and maps

-- The elements of a set that is not named, and the pairs of a map that is not.
abbrev pub elements_in : SetRefTree → Option (List ElementTree)
elements_in (tree.named_set name) = None
elements_in (tree.elements es) = Some es

abbrev pub pairs_in : MapRefTree → Option (List PairTree)
pairs_in (tree.named_map name) = None
pairs_in (tree.pairs ps) = Some ps

abbrev pub set_in_match : MatchTree → Option (List ElementTree)
set_in_match (tree.is_in ss r) = elements_in r
set_in_match (tree.not_in ss r) = elements_in r
set_in_match m = None

abbrev pub pairs_in_operand : OperandTree → Option (List PairTree)
pairs_in_operand (tree.looked_up l) = pairs_in l.map
pairs_in_operand o = None

-- The elements of the anonymous set of a statement, and the pairs of its anonymous map.
abbrev pub anonymous_set : Statement → Option (List ElementTree)
anonymous_set (tree.matching m) = set_in_match m
anonymous_set s = None

abbrev pub anonymous_map : Statement → Option (List PairTree)
anonymous_map (tree.set_mark field o) = pairs_in_operand o
anonymous_map (tree.verdict_map s m) = pairs_in m
anonymous_map (tree.nat (tree.source (tree.source_lookup l))) = pairs_in l.map
anonymous_map (tree.nat (tree.destination (tree.destination_lookup l))) = pairs_in l.map
anonymous_map s = None
