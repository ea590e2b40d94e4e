-- What stands before the parts of a node.
use Rattle.std.proofs.Common.{refl}
use Rattle.std.specs.Prelude.{◌≡◌, ℕ, List, Option, Some, codes}
use Rattle.nft_lexer.specs.Terminal.{Terminal}
use Rattle.nft_lexer.specs.declared.token.Punctuator.TheVariants as punctuators
use Rattle.nft_tree.specs.declared.ruleset.Family.{Family}
use Rattle.nft_tree.specs.Tree.{HeadTree, Text}
use Rattle.token_reader.specs.Grammar.{Grammar, keyword, punctuation, a_word, ends, maybe, many, made, ◌⨾◌, ◌▹◌, ◌◃◌}
use Rattle.token_reader.specs.steps.Reading.{all_at}
use Rattle.nft_rulesets.specs.Chains.{head, note}
use Rattle.nft_rulesets.specs.Rulesets.{flush, table, table_name, whole_ruleset}

-- {end} ["flush" "ruleset" end {end}]
unfoldable pub ruleset_start : Grammar Unit
ruleset_start = ends ▹ made (λ o. tt) (maybe flush)

-- "table" ["ip" | "inet"] NAME "{" {end}
unfoldable pub table_start : Grammar (Family × Text)
table_start = keyword (codes "table") ▹ table_name ◃ punctuation punctuators.OpenBrace ◃ ends

-- "chain" NAME "{" {end} {note} [head {note}]
unfoldable pub chain_start : Grammar (Text × (List Text × Option HeadTree))
chain_start = keyword (codes "chain") ▹ a_word ⨾ punctuation punctuators.OpenBrace ▹ ends ▹ many note ⨾ maybe head

-- kind NAME "{" {end}
unfoldable pub block_start : List ℕ → Grammar Text
block_start kind = keyword kind ▹ a_word ◃ punctuation punctuators.OpenBrace ◃ ends

-- "elements" "=" "{"
unfoldable pub elements_start : Grammar Unit
elements_start = keyword (codes "elements") ▹ punctuation punctuators.Equals ▹ punctuation punctuators.OpenBrace

-- Behind its start a ruleset is its tables.
pub whole_from : (ts rest : List Terminal) → ruleset_start.read ts ≡ Some (tt, rest)
    → whole_ruleset.read ts ≡ Some (all_at (table ◃ ends).read rest)
unfolding ruleset_start whole_ruleset
whole_from ts rest start = rw start refl
