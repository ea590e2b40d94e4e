-- Tables and rulesets (nft(8), "Ruleset", "Tables"; the EBNF is (own), as in docs/SPEC.md).
use Rattle.std.specs.Prelude.{List, [], ◌∷◌, ◌++◌, false, codes}
use Rattle.std.specs.Option.{unwrap_or}
use Rattle.nft_lexer.specs.declared.token.Punctuator.TheVariants as punctuators
use Rattle.nft_lexer.specs.Terminal.{Terminal}
use Rattle.nft_tree.specs.declared.ruleset.Family.{Family}
use Rattle.nft_tree.specs.declared.ruleset.Family.TheVariants.{Ip, Inet}
use Rattle.nft_tree.specs.Tree as tree
use Rattle.nft_tree.specs.Tree.{Text, ItemTree, TableTree}
use Rattle.token_reader.specs.Grammar.{Grammar, keyword, punctuation, a_word, any_word, ends, some_ends, maybe, many, made}
use Rattle.token_reader.specs.Grammar.{one_of, ◌⨾◌, ◌▹◌, ◌◃◌, ◌∣◌}
use Rattle.nft_rulesets.specs.Sets.{named_set, named_map}
use Rattle.nft_rulesets.specs.Chains.{comment, chain}

-- item = "comment" STRING | chain | set | map
unfoldable pub item : Grammar ItemTree
item = made tree.comment comment ∣ made tree.chain chain ∣ made tree.set named_set
    ∣ made tree.map_item named_map

abbrev pub families : List (Text × Family)
families = (codes "ip", Ip) ∷ (codes "inet", Inet) ∷ []

-- ["ip" | "inet"] NAME: the default is ip, and a table's name may be a family's
unfoldable pub table_name : Grammar (Family × Text)
table_name = record {
  spells = (made (λ x. (unwrap_or x.0 Ip, x.1)) (maybe (one_of families) ⨾ a_word)).spells;
  read = (one_of families ⨾ a_word ∣ made (λ name. (Ip, name)) a_word).read;
  first = (one_of families).first ++ any_word ∷ [];
  follow = any_word ∷ [];
  empty = false;
}

-- table = "table" ["ip" | "inet"] NAME "{" {end} {item {end}} "}"
unfoldable pub table : Grammar TableTree
table =
    made (λ x. record { family = x.0.0; name = x.0.1; items = x.1 })
    (keyword (codes "table") ▹ table_name ⨾ punctuation punctuators.OpenBrace ▹ ends ▹ many (item ◃ ends) ◃
    punctuation punctuators.CloseBrace)

-- "flush" "ruleset" end {end}
unfoldable pub flush : Grammar Unit
flush = keyword (codes "flush") ▹ keyword (codes "ruleset") ▹ some_ends

-- ruleset = {end} ["flush" "ruleset" end {end}] {table {end}}
unfoldable pub whole_ruleset : Grammar (List TableTree)
whole_ruleset = ends ▹ made (λ o. tt) (maybe flush) ▹ many (table ◃ ends)

-- All of the tokens spell the ruleset.
abbrev pub SpellsRuleset : List TableTree → List Terminal → Type 0
SpellsRuleset tables tokens = whole_ruleset.spells tables tokens []
