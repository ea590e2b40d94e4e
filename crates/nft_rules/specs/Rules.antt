-- Rules (nft(8), "Rules", "Statements"; the EBNF is (own), as in docs/SPEC.md).
use Rattle.std.specs.Prelude.{ℕ, List, ◌∷◌, Option, Some, None, option_map, codes, IsTrue, [], false, cond}
use Rattle.std.specs.Option.{unwrap_or}
use Rattle.nft_lexer.specs.declared.token.Punctuator.TheVariants.{Colon, Minus}
use Rattle.nft_lexer.specs.Terminal.{Terminal}
use Rattle.nft_tree.specs.declared.selector.Selector.{Selector}
use Rattle.nft_tree.specs.declared.selector.Selector.TheVariants.{MetaMark, CtMark}
use Rattle.nft_tree.specs.declared.statement.MarkField.{MarkField}
use Rattle.nft_tree.specs.declared.statement.MarkField.TheVariants.{Meta, Ct}
use Rattle.nft_tree.specs.declared.nat.PortRange.{PortRange}
use Rattle.nft_tree.specs.declared.nat.PortRange.TheVariants.{One, Between}
use Rattle.nft_tree.specs.Tree as tree
use Rattle.nft_tree.specs.Tree.{MapLookupTree, OperandTree, NatTree, Statement, RuleTree}
use Rattle.token_reader.specs.Repeats.{is_rule_end}
use Rattle.token_reader.specs.Grammar.{Grammar, keyword, punctuation, a_number, an_address, a_string, maybe, many, made}
use Rattle.token_reader.specs.Grammar.{named, ◌⨾◌, ◌▹◌, ◌∣◌}
use Rattle.list_laws.specs.Options.{◌>>=◌}
use Rattle.nft_expressions.specs.Selectors.{selector}
use Rattle.nft_expressions.specs.Elements.{comment, verdict, map_ref}
use Rattle.nft_rules.specs.Matches.{matching}

-- look = anysel "map" mapref
unfoldable pub map_lookup : Grammar MapLookupTree
map_lookup = made (λ x. record { selector = x.0; map = x.1 }) (selector ⨾ keyword (codes "map") ▹ map_ref)

-- "meta" "mark" | "ct" "mark"
abbrev pub mark_field : Selector → Option MarkField
mark_field MetaMark = Some Meta
mark_field CtMark = Some Ct
mark_field s = None

-- operand = NUM | look | "meta" "mark" | "ct" "mark"
unfoldable pub operand : Grammar OperandTree
operand =
    made tree.constant a_number
    ∣ named (λ x. unwrap_or (option_map (λ m. Some (tree.looked_up (record { selector = x.0; map = m }))) x.1)
    (option_map tree.mark_of (mark_field x.0))) (selector ⨾ maybe (keyword (codes "map") ▹ map_ref))

-- ports = NUM ["-" NUM]
unfoldable pub ports : Grammar PortRange
ports = made (λ x. unwrap_or (option_map (Between x.0) x.1) (One x.0))
    (a_number ⨾ maybe (punctuation Minus ▹ a_number))

-- ["ip"] "to"
unfoldable pub to_word : Grammar Unit
to_word = keyword (codes "to") ∣ keyword (codes "ip") ▹ keyword (codes "to")

-- ADDR [":" port] | look
abbrev pub target : {A B : Type 0} → (ℕ → Option A → B) → (MapLookupTree → B) → Grammar A → Grammar B
target at_address map_looked_up port =
    made (λ x. at_address x.0 x.1) (an_address ⨾ maybe (punctuation Colon ▹ port))
    ∣ made map_looked_up map_lookup

unfoldable pub nat : Grammar NatTree
nat =
    made tree.source (keyword (codes "snat") ▹ to_word ▹ target tree.source_address tree.source_lookup ports)
    ∣ made tree.destination (keyword (codes "dnat") ▹ to_word ▹ target tree.destination_address
    tree.destination_lookup
    a_number)
    ∣ made tree.masquerade (keyword (codes "masquerade") ▹ maybe
    (keyword (codes "to") ▹ punctuation Colon ▹ ports))
    ∣ made tree.redirect (keyword (codes "redirect") ▹ maybe
    (keyword (codes "to") ▹ punctuation Colon ▹ a_number))

-- "counter" ["packets" NUM "bytes" NUM]
unfoldable pub counter : Grammar Statement
counter =
    made tree.counter (keyword (codes "counter") ▹ maybe
    (made (λ x. record { packets = x.0; bytes = x.1 })
    (keyword (codes "packets") ▹ a_number ⨾ keyword (codes "bytes") ▹ a_number)))

-- "log" ["prefix" STRING]
unfoldable pub log : Grammar Statement
log = made tree.log (keyword (codes "log") ▹ maybe (keyword (codes "prefix") ▹ a_string))

-- "notrack"
unfoldable pub notrack : Grammar Statement
notrack = made (λ _. tree.notrack) (keyword (codes "notrack"))

-- ("meta" | "ct") "mark" "set" operand
unfoldable pub set_mark : Grammar Statement
set_mark =
    named (λ x. option_map (λ m. tree.set_mark m x.1) (mark_field x.0))
    (selector ⨾ keyword (codes "set") ▹ operand)

-- anysel "vmap" mapref
unfoldable pub verdict_map : Grammar Statement
verdict_map = made (λ x. tree.verdict_map x.0 x.1) (selector ⨾ keyword (codes "vmap") ▹ map_ref)

unfoldable pub statement : Grammar Statement
statement =
    counter ∣ log ∣ notrack ∣ made tree.verdict verdict ∣ made tree.nat nat ∣ set_mark ∣ verdict_map ∣ made
    tree.matching matching

-- rule = stmt {stmt} ["comment" STRING]
unfoldable pub rule : Grammar RuleTree
rule = made (λ x. record { statements = x.0 ∷ x.1.0; comment = x.1.1 }) (statement ⨾ many statement ⨾ comment)

abbrev pub SpellsRule : RuleTree → List Terminal → List Terminal → Type 0
SpellsRule = rule.spells

-- The first token is a newline, a semicolon or a closing brace.
abbrev pub IsRuleEnd : List Terminal → Type 0
IsRuleEnd ts = IsTrue (is_rule_end ts)

-- A rule, and what ends it after it.
abbrev pub SpellsEndedRule : RuleTree → List Terminal → List Terminal → Type 0
SpellsEndedRule r from to = SpellsRule r from to × IsRuleEnd to

unfoldable pub ended_rule : Grammar RuleTree
ended_rule =
    record {
      spells = SpellsEndedRule;
      read = λ ts. rule.read ts >>= λ r. cond (is_rule_end r.1) (Some r) None;
      first = rule.first;
      follow = [];
      empty = false;
    }
