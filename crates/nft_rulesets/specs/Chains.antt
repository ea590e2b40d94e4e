-- Chains (nft(8), "Chains"; the EBNF is (own), as in docs/SPEC.md).
use Rattle.std.specs.Prelude.{ℕ, List, [], ◌∷◌, Option, Some, None, codes}
use Rattle.std.specs.Option.{unwrap_or}
use Rattle.nft_lexer.specs.declared.token.Punctuator.TheVariants as punctuators
use Rattle.nft_tree.specs.declared.chain.Hook.{Hook}
use Rattle.nft_tree.specs.declared.chain.Priority.{Priority}
use Rattle.nft_tree.specs.declared.chain.PriorityName.{PriorityName}
use Rattle.nft_tree.specs.declared.chain.OffsetSign.{OffsetSign}
use Rattle.nft_tree.specs.declared.chain.Policy.{Policy}
use Rattle.nft_tree.specs.declared.chain.ChainKind.TheVariants as chain_kinds
use Rattle.nft_tree.specs.declared.chain.Hook.TheVariants as hooks
use Rattle.nft_tree.specs.declared.chain.Priority.TheVariants.{Number, Named, Offset}
use Rattle.nft_tree.specs.declared.chain.PriorityName.TheVariants as priority_names
use Rattle.nft_tree.specs.declared.chain.OffsetSign.TheVariants.{Plus, Minus}
use Rattle.nft_tree.specs.declared.chain.Policy.TheVariants as policies
use Rattle.nft_tree.specs.Tree.{Text, RuleTree, HeadTree, ChainTree}
use Rattle.token_reader.specs.Grammar.{Grammar, keyword, punctuation, a_word, a_number, a_string, ends, some_ends, maybe}
use Rattle.token_reader.specs.Grammar.{many, made, one_of, lines, ◌⨾◌, ◌▹◌, ◌◃◌, ◌∣◌}
use Rattle.nft_rules.specs.Rules.{ended_rule}

-- "comment" STRING
unfoldable pub comment : Grammar Text
comment = keyword (codes "comment") ▹ a_string

-- note = "comment" STRING end {end}
unfoldable pub note : Grammar Text
note = comment ◃ some_ends

abbrev pub hook_names : List (Text × Hook)
hook_names =
    (codes "prerouting", hooks.Prerouting) ∷ (codes "input", hooks.Input) ∷ (codes "forward", hooks.Forward) ∷
    (codes "output", hooks.Output)
    ∷ (codes "postrouting", hooks.Postrouting) ∷ []

abbrev pub priority_words : List (Text × PriorityName)
priority_words =
    (codes "raw", priority_names.Raw) ∷ (codes "mangle", priority_names.Mangle) ∷
    (codes "dstnat", priority_names.DstNat) ∷ (codes "filter", priority_names.Filter)
    ∷ (codes "security", priority_names.Security) ∷ (codes "srcnat", priority_names.SrcNat) ∷ []

-- ("+" | "-") NUM
unfoldable pub offset : Grammar (OffsetSign × ℕ)
offset = (made (λ u. Plus) (punctuation punctuators.Plus) ∣ made (λ u. Minus) (punctuation punctuators.Minus))
    ⨾ a_number

abbrev pub named_priority : PriorityName × Option (OffsetSign × ℕ) → Priority
named_priority (name, None) = Named name
named_priority (name, Some by) = Offset name by.0 by.1

-- prio = ["-"] NUM | pname [("+" | "-") NUM]
unfoldable pub priority : Grammar Priority
priority =
    made (Number Plus) a_number ∣ made (Number Minus) (punctuation punctuators.Minus ▹ a_number)
    ∣ made named_priority
    (one_of priority_words ⨾ maybe offset)

-- "policy" ("accept" | "drop") end {end}
unfoldable pub policy : Grammar Policy
policy =
    keyword (codes "policy") ▹ one_of ((codes "accept", policies.Accept) ∷ (codes "drop", policies.Drop) ∷ [])
    ◃
    some_ends

-- head = "type" ("filter" | "nat") "hook" hook "priority" prio end {end} ["policy" ..], and the comments
-- after it
unfoldable pub head : Grammar HeadTree
head = made (λ x. record {
  kind = x.0;
  hook = x.1.0;
  priority = x.1.1.0;
  policy = x.1.1.1.0;
  notes = x.1.1.1.1;
}) (
    keyword (codes "type") ▹ one_of ((codes "filter", chain_kinds.Filter) ∷ (codes "nat", chain_kinds.Nat)
    ∷ [])
    ⨾ keyword (codes "hook") ▹ one_of hook_names ⨾ keyword (codes "priority") ▹ priority
    ⨾ some_ends ▹ maybe policy ⨾ many note)

-- [rule {end {end} rule} {end}]
unfoldable pub rules : Grammar (List RuleTree)
rules = made (λ rs. unwrap_or rs []) (maybe (lines ended_rule))

-- chain = "chain" NAME "{" {end} {note} [head {note}] [rule {end {end} rule} {end}] "}"
unfoldable pub chain : Grammar ChainTree
chain =
    made (λ x. record { name = x.0; notes = x.1.0; head = x.1.1.0; rules = x.1.1.1 })
    (keyword (codes "chain") ▹ a_word ⨾ punctuation punctuators.OpenBrace ▹ ends ▹ many note ⨾ maybe head
    ⨾ rules ◃ punctuation punctuators.CloseBrace)
