-- Chains of type nat that may not be there, and statements after the end of a rule (nft(8), "Chains",
-- "Statements").
use Rattle.std.specs.Prelude.{negsuc, int_le, ◌&&◌, ◌||◌, Bool, true, false, List, [], ◌∷◌, Option, Some, None}
use Rattle.std.specs.List.{list_any}
use Rattle.nft_tree.specs.declared.chain.ChainKind.{ChainKind}
use Rattle.nft_tree.specs.declared.chain.ChainKind.TheVariants as kinds
use Rattle.nft_tree.specs.declared.chain.Hook.{Hook}
use Rattle.nft_tree.specs.declared.chain.Hook.TheVariants as hooks
use Rattle.nft_tree.specs.Tree as tree
use Rattle.nft_tree.specs.Tree.{Statement, RuleTree, HeadTree, ItemTree, TableTree}
use Rattle.nft_tree.specs.Priorities.{priority_number}

-- ---- N11

abbrev pub is_nat : ChainKind → Bool
is_nat kinds.Nat = true
is_nat kinds.Filter = false

-- chains of type nat aren't allowed on the hook (own: nft(8) has them on input)
abbrev pub is_without_nat : Hook → Bool
is_without_nat hooks.Input = true
is_without_nat hooks.Forward = true
is_without_nat _ = false

-- type nat on input or forward, or with a priority of at most -200 (nft(8), "Chains": after connection
-- tracking)
abbrev pub head_is_misplaced : Option HeadTree → Bool
head_is_misplaced None = false
head_is_misplaced (Some h) =
    is_nat h.kind && (is_without_nat h.hook || int_le (priority_number h.priority) (negsuc 199))

abbrev pub item_is_misplaced : ItemTree → Bool
item_is_misplaced (tree.chain c) = head_is_misplaced c.head
item_is_misplaced _ = false

abbrev pub has_misplaced_chain : TableTree → Bool
has_misplaced_chain t = list_any item_is_misplaced t.items

-- ---- N14

-- a verdict, a verdict map or a NAT statement ends its rule
abbrev pub is_terminal : Statement → Bool
is_terminal (tree.verdict v) = true
is_terminal (tree.verdict_map s m) = true
is_terminal (tree.nat n) = true
is_terminal _ = false

-- some terminal statement isn't the last
abbrev pub has_statement_after_terminal : List Statement → Bool
has_statement_after_terminal [] = false
has_statement_after_terminal (s ∷ []) = false
has_statement_after_terminal (s ∷ t ∷ rest) = is_terminal s || has_statement_after_terminal (t ∷ rest)

abbrev pub rule_has_unreachable : RuleTree → Bool
rule_has_unreachable r = has_statement_after_terminal r.statements

abbrev pub item_has_unreachable : ItemTree → Bool
item_has_unreachable (tree.chain c) = list_any rule_has_unreachable c.rules
item_has_unreachable _ = false

abbrev pub has_unreachable_statement : TableTree → Bool
has_unreachable_statement t = list_any item_has_unreachable t.items
