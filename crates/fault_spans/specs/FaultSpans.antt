-- Where a fault of a ruleset stands in its text. (own)
use Rattle.std.specs.Prelude.{◌≡◌, ℕ, ◌+◌, ◌-◌, List, [], length, map, slice_get, Some}
use Rattle.nft_lexer.specs.declared.token.Token.{Token}
use Rattle.nft_lexer.specs.Lexing.{TokenizesTo}
use Rattle.nft_lexer.specs.Places.{AllStand}
use Rattle.nft_lexer.specs.TokenViews.{spelled, terminals}
use Rattle.nft_tree.specs.TreeViews.{tables_of}
use Rattle.nft_rulesets.specs.Rulesets.{SpellsRuleset}
use Rattle.box_file.specs.Box.{PlantTree}
use Rattle.node_spans.specs.declared.token_range.TokenRange.{TokenRange}
use Rattle.fault_nodes.specs.Nodes.{CompletesFault, position}
use Rattle.fault_spans.specs.Standing.{NodeStands}
use Rattle.fault_spans.specs.declared.spans.FaultSpan.{FaultSpan}

-- The bytes of the tokens of a range: from where its first token begins up to where its last one ends.
pub record AreBytesOf (tokens : List Token) (r : TokenRange) (start end : ℕ) : Type 0 where
  pub first : Token
  pub first_there : slice_get tokens r.first ≡ Some first
  pub begins : start ≡ first.start
  pub last : Token
  pub last_there : slice_get tokens (r.end - 1) ≡ Some last
  pub ends : end ≡ last.start + length last.text.now

-- The text is one of a ruleset that gets the fault with this node, and the bytes are those of the node's tokens.
pub record IsFaultSpan (text : List ℕ) (network : PlantTree) (span : FaultSpan) : Type 0 where
  pub tokenized : TokenizesTo text (map spelled span.tokens.items)
  pub stand : AllStand text [] span.tokens.items
  pub reads : SpellsRuleset (tables_of span.tree) (terminals span.tokens.items)
  pub completes : CompletesFault span.found.fault span.found.node (tables_of span.tree) network
  pub read_before : span.found.position ≡ position (tables_of span.tree) span.found.node
  pub range : TokenRange
  pub stands : NodeStands span.tokens.items (tables_of span.tree) span.found.node range
  pub bytes : AreBytesOf span.tokens.items range span.start span.end
