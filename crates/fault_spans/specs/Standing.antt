-- Where a node of a ruleset stands: the tokens that spell it, found from the whole ruleset downward. (own)
use Rattle.std.specs.Prelude.{◌≡◌, ℕ, ◌⊎◌, List, [], length, slice_get, Option, Some, None}
use Rattle.std.specs.Option.{unwrap_or}
use Rattle.nft_lexer.specs.declared.token.Token.{Token}
use Rattle.nft_tree.specs.Tree as tree
use Rattle.nft_tree.specs.Tree.{ElementTree, ItemTree, PairTree, Statement, TableTree}
use Rattle.token_reader.specs.Readers.{remaining}
use Rattle.token_reader.specs.Repeats.{Ends, SomeEnds}
use Rattle.nft_expressions.specs.Elements.{element, pair}
use Rattle.nft_rules.specs.Rules.{ended_rule, statement}
use Rattle.nft_rulesets.specs.Rulesets.{item, table}
use Rattle.node_spans.specs.Spans.{AreInBraces, AreSpelled, IsNothing, anonymous_map, anonymous_set}
use Rattle.node_spans.specs.declared.token_range.TokenRange.{TokenRange}
use Rattle.fault_nodes.specs.declared.nodes.Node.{Node}
use Rattle.fault_nodes.specs.declared.nodes.Node.TheVariants as nodes
use Rattle.fault_nodes.specs.Nodes.{item_at, items_at, rules_at, statement_at, statements_at}

-- The ranges are those of all tables, in order, and this one is the table's.
pub record TableStands (tokens : List Token) (tables : List TableTree) (t : ℕ) (r : TokenRange) : Type 0 where
  pub ranges : List TokenRange
  pub spelled : AreSpelled table Ends (remaining tokens) 0 (length tokens) tables ranges
  pub own : slice_get ranges t ≡ Some r

-- Those of all items of the table, among its tokens.
pub record ItemStands (tokens : List Token) (tables : List TableTree) (t i : ℕ) (r : TokenRange) : Type 0 where
  pub outer : TokenRange
  pub around : TableStands tokens tables t outer
  pub ranges : List TokenRange
  pub spelled : AreSpelled item Ends (remaining tokens) outer.first outer.end (items_at tables t) ranges
  pub own : slice_get ranges i ≡ Some r

-- Those of all rules of the chain.
pub record RuleStands (tokens : List Token) (tables : List TableTree) (t i k : ℕ) (r : TokenRange) : Type 0 where
  pub outer : TokenRange
  pub around : ItemStands tokens tables t i outer
  pub ranges : List TokenRange
  pub spelled : AreSpelled ended_rule SomeEnds (remaining tokens) outer.first outer.end (rules_at tables t i) ranges
  pub own : slice_get ranges k ≡ Some r

-- Those of all statements of the rule.
pub record StatementStands (tokens : List Token) (tables : List TableTree) (t i k s : ℕ) (r : TokenRange)
    : Type 0 where
  pub outer : TokenRange
  pub around : RuleStands tokens tables t i k outer
  pub ranges : List TokenRange
  pub spelled : AreSpelled statement IsNothing (remaining tokens) outer.first outer.end (statements_at tables t i k)
      ranges
  pub own : slice_get ranges s ≡ Some r

-- The ranges are those of the elements of a set or map, among its tokens.
abbrev pub ElementsStand : List Token → TokenRange → Option ItemTree → List TokenRange → Type 0
ElementsStand tokens r (Some (tree.set s)) ranges =
    AreInBraces element tokens r.first r.end (unwrap_or s.elements []) ranges
ElementsStand tokens r (Some (tree.map_item m)) ranges =
    AreInBraces pair tokens r.first r.end (unwrap_or m.elements []) ranges
ElementsStand tokens r _ ranges = ⊥

-- Those of all elements of the set or map.
pub record ElementStands (tokens : List Token) (tables : List TableTree) (t i e : ℕ) (r : TokenRange) : Type 0 where
  pub outer : TokenRange
  pub around : ItemStands tokens tables t i outer
  pub ranges : List TokenRange
  pub spelled : ElementsStand tokens outer (item_at tables t i) ranges
  pub own : slice_get ranges e ≡ Some r

-- The ranges are those of the elements of a statement's anonymous set or map, among its tokens.
abbrev pub AnonymousElementsStand : List Token → TokenRange → Option Statement → List TokenRange → Type 0
AnonymousElementsStand tokens r None ranges = ⊥
AnonymousElementsStand tokens r (Some s) ranges =
    ((es : List ElementTree) × (anonymous_set s ≡ Some es) × AreInBraces element tokens r.first r.end es ranges)
    ⊎ ((ps : List PairTree) × (anonymous_map s ≡ Some ps) × AreInBraces pair tokens r.first r.end ps ranges)

-- Those of all elements of the statement's anonymous set or map.
pub record AnonymousElementStands (tokens : List Token) (tables : List TableTree) (t i k s e : ℕ) (r : TokenRange)
    : Type 0 where
  pub outer : TokenRange
  pub around : StatementStands tokens tables t i k s outer
  pub ranges : List TokenRange
  pub spelled : AnonymousElementsStand tokens outer (statement_at tables t i k s) ranges
  pub own : slice_get ranges e ≡ Some r

-- The range is the one of the node.
abbrev pub NodeStands : List Token → List TableTree → Node → TokenRange → Type 0
NodeStands tokens tables (nodes.Table t) r = TableStands tokens tables t r
NodeStands tokens tables (nodes.Item t i) r = ItemStands tokens tables t i r
NodeStands tokens tables (nodes.Rule t i k) r = RuleStands tokens tables t i k r
NodeStands tokens tables (nodes.Statement t i k s) r = StatementStands tokens tables t i k s r
NodeStands tokens tables (nodes.Element t i e) r = ElementStands tokens tables t i e r
NodeStands tokens tables (nodes.AnonymousElement t i k s e) r = AnonymousElementStands tokens tables t i k s e r
