-- The abstract syntax tree of a ruleset, without where its vectors are in memory: what contracts compare. A
-- type that holds no vector stands for itself. The forms are those of nft(8): "Tables", "Chains", "Rules",
-- "Sets", "Maps", "Elements", "Expressions" and "Statements".
use Rattle.std.specs.Prelude.{ℕ, Bool, List, Option}
use Rattle.nft_tree.specs.declared.ruleset.Family.{Family}
use Rattle.nft_tree.specs.declared.chain.ChainKind.{ChainKind}
use Rattle.nft_tree.specs.declared.chain.Hook.{Hook}
use Rattle.nft_tree.specs.declared.chain.Priority.{Priority}
use Rattle.nft_tree.specs.declared.chain.Policy.{Policy}
use Rattle.nft_tree.specs.declared.selector.Selector.{Selector}
use Rattle.nft_tree.specs.declared.selector.ValueType.{ValueType}
use Rattle.nft_tree.specs.declared.set.MapType.{MapType}
use Rattle.nft_tree.specs.declared.set.SetFlag.{SetFlag}
use Rattle.nft_tree.specs.declared.nat.PortRange.{PortRange}
use Rattle.nft_tree.specs.declared.statement.CounterStart.{CounterStart}
use Rattle.nft_tree.specs.declared.statement.MarkField.{MarkField}
use Rattle.nft_tree.specs.declared.statement.Operator.{Operator}
use Rattle.nft_tree.specs.declared.statement.BitField.{BitField}
use Rattle.nft_tree.specs.declared.statement.BitTest.{BitTest}

-- The bytes of a name or a string.
abbrev pub Text : Type 0
Text = List ℕ

-- ---- nodes

pub data ValueTree : Type 0 where
  number : ℕ → ValueTree
  address : ℕ → ValueTree
  word : Text → ValueTree
  string : Text → ValueTree

pub data RangeTree : Type 0 where
  one : ValueTree → RangeTree
  between : (low high : ValueTree) → RangeTree
  prefix : (address length : ℕ) → RangeTree

pub data VerdictTree : Type 0 where
  accept : VerdictTree
  drop : VerdictTree
  continue : VerdictTree
  return : VerdictTree
  jump : Text → VerdictTree
  goto : Text → VerdictTree

pub data KeyTree : Type 0 where
  single : RangeTree → KeyTree
  joined : List ValueTree → KeyTree

pub record ElementTree : Type 0 where
  pub key : KeyTree
  pub comment : Option Text

pub data DataTree : Type 0 where
  to_verdict : VerdictTree → DataTree
  to_value : ValueTree → DataTree

pub record PairTree : Type 0 where
  pub key : RangeTree
  pub comment : Option Text
  pub value : DataTree

pub data SetRefTree : Type 0 where
  named_set : Text → SetRefTree
  elements : List ElementTree → SetRefTree

pub data MapRefTree : Type 0 where
  named_map : Text → MapRefTree
  pairs : List PairTree → MapRefTree

pub record MapLookupTree : Type 0 where
  pub selector : Selector
  pub map : MapRefTree

pub data OperandTree : Type 0 where
  constant : ℕ → OperandTree
  mark_of : MarkField → OperandTree
  looked_up : MapLookupTree → OperandTree

pub data FlagTree : Type 0 where
  flag_word : Text → FlagTree
  flag_number : ℕ → FlagTree

pub data MatchTree : Type 0 where
  compare : Selector → Operator → RangeTree → MatchTree
  is_in : List Selector → SetRefTree → MatchTree
  not_in : List Selector → SetRefTree → MatchTree
  bits : BitField → BitTest → List Text → MatchTree
  any_flag : List FlagTree → MatchTree
  exact_flags : List FlagTree → MatchTree
  masked_flags : (wanted mask : List FlagTree) → MatchTree
  masked_flags_unequal : (wanted mask : List FlagTree) → MatchTree

pub data SourceTree : Type 0 where
  source_address : ℕ → Option PortRange → SourceTree
  source_lookup : MapLookupTree → SourceTree

pub data DestinationTree : Type 0 where
  destination_address : ℕ → Option ℕ → DestinationTree
  destination_lookup : MapLookupTree → DestinationTree

pub data NatTree : Type 0 where
  source : SourceTree → NatTree
  destination : DestinationTree → NatTree
  masquerade : Option PortRange → NatTree
  redirect : Option ℕ → NatTree

pub data Statement : Type 0 where
  matching : MatchTree → Statement
  counter : Option CounterStart → Statement
  log : Option Text → Statement
  notrack : Statement
  set_mark : MarkField → OperandTree → Statement
  verdict_map : Selector → MapRefTree → Statement
  verdict : VerdictTree → Statement
  nat : NatTree → Statement

pub record RuleTree : Type 0 where
  pub statements : List Statement
  pub comment : Option Text

pub record HeadTree : Type 0 where
  pub kind : ChainKind
  pub hook : Hook
  pub priority : Priority
  pub policy : Option Policy
  pub notes : List Text

pub record ChainTree : Type 0 where
  pub name : Text
  pub notes : List Text
  pub head : Option HeadTree
  pub rules : List RuleTree

pub data SetTypeTree : Type 0 where
  types : List ValueType → SetTypeTree
  selectors : List Selector → SetTypeTree

pub record SetTree : Type 0 where
  pub name : Text
  pub key : SetTypeTree
  pub flags : Option (List SetFlag)
  pub size : Option ℕ
  pub auto_merge : Bool
  pub comment : Option Text
  pub elements : Option (List ElementTree)

pub record MapTree : Type 0 where
  pub name : Text
  pub types : MapType
  pub flags : Option (List SetFlag)
  pub size : Option ℕ
  pub auto_merge : Bool
  pub comment : Option Text
  pub elements : Option (List PairTree)

pub data ItemTree : Type 0 where
  comment : Text → ItemTree
  chain : ChainTree → ItemTree
  set : SetTree → ItemTree
  map_item : MapTree → ItemTree

pub record TableTree : Type 0 where
  pub family : Family
  pub name : Text
  pub items : List ItemTree
