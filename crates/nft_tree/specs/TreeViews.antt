-- What contracts see of the code's syntax tree: each value's part of the tree, without where its vectors are
-- in memory. A type that holds no vector stands for itself.
use Rattle.std.specs.Prelude.{List, map}
use Rattle.std.specs.Option.{option_map}
use Rattle.nft_tree.specs.declared.ruleset.Ruleset.{Ruleset}
use Rattle.nft_tree.specs.declared.ruleset.Table.{Table}
use Rattle.nft_tree.specs.declared.ruleset.Item.{Item}
use Rattle.nft_tree.specs.declared.ruleset.Item.TheVariants as items
use Rattle.nft_tree.specs.declared.chain.Chain.{Chain}
use Rattle.nft_tree.specs.declared.chain.Head.{Head}
use Rattle.nft_tree.specs.declared.chain.Rule.{Rule}
use Rattle.nft_tree.specs.declared.values.Value.{Value}
use Rattle.nft_tree.specs.declared.values.Value.TheVariants as values
use Rattle.nft_tree.specs.declared.values.ValueRange.{ValueRange}
use Rattle.nft_tree.specs.declared.values.ValueRange.TheVariants as ranges
use Rattle.nft_tree.specs.declared.set.SetDecl.{SetDecl}
use Rattle.nft_tree.specs.declared.set.MapDecl.{MapDecl}
use Rattle.nft_tree.specs.declared.set.SetType.{SetType}
use Rattle.nft_tree.specs.declared.set.SetType.TheVariants as set_types
use Rattle.nft_tree.specs.declared.set.Element.{Element}
use Rattle.nft_tree.specs.declared.set.Key.{Key}
use Rattle.nft_tree.specs.declared.set.Key.TheVariants as keys
use Rattle.nft_tree.specs.declared.set.Pair.{Pair}
use Rattle.nft_tree.specs.declared.set.Data.{Data}
use Rattle.nft_tree.specs.declared.set.Data.TheVariants as datas
use Rattle.nft_tree.specs.declared.nat.Nat.{Nat}
use Rattle.nft_tree.specs.declared.nat.Nat.TheVariants as nats
use Rattle.nft_tree.specs.declared.nat.SourceTarget.{SourceTarget}
use Rattle.nft_tree.specs.declared.nat.SourceTarget.TheVariants as sources
use Rattle.nft_tree.specs.declared.nat.DestinationTarget.{DestinationTarget}
use Rattle.nft_tree.specs.declared.nat.DestinationTarget.TheVariants as destinations
use Rattle.nft_tree.specs.declared.statement.Stmt.{Stmt}
use Rattle.nft_tree.specs.declared.statement.Stmt.TheVariants as stmts
use Rattle.nft_tree.specs.declared.statement.Operand.{Operand}
use Rattle.nft_tree.specs.declared.statement.Operand.TheVariants as operands
use Rattle.nft_tree.specs.declared.statement.MapLookup.{MapLookup}
use Rattle.nft_tree.specs.declared.statement.MapRef.{MapRef}
use Rattle.nft_tree.specs.declared.statement.MapRef.TheVariants as map_refs
use Rattle.nft_tree.specs.declared.statement.SetRef.{SetRef}
use Rattle.nft_tree.specs.declared.statement.SetRef.TheVariants as set_refs
use Rattle.nft_tree.specs.declared.statement.Verdict.{Verdict}
use Rattle.nft_tree.specs.declared.statement.Verdict.TheVariants as verdicts
use Rattle.nft_tree.specs.declared.statement.Match.{Match}
use Rattle.nft_tree.specs.declared.statement.Match.TheVariants as matches
use Rattle.nft_tree.specs.declared.statement.Flag.{Flag}
use Rattle.nft_tree.specs.declared.statement.Flag.TheVariants as flag_kinds
use Rattle.nft_tree.specs.Tree.{ChainTree, DataTree, DestinationTree, ElementTree, FlagTree, HeadTree, ItemTree}
use Rattle.nft_tree.specs.Tree.{KeyTree, MapLookupTree, MapRefTree, MapTree, MatchTree, NatTree, OperandTree}
use Rattle.nft_tree.specs.Tree.{PairTree, RangeTree, RuleTree, SetRefTree, SetTree, SetTypeTree, SourceTree}
use Rattle.nft_tree.specs.Tree.{Statement, TableTree, ValueTree, VerdictTree, accept, address, any_flag, between}
use Rattle.nft_tree.specs.Tree.{bits, chain, comment, compare, constant, continue, counter, destination}
use Rattle.nft_tree.specs.Tree.{destination_address, destination_lookup, drop, elements, exact_flags, flag_number}
use Rattle.nft_tree.specs.Tree.{flag_word, goto, is_in, joined, jump, log, looked_up, map_item, mark_of}
use Rattle.nft_tree.specs.Tree.{masked_flags, masked_flags_unequal, masquerade, matching, named_map, named_set}
use Rattle.nft_tree.specs.Tree.{nat, not_in, notrack, number, one, pairs, prefix, redirect, return, selectors, set}
use Rattle.nft_tree.specs.Tree.{set_mark, single, source, source_address, source_lookup, string, to_value}
use Rattle.nft_tree.specs.Tree.{to_verdict, types, verdict, verdict_map, word}

abbrev pub value_tree : Value → ValueTree
value_tree (values.Number n) = number n
value_tree (values.Address a) = address a
value_tree (values.Word w) = word w.value.items
value_tree (values.String s) = string s.value.items

abbrev pub range_tree : ValueRange → RangeTree
range_tree (ranges.One v) = one (value_tree v)
range_tree (ranges.Between low high) = between (value_tree low) (value_tree high)
range_tree (ranges.Prefix a n) = prefix a n

abbrev pub verdict_tree : Verdict → VerdictTree
verdict_tree verdicts.Accept = accept
verdict_tree verdicts.Drop = drop
verdict_tree verdicts.Continue = continue
verdict_tree verdicts.Return = return
verdict_tree (verdicts.Jump name) = jump name.items
verdict_tree (verdicts.Goto name) = goto name.items

abbrev pub key_tree : Key → KeyTree
key_tree (keys.Single r) = single (range_tree r)
key_tree (keys.Joined vs) = joined (map value_tree vs.items)

abbrev pub element_tree : Element → ElementTree
element_tree e = record { key = key_tree e.key; comment = option_map (λ c. c.items) e.comment }

abbrev pub data_tree : Data → DataTree
data_tree (datas.Verdict v) = to_verdict (verdict_tree v)
data_tree (datas.Value v) = to_value (value_tree v)

abbrev pub pair_tree : Pair → PairTree
pair_tree p =
    record {
      key = range_tree p.key;
      comment = option_map (λ c. c.items) p.comment;
      value = data_tree p.value;
    }

abbrev pub set_ref_tree : SetRef → SetRefTree
set_ref_tree (set_refs.Named name) = named_set name.items
set_ref_tree (set_refs.Anonymous es) = elements (map element_tree es.items)

abbrev pub map_ref_tree : MapRef → MapRefTree
map_ref_tree (map_refs.Named name) = named_map name.items
map_ref_tree (map_refs.Anonymous ps) = pairs (map pair_tree ps.items)

abbrev pub map_lookup_tree : MapLookup → MapLookupTree
map_lookup_tree l = record { selector = l.selector; map = map_ref_tree l.map }

abbrev pub operand_tree : Operand → OperandTree
operand_tree (operands.Number n) = constant n
operand_tree (operands.Mark m) = mark_of m
operand_tree (operands.MapLookup l) = looked_up (map_lookup_tree l)

abbrev pub flag_tree : Flag → FlagTree
flag_tree (flag_kinds.Word w) = flag_word w.items
flag_tree (flag_kinds.Number n) = flag_number n

abbrev pub match_tree : Match → MatchTree
match_tree (matches.Compare s o r) = compare s o (range_tree r)
match_tree (matches.In ss r) = is_in ss.items (set_ref_tree r)
match_tree (matches.NotIn ss r) = not_in ss.items (set_ref_tree r)
match_tree (matches.Bits field test words) = bits field test (map (λ w. w.items) words.items)
match_tree (matches.AnyFlag fs) = any_flag (map flag_tree fs.items)
match_tree (matches.ExactFlags fs) = exact_flags (map flag_tree fs.items)
match_tree (matches.MaskedFlags m) = masked_flags (map flag_tree m.wanted.items) (map flag_tree m.mask.items)
match_tree (matches.MaskedFlagsUnequal m) =
    masked_flags_unequal (map flag_tree m.wanted.items) (map flag_tree m.mask.items)

abbrev pub source_tree : SourceTarget → SourceTree
source_tree (sources.Address a ports) = source_address a ports
source_tree (sources.MapLookup l) = source_lookup (map_lookup_tree l)

abbrev pub destination_tree : DestinationTarget → DestinationTree
destination_tree (destinations.Address a port) = destination_address a port
destination_tree (destinations.MapLookup l) = destination_lookup (map_lookup_tree l)

abbrev pub nat_tree : Nat → NatTree
nat_tree (nats.Source s) = source (source_tree s)
nat_tree (nats.Destination d) = destination (destination_tree d)
nat_tree (nats.Masquerade ports) = masquerade ports
nat_tree (nats.Redirect port) = redirect port

abbrev pub statement : Stmt → Statement
statement (stmts.Match m) = matching (match_tree m)
statement (stmts.Counter start) = counter start
statement (stmts.Log text) = log (option_map (λ t. t.items) text)
statement stmts.NoTrack = notrack
statement (stmts.SetMark m o) = set_mark m (operand_tree o)
statement (stmts.VerdictMap s m) = verdict_map s (map_ref_tree m)
statement (stmts.Verdict v) = verdict (verdict_tree v)
statement (stmts.Nat n) = nat (nat_tree n)

abbrev pub rule_tree : Rule → RuleTree
rule_tree r = record {
  statements = map statement r.statements.items;
  comment = option_map (λ c. c.items) r.comment;
}

abbrev pub head_tree : Head → HeadTree
head_tree h =
    record {
      kind = h.kind;
      hook = h.hook;
      priority = h.priority;
      policy = h.policy;
      notes = map (λ n. n.items) h.notes.items;
    }

abbrev pub chain_tree : Chain → ChainTree
chain_tree c =
    record {
      name = c.name.items;
      notes = map (λ n. n.items) c.notes.items;
      head = option_map head_tree c.head;
      rules = map rule_tree c.rules.items;
    }

abbrev pub set_type_tree : SetType → SetTypeTree
set_type_tree (set_types.Types ts) = types ts.items
set_type_tree (set_types.Selectors ss) = selectors ss.items

abbrev pub set_tree : SetDecl → SetTree
set_tree s =
    record {
      name = s.name.items;
      key = set_type_tree s.key;
      flags = option_map (λ f. f.items) s.flags;
      size = s.size;
      auto_merge = s.auto_merge;
      comment = option_map (λ c. c.items) s.comment;
      elements =
          option_map (λ es. map element_tree es.items) s.elements;
    }

abbrev pub map_tree : MapDecl → MapTree
map_tree m =
    record {
      name = m.name.items;
      types = m.types;
      flags = option_map (λ f. f.items) m.flags;
      size = m.size;
      auto_merge = m.auto_merge;
      comment = option_map (λ c. c.items) m.comment;
      elements =
          option_map (λ ps. map pair_tree ps.items) m.elements;
    }

abbrev pub item_tree : Item → ItemTree
item_tree (items.Comment c) = comment c.items
item_tree (items.Chain c) = chain (chain_tree c)
item_tree (items.Set s) = set (set_tree s)
item_tree (items.Map m) = map_item (map_tree m)

abbrev pub table_tree : Table → TableTree
table_tree t = record { family = t.family; name = t.name.items; items = map item_tree t.items.items }

-- A ruleset is the list of its tables.
abbrev pub tables_of : Ruleset → List TableTree
tables_of r = map table_tree r.tables.items
