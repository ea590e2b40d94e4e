-- The effect of each statement of a rule on a packet (nft(8), "Statements").
use Rattle.std.specs.Prelude.{ℕ, Bool, true, false, length, Option, Some, None, unwrap_or}
use Rattle.std.specs.Option.{option_map}
use Rattle.nft_tree.specs.declared.selector.Selector.{Selector}
use Rattle.nft_tree.specs.declared.selector.Selector.TheVariants as selectors
use Rattle.nft_tree.specs.declared.selector.ValueType.{ValueType}
use Rattle.nft_tree.specs.declared.selector.ValueType.TheVariants as types
use Rattle.nft_tree.specs.declared.compared_types.ComparedType.TheVariants.{Named}
use Rattle.nft_tree.specs.declared.statement.MarkField.{MarkField}
use Rattle.nft_tree.specs.declared.statement.MarkField.TheVariants as marks
use Rattle.nft_tree.specs.declared.nat.PortRange.{PortRange}
use Rattle.nft_tree.specs.declared.nat.PortRange.TheVariants as port_ranges
use Rattle.nft_tree.specs.Tree as tree
use Rattle.nft_tree.specs.Tree.{Text, VerdictTree, MapLookupTree, OperandTree, NatTree}
use Rattle.nft_tree.specs.Tree.{Statement, TableTree}
use Rattle.nft_tree.specs.TableItems.{chains_of}
use Rattle.rule_names.specs.Names.{index_in, chain_names}
use Rattle.rule_meaning.specs.declared.facts.Facts.{Facts}
use Rattle.rule_meaning.specs.declared.facts.CtFacts.{CtFacts}
use Rattle.rule_meaning.specs.declared.facts.CtFacts.TheVariants as ct
use Rattle.rule_meaning.specs.declared.event.StatementPosition.{StatementPosition}
use Rattle.rule_meaning.specs.declared.event.PortInterval.{PortInterval}
use Rattle.rule_meaning.specs.declared.event.RuleVerdict.{RuleVerdict}
use Rattle.rule_meaning.specs.declared.event.RuleVerdict.TheVariants as rule_verdicts
use Rattle.rule_meaning.specs.declared.event.NatAction.{NatAction}
use Rattle.rule_meaning.specs.declared.event.NatAction.TheVariants as nat_actions
use Rattle.rule_meaning.specs.declared.event.Event.{Event}
use Rattle.rule_meaning.specs.declared.event.Event.TheVariants as events
use Rattle.rule_meaning.specs.Selectors.{value}
use Rattle.rule_meaning.specs.Sets.{Scope, looked_up, data_verdict, data_number}
use Rattle.rule_meaning.specs.Matches.{holds}

-- the effect of a statement
pub data StatementEffect : Type 0 where
  -- the next statement runs
  pass : StatementEffect
  -- the rule ends, and the next one runs
  fail : StatementEffect
  -- an event; the next statement runs with these facts
  note : (event : Event) (facts : Facts) → StatementEffect
  -- the rule gives a verdict
  give : (verdict : RuleVerdict) → StatementEffect

abbrev pub passes_if : Bool → StatementEffect
passes_if true = pass
passes_if false = fail

-- a statement fails if its operand has no value
abbrev pub with_value : {A : Type 0} → (A → StatementEffect) → Option A → StatementEffect
with_value effect None = fail
with_value effect (Some x) = effect x

-- ---- verdicts

-- the index of the chain with the name; for an unknown name, one past the last
abbrev pub chain_number : TableTree → Text → ℕ
chain_number t name = unwrap_or (index_in name (chain_names t)) (length (chains_of t))

abbrev pub rule_verdict_of : TableTree → VerdictTree → RuleVerdict
rule_verdict_of t tree.accept = rule_verdicts.Accept
rule_verdict_of t tree.drop = rule_verdicts.Drop
rule_verdict_of t tree.continue = rule_verdicts.Continue
rule_verdict_of t tree.return = rule_verdicts.Return
rule_verdict_of t (tree.jump name) = rule_verdicts.Jump (chain_number t name)
rule_verdict_of t (tree.goto name) = rule_verdicts.Goto (chain_number t name)

-- ---- marks

abbrev pub mark_selector : MarkField → Selector
mark_selector marks.Meta = selectors.MetaMark
mark_selector marks.Ct = selectors.CtMark

-- the number, of this type, that a map has for a selector's value
abbrev pub look_number : Scope → ValueType → MapLookupTree → Facts → Option ℕ
look_number scope t l f = looked_up (data_number scope.network (Named t)) scope l.selector l.map f

abbrev pub operand_number : Scope → OperandTree → Facts → Option ℕ
operand_number scope (tree.constant n) f = Some n
operand_number scope (tree.mark_of field) f = value (mark_selector field) f
operand_number scope (tree.looked_up l) f = look_number scope types.Mark l f

-- `ct mark set` writes the connection's mark if there is a connection, and else does nothing (own)
abbrev pub writes_connection : Facts → CtFacts → ℕ → StatementEffect
writes_connection f (ct.Known c) n =
    note (events.Marked marks.Ct n) (record f { ct = ct.Known (record c { mark = n }) })
writes_connection f _ n = pass

abbrev pub writes : MarkField → Facts → ℕ → StatementEffect
writes marks.Meta f n = note (events.Marked marks.Meta n) (record f { mark = n })
writes marks.Ct f n = writes_connection f f.ct n

-- ---- notrack

-- `notrack` prevents the conntrack lookup that is yet to come; after the lookup it does nothing
abbrev pub sets_notrack : Facts → CtFacts → StatementEffect
sets_notrack f ct.NotLookedUp = note events.Untracked (record f { ct = ct.Notrack })
sets_notrack f _ = pass

-- ---- NAT

abbrev pub port_interval_of : PortRange → PortInterval
port_interval_of (port_ranges.One n) = record { low = n; high = n }
port_interval_of (port_ranges.Between low high) = record { low = low; high = high }

abbrev pub nat_action_of : Scope → NatTree → Facts → Option NatAction
nat_action_of scope (tree.source (tree.source_address a ports)) f =
    Some (nat_actions.Source a (option_map port_interval_of ports))
nat_action_of scope (tree.source (tree.source_lookup l)) f =
    option_map (λ a. nat_actions.Source a None) (look_number scope types.Address l f)
nat_action_of scope (tree.destination (tree.destination_address a port)) f =
    Some (nat_actions.Destination a port)
nat_action_of scope (tree.destination (tree.destination_lookup l)) f =
    option_map (λ a. nat_actions.Destination a None) (look_number scope types.Address l f)
nat_action_of scope (tree.masquerade ports) f =
    Some (nat_actions.Masquerade (option_map port_interval_of ports))
nat_action_of scope (tree.redirect port) f = Some (nat_actions.Redirect port)

-- ---- statements

abbrev pub statement_effect : Scope → StatementPosition → Statement → Facts → StatementEffect
statement_effect scope statement_position (tree.matching m) f = passes_if (holds scope m f)
statement_effect scope statement_position (tree.counter start) f = note (events.Counted statement_position) f
statement_effect scope statement_position (tree.log text) f = note (events.Logged statement_position) f
statement_effect scope statement_position tree.notrack f = sets_notrack f f.ct
statement_effect scope statement_position (tree.set_mark field operand) f =
    with_value (writes field f) (operand_number scope operand f)
statement_effect scope statement_position (tree.verdict_map s m) f =
    with_value (λ v. give (rule_verdict_of scope.table v)) (looked_up data_verdict scope s m f)
statement_effect scope statement_position (tree.verdict v) f = give (rule_verdict_of scope.table v)
statement_effect scope statement_position (tree.nat n) f =
    with_value (λ t. give (rule_verdicts.Translate t)) (nat_action_of scope n f)
