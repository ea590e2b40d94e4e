-- What statements of a well-formed ruleset leave of facts, and that what they write fits.
use Rattle.std.specs.Prelude.{◌^◌, ◌<◌, IfSome}
use Rattle.std.specs.Option.{option_and_then, option_map, option_or}
use Rattle.std.proofs.Common.{◌≡◌, ◌∙◌, ℕ, ◌&&◌, Bool, true, false, not, cond, List, [], ◌∷◌, Option, Some, None, refl, ap, arith, nat_lt, nat_le}
use Rattle.std.proofs.lemmas.Bool.Decides.{nat_tests}
use Rattle.nft_tree.specs.declared.selector.ValueType.TheVariants as types
use Rattle.nft_tree.specs.declared.compared_types.ComparedType.{ComparedType}
use Rattle.nft_tree.specs.declared.compared_types.ComparedType.TheVariants.{Named}
use Rattle.nft_tree.specs.declared.nat.PortRange.{PortRange}
use Rattle.nft_tree.specs.declared.nat.PortRange.TheVariants as port_ranges
use Rattle.nft_tree.specs.declared.selector.Selector.{Selector}
use Rattle.nft_tree.specs.declared.statement.MarkField.{MarkField}
use Rattle.nft_tree.specs.declared.statement.MarkField.TheVariants as marks
use Rattle.nft_tree.specs.Tree as tree
use Rattle.nft_tree.specs.Tree.{DataTree, MapLookupTree, MapRefTree, MapTree, NatTree, OperandTree, PairTree, Statement, TableTree, ValueTree, VerdictTree}
use Rattle.nft_tree.specs.ComparedTypes.{map_key_compared_type, selector_compared_type}
use Rattle.box_file.specs.Box.{PlantTree}
use Rattle.nft_values.specs.Values.{Span, has_numbers, is_range, is_value, numbers_of, range_span}
use Rattle.rule_names.specs.Names.{map_named, some_of}
use Rattle.rule_values.specs.Faults.{are_ports, if_some, is_port, nat_out_of_range, statement_out_of_range}
use Rattle.rule_meaning.specs.declared.facts.Facts.{Facts}
use Rattle.rule_meaning.specs.declared.facts.CtFacts.{CtFacts}
use Rattle.rule_meaning.specs.declared.facts.CtFacts.TheVariants as ct
use Rattle.rule_meaning.specs.declared.event.PortInterval.{PortInterval}
use Rattle.rule_meaning.specs.declared.event.NatAction.{NatAction}
use Rattle.rule_meaning.specs.declared.event.NatAction.TheVariants as nat_actions
use Rattle.rule_meaning.specs.declared.event.RuleVerdict.{RuleVerdict}
use Rattle.rule_meaning.specs.declared.event.RuleVerdict.TheVariants as verdicts
use Rattle.rule_meaning.specs.declared.event.StatementPosition.{StatementPosition}
use Rattle.rule_meaning.specs.Matches.{holds}
use Rattle.rule_meaning.specs.Selectors.{ct_state, of_connection, value}
use Rattle.rule_meaning.specs.Sets.{Scope, data_number, data_verdict, declared_gives, looked_up, map_gives, number_of, pair_gives, pairs_give, spans}
use Rattle.rule_meaning.specs.Statements.{StatementEffect, give, look_number, nat_action_of, note, operand_number, passes_if}
use Rattle.rule_meaning.specs.Statements.{port_interval_of, rule_verdict_of, sets_notrack, statement_effect, with_value, writes, writes_connection}
use Rattle.fact_sets.specs.Boxes.{IsCt}
use Rattle.diff_laws.specs.Addresses.{DataFits, Every, NatFits, RefFits, StatementFits}
use Rattle.diff_laws.proofs.Each.{each_always, some_always, some_map}

-- ---- what stays

-- the marks fit
abbrev pub MarksFit : Facts → Type 0
MarksFit f = (f.mark < 2 ^ 32) × IsCt f.ct

-- all but marks and `notrack` stays
pub record Keeps (f g : Facts) : Type 0 where
  pub packet : f.packet ≡ g.packet
  pub input : f.input ≡ g.input
  pub output : f.output ≡ g.output
  pub state : ct_state f.ct ≡ ct_state g.ct
  pub marks : MarksFit f → MarksFit g

pub keeps_all : (f : Facts) → Keeps f f
keeps_all f = record { packet = refl; input = refl; output = refl; state = refl; marks = λ h. h }

pub keeps_then : (f g h : Facts) → Keeps f g → Keeps g h → Keeps f h
keeps_then f g h x y = record {
  packet = x.packet ∙ y.packet;
  input = x.input ∙ y.input;
  output = x.output ∙ y.output;
  state = x.state ∙ y.state;
  marks = λ m. y.marks (x.marks m);
}

-- ---- NAT statements

abbrev pub PortsFit : Option PortInterval → Type 0
PortsFit ports = IfSome ports (λ p. (p.low < 2 ^ 16) × (p.high < 2 ^ 16))

abbrev pub ActionFits : NatAction → Type 0
ActionFits (nat_actions.Source a ports) = (a < 2 ^ 32) × PortsFit ports
ActionFits (nat_actions.Destination a port) = (a < 2 ^ 32) × IfSome port (λ n. n < 2 ^ 16)
ActionFits (nat_actions.Masquerade ports) = PortsFit ports
ActionFits (nat_actions.Redirect port) = IfSome port (λ n. n < 2 ^ 16)

abbrev pub VerdictFits : RuleVerdict → Type 0
VerdictFits (verdicts.Translate t) = ActionFits t
VerdictFits _ = Unit {0}

-- an effect keeps the facts, and a NAT statement's numbers fit
abbrev pub EffectFits : Facts → StatementEffect → Type 0
EffectFits f (note e g) = Keeps f g
EffectFits f (give v) = VerdictFits v
EffectFits f _ = Unit {0}

-- ---- numbers

below : (n k : ℕ) → not (nat_lt n k) ≡ false → n < k
below n k e = grind (arith, nat_tests)

if_true : {A : Type 0} (b : Bool) (x : A) (P : A → Type 0) → (b ≡ true → P x) → IfSome (cond b (Some x) None) P
if_true true x P h = h refl
if_true false x P h = tt

first_true : (a b : Bool) → (a && b) ≡ true → a ≡ true
first_true true b e = refl
first_true false b e = absurd cc

second_true : (a b : Bool) → (a && b) ≡ true → b ≡ true
second_true true b e = e
second_true false b e = absurd cc

lower_than : (n k : ℕ) → nat_lt n k ≡ true → n < k
lower_than n k e = grind (arith, nat_tests)

-- a value of type mark is below 2^32; no word is one, and no string or address
mark_value : (network : PlantTree) (v : ValueTree) → is_value (Named types.Mark) v ≡ true → (range_span network (Named types.Mark) (tree.one v)).low < 2 ^ 32
mark_value network (tree.number n) e = lower_than n 4294967296 e
mark_value network (tree.address a) e = absurd cc
mark_value network (tree.word w) e = absurd cc
mark_value network (tree.string s) e = absurd cc

mark_number : (network : PlantTree) (v : ValueTree) → IfSome (number_of network (Named types.Mark) v) (λ n. n < 2 ^ 32)
mark_number network v =
    some_map (λ (s : Span). s.low < 2 ^ 32) (λ n. n < 2 ^ 32) (λ s. s.low) (λ s h. h) (numbers_of network (Named types.Mark) (tree.one v))
    (if_true (is_range network (Named types.Mark) (tree.one v) && has_numbers network (Named types.Mark) (tree.one v))
    (range_span network (Named types.Mark) (tree.one v)) (λ s. s.low < 2 ^ 32)
    (λ e. mark_value network v (first_true (is_value (Named types.Mark) v) (has_numbers network (Named types.Mark) (tree.one v)) e)))

-- an address of the text fits
address_value : (network : PlantTree) (v : ValueTree) → DataFits (tree.to_value v) → is_value (Named types.Address) v ≡ true
    → (range_span network (Named types.Address) (tree.one v)).low < 2 ^ 32
address_value network (tree.number n) h e = absurd cc
address_value network (tree.address a) h e = h
address_value network (tree.word w) h e = absurd cc
address_value network (tree.string s) h e = absurd cc

address_number : (network : PlantTree) (v : ValueTree) → DataFits (tree.to_value v) → IfSome (number_of network (Named types.Address) v) (λ n. n < 2 ^ 32)
address_number network v h =
    some_map (λ (s : Span). s.low < 2 ^ 32) (λ n. n < 2 ^ 32) (λ s. s.low) (λ s h. h) (numbers_of network (Named types.Address) (tree.one v))
    (if_true (is_range network (Named types.Address) (tree.one v) && has_numbers network (Named types.Address) (tree.one v))
    (range_span network (Named types.Address) (tree.one v)) (λ s. s.low < 2 ^ 32)
    (λ e. address_value network v h (first_true (is_value (Named types.Address) v) (has_numbers network (Named types.Address) (tree.one v)) e)))

-- ---- maps

-- the data of pairs
abbrev pub DataOf : (DataTree → Type 0) → MapRefTree → Type 0
DataOf Q (tree.named_map name) = Unit {0}
DataOf Q (tree.pairs ps) = Every (λ p. Q p.value) ps

-- the data of a table's maps
abbrev pub MapsOf : (DataTree → Type 0) → TableTree → Type 0
MapsOf Q t = (name : tree.Text) → IfSome (map_named t name) (λ m. Every (λ p. Q p.value) (some_of m.elements))

module _ (read : DataTree → Option ℕ) (Q : DataTree → Type 0) (reads : (d : DataTree) → Q d → IfSome (read d) (λ n. n < 2 ^ 32)) where
  or_fits : (a b : Option ℕ) → IfSome a (λ n. n < 2 ^ 32) → IfSome b (λ n. n < 2 ^ 32) → IfSome (option_or a b) (λ n. n < 2 ^ 32)
  or_fits None b h k = k
  or_fits (Some n) b h k = h

  pair_fits : (b : Bool) (d : DataTree) → Q d → IfSome (cond b (read d) None) (λ n. n < 2 ^ 32)
  pair_fits true d h = reads d h
  pair_fits false d h = tt

  pairs_fit : (network : PlantTree) (k : ComparedType) (ps : List PairTree) → Every (λ p. Q p.value) ps → (n : ℕ)
      → IfSome (pairs_give read network k ps n) (λ n. n < 2 ^ 32)
  pairs_fit network k [] h n = tt
  pairs_fit network k (p ∷ ps) h n = or_fits (pair_gives read network k n p) (pairs_give read network k ps n)
      (pair_fits (spans (numbers_of network k p.key) n) p.value h.0) (pairs_fit network k ps h.1 n)

  declared_fits : (network : PlantTree) (o : Option MapTree) → IfSome o (λ m. Every (λ p. Q p.value) (some_of m.elements)) → (n : ℕ)
      → IfSome (declared_gives read network o n) (λ n. n < 2 ^ 32)
  declared_fits network None h n = tt
  declared_fits network (Some m) h n = pairs_fit network (map_key_compared_type m.types) (some_of m.elements) h n

  then_fits : (g : ℕ → Option ℕ) → ((n : ℕ) → IfSome (g n) (λ n. n < 2 ^ 32)) → (o : Option ℕ) → IfSome (option_and_then g o) (λ n. n < 2 ^ 32)
  then_fits g h None = tt
  then_fits g h (Some n) = h n

  pub map_fits : (scope : Scope) (s : Selector) (m : MapRefTree)
      → MapsOf Q scope.table → DataOf Q m
      → (f : Facts) → IfSome (looked_up read scope s m f) (λ n. n < 2 ^ 32)
  map_fits scope s (tree.named_map name) named listed f =
      then_fits (map_gives read scope s (tree.named_map name)) (λ n. declared_fits scope.network (map_named scope.table name) (named name) n) (value s f)
  map_fits scope s (tree.pairs ps) named listed f =
      then_fits (map_gives read scope s (tree.pairs ps)) (λ n. pairs_fit scope.network (selector_compared_type s) ps listed n) (value s f)

-- ---- operands of marks

mark_data : (scope : Scope) (d : DataTree) → IfSome (data_number scope.network (Named types.Mark) d) (λ n. n < 2 ^ 32)
mark_data scope (tree.to_value v) = mark_number scope.network v
mark_data scope (tree.to_verdict v) = tt

address_data : (scope : Scope) (d : DataTree) → DataFits d → IfSome (data_number scope.network (Named types.Address) d) (λ n. n < 2 ^ 32)
address_data scope (tree.to_value v) h = address_number scope.network v h
address_data scope (tree.to_verdict v) h = tt

any_data : (m : MapRefTree) → DataOf (λ d. Unit {0}) m
any_data (tree.named_map name) = tt
any_data (tree.pairs ps) = each_always (λ (p : PairTree). Unit {0}) (λ p. tt) ps

any_map : (t : TableTree) → MapsOf (λ d. Unit {0}) t
any_map t name = some_always (λ (m : MapTree). Every (λ (p : PairTree). Unit {0}) (some_of m.elements))
    (λ m. each_always (λ (p : PairTree). Unit {0}) (λ p. tt) (some_of m.elements)) (map_named t name)

looked_up_mark : (scope : Scope) (l : MapLookupTree) (f : Facts) → IfSome (look_number scope types.Mark l f) (λ n. n < 2 ^ 32)
looked_up_mark scope l f = map_fits (data_number scope.network (Named types.Mark)) (λ d. Unit {0}) (λ d u. mark_data scope d) scope l.selector l.map
    (any_map scope.table) (any_data l.map) f

-- a ruleset's addresses
data_fits : (m : MapRefTree) → RefFits m → DataOf DataFits m
data_fits (tree.named_map name) h = tt
data_fits (tree.pairs ps) h = h

looked_up_address : (scope : Scope) → MapsOf DataFits scope.table → (l : MapLookupTree) → RefFits l.map → (f : Facts)
    → IfSome (look_number scope types.Address l f) (λ n. n < 2 ^ 32)
looked_up_address scope maps l h f = map_fits (data_number scope.network (Named types.Address)) DataFits (address_data scope) scope l.selector l.map
    maps (data_fits l.map h) f

connection_mark : (c : CtFacts) → IsCt c → IfSome (of_connection (λ k. k.mark) c) (λ n. n < 2 ^ 32)
connection_mark ct.NotLookedUp h = tt
connection_mark ct.Notrack h = tt
connection_mark ct.Untracked h = tt
connection_mark ct.Invalid h = tt
connection_mark (ct.Known c) h = h

operand_fits : (scope : Scope) (field : MarkField) (o : OperandTree) (f : Facts) → statement_out_of_range (tree.set_mark field o) ≡ false → MarksFit f
    → IfSome (operand_number scope o f) (λ n. n < 2 ^ 32)
operand_fits scope field (tree.constant n) f e h = below n 4294967296 e
operand_fits scope field (tree.mark_of marks.Meta) f e h = h.0
operand_fits scope field (tree.mark_of marks.Ct) f e h = connection_mark f.ct h.1
operand_fits scope field (tree.looked_up l) f e h = looked_up_mark scope l f

-- ---- effects

test_fits : (f : Facts) (b : Bool) → EffectFits f (passes_if b)
test_fits f true = tt
test_fits f false = tt

untracks : (f : Facts) (c : CtFacts) → f.ct ≡ c → EffectFits f (sets_notrack f c)
untracks f ct.NotLookedUp e = record { packet = refl; input = refl; output = refl; state = ap ct_state e; marks = λ h. (h.0, tt) }
untracks f ct.Notrack e = tt
untracks f ct.Untracked e = tt
untracks f ct.Invalid e = tt
untracks f (ct.Known c) e = tt

marks_connection : (f : Facts) (c : CtFacts) (n : ℕ) → f.ct ≡ c → (MarksFit f → n < 2 ^ 32) → EffectFits f (writes_connection f c n)
marks_connection f ct.NotLookedUp n e h = tt
marks_connection f ct.Notrack n e h = tt
marks_connection f ct.Untracked n e h = tt
marks_connection f ct.Invalid n e h = tt
marks_connection f (ct.Known c) n e h =
    record { packet = refl; input = refl; output = refl; state = ap ct_state e; marks = λ m. (m.0, h m) }

marks_fit : (field : MarkField) (f : Facts) (n : ℕ) → (MarksFit f → n < 2 ^ 32) → EffectFits f (writes field f n)
marks_fit marks.Meta f n h = record { packet = refl; input = refl; output = refl; state = refl; marks = λ m. (h m, m.1) }
marks_fit marks.Ct f n h = marks_connection f f.ct n refl h

marked_with : (field : MarkField) (f : Facts) (o : Option ℕ) → (MarksFit f → IfSome o (λ n. n < 2 ^ 32)) → EffectFits f (with_value (writes field f) o)
marked_with field f None h = tt
marked_with field f (Some n) h = marks_fit field f n h

no_translation : (t : TableTree) (v : VerdictTree) → VerdictFits (rule_verdict_of t v)
no_translation t tree.accept = tt
no_translation t tree.drop = tt
no_translation t tree.continue = tt
no_translation t tree.return = tt
no_translation t (tree.jump name) = tt
no_translation t (tree.goto name) = tt

mapped_verdict : (t : TableTree) (f : Facts) (o : Option VerdictTree) → EffectFits f (with_value (λ v. give (rule_verdict_of t v)) o)
mapped_verdict t f None = tt
mapped_verdict t f (Some v) = no_translation t v

translated : (f : Facts) (o : Option NatAction) → IfSome o ActionFits → EffectFits f (with_value (λ t. give (verdicts.Translate t)) o)
translated f None h = tt
translated f (Some t) h = h

-- ---- ports

port_is : (n : ℕ) → is_port n ≡ true → n < 2 ^ 16
port_is n e = lower_than n 65536 (second_true (nat_lt 0 n) (nat_lt n 65536) e)

unnot : (b : Bool) → not b ≡ false → b ≡ true
unnot true e = refl
unnot false e = absurd cc

port_fits : (port : Option ℕ) → if_some (λ n. not (is_port n)) port ≡ false → IfSome port (λ n. n < 2 ^ 16)
port_fits None e = tt
port_fits (Some n) e = port_is n (unnot (is_port n) e)

ports_are : (r : PortRange) → are_ports r ≡ true → ((port_interval_of r).low < 2 ^ 16) × ((port_interval_of r).high < 2 ^ 16)
ports_are (port_ranges.One n) e = (port_is n e, port_is n e)
ports_are (port_ranges.Between low high) e =
    let both : (is_port low && is_port high) ≡ true = first_true (is_port low && is_port high) (nat_le low high) e in
    (port_is low (first_true (is_port low) (is_port high) both), port_is high (second_true (is_port low) (is_port high) both))

ports_fit : (ports : Option PortRange) → if_some (λ r. not (are_ports r)) ports ≡ false → PortsFit (option_map port_interval_of ports)
ports_fit None e = tt
ports_fit (Some r) e = ports_are r (unnot (are_ports r) e)

action_fits : (scope : Scope) → MapsOf DataFits scope.table → (n : NatTree) → NatFits n → nat_out_of_range n ≡ false → (f : Facts)
    → IfSome (nat_action_of scope n f) ActionFits
action_fits scope maps (tree.source (tree.source_address a ports)) h e f = (h, ports_fit ports e)
action_fits scope maps (tree.source (tree.source_lookup l)) h e f =
    some_map (λ n. n < 2 ^ 32) ActionFits (λ a. nat_actions.Source a None) (λ a k. (k, tt)) (look_number scope types.Address l f)
    (looked_up_address scope maps l h f)
action_fits scope maps (tree.destination (tree.destination_address a port)) h e f = (h, port_fits port e)
action_fits scope maps (tree.destination (tree.destination_lookup l)) h e f =
    some_map (λ n. n < 2 ^ 32) ActionFits (λ a. nat_actions.Destination a None) (λ a k. (k, tt)) (look_number scope types.Address l f)
    (looked_up_address scope maps l h f)
action_fits scope maps (tree.masquerade ports) h e f = ports_fit ports e
action_fits scope maps (tree.redirect port) h e f = port_fits port e

-- ---- statements

pub statement_fits : (scope : Scope) → MapsOf DataFits scope.table → (s : Statement) → StatementFits s → statement_out_of_range s ≡ false
    → (place : StatementPosition) (f : Facts) → EffectFits f (statement_effect scope place s f)
statement_fits scope maps (tree.matching m) h e place f = test_fits f (holds scope m f)
statement_fits scope maps (tree.counter start) h e place f = keeps_all f
statement_fits scope maps (tree.log text) h e place f = keeps_all f
statement_fits scope maps tree.notrack h e place f = untracks f f.ct refl
statement_fits scope maps (tree.set_mark field o) h e place f =
    marked_with field f (operand_number scope o f) (λ m. operand_fits scope field o f e m)
statement_fits scope maps (tree.verdict_map s m) h e place f = mapped_verdict scope.table f (looked_up data_verdict scope s m f)
statement_fits scope maps (tree.verdict v) h e place f = no_translation scope.table v
statement_fits scope maps (tree.nat n) h e place f = translated f (nat_action_of scope n f) (action_fits scope maps n h e f)
