-- What chains of a well-formed ruleset leave of facts, and that the numbers of their verdicts fit.
use Rattle.std.specs.Prelude.{IfSome, slice_get}
use Rattle.std.specs.List.{list_any}
use Rattle.std.proofs.Common.{◌≡◌, ℕ, false, not, List, [], ◌∷◌, map, Some, subst, sym}
use Rattle.nft_tree.specs.declared.chain.Policy.{Policy}
use Rattle.nft_tree.specs.declared.chain.Policy.TheVariants as policies
use Rattle.nft_tree.specs.Tree as tree
use Rattle.nft_tree.specs.Tree.{ChainTree, DataTree, ItemTree, MapTree, PairTree, RuleTree, Statement, TableTree}
use Rattle.nft_tree.specs.TableItems.{chain_in, chains_of, map_in, maps_of}
use Rattle.box_file.specs.Box.{PlantTree}
use Rattle.std.specs.Str.{bytes_eq}
use Rattle.rule_names.specs.Names.{some_of}
use Rattle.rule_values.specs.Faults.{has_wrong_value, if_some, is_of_type, item_out_of_range, priority_out_of_range, statement_out_of_range}
use Rattle.rule_values.specs.TypedValues.{ranges_in}
use Rattle.rule_check.specs.declared.fault.CheckFault.TheVariants as faults
use Rattle.rule_check.specs.WellFormed.{WellFormed}
use Rattle.rule_meaning.specs.declared.facts.Facts.{Facts}
use Rattle.rule_meaning.specs.declared.event.ChainNo.{ChainNo}
use Rattle.rule_meaning.specs.declared.event.Event.{Event}
use Rattle.rule_meaning.specs.declared.event.HookVerdict.{HookVerdict}
use Rattle.rule_meaning.specs.declared.event.HookVerdict.TheVariants as hook_verdicts
use Rattle.rule_meaning.specs.declared.event.StatementPosition.{StatementPosition}
use Rattle.rule_meaning.specs.declared.stage.HookStage.{HookStage}
use Rattle.rule_meaning.specs.Runs as runs
use Rattle.rule_meaning.specs.Runs.{Program, Remainder, RunResult, Runs, at_end, at_rule, in_rule, over, statement_position, table_program}
use Rattle.rule_meaning.specs.Hooks as hooks
use Rattle.rule_meaning.specs.Hooks.{BaseChain, Chains, HookResult, InTurn, RunsBaseChain, Stage, Then, policy_of, policy_verdict, with_policy}
use Rattle.diff_laws.specs.Addresses.{AddressesFit, DataFits, Every, ItemFits, PairsFit, StatementFits}
use Rattle.diff_laws.proofs.Each.{each_both, each_filter_map, each_find, each_get, each_map, each_weaker, if_some_at, neither, never, none_passes, some_map}
use Rattle.diff_laws.proofs.Statements.{ActionFits, EffectFits, Keeps, MapsOf, keeps_all, keeps_then, statement_fits}

-- ---- results

abbrev pub HookVerdictFits : HookVerdict → Type 0
HookVerdictFits (hook_verdicts.Translated t) = ActionFits t
HookVerdictFits _ = Unit {0}

abbrev pub ResultFits : Facts → RunResult → Type 0
ResultFits f (at_end g es) = Keeps f g
ResultFits f (over v g es) = Keeps f g × HookVerdictFits v

result_then : (f g : Facts) (o : RunResult) → Keeps f g → ResultFits g o → ResultFits f o
result_then f g (at_end h es) x y = keeps_then f g h x y
result_then f g (over v h es) x y = (keeps_then f g h x y.0, y.1)

-- ---- runs

module _ {S : Type 0} (p : Program S) (Right : S → Type 0)
    (fits : (s : S) → Right s → (place : StatementPosition) (f : Facts) → EffectFits f (p.effect_of place s f))
    (has : (c : ℕ) → IfSome (p.rules_at c) (Every (Every Right))) where
  abbrev RestRight : Remainder S → Type 0
  RestRight (at_rule rules) = Every (Every Right) rules
  RestRight (in_rule n ss rules) = Every Right ss × Every (Every Right) rules

  chain_right : (c : ℕ) (rules : List (List S)) → p.rules_at c ≡ Some rules → Every (Every Right) rules
  chain_right c rules e = if_some_at (Every (Every Right)) (p.rules_at c) rules e (has c)

  runs_fit : {c n : ℕ} {l : Remainder S} {f : Facts} {es : List Event} {o : RunResult} → Runs p c n l f es o → RestRight l → ResultFits f o
  runs_fit (runs.chain_ends {f = f}) h = keeps_all f
  runs_fit (runs.next_rule r) h = runs_fit r (h.0, h.1)
  runs_fit (runs.rule_ends r) h = runs_fit r h.1
  runs_fit (runs.passes is r) h = runs_fit r (h.0.1, h.1)
  runs_fit (runs.fails is r) h = runs_fit r h.1
  runs_fit (runs.notes {c = c} {n = n} {k = k} {s = s} {f = f} e g {o = o} is r) h =
      result_then f g o (subst (EffectFits f) is (fits s h.0.0 (statement_position p c n k) f)) (runs_fit r (h.0.1, h.1))
  runs_fit (runs.accepts {f = f} is) h = (keeps_all f, tt)
  runs_fit (runs.drops {f = f} is) h = (keeps_all f, tt)
  runs_fit (runs.translates {c = c} {n = n} {k = k} t {s = s} {f = f} is) h =
      (keeps_all f, subst (EffectFits f) is (fits s h.0.0 (statement_position p c n k) f))
  runs_fit (runs.continues is r) h = runs_fit r h.1
  runs_fit (runs.returns {f = f} is) h = keeps_all f
  runs_fit (runs.jumps t {f = f} g later chain {o = o} is at a b) h =
      result_then f g o (runs_fit a (chain_right t chain at)) (runs_fit b h.1)
  runs_fit (runs.jumps_away t chain is at a ends) h = runs_fit a (chain_right t chain at)
  runs_fit (runs.goes t chain is at a) h = runs_fit a (chain_right t chain at)

-- ---- tables

abbrev RightStatement : Statement → Type 0
RightStatement s = StatementFits s × (statement_out_of_range s ≡ false)

abbrev RightRule : RuleTree → Type 0
RightRule r = Every RightStatement r.statements

abbrev RightItem : ItemTree → Type 0
RightItem i = ItemFits i × (item_out_of_range i ≡ false)

abbrev RightTable : TableTree → Type 0
RightTable t = Every RightItem t.items

chain_of_item : (i : ItemTree) → RightItem i → IfSome (chain_in i) (λ c. Every RightRule c.rules)
chain_of_item (tree.comment text) h = tt
chain_of_item (tree.set x) h = tt
chain_of_item (tree.map_item m) h = tt
chain_of_item (tree.chain c) h =
    let ranges : Every (λ (r : RuleTree). list_any statement_out_of_range r.statements ≡ false) c.rules =
    none_passes (λ r. list_any statement_out_of_range r.statements) c.rules
    (neither (if_some (λ x. priority_out_of_range x.priority) c.head) (list_any (λ r. list_any statement_out_of_range r.statements) c.rules) h.1).1 in
    each_weaker (λ r. Every StatementFits r.statements × (list_any statement_out_of_range r.statements ≡ false)) RightRule
    (λ r k. each_both StatementFits (λ s. statement_out_of_range s ≡ false) r.statements k.0 (none_passes statement_out_of_range r.statements k.1)) c.rules
    (each_both (λ r. Every StatementFits r.statements) (λ r. list_any statement_out_of_range r.statements ≡ false) c.rules h.0 ranges)

map_of_item : (i : ItemTree) → RightItem i → IfSome (map_in i) (λ m. PairsFit (some_of m.elements))
map_of_item (tree.comment text) h = tt
map_of_item (tree.set x) h = tt
map_of_item (tree.map_item m) h = h.0
map_of_item (tree.chain c) h = tt

rules_right : (network : PlantTree) (number : ℕ) (t : TableTree) → RightTable t → (c : ℕ)
    → IfSome ((table_program network number t).rules_at c) (Every (Every RightStatement))
rules_right network number t h c =
    some_map (λ (x : ChainTree). Every RightRule x.rules) (Every (Every RightStatement)) (λ x. map (λ r. r.statements) x.rules)
    (λ x k. each_map RightRule (Every RightStatement) (λ r. r.statements) (λ r w. w) x.rules k) (slice_get (chains_of t) c)
    (each_get (λ x. Every RightRule x.rules) (chains_of t) c
    (each_filter_map RightItem (λ x. Every RightRule x.rules) chain_in chain_of_item t.items h))

maps_right : (t : TableTree) → RightTable t → MapsOf DataFits t
maps_right t h name = each_find (λ m. PairsFit (some_of m.elements)) (λ m. bytes_eq m.name name) (maps_of t)
    (each_filter_map RightItem (λ m. PairsFit (some_of m.elements)) map_in map_of_item t.items h)

table_right : (network : PlantTree) (t : TableTree) → Every ItemFits t.items × (has_wrong_value network t ≡ false) → RightTable t
table_right network t h = each_both ItemFits (λ i. item_out_of_range i ≡ false) t.items h.0 (none_passes item_out_of_range t.items
    (neither (list_any (λ r. not (is_of_type network r)) (ranges_in t)) (list_any item_out_of_range t.items) h.1).1)

tables_right : (tables : List TableTree) (network : PlantTree) → WellFormed tables network → AddressesFit tables → Every RightTable tables
tables_right tables network well fits =
    each_weaker (λ t. Every ItemFits t.items × (has_wrong_value network t ≡ false)) RightTable (table_right network) tables
    (each_both (λ t. Every ItemFits t.items) (λ t. has_wrong_value network t ≡ false) tables fits
    (none_passes (has_wrong_value network) tables (never (list_any (has_wrong_value network) tables) (well faults.WrongValue))))

-- ---- base chains and stages

module _ (tables : List TableTree) (network : PlantTree) (well : WellFormed tables network) (fits : AddressesFit tables) where
  abbrev pub EndFits : Facts → HookResult → Type 0
  EndFits f end = Keeps f end.facts × HookVerdictFits end.verdict

  policy_fits : (p : Policy) → HookVerdictFits (policy_verdict p)
  policy_fits policies.Accept = tt
  policy_fits policies.Drop = tt

  with_policy_fits : (number : ChainNo) (p : Policy) (f : Facts) (o : RunResult) → ResultFits f o → EndFits f (with_policy number p o)
  with_policy_fits number p f (at_end g es) h = (h, policy_fits p)
  with_policy_fits number p f (over v g es) h = h

  base_fits : (b : BaseChain) (f : Facts) (es : List Event) (end : HookResult) → RunsBaseChain network tables b f es end → EndFits f end
  base_fits b f es end r =
      let right : RightTable r.table = if_some_at RightTable (slice_get tables b.number.table) r.table r.stands
      (each_get RightTable tables b.number.table (tables_right tables network well fits)) in
      let p = table_program network b.number.table r.table in
      let rules = rules_right network b.number.table r.table right in
      subst (EndFits f) (sym r.is) (with_policy_fits b.number (policy_of b.head) f r.after
      (runs_fit p RightStatement (λ s k place g. statement_fits (record { network = network; table = r.table }) (maps_right r.table right) s k.0 k.1 place g)
      rules r.runs (if_some_at (Every (Every RightStatement)) (p.rules_at b.number.chain) r.rules r.has (rules b.number.chain))))

  end_then : (f : Facts) (between end : HookResult) → EndFits f between → EndFits between.facts end → EndFits f end
  end_then f between end x y = (keeps_then f between.facts end.facts x.0 y.0, y.1)

  in_turn_fits : (bs : List BaseChain) (f : Facts) (es : List Event) (end : HookResult) → InTurn network tables bs f es end → EndFits f end
  in_turn_fits [] f es end e = subst (EndFits f) (sym e) (keeps_all f, tt)
  in_turn_fits (b ∷ bs) f es end (hooks.goes_on between x on y) =
      end_then f between end (base_fits b f es between x) (in_turn_fits bs between.facts between.events end y)
  in_turn_fits (b ∷ bs) f es end (hooks.stops x halts) = base_fits b f es end x

  pub stage_fits : (stage : HookStage) (f : Facts) (es : List Event) (end : HookResult) → Stage stage network tables f es end → EndFits f end
  stage_fits stage f es end r = in_turn_fits r.order f es end r.run
