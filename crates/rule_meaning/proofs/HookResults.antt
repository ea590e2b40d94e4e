-- Base chains and hooks have at most one result.
use Rattle.std.proofs.Common.{◌≡◌, ◌↔◌, Bool, List, [], ◌∷◌, filter, Some, sym, ap, ◌∙◌, subst}
use Rattle.std.proofs.lemmas.Option.{same_Some}
use Rattle.nft_tree.specs.Tree.{Statement, TableTree}
use Rattle.box_file.specs.Box.{PlantTree}
use Rattle.rule_meaning.specs.declared.facts.Facts.{Facts}
use Rattle.rule_meaning.specs.declared.event.Event.{Event}
use Rattle.rule_meaning.specs.Runs.{table_program, at_rule, RunResult, Runs}
use Rattle.rule_meaning.specs.Hooks as hooks
use Rattle.rule_meaning.specs.Hooks.{BaseChain, InOrder, runs_before, HookResult, policy_of, with_policy, Traversal}
use Rattle.rule_meaning.specs.Hooks.{RunsBaseChain, Continues, Stops, NoChain, Then, InTurn, Chains, base_chains_of}
use Rattle.rule_meaning.proofs.Determinism.{one_after}
use Rattle.rule_meaning.proofs.StableOrders.{one_order}
use Rattle.rule_meaning.proofs.Priorities.{priorities}

pub one_text_order : (text a b : List BaseChain) → InOrder text a → InOrder text b → a ≡ b
one_text_order text a b first second = one_order runs_before priorities text a b first.rising first.stable second.rising second.stable

-- ---- traversals

-- at most one result
abbrev pub One : Traversal → Type 0
One P = (f : Facts) (es : List Event) (hook_result other : HookResult) → P f es hook_result → P f es other → hook_result ≡ other

pub one_nothing : One NoChain
one_nothing f es hook_result other a b = a ∙ sym b

pub one_then : (first second : Traversal) → One first → One second → One (Then first second)
one_then first second one two f es hook_result other (hooks.goes_on m r on s) (hooks.goes_on m' r' on' s') =
    two m.facts m.events hook_result other s (subst (λ x. second x.facts x.events other) (sym (one f es m m' r r')) s')
one_then first second one two f es hook_result other (hooks.goes_on m r on s) (hooks.stops r' ends) =
    absurd (ends (subst (λ x. Continues x.verdict) (one f es m other r r') on))
one_then first second one two f es hook_result other (hooks.stops r ends) (hooks.goes_on m r' on s) =
    absurd (ends (subst (λ x. Continues x.verdict) (one f es m hook_result r' r) on))
one_then first second one two f es hook_result other (hooks.stops r ends) (hooks.stops r' ends') = one f es hook_result other r r'

module _ (network : PlantTree) (tables : List TableTree) where
  -- the result of a run in this table
  abbrev Same : BaseChain → Facts → List Event → HookResult → HookResult → TableTree → Type 0
  Same b f es hook_result other t = (rules : List (List Statement)) (after : RunResult)
      → (table_program network b.number.table t).rules_at b.number.chain ≡ Some rules
      → Runs (table_program network b.number.table t) b.number.chain 1 (at_rule rules) f es after → other
      ≡ with_policy b.number (policy_of b.head) after → hook_result ≡ other

  pub one_base : (b : BaseChain) → One (RunsBaseChain network tables b)
  one_base b f es hook_result other x y =
      let p = table_program network b.number.table x.table in
      let here : Same b f es hook_result other x.table = λ rules after has r is.
      let r' : Runs p b.number.chain 1 (at_rule x.rules) f es after =
      subst (λ l. Runs p b.number.chain 1 (at_rule l) f es after) (same_Some rules x.rules (sym has ∙ x.has)) r in
      x.is ∙ ap (with_policy b.number (policy_of b.head)) (one_after p x.runs after r') ∙ sym is in
      subst (Same b f es hook_result other) (same_Some x.table y.table (sym x.stands ∙ y.stands)) here y.rules y.after y.has y.runs y.is

  pub one_in_turn : (bs : List BaseChain) → One (InTurn network tables bs)
  one_in_turn [] = one_nothing
  one_in_turn (b ∷ bs) = one_then (RunsBaseChain network tables b) (InTurn network tables bs) (one_base b) (one_in_turn bs)

  pub one_chains : (test : BaseChain → Bool) → One (Chains network tables test)
  one_chains test f es hook_result other a b =
      one_in_turn a.order f es hook_result other a.run
      (subst (λ l. InTurn network tables l f es other)
      (one_text_order (filter test (base_chains_of tables)) b.order a.order b.in_order a.in_order) b.run)

  -- ---- what the first base chain leaves to the others

  module _ (b : BaseChain) (bs : List BaseChain) (f : Facts) (es : List Event) (m hook_result : HookResult) (r : RunsBaseChain network tables b f es m) where
    stopped : Stops m.verdict → Then (RunsBaseChain network tables b) (InTurn network tables bs) f es hook_result → hook_result ≡ m
    stopped ends (hooks.goes_on x r' on s) = absurd (ends (subst (λ y. Continues y.verdict) (one_base b f es x m r' r) on))
    stopped ends (hooks.stops r' _) = one_base b f es hook_result m r' r

    pub ends_all : Stops m.verdict → InTurn network tables (b ∷ bs) f es hook_result ↔ (hook_result ≡ m)
    ends_all ends = (stopped ends, λ same. subst (λ y. InTurn network tables (b ∷ bs) f es y) (sym same) (hooks.stops r ends))

    gone_on : Continues m.verdict → Then (RunsBaseChain network tables b) (InTurn network tables bs) f es hook_result
        → InTurn network tables bs m.facts m.events hook_result
    gone_on on (hooks.goes_on x r' _ s) = subst (λ y. InTurn network tables bs y.facts y.events hook_result) (one_base b f es x m r' r) s
    gone_on on (hooks.stops r' ends) = absurd (ends (subst (λ y. Continues y.verdict) (one_base b f es m hook_result r r') on))

    pub ends_one : Continues m.verdict → InTurn network tables (b ∷ bs) f es hook_result ↔ InTurn network tables bs m.facts m.events hook_result
    ends_one on = (gone_on on, λ s. hooks.goes_on m r on s)
