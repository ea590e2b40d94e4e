-- Base chains and hooks of well-formed rulesets terminate.
use Rattle.std.proofs.Common.{◌≡◌, ◌⊎◌, ℕ, suc, ◌+◌, Bool, List, [], ◌∷◌, map, flat_map, filter, slice_get}
use Rattle.std.proofs.Common.{Contains, Option, Some, None, option_map, refl, ap, subst, inl, inr, arith}
use Rattle.nft_tree.specs.Tree.{HeadTree, ChainTree, TableTree}
use Rattle.nft_tree.specs.TableItems.{chains_of}
use Rattle.box_file.specs.Box.{PlantTree}
use Rattle.rule_names.specs.Names.{rule_targets}
use Rattle.rule_paths.specs.Paths.{Caller, AreCosts, Cycles}
use Rattle.rule_check.specs.declared.fault.CheckFault.TheVariants as faults
use Rattle.rule_check.specs.WellFormed.{WellFormed}
use Rattle.rule_meaning.specs.declared.event.HookVerdict.{HookVerdict}
use Rattle.rule_meaning.specs.declared.event.HookVerdict.TheVariants.{Accepted, Dropped, Translated}
use Rattle.rule_meaning.specs.Runs.{table_program}
use Rattle.rule_meaning.specs.Hooks as hooks
use Rattle.rule_meaning.specs.Hooks.{BaseChain, base_chain_of, base_chains_from, base_chains_of_tables}
use Rattle.rule_meaning.specs.Hooks.{base_chains_of, runs_before, HookResult, policy_of, with_policy, Traversal}
use Rattle.rule_meaning.specs.Hooks.{RunsBaseChain, Continues, Stops, NoChain, Then, InTurn, Chains}
use Rattle.rule_meaning.proofs.Priorities.{priorities}
use Rattle.rule_laws.specs.Terminates.{Terminates}
use Rattle.rule_laws.specs.Ranking.{weight_by}
use Rattle.rule_laws.proofs.Lists.{Every, every_got, every_contained, every_append, every_filter}
use Rattle.rule_laws.proofs.Running.{some_run}
use Rattle.rule_laws.proofs.Tables.{There, chains_there, Good, rules_good, falls}
use Rattle.rule_laws.proofs.WellTables.{contained, whole}
use Rattle.rule_laws.proofs.Sorting.{ordered, every_ordered, sorted, stable}

-- ---- base chains of a ruleset

record Stands (tables : List TableTree) (b : BaseChain) : Type 0 where
  table : TableTree
  at : slice_get tables b.number.table ≡ Some table
  chain : ChainTree
  is : slice_get (chains_of table) b.number.chain ≡ Some chain

module _ (tables : List TableTree) where
  module _ (k : ℕ) (t : TableTree) (at : slice_get tables k ≡ Some t) where
    base_stands : (c : ℕ) (x : ChainTree) (head : Option HeadTree) → slice_get (chains_of t) c ≡ Some x → Every (Stands tables) (base_chain_of k c head)
    base_stands c x None is = tt
    base_stands c x (Some head) is = (record { table = t; at = at; chain = x; is = is }, tt)

    from_stand : (c : ℕ) (cs : List ChainTree)
        → ((i : ℕ) (x : ChainTree) → slice_get cs i ≡ Some x → slice_get (chains_of t) (c + i) ≡ Some x)
        → Every (Stands tables) (base_chains_from k c cs)
    from_stand c [] here = tt
    from_stand c (x ∷ xs) here =
        let first : c + 0 ≡ c = omega arith in
        every_append (Stands tables) (base_chain_of k c x.head) (base_chains_from k (suc c) xs)
        (base_stands c x x.head (subst (λ i. slice_get (chains_of t) i ≡ Some x) first (here 0 x refl)))
        (from_stand (suc c) xs (λ i y e. let on : c + suc i ≡ suc c + i = omega arith in subst (λ j. slice_get (chains_of t) j ≡ Some y) on (here (suc i) y e)))

  tables_stand : (k : ℕ) (ts : List TableTree)
      → ((i : ℕ) (x : TableTree) → slice_get ts i ≡ Some x → slice_get tables (k + i) ≡ Some x)
      → Every (Stands tables) (base_chains_of_tables k ts)
  tables_stand k [] here = tt
  tables_stand k (t ∷ ts) here =
      let first : k + 0 ≡ k = omega arith in
      every_append (Stands tables) (base_chains_from k 0 (chains_of t)) (base_chains_of_tables (suc k) ts)
      (from_stand k t (subst (λ i. slice_get tables i ≡ Some t) first (here 0 t refl)) 0 (chains_of t)
      (λ i x e. let on : i ≡ 0 + i = omega arith in subst (λ j. slice_get (chains_of t) j ≡ Some x) on e))
      (tables_stand (suc k) ts (λ i y e. let on : k + suc i ≡ suc k + i = omega arith in subst (λ j. slice_get tables j ≡ Some y) on (here (suc i) y e)))

  all_stand : Every (Stands tables) (base_chains_of tables)
  all_stand = tables_stand 0 tables (λ i x e. let on : i ≡ 0 + i = omega arith in subst (λ j. slice_get tables j ≡ Some x) on e)

-- ---- traversals

-- the statement of the law of costs
abbrev pub SomeCosts : Type 0
SomeCosts = (tables : List TableTree) (t : TableTree) → (Cycles tables → ⊥) → Contains tables t → (cost : Caller → ℕ) × AreCosts t cost

decide : (e : HookVerdict) → Continues e ⊎ Stops e
decide Accepted = inl tt
decide Dropped = inr (λ x. x)
decide (Translated t) = inr (λ x. x)

pub nothing_ends : Terminates NoChain
nothing_ends f es = (record { verdict = Accepted; facts = f; events = es }, refl)

then_ends : (first second : Traversal) → Terminates first → Terminates second → Terminates (Then first second)
then_ends first second a b f es = by_ending (a f es)
  where
    by_ending : (m : HookResult) × first f es m → (hook_result : HookResult) × Then first second f es hook_result
    by_ending q = elim (decide q.0.verdict) [
      | inl on ↦ (let r = b q.0.facts q.0.events in (r.0, hooks.goes_on q.0 q.1 on r.1))
      | inr ends ↦
          (q.0, hooks.stops q.1 ends)
    ]

module _ (costs : SomeCosts) (network : PlantTree) (tables : List TableTree) (well : WellFormed tables network) where
  base_ends : (b : BaseChain) → Stands tables b → Terminates (RunsBaseChain network tables b)
  base_ends b s f es =
      let t = s.table in
      let c = costs tables t (well faults.Cycle) (contained tables network well b.number.table t s.at) in
      let all_there = whole tables network well b.number.table t s.at in
      let p = table_program network b.number.table t in
      let good = rules_good c.0 network b.number.table t s.chain.rules
      (every_got (λ x. There t (flat_map rule_targets x.rules)) (chains_of t) b.number.chain s.chain s.is
      (chains_there t t.items all_there)) in
      let q = some_run p (weight_by c.0) (Good c.0 network b.number.table t)
      (falls c.0 network b.number.table t c.1 all_there) b.number.chain (map (λ r. r.statements) s.chain.rules) good f es in (
        with_policy b.number (policy_of b.head) q.0,
        record {
          table = t;
          stands = s.at;
          rules = map (λ r. r.statements) s.chain.rules;
          has = ap (option_map (λ (x : ChainTree). map (λ r. r.statements) x.rules)) s.is;
          after = q.0;
          runs = q.1;
          is = refl;
        },
      )

  pub some_base : (b : BaseChain) → Contains (base_chains_of tables) b → Terminates (RunsBaseChain network tables b)
  some_base b has = base_ends b (every_contained (Stands tables) (base_chains_of tables) b has (all_stand tables))

  in_turn : (bs : List BaseChain) → Every (Stands tables) bs → Terminates (InTurn network tables bs)
  in_turn [] all = nothing_ends
  in_turn (b ∷ bs) all = then_ends (RunsBaseChain network tables b) (InTurn network tables bs) (base_ends b all.0) (in_turn bs all.1)

  pub some_chains : (test : BaseChain → Bool) → Terminates (Chains network tables test)
  some_chains test f es =
      let text = filter test (base_chains_of tables) in
      let q = in_turn (ordered runs_before text)
      (every_ordered runs_before (Stands tables) text
      (every_filter (Stands tables) test (base_chains_of tables) (all_stand tables))) f es in (
        q.0,
        record {
          order = ordered runs_before text;
          in_order =
              record { rising = sorted runs_before priorities text; stable = stable runs_before priorities text };
          run = q.1;
        },
      )
