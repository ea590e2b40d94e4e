-- An interpreter of base chains.
use Rattle.std.proofs.Common.{◌≡◌, ℕ, Bool, List, [], ◌∷◌, filter, slice_get, Option, Some, None, option_map, refl, sym, subst}
use Rattle.std.proofs.lemmas.Option.{same_Some, none-some}
use Rattle.nft_tree.specs.Tree.{TableTree}
use Rattle.box_file.specs.Box.{PlantTree}
use Rattle.rule_meaning.specs.declared.facts.Facts.{Facts}
use Rattle.rule_meaning.specs.declared.event.Event.{Event}
use Rattle.rule_meaning.specs.declared.event.HookVerdict.{HookVerdict}
use Rattle.rule_meaning.specs.declared.event.HookVerdict.TheVariants.{Accepted, Dropped, Translated}
use Rattle.rule_meaning.specs.Runs.{table_program, RunResult}
use Rattle.rule_meaning.specs.Hooks as hooks
use Rattle.rule_meaning.specs.Hooks.{BaseChain, base_chains_of, runs_before, HookResult, policy_of}
use Rattle.rule_meaning.specs.Hooks.{with_policy, Traversal, RunsBaseChain, Continues, Then, InTurn, Chains}
use Rattle.rule_meaning.proofs.Priorities.{priorities}
use Rattle.rule_laws.proofs.Sorting.{ordered, sorted, stable}
use Rattle.definition_examples.proofs.Interpreter.{run, run_sound}

abbrev pub Gives : Type 0
Gives = Facts → List Event → Option HookResult

-- the computed result is one of the traversal
abbrev pub Sound : Gives → Traversal → Type 0
Sound gives traversal = (f : Facts) (es : List Event) (hook_result : HookResult) → gives f es ≡ Some hook_result → traversal f es hook_result

-- ---- sequences

abbrev by_ending : HookVerdict → HookResult → Gives → Option HookResult
by_ending Accepted m next = next m.facts m.events
by_ending Dropped m next = Some m
by_ending (Translated t) m next = Some m

abbrev after : Option HookResult → Gives → Option HookResult
after None next = None
after (Some m) next = by_ending m.verdict m next

abbrev pub in_order : Gives → Gives → Gives
in_order first second f es = after (first f es) second

module _ (first second : Traversal) (next : Gives) (sound : Sound next second) (f : Facts) (es : List Event) (hook_result : HookResult) where
  ended : (m : HookResult) → first f es m → (e : HookVerdict) → m.verdict ≡ e → by_ending e m next ≡ Some hook_result → Then first second f es hook_result
  ended m r Accepted is e = hooks.goes_on m r (subst Continues (sym is) tt) (sound m.facts m.events hook_result e)
  ended m r Dropped is e = subst (Then first second f es) (same_Some m hook_result e) (hooks.stops r (subst Continues is))
  ended m r (Translated t) is e = subst (Then first second f es) (same_Some m hook_result e) (hooks.stops r (subst Continues is))

  followed : (x : Option HookResult) → ((m : HookResult) → x ≡ Some m → first f es m) → after x next ≡ Some hook_result → Then first second f es hook_result
  followed None h e = absurd (none-some hook_result e)
  followed (Some m) h e = ended m (h m refl) m.verdict refl e

pub then_sound : (first second : Traversal) (a b : Gives) → Sound a first → Sound b second → Sound (in_order a b) (Then first second)
then_sound first second a b sa sb f es hook_result e = followed first second b sb f es hook_result (a f es) (λ m is. sa f es m is) e

-- ---- base chains

module _ (network : PlantTree) (tables : List TableTree) (depth : ℕ) where
  abbrev table_run : BaseChain → Option TableTree → Gives
  table_run b None f es = None
  table_run b (Some t) f es = option_map (with_policy b.number (policy_of b.head)) (run (table_program network b.number.table t) depth b.number.chain f es)

  abbrev turn_run : List BaseChain → Gives
  turn_run [] f es = Some (record { verdict = Accepted; facts = f; events = es })
  turn_run (b ∷ bs) f es = after (table_run b (slice_get tables b.number.table) f es) (turn_run bs)

  abbrev pub chains_run : (BaseChain → Bool) → Gives
  chains_run test f es = turn_run (ordered runs_before (filter test (base_chains_of tables))) f es

  closed_sound : (b : BaseChain) (t : TableTree) → slice_get tables b.number.table ≡ Some t
      → (f : Facts) (es : List Event) (hook_result : HookResult) (x : Option RunResult)
      → run (table_program network b.number.table t) depth b.number.chain f es ≡ x
      → option_map (with_policy b.number (policy_of b.head)) x ≡ Some hook_result
      → RunsBaseChain network tables b f es hook_result
  closed_sound b t at f es hook_result None is e = absurd (none-some hook_result e)
  closed_sound b t at f es hook_result (Some o) is e =
      let q = run_sound (table_program network b.number.table t) depth b.number.chain f es o is in
      record { table = t; stands = at; rules = q.chain; has = q.stands; after = o; runs = q.runs; is = sym (same_Some _ hook_result e) }

  base_sound : (b : BaseChain) (x : Option TableTree) → slice_get tables b.number.table ≡ x → Sound (table_run b x) (RunsBaseChain network tables b)
  base_sound b None at f es hook_result e = absurd (none-some hook_result e)
  base_sound b (Some t) at f es hook_result e =
      closed_sound b t at f es hook_result (run (table_program network b.number.table t) depth b.number.chain f es) refl e

  turn_sound : (bs : List BaseChain) → Sound (turn_run bs) (InTurn network tables bs)
  turn_sound [] f es hook_result e = sym (same_Some _ hook_result e)
  turn_sound (b ∷ bs) f es hook_result e =
      then_sound (RunsBaseChain network tables b) (InTurn network tables bs)
      (table_run b (slice_get tables b.number.table)) (turn_run bs)
      (base_sound b (slice_get tables b.number.table) refl) (turn_sound bs) f es hook_result e

  pub chains_sound : (test : BaseChain → Bool) → Sound (chains_run test) (Chains network tables test)
  chains_sound test f es hook_result e =
      let text = filter test (base_chains_of tables) in
      record {
        order = ordered runs_before text;
        in_order =
            record { rising = sorted runs_before priorities text; stable = stable runs_before priorities text };
        run =
            turn_sound (ordered runs_before text) f es hook_result e;
      }
