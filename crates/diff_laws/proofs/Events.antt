-- Chains have the same verdict and facts, whatever events are before.
use Rattle.std.proofs.Common.{◌≡◌, ◌+◌, ◌++◌, ℕ, Bool, List, [], ◌∷◌, Some, ap, refl, subst, sym}
use Rattle.nft_tree.specs.Tree.{TableTree}
use Rattle.nft_tree.specs.declared.chain.Policy.{Policy}
use Rattle.box_file.specs.Box.{PlantTree}
use Rattle.rule_meaning.specs.declared.facts.Facts.{Facts}
use Rattle.rule_meaning.specs.declared.event.ChainNo.{ChainNo}
use Rattle.rule_meaning.specs.declared.event.Event.{Event}
use Rattle.rule_meaning.specs.declared.event.HookVerdict.TheVariants.{Accepted, Dropped, Translated}
use Rattle.rule_meaning.specs.declared.event.RuleVerdict.TheVariants as decisions
use Rattle.rule_meaning.specs.Statements.{give}
use Rattle.rule_meaning.specs.Runs as runs
use Rattle.rule_meaning.specs.Runs.{IsTerminal, Program, Remainder, RunResult, Runs, at_end, at_rule, over, table_program, with_verdict}
use Rattle.rule_meaning.specs.Hooks as hooks
use Rattle.rule_meaning.specs.Hooks.{BaseChain, Chains, Continues, HookResult, InTurn, NoChain, RunsBaseChain, Stops, Then, Traversal}
use Rattle.rule_meaning.specs.Hooks.{policy_of, with_policy}

-- ---- a chain

-- the same but for events
abbrev SameRun : RunResult → RunResult → Type 0
SameRun (at_end f es) (at_end g later) = f ≡ g
SameRun (over verdict f es) (over other g later) = (verdict ≡ other) × (f ≡ g)
SameRun _ _ = ⊥

terminal_too : (o q : RunResult) → SameRun o q → IsTerminal o → IsTerminal q
terminal_too (over verdict f es) (over other g later) same ends = tt
terminal_too (over verdict f es) (at_end g later) same ends = absurd same
terminal_too (at_end f es) q same ends = absurd ends

module _ {S : Type 0} (p : Program S) where
  -- with these events before
  abbrev RunsFrom : (c n : ℕ) → Remainder S → Facts → RunResult → List Event → Type 0
  RunsFrom c n l f o later = (q : RunResult) × Runs p c n l f later q × SameRun o q

  abbrev RunsFromAny : (c n : ℕ) → Remainder S → Facts → RunResult → Type 0
  RunsFromAny c n l f o = (later : List Event) → RunsFrom c n l f o later

  jumped : (c n k t : ℕ) (s : S) (ss : List S) (rs : List (List S)) (f g : Facts) (es later : List Event) (chain : List (List S))
      (o : RunResult) → p.effect_of (runs.statement_position p c n k) s f ≡ give (decisions.Jump t)
      → p.rules_at t ≡ Some chain
      → RunsFrom t 1 (at_rule chain) f (at_end g es) (with_verdict p later c n (decisions.Jump t))
      → RunsFromAny c (n + 1) (at_rule rs) g o → RunsFrom c n (runs.in_rule k (s ∷ ss) rs) f o later
  jumped c n k t s ss rs f g es later chain o is has (at_end h more, x, same) rest =
      let k2 = rest more in (
        k2.0,
        runs.jumps t g more chain is has (subst (λ (i : Facts). Runs p t 1 (at_rule chain) f
            (with_verdict p later c n (decisions.Jump t)) (at_end i more)) (sym same) x) k2.1,
        k2.2,
      )
  jumped c n k t s ss rs f g es later chain o is has (over verdict h more, x, same) rest = absurd same

  runs_from : {c n : ℕ} {l : Remainder S} {f : Facts} {es : List Event} {o : RunResult} → Runs p c n l f es o
      → RunsFromAny c n l f o
  runs_from (runs.chain_ends {f = f}) later = (at_end f later, runs.chain_ends, refl)
  runs_from (runs.next_rule r) later = let k = runs_from r later in (k.0, runs.next_rule k.1, k.2)
  runs_from (runs.rule_ends r) later = let k = runs_from r later in (k.0, runs.rule_ends k.1, k.2)
  runs_from (runs.passes is r) later = let k = runs_from r later in (k.0, runs.passes is k.1, k.2)
  runs_from (runs.fails is r) later = let k = runs_from r later in (k.0, runs.fails is k.1, k.2)
  runs_from (runs.notes e g is r) later = let k = runs_from r (later ++ e ∷ []) in (k.0, runs.notes e g is k.1, k.2)
  runs_from (runs.accepts {c = c} {n = n} {f = f} is) later =
      (over Accepted f (with_verdict p later c n decisions.Accept), runs.accepts is, (refl, refl))
  runs_from (runs.drops {c = c} {n = n} {f = f} is) later =
      (over Dropped f (with_verdict p later c n decisions.Drop), runs.drops is, (refl, refl))
  runs_from (runs.translates {c = c} {n = n} t {f = f} is) later =
      (over (Translated t) f (with_verdict p later c n (decisions.Translate t)), runs.translates t is, (refl, refl))
  runs_from (runs.continues {c = c} {n = n} is r) later =
      let k = runs_from r (with_verdict p later c n decisions.Continue) in (k.0, runs.continues is k.1, k.2)
  runs_from (runs.returns {c = c} {n = n} {f = f} is) later =
      (at_end f (with_verdict p later c n decisions.Return), runs.returns is, refl)
  runs_from (runs.jumps {c = c} {n = n} {k = k} t {s = s} {ss = ss} {rs = rs} {f = f} g es chain {o = o} is has first then) later =
      jumped c n k t s ss rs f g es later chain o is has (runs_from first (with_verdict p later c n (decisions.Jump t))) (runs_from then)
  runs_from (runs.jumps_away {c = c} {n = n} t chain {o = o} is has first ends) later =
      let k = runs_from first (with_verdict p later c n (decisions.Jump t)) in
      (k.0, runs.jumps_away t chain is has k.1 (terminal_too o k.0 k.2 ends), k.2)
  runs_from (runs.goes {c = c} {n = n} t chain is has first) later =
      let k = runs_from first (with_verdict p later c n (decisions.Goto t)) in (k.0, runs.goes t chain is has k.1, k.2)

-- ---- base chains

abbrev pub SameEnd : HookResult → HookResult → Type 0
SameEnd end other = (end.verdict ≡ other.verdict) × (end.facts ≡ other.facts)

-- with any events before there is a result, the same but for events
abbrev pub IsBlindToEvents : Traversal → Type 0
IsBlindToEvents traversal = (f : Facts) (es later : List Event) (end : HookResult) → traversal f es end
    → (other : HookResult) × traversal f later other × SameEnd end other

closed_same : (number : ChainNo) (policy : Policy) (o q : RunResult) → SameRun o q
    → SameEnd (with_policy number policy o) (with_policy number policy q)
closed_same number policy (at_end f es) (at_end g later) same = (refl, same)
closed_same number policy (over verdict f es) (over other g later) same = same
closed_same number policy (at_end f es) (over other g later) same = absurd same
closed_same number policy (over verdict f es) (at_end g later) same = absurd same

nothing_blind : IsBlindToEvents NoChain
nothing_blind f es later end is =
    (record { verdict = Accepted; facts = f; events = later }, refl, (ap (λ (e : HookResult). e.verdict) is, ap (λ (e : HookResult). e.facts) is))

then_blind : (first second : Traversal) → IsBlindToEvents first → IsBlindToEvents second → IsBlindToEvents (Then first second)
then_blind first second one two f es later end (hooks.goes_on m r on s) =
    let k = one f es later m r in
    let l = two m.facts m.events k.0.events end s in (
      l.0,
      hooks.goes_on k.0 k.1 (subst Continues k.2.0 on) (subst (λ (g : Facts). second g k.0.events l.0) k.2.1 l.1),
      l.2,
    )
then_blind first second one two f es later end (hooks.stops r ends) =
    let k = one f es later end r in (k.0, hooks.stops k.1 (subst Stops k.2.0 ends), k.2)

module _ (network : PlantTree) (tables : List TableTree) where
  base_blind : (b : BaseChain) → IsBlindToEvents (RunsBaseChain network tables b)
  base_blind b f es later end r =
      let k = runs_from (table_program network b.number.table r.table) r.runs later in (
        with_policy b.number (policy_of b.head) k.0,
        record { table = r.table; stands = r.stands; rules = r.rules; has = r.has; after = k.0; runs = k.1; is = refl },
        subst (λ (e : HookResult). SameEnd e (with_policy b.number (policy_of b.head) k.0)) (sym r.is)
            (closed_same b.number (policy_of b.head) r.after k.0 k.2),
      )

  in_turn_blind : (bs : List BaseChain) → IsBlindToEvents (InTurn network tables bs)
  in_turn_blind [] = nothing_blind
  in_turn_blind (b ∷ bs) = then_blind (RunsBaseChain network tables b) (InTurn network tables bs) (base_blind b) (in_turn_blind bs)

  pub chains_blind : (test : BaseChain → Bool) → IsBlindToEvents (Chains network tables test)
  chains_blind test f es later end r =
      let k = in_turn_blind r.order f es later end r.run in
      (k.0, record { order = r.order; in_order = r.in_order; run = k.1 }, k.2)
