-- A packet's path has at most one result, and one where chains have.
use Rattle.std.proofs.Common.{arith}
use Rattle.stepping.proofs.Names.{Accepted, Bool, Cause, ConntrackEntry, Continue, CtInfo, DestinationNat, Drop, Entry, EntryOf, Err, Event, Facts, Hooks}
use Rattle.stepping.proofs.Names.{HooksAndConfirm, InputOrForward, List, Mapping, NatChains, New, Next, None, Ok, Option, Path, PathState, ReceivedPacket}
use Rattle.stepping.proofs.Names.{Recorded, Result, RunsStage, Setup, Some, SourceNat, Step, StepResult, after_chains, carried, confirmed}
use Rattle.stepping.proofs.Names.{destination_nat_result, entry_of_packet, entry_without_packet, goes_on, interface_facts, live_at_record}
use Rattle.stepping.proofs.Names.{looked_up_info, mappings_in, moment_after, on_arrival, others_beside, refl, routed, source_nat_result, stops, unless_dropped, with_info, ℕ}
use Rattle.stepping.proofs.Names.{◌≡◌, ◌⨾◌}
use Rattle.rule_meaning.specs.declared.facts.Interface.{Interface}
use Rattle.rule_meaning.specs.Hooks.{BaseChain, Chains, HookResult}
use Rattle.rule_meaning.specs.declared.stage.HookStage.{HookStage}
use Rattle.rule_meaning.specs.Hooks.{chains_in_stage}
use Rattle.translation.specs.Nat.{after_destination_nat, after_source_nat}
use Rattle.rule_meaning.specs.declared.stage.HookStage.TheVariants as stages

-- what holds of the results of a function, and of those of one step after another
pub record IsKept (P : (A : Type 0) → (A → Type 0) → Type 0) : Type 1 where
  pub exact : (A : Type 0) (a : A) → P A (λ b. b ≡ a)
  pub image : (A B : Type 0) (X : A → Type 0) (Y : B → Type 0) (f : A → B) → ((b : B) → Y b → (a : A) × X a × (b ≡ f a))
      → ((a : A) → X a → Y (f a)) → P A X → P B Y
  pub in_turn : (first second : Step) (s : PathState) → P StepResult (first s) → ((t : PathState) → P StepResult (second t))
      → P StepResult ((first ⨾ second) s)

-- ---- at most one result

abbrev pub AtMostOne : (A : Type 0) → (A → Type 0) → Type 0
AtMostOne A X = (a b : A) → X a → X b → a ≡ b

pub not_both : (cause : Cause) (t u : PathState) → Drop cause t ≡ Continue u → ⊥
not_both cause t u e = cc

pub at_most_one : IsKept AtMostOne
at_most_one = grind arith

-- ---- at least one

abbrev pub AtLeastOne : (A : Type 0) → (A → Type 0) → Type 0
AtLeastOne A X = (a : A) × X a

some_after : (first second : Step) (s : PathState) → ((t : PathState) → AtLeastOne StepResult (second t)) → (r : StepResult)
    → first s r → AtLeastOne StepResult ((first ⨾ second) s)
some_after first second s two (Continue t) x = (_, goes_on t _ x (two t).1)
some_after first second s two (Drop c t) x = (Drop c t, stops c t x)

pub at_least_one : IsKept AtLeastOne
at_least_one = record {
  exact = λ A a. (a, refl);
  image = λ A B X Y f to from some. (f some.0, from some.0 some.1);
  in_turn = λ first second s one two. some_after first second s two one.0 one.1;
}

-- ---- the path

module _ (P : (A : Type 0) → (A → Type 0) → Type 0) (law : IsKept P) (setup : Setup)
    (chains : (test : BaseChain → Bool) (f : Facts) (es : List Event) → P HookResult (Chains setup.network setup.rules test f es))
  where
    abbrev Keeps : Step → Type 0
    Keeps step = (s : PathState) → P StepResult (step s)

    chain : (first second : Step) → Keeps first → Keeps second → Keeps (first ⨾ second)
    chain first second one two s = law.in_turn first second s (one s) two

    by_function : (f : PathState → StepResult) → Keeps (λ s r. r ≡ f s)
    by_function f s = law.exact StepResult (f s)

    run : (stage : HookStage) → Keeps (RunsStage setup stage)
    run stage s = law.image HookResult StepResult (Chains setup.network setup.rules (chains_in_stage stage) s.facts s.events)
        (RunsStage setup stage s) (λ (e : HookResult). unless_dropped e.verdict (after_chains e s)) (λ r x. (x.end, x.ran, x.is))
        (λ e x. record { end = e; ran = x; is = refl }) (chains (chains_in_stage stage) s.facts s.events)

    run_nat : (stage : HookStage) (info : CtInfo) (f : Facts) (es : List Event) → P HookResult (NatChains setup stage info f es)
    run_nat stage (New d) f es = chains (chains_in_stage stage) f es
    run_nat stage info f es = law.exact HookResult (record { verdict = Accepted; facts = f; events = es })

    destination : (mappings : List Mapping) → Keeps (DestinationNat setup mappings)
    destination mappings s = law.image HookResult StepResult (NatChains setup stages.PreroutingNat s.info s.facts s.events)
        (DestinationNat setup mappings s) (λ (e : HookResult). destination_nat_result e.verdict
        (after_destination_nat setup.network mappings e.facts s.info e.verdict) (after_chains e s)) (λ r x. (x.end, x.ran, x.is))
        (λ e x. record { end = e; ran = x; is = refl }) (run_nat stages.PreroutingNat s.info s.facts s.events)

    source : (mappings : List Mapping) → Keeps (SourceNat setup mappings)
    source mappings s = law.image HookResult StepResult (NatChains setup stages.PostroutingNat s.info s.facts s.events)
        (SourceNat setup mappings s) (λ (e : HookResult). source_nat_result e.verdict
        (after_source_nat setup.network mappings e.facts s.info e.verdict) (after_chains e s)) (λ r x. (x.end, x.ran, x.is))
        (λ e x. record { end = e; ran = x; is = refl }) (run_nat stages.PostroutingNat s.info s.facts s.events)

    beyond : (mappings : List Mapping) (output : Option Interface) → Keeps (InputOrForward setup mappings output)
    beyond mappings None = run stages.Input
    beyond mappings (Some i) = chain _ _ (run stages.Forward) (chain _ _ (run stages.PostroutingBeforeNat)
        (chain _ _ (source mappings) (run stages.PostroutingAfterNat)))

    hooks : (mappings : List Mapping) → Keeps (Hooks setup mappings)
    hooks mappings = chain _ _ (chain _ _ (run stages.PreroutingBeforeNat) (chain _ _ (destination mappings)
        (run stages.PreroutingAfterNat)))
        (chain _ _ (by_function (routed setup)) (λ s. beyond mappings s.facts.output s))

    confirm : (others : List ConntrackEntry) → Keeps (HooksAndConfirm setup others)
    confirm others = chain _ _ (hooks (mappings_in others)) (by_function (λ s. confirmed others s.info s))

    path : (live : List ConntrackEntry) (p : List ℕ) → Keeps (Path setup live p)
    path live p = chain _ _ (run stages.PreroutingRaw) (chain _ _
        (by_function (λ s. Continue (with_info (looked_up_info s.facts.ct live p) s)))
        (λ s. confirm (others_beside s.info live p) s))

    entry : (live : List ConntrackEntry) (now : ℕ) (a : Result ReceivedPacket Cause) → P Entry (EntryOf setup live now a)
    entry live now (Err cause) = law.exact Entry (entry_without_packet now cause)
    entry live now (Ok a) =
        let s = on_arrival a.packet (interface_facts setup.network a.interface) in
        law.image StepResult Entry (Path setup live a.packet s) (EntryOf setup live now (Ok a)) (entry_of_packet now live a.packet)
        (λ e x. x) (λ r x. (r, x, refl)) (path live a.packet s)

    pub next : (history : List Entry) (r : Recorded) → P Entry (Next setup history r)
    next history r =
        let live = live_at_record setup history r in
        let now = moment_after history r in
        law.image Entry Entry (EntryOf setup live now (carried setup r)) (Next setup history r) (λ e. e)
        (λ e x. (e, x.entry, refl)) (λ e x. record { entry = x }) (entry live now (carried setup r))
