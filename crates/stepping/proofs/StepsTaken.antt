-- Steps with NAT among some mappings, one after another.
use Rattle.stepping.proofs.Names.{◌+◌, Cause, Err, EventsAndTicks, List, Mapping, Ok, Result, Spends, Step, TakesStep, arith, goes_on, path_state}
use Rattle.stepping.proofs.Names.{step_result, stops, ℕ, ◌∙◌, ◌≡◌, ◌⨾◌}
use Rattle.stepping.specs.declared.state.PacketState.{PacketState}

-- ---- what is spent

pub unspent : (x : EventsAndTicks) (a : ℕ) → Spends x x a
unspent x a = record { events = omega arith; no_fewer = omega arith; ticks = omega arith }

pub spent_both : {x y z : EventsAndTicks} (a b : ℕ) → Spends x y a → Spends y z b → Spends x z (a + b)
spent_both a b s t = grind arith

-- ---- steps

-- a step that translates nothing
pub of_step : {taken : List Mapping → Step} {mappings : List Mapping} {cost : ℕ} {old new : PacketState}
    {before after : EventsAndTicks} {answer : Result (Unit {0}) Cause}
    → ((held : List Mapping) → taken held (path_state old before) (step_result answer (path_state new after)))
    → new.info ≡ old.info → new.entry ≡ old.entry → Spends before after cost → TakesStep taken mappings cost old before new after answer
of_step ran info entry spent = grind arith

pub at_cost : {step : List Mapping → Step} {mappings : List Mapping} {a b : ℕ} {old new : PacketState}
    {before after : EventsAndTicks} {answer : Result (Unit {0}) Cause} → Spends before after b
    → TakesStep step mappings a old before new after answer → TakesStep step mappings b old before new after answer
at_cost spent t = record { step = t.step; fits = t.fits; same = t.same; entry = t.entry; spent = spent }

-- less than may be spent
pub beside : {step : List Mapping → Step} {mappings : List Mapping} {b : ℕ} {old new : PacketState}
    {before after : EventsAndTicks} {answer : Result (Unit {0}) Cause} (a : ℕ)
    → TakesStep step mappings b old before new after answer → TakesStep step mappings (a + b) old before new after answer
beside {b = b} a t = at_cost (spent_both a b (unspent _ a) t.spent) t

module _ {first second : List Mapping → Step} {mappings : List Mapping} {old new : PacketState}
    {before after : EventsAndTicks} where
  -- what the second one may spend is left over
  pub stopped : {a : ℕ} {cause : Cause} (b : ℕ) → TakesStep first mappings a old before new after (Err cause)
      → TakesStep (λ held. first held ⨾ second held) mappings (a + b) old before new after (Err cause)
  stopped {a = a} b t = record {
    step = λ held same. stops _ _ (t.step held same);
    fits = t.fits;
    same = t.same;
    entry = t.entry;
    spent = spent_both a b t.spent (unspent _ b);
  }

  pub went_on : {a b : ℕ} {mid : PacketState} {between : EventsAndTicks} {answer : Result (Unit {0}) Cause}
      → TakesStep first mappings a old before mid between (Ok tt) → TakesStep second mappings b mid between new after answer
      → TakesStep (λ held. first held ⨾ second held) mappings (a + b) old before new after answer
  went_on {a = a} {b = b} t u = record {
    step = λ held same. goes_on _ _ (t.step held same) (u.step held same);
    fits = λ held same fits. u.fits held same (t.fits held same fits);
    same = u.same ∙ t.same;
    entry = u.entry ∙ t.entry;
    spent = spent_both a b t.spent u.spent;
  }
