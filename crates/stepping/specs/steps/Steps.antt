-- Steps in the code's terms, and what they cost.
use Rattle.std.specs.Prelude.{◌≡◌, ℕ, ◌+◌, ◌≤◌, List, length, Result, Ok, Err}
use Rattle.ip_headers.specs.declared.tuple.Mapping.{Mapping}
use Rattle.nat_mapping.specs.HeldMappings.{HoldsSame}
use Rattle.filter_vm.specs.Machine.{EventsAndTicks}
use Rattle.hook_runs.specs.Stages.{CostedTree, StageCosts}
use Rattle.history.specs.declared.outcome.Cause.{Cause}
use Rattle.history.specs.Setup.{Setup}
use Rattle.translation.specs.CtInfos.{untranslated}
use Rattle.translation.specs.Fitting.{Fits}
use Rattle.stepping.specs.declared.state.PacketState.{PacketState}
use Rattle.stepping.specs.Paths.{PathState, StepResult, Continue, Drop, Step}
use Rattle.filter_vm.specs.declared.events.TheConstants.{MOST_EVENTS}

-- the configuration of compiled chains
abbrev pub setup_in : CostedTree → Setup
setup_in runs = record { rules = runs.rules; network = runs.network }

-- a packet with its events
abbrev pub path_state : PacketState → EventsAndTicks → PathState
path_state state ran = record { facts = state.facts; info = state.info; events = ran.events }

-- a step that answers this, and leaves the packet so
abbrev pub step_result : {A : Type 0} → Result A Cause → PathState → StepResult
step_result (Ok _) s = Continue s
step_result (Err cause) s = Drop cause s

-- ---- costs: the most events, and statements evaluated

-- room for this many more events is reserved
abbrev pub HasRoom : EventsAndTicks → ℕ → Type 0
HasRoom ran cost = length ran.events + cost ≤ MOST_EVENTS

-- at most this many events and statements
pub record Spends (before after : EventsAndTicks) (cost : ℕ) : Type 0 where
  pub events : length after.events ≤ length before.events + cost
  pub no_fewer : before.ticks ≤ after.ticks
  pub ticks : after.ticks ≤ before.ticks + cost

-- ---- steps with NAT

-- a packet took a step, whichever list it is that represents the mappings held: its state fits the list then
-- if it did before, it is of the same connection and entry, and at most so many events and statements came
pub record TakesStep (taken : List Mapping → Step) (mappings : List Mapping) (cost : ℕ)
    (old : PacketState) (before : EventsAndTicks) (new : PacketState) (after : EventsAndTicks)
    (answer : Result (Unit {0}) Cause) : Type 0 where
  pub step : (held : List Mapping) → HoldsSame held mappings
      → taken held (path_state old before) (step_result answer (path_state new after))
  pub fits : (held : List Mapping) → HoldsSame held mappings → Fits old.info held → Fits new.info held
  pub same : untranslated new.info ≡ untranslated old.info
  pub entry : new.entry ≡ old.entry
  pub spent : Spends before after cost

-- ---- costs of the hooks

abbrev pub prerouting_cost : StageCosts → ℕ
prerouting_cost costs = costs.prerouting_before_nat + (costs.prerouting_nat + costs.prerouting_after_nat)

abbrev pub after_routing_cost : StageCosts → ℕ
after_routing_cost costs =
    costs.input + (costs.forward
    + (costs.postrouting_before_nat + (costs.postrouting_nat + costs.postrouting_after_nat)))

-- after the look-up
abbrev pub hooks_cost : StageCosts → ℕ
hooks_cost costs = prerouting_cost costs + after_routing_cost costs
