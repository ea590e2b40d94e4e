-- The steps of a packet's path. Each continues, or drops the packet for a cause. Their order is netfilter's
-- (nft(8), ADDRESS FAMILIES and CHAINS).
use Rattle.std.specs.Prelude.{◌≡◌, ℕ, ◌-◌, nat_lt, if◌then◌else◌, List, [], Option, Some, None}
use Rattle.box_file.specs.Box.{is_own, route}
use Rattle.ip_headers.specs.declared.tuple.Mapping.{Mapping}
use Rattle.rule_meaning.specs.declared.facts.Facts.{Facts}
use Rattle.rule_meaning.specs.declared.facts.Interface.{Interface}
use Rattle.rule_meaning.specs.declared.facts.CtFacts.TheVariants.{NotLookedUp}
use Rattle.rule_meaning.specs.declared.event.Event.{Event}
use Rattle.rule_meaning.specs.declared.event.HookVerdict.{HookVerdict}
use Rattle.rule_meaning.specs.declared.event.HookVerdict.TheVariants.{Dropped}
use Rattle.rule_meaning.specs.Hooks.{HookResult, NoChain, Stage, Traversal}
use Rattle.rule_meaning.specs.declared.stage.HookStage.{HookStage}
use Rattle.rule_meaning.specs.declared.stage.HookStage.TheVariants as stages
use Rattle.history.specs.declared.outcome.Cause.{Cause}
use Rattle.history.specs.declared.outcome.Cause.TheVariants as causes
use Rattle.history.specs.Setup.{Setup}
use Rattle.translation.specs.declared.ct_info.CtInfo.{CtInfo}
use Rattle.translation.specs.declared.ct_info.CtInfo.TheVariants.{New, Untracked}
use Rattle.translation.specs.CtInfos.{facts_after_destination_nat, facts_after_source_nat}
use Rattle.translation.specs.Nat.{after_destination_nat, after_source_nat}
use Rattle.stepping.specs.Carried.{interface_facts, packet_facts}

-- ---- steps

-- a packet on its path: what rules read of it, its state in connection tracking, and its events
pub record PathState : Type 0 where
  pub facts : Facts
  pub info : CtInfo
  pub events : List Event

-- what a step makes of it
pub data StepResult : Type 0 where
  Continue : PathState → StepResult
  Drop : Cause → PathState → StepResult

abbrev pub Step : Type 1
Step = PathState → StepResult → Type 0

-- the second step follows where the first one continues
pub data ◌⨾◌ (first second : Step) (s : PathState) : StepResult → Type 0 where
  stops : (cause : Cause) (t : PathState) → first s (Drop cause t) → (◌⨾◌ first second) s (Drop cause t)
  goes_on : (t : PathState) (r : StepResult) → first s (Continue t) → second t r
      → (◌⨾◌ first second) s r

infixr 5 ◌⨾◌
-- on arrival: not routed, not looked up, so not tracked, mark 0, and without events
abbrev pub on_arrival : List ℕ → Interface → PathState
on_arrival p input = record {
  facts = record { packet = packet_facts p; input = input; output = None; mark = 0; ct = NotLookedUp };
  info = Untracked;
  events = [];
}

-- ---- chains

-- the facts and the events after chains
abbrev pub after_chains : HookResult → PathState → PathState
after_chains end s = record s { facts = end.facts; events = end.events }

-- a rule or a policy drops the packet
abbrev pub unless_dropped : HookVerdict → PathState → StepResult
unless_dropped Dropped s = Drop causes.Rule s
unless_dropped _ s = Continue s

-- the base chains of a stage
pub record RunsStage (setup : Setup) (stage : HookStage) (s : PathState) (r : StepResult) : Type 0 where
  pub end : HookResult
  pub ran : Stage stage setup.network setup.rules s.facts s.events end
  pub is : r ≡ unless_dropped end.verdict (after_chains end s)

-- ---- NAT, among these live mappings

-- only the first packet of a connection sees chains of type nat (nft(8), CHAINS)
abbrev pub NatChains : Setup → HookStage → CtInfo → Traversal
NatChains setup stage (New new_connection) = Stage stage setup.network setup.rules
NatChains setup stage _ = NoChain

abbrev pub destination_nat_result : HookVerdict → CtInfo → PathState → StepResult
destination_nat_result Dropped info s = Drop causes.Rule s
destination_nat_result _ info s =
    Continue (record s { facts = facts_after_destination_nat info s.facts; info = info })

pub record DestinationNat (setup : Setup) (mappings : List Mapping) (s : PathState) (r : StepResult)
    : Type 0 where
  pub end : HookResult
  pub ran : NatChains setup stages.PreroutingNat s.info s.facts s.events end
  pub is : r ≡ destination_nat_result end.verdict
      (after_destination_nat setup.network mappings end.facts s.info end.verdict) (after_chains end s)

-- the packet is dropped where no port is free
abbrev pub source_nat_result : HookVerdict → Option CtInfo → PathState → StepResult
source_nat_result Dropped info s = Drop causes.Rule s
source_nat_result _ None s = Drop causes.NoPort s
source_nat_result _ (Some info) s =
    Continue (record s { facts = facts_after_source_nat info s.facts; info = info })

pub record SourceNat (setup : Setup) (mappings : List Mapping) (s : PathState) (r : StepResult)
    : Type 0 where
  pub end : HookResult
  pub ran : NatChains setup stages.PostroutingNat s.info s.facts s.events end
  pub is : r ≡ source_nat_result end.verdict
      (after_source_nat setup.network mappings end.facts s.info end.verdict) (after_chains end s)

-- ---- routing

-- by a route, with a TTL above 1, which is decremented (RFC 1812, section 5.3.1)
abbrev pub forwarded_by : Setup → Option ℕ → PathState → StepResult
forwarded_by setup None s = Drop causes.Route s
forwarded_by setup (Some interface) s = if nat_lt s.facts.packet.ttl 2 then Drop causes.Ttl s
    else Continue (record s {
      facts = record s.facts {
        output = Some (interface_facts setup.network interface);
        packet = record s.facts.packet { ttl = s.facts.packet.ttl - 1 };
      };
    })

-- a packet to an address of the box gets no output interface; the others are forwarded
abbrev pub routed : Setup → PathState → StepResult
routed setup s = if is_own setup.network s.facts.packet.destination then Continue s
    else forwarded_by setup (route setup.network s.facts.packet.destination) s

abbrev pub Routing : Setup → Step
Routing setup s r = r ≡ routed setup s

-- ---- the hooks after the look-up

abbrev pub Prerouting : Setup → List Mapping → Step
Prerouting setup mappings = RunsStage setup stages.PreroutingBeforeNat
    ⨾ DestinationNat setup mappings
    ⨾ RunsStage setup stages.PreroutingAfterNat

abbrev pub ForwardAndPostrouting : Setup → List Mapping → Step
ForwardAndPostrouting setup mappings = RunsStage setup stages.Forward
    ⨾ RunsStage setup stages.PostroutingBeforeNat
    ⨾ SourceNat setup mappings
    ⨾ RunsStage setup stages.PostroutingAfterNat

-- a packet without an output interface is delivered locally
abbrev pub InputOrForward : Setup → List Mapping → Option Interface → Step
InputOrForward setup mappings None = RunsStage setup stages.Input
InputOrForward setup mappings (Some output) = ForwardAndPostrouting setup mappings

abbrev pub AfterRouting : Setup → List Mapping → Step
AfterRouting setup mappings s r = InputOrForward setup mappings s.facts.output s r

abbrev pub Hooks : Setup → List Mapping → Step
Hooks setup mappings = Prerouting setup mappings ⨾ Routing setup ⨾ AfterRouting setup mappings
