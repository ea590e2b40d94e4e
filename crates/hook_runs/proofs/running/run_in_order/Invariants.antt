use Rattle.std.proofs.Common.{◌≡◌, ◌+◌, ◌-◌, ◌≤◌, ◌<◌, ◌^◌, length, drop, min}
use Rattle.hook_runs.specs.StageCode.{started}
use Rattle.hook_runs.specs.steps.Starts.{cost_of, in_order_result}
use Rattle.hook_runs.proofs.running.run_in_order.Given as goal

-- the rest has the result of the whole, and what is spent leaves enough for the rest
abbrev pub invariant-loop-start : goal.invariant-loop-start
invariant-loop-start l = record {
  same : in_order_result l.code (drop l.start-index l.starts) l.facts l.events.events
      ≡ in_order_result l.code l.starts l.fn.facts l.fn.events.events;
  bounded : length l.events.events + cost_of (drop l.start-index l.starts)
      ≤ length l.fn.events.events + cost_of l.starts;
  rise : l.fn.events.ticks ≤ l.events.ticks;
  bound : l.events.ticks < 2 ^ 64;
  ticks : l.events.ticks + cost_of (drop l.start-index l.starts) ≤ l.fn.events.ticks + cost_of l.starts;
  counted : min (l.events.ticks + started l.code (drop l.start-index l.starts) l.facts l.events.events)
      (2 ^ 64 - 1) ≡ min (l.fn.events.ticks + started l.code l.starts l.fn.facts l.fn.events.events) (2 ^ 64 - 1);
  few : started l.code l.starts l.fn.facts l.fn.events.events + cost_of (drop l.start-index l.starts)
      ≤ started l.code (drop l.start-index l.starts) l.facts l.events.events + cost_of l.starts;
}
