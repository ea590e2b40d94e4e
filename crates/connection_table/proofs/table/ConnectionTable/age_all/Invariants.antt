use Rattle.std.proofs.Common.{◌≡◌, ◌&&◌, ◌≤◌, ◌-◌, ◌*◌, length}
use Rattle.std.specs.Prelude.{IsTrue, nat_le, option_map}
use Rattle.conntrack.specs.TableEntries.{IsNoneLater, IsWithin, live_at}
use Rattle.nat_mapping.specs.HeldMappings.{HoldsSame}
use Rattle.translation.specs.LiveMappings.{mappings_in}
use Rattle.connection_table.proofs.table.ConnectionTable.age_all.Given as goal

-- the live entries stay, and their mappings alone are held; each removed one was worth an `age`
abbrev pub invariant-loop-aged : goal.invariant-loop-aged
invariant-loop-aged g l =
    let held = g.T.Tracker.held l.self-inside.tracker in
    let idle = l.fn.self.limits in
    record {
      same : g.T.Tracker.limits l.self-inside.tracker ≡ idle;
      live : live_at idle l.now held ≡ live_at idle l.now l.fn.self.held;
      later : IsNoneLater l.now held;
      mapped : HoldsSame (mappings_in held) l.self-inside.mappings.held;
      room : IsTrue l.fn.self.has_room
          → IsTrue (g.T.Tracker.has_room l.self-inside.tracker && nat_le 2 l.self-inside.mappings.room);
      fewer : length held ≤ length l.fn.self.held;
      steps : IsWithin (option_map (λ most. (length l.fn.self.held - length held) * most.age) g.T.Tracker.max_slots)
          l.fn.steps l.steps;
    }

abbrev pub decreases-loop-aged : goal.decreases-loop-aged
decreases-loop-aged g l = length (g.T.Tracker.held l.self-inside.tracker)
