use Rattle.std.proofs.Common.{◌∙◌, arith, length, ◌-◌}
use Rattle.std.proofs.lemmas.Bool.{and_parts, and_from, leb-true, le-leb}
use Rattle.connection_table.proofs.Taken.{released_with_removed}
use Rattle.connection_table.proofs.Visits.{one_more_age}
use Rattle.connection_table.proofs.table.ConnectionTable.age_all.Goals as goal

pub release-requires : goal.release-requires
release-requires g c =
    let held = g.T.Tracker.held c.loop-aged.self-inside.tracker in
    let mappings = c.loop-aged.self-inside.mappings.held in
    let aged = c.in-Some.aged in
    let of = c.in-Some.ensures in
    let mapped = c.loop-aged.invariant.mapped in
    record { held = (_, released_with_removed aged.id held aged mappings of.distinct of.some.0 mapped) }

pub loop-aged-preserved : goal.loop-aged-preserved
loop-aged-preserved g c =
    let held = g.T.Tracker.held c.loop-aged.self-inside.tracker in
    let mappings = c.loop-aged.self-inside.mappings.held in
    let aged = c.in-Some.aged in
    let of = c.in-Some.ensures in
    let before = released_with_removed aged.id held aged mappings of.distinct of.some.0 c.loop-aged.invariant.mapped in
    let first = length c.args.self.now.held in
    record {
      same = c.age.ensures.limits ∙ c.loop-aged.invariant.same;
      live = (rw c.loop-aged.invariant.same at c.in-Some.ensures.some).2 ∙ c.loop-aged.invariant.live;
      later = rw c.in-Some.ensures.some.1 (c.none_later.ensures.ended _ _ _ c.loop-aged.invariant.later);
      mapped = λ m. rw c.in-Some.ensures.some.1 (c.release.ensures.held _ before m);
      room = λ r.
          let parts = and_parts _ _ (c.loop-aged.invariant.room r) in
          let two = leb-true 2 _ parts.1 in
          and_from _ _ (c.age.ensures.room parts.0) (le-leb 2 _ (omega (arith, two, c.release.ensures.room)));
      fewer = omega (arith, of.fewer, c.loop-aged.invariant.fewer);
      steps = one_more_age g.T.Tracker.max_slots (first - length held) (first - length (g.T.Tracker.held c.age.new.self)) _ _ _
          (omega (arith, of.fewer, c.loop-aged.invariant.fewer)) c.loop-aged.invariant.steps of.steps;
    }
