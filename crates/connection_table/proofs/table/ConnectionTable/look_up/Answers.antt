use Rattle.connection_table.proofs.Untranslated.{untranslated_fits}
use Rattle.connection_table.proofs.Taken.{released_with_removed}
use Rattle.connection_table.proofs.table.ConnectionTable.look_up.Goals as goal
use Rattle.connection_table.proofs.table.ConnectionTable.look_up.Goals.{in-Ends, in_default}

pub release-requires : goal.release-requires
release-requires g c =
    let held = g.T.Tracker.held c.self.inside.tracker in
    let mappings = c.self.inside.mappings.held in
    let distinct = c.look-belonging.ensures.distinct in
    let ended = c.end-ended.result in
    let taken = c.end-ended.ensures.aged in
    record { held = (_, released_with_removed c.in-Ends.id held ended mappings distinct taken c.self.invariant) }

pub invariant_of-self : goal.invariant_of-self
invariant_of-self g c m =
    let held = g.T.Tracker.held c.self.inside.tracker in
    let mappings = c.self.inside.mappings.held in
    let distinct = c.look-belonging.ensures.distinct in
    elim c.match-belonging.branch [
      | in-Ends w ↦
          let taken = w.end-ended.ensures.aged in
          let ended = w.end-ended.result in
          let before = released_with_removed w.in-Ends.id held ended mappings distinct taken c.self.invariant in
          rw (w.self-inside-is, w.end-ended.ensures.held) (w.release.ensures.held _ before m)
      | in_default w ↦ rw w.self-inside-is (c.self.invariant m)
    ]

pub returns-clause-fits : goal.returns-clause-fits
returns-clause-fits g c =
    untranslated_fits c.args.tuple c.match-belonging.belonging _ (c.one_to_one.ensures _ (invariant_of-self g c))
