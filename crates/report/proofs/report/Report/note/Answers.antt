use Rattle.report.proofs.Imports.{arith}
use Rattle.report.proofs.OneMore.{bounded_more, raised, raised_most, reports_more}
use Rattle.report.proofs.report.Report.note.Goals as goal

pub invariant_of-self-in-Passed : goal.invariant_of-self-in-Passed
invariant_of-self-in-Passed c = bounded_more c.args.entry.now c.self.invariant c.count_events.ensures c.from.ensures
    (omega arith) (omega arith) (omega arith) (omega arith) (λ j. omega arith)

pub invariant_of-self-in-Local : goal.invariant_of-self-in-Local
invariant_of-self-in-Local c = bounded_more c.args.entry.now c.self.invariant c.count_events.ensures c.from.ensures
    (omega arith) (omega arith) (omega arith) (omega arith) (λ j. omega arith)

pub invariant_of-self-in-Dropped : goal.invariant_of-self-in-Dropped
invariant_of-self-in-Dropped c = bounded_more c.args.entry.now c.self.invariant c.count_events.ensures c.from.ensures
    (omega arith) (omega arith) (omega arith) (omega arith)
    (λ j. raised_most _ _ j (omega (arith, c.report_index.ensures.within, c.self.told)))

pub returns-in-Passed-clause-noted : goal.returns-in-Passed-clause-noted
returns-in-Passed-clause-noted c = λ rules trace history written e r is.
    reports_more c.args.entry.now c.self.view_is r is c.self.invariant.tallies_fit c.requires.few (omega arith) (omega arith) c.from.ensures
    c.count_events.ensures (cc) (rw c.in-Passed.is (omega arith)) (rw c.in-Passed.is (omega arith)) (λ cause. rw c.in-Passed.is (omega arith))

pub returns-in-Local-clause-noted : goal.returns-in-Local-clause-noted
returns-in-Local-clause-noted c = λ rules trace history written e r is.
    reports_more c.args.entry.now c.self.view_is r is c.self.invariant.tallies_fit c.requires.few (omega arith) (omega arith) c.from.ensures
    c.count_events.ensures (cc) (rw c.in-Local.is (omega arith)) (rw c.in-Local.is (omega arith)) (λ cause. rw c.in-Local.is (omega arith))

pub returns-in-Dropped-clause-noted : goal.returns-in-Dropped-clause-noted
returns-in-Dropped-clause-noted c = λ rules trace history written e r is.
    reports_more c.args.entry.now c.self.view_is r is c.self.invariant.tallies_fit c.requires.few (omega arith) (omega arith) c.from.ensures
    c.count_events.ensures (cc) (rw c.in-Dropped.is (omega arith)) (rw c.in-Dropped.is (omega arith))
    (λ cause. rw (c.in-Dropped.is, ← c.report_index.ensures.report_index)
    (raised _ _ _ (omega (arith, c.report_index.ensures.within, c.self.told))))
