use Rattle.engine.proofs.Names.{Ok, ap, refl}
use Rattle.engine.proofs.Reruns.{stands_next}
use Rattle.engine.proofs.rerun.Rerun.next.Goals as goal

pub returns-clause-stands : goal.returns-clause-stands
returns-clause-stands g c = λ is. rw (← c.self.view_is)
    (stands_next (record c.self.inside.replay { records = c.next.new.self }) c.take.new.self _ _ c.live.result c.records.result
    (c.in_ok-take.ensures.stepped (ap Ok c.if-not-branch-2.false)) c.take.ensures.setup refl refl
    c.take.ensures.same c.live.ensures c.records.ensures c.note.ensures)
