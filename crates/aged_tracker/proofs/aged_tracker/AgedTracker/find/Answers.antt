use Rattle.aged_tracker.proofs.Names.{Belonging, None, NotFound, Option, ap, sym, ◌∙◌}
use Rattle.aged_tracker.proofs.Index.{belongs_at, belongs_by, belongs_indexed, unfound}
use Rattle.std.specs.Prelude.{unwrap_or}
use Rattle.aged_tracker.proofs.aged_tracker.AgedTracker.find.Goals as goal

pub returns-in-Some-clause-belonging : goal.returns-in-Some-clause-belonging
returns-in-Some-clause-belonging c =
    let t = c.self.inside in
    rw (← c.self.view_is) (belongs_at t.slots c.self.invariant.table _ _ c.self.invariant.indexed t.limits c.args.now c.args.tuple c.args.flags t.likely _
    (sym c.belonging-guessed.ensures.belonging ∙ c.in-Some.is))

pub returns-in-None-clause-belonging : goal.returns-in-None-clause-belonging
returns-in-None-clause-belonging c = rw (← c.self.view_is)
    (belongs_by c.self.inside.limits c.args.now c.args.tuple c.args.flags _ c.self.invariant.indexed.apart None
    (unfound _ _ _ c.self.invariant.indexed c.args.tuple (sym c.get.ensures.slot ∙ c.in-None.is)))

pub returns-in-Some-get-clause-belonging : goal.returns-in-Some-get-clause-belonging
returns-in-Some-get-clause-belonging c =
    let t = c.self.inside in
    rw (← c.self.view_is) (c.unwrap_or.ensures ∙ ap (λ (o : Option Belonging). unwrap_or o NotFound) (c.belonging.ensures.belonging
    ∙ belongs_indexed t.slots c.self.invariant.table _ _ c.self.invariant.indexed t.limits c.args.now c.args.tuple c.args.flags c.in-Some-get.key
    (sym c.get.ensures.slot ∙ c.in-Some-get.is)))
