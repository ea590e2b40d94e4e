use Rattle.aged_tracker.proofs.Names.{Aged, ConnId, Some, rules, aged_of, ap, arith, find, held_by, is_live, length-without, live_at, option_map, removed_entry}
use Rattle.aged_tracker.proofs.Names.{same_Some, same_id, slots_of, sym, ◌∙◌, ◌≡◌}
use Rattle.aged_tracker.proofs.Index.{filter_without, found_at, has_as, live_all, once_by_id}
use Rattle.aged_tracker.proofs.Lists.{named_at, some_of}
use Rattle.aged_tracker.proofs.aged_tracker.AgedTrackerTracker.age.Goals as goal

pub end-requires : goal.end-requires
end-requires c = grind (arith, c.self.view_is, has_as, c.self.invariant.table, c.in-Err.id, c.in-Err.ensures.expired.1)

pub returns-then-now-self-clause-none : goal.returns-then-now-self-clause-none
returns-then-now-self-clause-none c =
    let live = live_all c.self.inside.slots c.self.invariant.table c.self.inside.limits c.args.now (c.self.invariant.lasting c.args.now (search rules)) in
    grind (arith, c.self.view_is, live)

pub returns-in-Ok-clause-none : goal.returns-in-Ok-clause-none
returns-in-Ok-clause-none c =
    let live = live_all c.self.inside.slots c.self.invariant.table c.self.inside.limits c.args.now
    (c.in-Ok.ensures.live.2 c.args.now c.in-Ok.ensures.live.0) in
    grind (arith, c.self.view_is, live)

pub returns-in-Ok-clause-distinct : goal.returns-in-Ok-clause-distinct
returns-in-Ok-clause-distinct c = rw (← c.self.view_is) c.self.invariant.indexed.distinct

pub returns-in-Err-clause-distinct : goal.returns-in-Err-clause-distinct
returns-in-Err-clause-distinct c = rw (← c.self.view_is) c.self.invariant.indexed.distinct

pub returns-in-Err-clause-some : goal.returns-in-Err-clause-some
returns-in-Err-clause-some c =
    let t = c.self.inside.slots in
    let at = some_of (slots_of t c.in-Err.id.0) c.in-Err.ensures.expired.1 in
    let found : find (same_id c.in-Err.id) (held_by t) ≡ Some at.0 = found_at t c.self.invariant.table c.in-Err.id ∙ at.1 in
    let taken : removed_entry c.in-Err.id c.args.self.now.held ≡ Some (aged_of at.0) = rw (← c.self.view_is) (ap (option_map aged_of) found) in
    let name : c.end.result.id ≡ c.in-Err.id = ap (λ (a : Aged). a.id) (same_Some c.end.result (aged_of at.0) (sym c.end.ensures.aged ∙ taken))
    ∙ ap (λ n. record { 0 = n }) (named_at t.slots c.in-Err.id.0 at.0 at.1) in
    rw name (
      c.end.ensures.aged ∙ ap (λ (i : ConnId). Some (record c.end.result { id = i })) name,
      c.end.ensures.held,
      ap (live_at c.args.self.now.limits c.args.now) c.end.ensures.held
          ∙ rw (← c.self.view_is) (filter_without c.in-Err.id at.0 (is_live c.self.inside.limits c.args.now) (held_by t)
          (once_by_id c.in-Err.id (held_by t) c.self.invariant.indexed.distinct) found (rw at.1 at c.in-Err.ensures.expired.0)),
    )

pub returns-in-Err-clause-fewer : goal.returns-in-Err-clause-fewer
returns-in-Err-clause-fewer c = rw c.end.ensures.held (length-without c.in-Err.id c.args.self.now.held
    (rw (← c.self.view_is) (has_as c.self.inside.slots c.self.invariant.table c.in-Err.id ∙ c.in-Err.ensures.expired.1)))

pub invariant_of-self : goal.invariant_of-self
invariant_of-self c = record { table = c.self.invariant.table; indexed = c.self.invariant.indexed; lasting = c.in-Ok.ensures.live.2; soon = c.in-Ok.ensures.live.1 }
