use Rattle.stepping.proofs.Names.{Continue, CtInfo, Notrack, PathState, [], ap, err_from_is_err_and, flags_in, goes_on, looked_up_info, others_beside}
use Rattle.stepping.proofs.Names.{path_state, refl, stops, untranslated, ◌∙◌, ◌≡◌}
use Rattle.stepping.proofs.Processing.{confirmed_follows, dropped_follows}
use Rattle.stepping.proofs.Visits.{unvisited, visits_confirmed, visits_dropped}
use Rattle.stepping.specs.steps.Processing.{packet_slots}
use Rattle.stepping.proofs.process.process_packet.Goals as goal

pub returns-in_err-run-clause-path : goal.returns-in_err-run-clause-path
returns-in_err-run-clause-path g c =
    let q = err_from_is_err_and c.from_residual.result c.from_residual.ensures.1 in
    rw (q.1, q.2) (stops _ _ ((c.in_err-run.ensures.took []).step [] (λ m. refl)))

pub returns-in_err-run-clause-follows : goal.returns-in_err-run-clause-follows
returns-in_err-run-clause-follows g c =
    let q = err_from_is_err_and c.from_residual.result c.from_residual.ensures.1 in
    rw (q.1, q.2) (dropped_follows (record { 0 = 0 }) _ _ _ Notrack _ _ _
    ((c.in_err-run.ensures.took []).same ∙ ap untranslated c.requires.not_looked_up) refl)

pub returns-in_err-run_hooks-clause-path : goal.returns-in_err-run_hooks-clause-path
returns-in_err-run_hooks-clause-path g c =
    let q = err_from_is_err_and c.from_residual-in_err-run_hooks.result c.from_residual-in_err-run_hooks.ensures.1 in
    let look = c.look_up in
    let hooks = rw look.ensures.held at (c.in_err-run_hooks.ensures.took.step _ c.mappings.ensures) in
    rw (q.1, q.2) (goes_on _ _ ((c.in_ok-run.ensures.took []).step [] (λ m. refl)) (goes_on (path_state look.new.state c.run.new.events) _
    (ap Continue (look.ensures.step c.run.new.events)) (stops _ _ hooks)))

pub returns-in_err-run_hooks-clause-follows : goal.returns-in_err-run_hooks-clause-follows
returns-in_err-run_hooks-clause-follows g c =
    let q = err_from_is_err_and c.from_residual-in_err-run_hooks.result c.from_residual-in_err-run_hooks.ensures.1 in
    let look = c.look_up in
    let info = ap (λ (s : PathState). s.info) (look.ensures.step c.run.new.events) in
    rw (q.1, q.2) (dropped_follows (record { 0 = 0 }) _ _ _ c.run.new.state.facts.ct _ _ _
    (c.in_err-run_hooks.ensures.took.same ∙ ap untranslated info)
    (look.ensures.held ∙ ap (λ (i : CtInfo). others_beside i c.args.connections.now.held c.args.view.now.packet.now) info))

pub returns-clause-path : goal.returns-clause-path
returns-clause-path g c =
    let look = c.look_up in
    let hooks = rw look.ensures.held at (c.in_ok-run_hooks.ensures.took.step _ c.mappings.ensures) in
    let confirms = rw look.ensures.held at c.confirm.ensures.confirms in
    goes_on _ _ ((c.in_ok-run.ensures.took []).step [] (λ m. refl)) (goes_on (path_state look.new.state c.run.new.events) _
    (ap Continue (look.ensures.step c.run.new.events)) (goes_on _ _ hooks (confirms.step _)))

pub returns-clause-follows : goal.returns-clause-follows
returns-clause-follows g c =
    let look = c.look_up in
    let p = c.args.view.now.packet.now in
    let old = c.args.connections.now.held in
    let ct = c.run.new.state.facts.ct in
    let info : look.new.state.info ≡ looked_up_info ct old p =
    ap (λ (s : PathState). s.info) (look.ensures.step c.run.new.events) in
    let flags = c.flags_in-flags.ensures ∙ ap flags_in c.requires.transport in
    confirmed_follows c.run.new.state.entry p old c.args.now ct _ c.confirm.result (path_state c.run_hooks.new.state c.run_hooks.new.events)
    (c.in_ok-run_hooks.ensures.took.same ∙ ap untranslated info)
    (rw (flags, c.in_ok-run_hooks.ensures.took.entry, look.ensures.entry, look.ensures.held, info) at c.confirm.ensures.confirms)

pub returns-in_err-run-clause-steps : goal.returns-in_err-run-clause-steps
returns-in_err-run-clause-steps g c =
    unvisited g.T.Tracker.max_slots (packet_slots c.args.connections.now.held c.args.view.now.packet.now) c.args.steps.now

pub returns-in_err-run_hooks-clause-steps : goal.returns-in_err-run_hooks-clause-steps
returns-in_err-run_hooks-clause-steps g c =
    visits_dropped g.T.Tracker.max_slots c.args.connections.now.held c.args.view.now.packet.now _ _ c.look_up.ensures.steps

pub returns-clause-steps : goal.returns-clause-steps
returns-clause-steps g c =
    let look = c.look_up in
    let info = ap (λ (s : PathState). s.info) (look.ensures.step c.run.new.events) in
    visits_confirmed g.T.Tracker.max_slots c.args.connections.now.held c.args.view.now.packet.now c.run.new.state.facts.ct
    c.run_hooks.new.state.info _ _ _ (c.in_ok-run_hooks.ensures.took.same ∙ ap untranslated info) look.ensures.steps c.confirm.ensures.steps
