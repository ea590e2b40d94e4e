use Rattle.stepping.proofs.Names.{[], Belonging, CtInfo, None, Some, ap, arith, belonging_of, error_belonging, inner_tuple_of, path_state, refl, subst, sym}
use Rattle.stepping.proofs.Names.{with_info, ◌∙◌, ◌≡◌}
use Rattle.std.specs.Prelude.{option_map}
use Rattle.conntrack.specs.TableEntries.{IsWithin}
use Rattle.connection_table.specs.Table.{look_up_slots}
use Rattle.stepping.proofs.Processing.{error_kept, found, still_open}
use Rattle.stepping.proofs.Visits.{unvisited}
use Rattle.stepping.proofs.lookup.look_up.Goals as goal

pub returns-in-Notrack : goal.returns-in-Notrack
returns-in-Notrack g c =
    let is = c.set_info.ensures in
    record {
      step = λ events. rw c.in-Notrack.is (is.state events);
      entry = rw (is.info, is.entry) refl;
      held = rw is.info refl;
      limits = refl;
      later = c.requires.later;
      room = c.requires.room;
      confirmable = rw is.info tt;
      fits = rw is.info tt;
      steps = unvisited g.T.Tracker.max_slots (look_up_slots (belonging_of c.args.connections.now.held c.args.view.now.packet.now))
          c.args.steps.now;
    }

pub returns-in_default-tuple : goal.returns-in_default-tuple
returns-in_default-tuple g c =
    let set = c.set_info-in_default-tuple in
    let none = sym c.tuple.ensures ∙ c.in_default-tuple.is in
    let b = error_belonging c.args.connections.now.held (inner_tuple_of c.args.view.now.packet.now) in
    let is = set.ensures.info ∙ c.error_ct_info.ensures.info in
    let known = found c.args.state.now.entry c.args.view.now.packet.now c.args.connections.now.held c.args.state.now.facts.ct set.new.self.info None
    c.in_default.not-Notrack none is in
    record {
      step = λ events. set.ensures.state events ∙ ap (λ (i : CtInfo). with_info i (path_state c.args.state.now events))
          (sym set.ensures.info ∙ known.0);
      entry = set.ensures.entry ∙ known.1;
      held = known.2;
      limits = refl;
      later = c.requires.later;
      room = c.requires.room;
      confirmable = rw is (error_kept _ b _ []).1;
      fits = rw is (error_kept c.args.state.now.entry b [] _).2;
      steps = rw none c.error_ct_info.ensures.steps;
    }

pub returns : goal.returns
returns g c =
    let look = c.look_up-belonging in
    let set = c.set_belonging in
    let some = sym c.tuple.ensures ∙ c.in-Some.is in
    let flags = c.requires.flags in
    let is = set.ensures.info in
    let belonging : look.result ≡ belonging_of c.args.connections.now.held c.args.view.now.packet.now =
    grind (arith, some, flags, look.ensures.belonging) in
    let known = found c.args.state.now.entry c.args.view.now.packet.now c.args.connections.now.held c.args.state.now.facts.ct set.new.self.info
    (Some c.in-Some.tuple) c.in_default.not-Notrack some (grind (arith, is, some, flags, look.ensures.belonging)) in
    record {
      step = λ events. set.ensures.state events ∙ ap (λ (i : CtInfo). with_info i (path_state c.args.state.now events))
          (sym set.ensures.info ∙ known.0);
      entry = grind (arith, set.ensures.entry, look.ensures.belonging, flags, known);
      held = grind (arith, look.ensures.held, flags, known);
      limits = look.ensures.limits;
      later = look.ensures.later;
      room = look.ensures.room c.requires.room;
      confirmable = rw (set.ensures.entry, is) (still_open c.in-Some.tuple look.result look.new.self.held _ look.ensures.confirmable);
      fits = rw is look.ensures.fits;
      steps = subst (λ (b : Belonging). IsWithin (option_map (look_up_slots b) g.T.Tracker.max_slots) c.args.steps.now look.new.steps)
          belonging look.ensures.steps;
    }
