use Rattle.stepping.proofs.Names.{Bool, EngineState, EventsAndTicks, HasProcessed, IsTrue, Limits, Setup, ap, arith, carried}
use Rattle.stepping.proofs.Names.{false, length, limits_of, live_at, live_in, map, max, moment_of, recorded_of, refl, subst, sym, without_id, ℕ}
use Rattle.stepping.proofs.Names.{◌+◌, ◌∙◌, ◌∷◌, ◌≡◌, ◌≤◌}
use Rattle.std.proofs.Common.{not, suc, ◌<◌}
use Rattle.stepping.proofs.Extending.{latest_is, none_later-aged, none_later-processed}
use Rattle.stepping.proofs.engine.Engine.process.Goals as goal

not_less : (a b now : ℕ) → now ≡ max a b → a ≤ now
not_less a b now is = omega arith

both_below : (a b now most : ℕ) → now ≡ max a b → a < most → b < most → now < most
both_below a b now most is one two = omega arith

few_after : {before cost after most : ℕ} → after ≤ before + cost → before ≡ 0 → cost ≤ most → after ≤ most
few_after spent none few = omega arith

one_more : {a b : ℕ} → a ≡ b → a + 1 ≡ suc b
one_more is = omega arith

kept_room : {begun : Bool} → IsTrue (not begun) → begun ≡ false
kept_room ready = grind arith

pub overflow_add-self : goal.overflow_add-self
overflow_add-self g c =
    let records = ap (λ (s : EngineState). s.records) c.self.view_is in omega (arith, records, c.requires.few)

pub returns-clause-lasts : goal.returns-clause-lasts
returns-clause-lasts g c = λ is. rw is refl

pub process_record-ended-requires-clause-later : goal.process_record-ended-requires-clause-later
process_record-ended-requires-clause-later g c =
    none_later-aged c.none_later.ensures.later c.self.inside.connections.limits c.self.inside.latest c.max-now.result
    c.self.inside.connections.held _ c.age_all.ensures.held (not_less c.self.inside.latest c.args.record.now.moment c.max-now.result c.max-now.ensures)
    c.self.invariant.later

pub invariant_of-self : goal.invariant_of-self
invariant_of-self g c =
    let now = c.max-now.result in
    let inside = c.self.inside in
    let ended = c.process_record-ended in
    let later : inside.latest ≤ now = not_less c.self.inside.latest c.args.record.now.moment c.max-now.result c.max-now.ensures in
    let aged = none_later-aged c.none_later.ensures.later inside.connections.limits inside.latest now
    inside.connections.held _ c.age_all.ensures.held later c.self.invariant.later in
    record {
      limited = ended.ensures.limits ∙ c.age_all.ensures.limits ∙ c.self.invariant.limited;
      first = tt;
      early = both_below inside.latest c.args.record.now.moment now _ c.max-now.ensures c.self.invariant.early c.args.record.now.early;
      few = few_after ended.ensures.spent.events (ap (λ (t : EventsAndTicks). length t.events) c.clear-2.ensures) inside.setup.few;
      later = none_later-processed c.none_later.ensures.packet _ _ now _ _ _ _ _ ended.ensures.processed aged;
      room = λ ready. ended.ensures.room (kept_room ready);
    }

pub returns-clause-represents : goal.returns-clause-represents
returns-clause-represents g c = λ history represents.
    let inside = c.self.inside in
    let ended = c.process_record-ended in
    let now = c.max-now.result in
    let old = c.args.self.now in
    let r = recorded_of c.args.record.now in
    let same = c.self.view_is in
    let setup = ap (λ (s : EngineState). s.setup) same in
    let latest = latest_is inside.ended inside.latest inside.events inside.packet inside.connections.held history
    c.self.invariant.first (ap (λ (s : EngineState). s.newest) same ∙ represents.newest) in
    let rises : moment_of history ≤ now =
    subst (λ (n : ℕ). n ≤ now) latest (not_less c.self.inside.latest c.args.record.now.moment c.max-now.result c.max-now.ensures) in
    let aged = c.age_all.ensures.held ∙ ap (λ (l : Limits). live_at l now inside.connections.held)
    (c.self.invariant.limited ∙ ap limits_of setup) ∙ ap (live_at (limits_of old.setup) now) (ap (λ (s : EngineState). s.held) same) in
    let x = c.extends_history.ensures.extended old.setup history r now c.age_all.new.self.held ended.new.connections.held
    ended.result ended.new.events ended.new.packet (c.max-now.ensures ∙ ap (λ (n : ℕ). max n r.moment) latest)
    (ap (map without_id) aged ∙ c.extends_history.ensures.aged old.setup history old.held now represents.held rises)
    c.age_all.ensures.distinct (subst (λ (s : Setup). HasProcessed s (carried s r) now c.age_all.new.self.held
    ended.new.connections.held ended.result ended.new.events.events ended.new.packet) setup ended.ensures.processed) in
    let counted = ap (λ (s : EngineState). s.records) same ∙ represents.records in (
      x.e,
      x.next,
      record {
        records = one_more counted;
        newest = x.shown;
        held = x.held ∙ sym (ap (λ (s : Setup). map without_id (live_in s (x.e ∷ history))) setup);
      },
    )
