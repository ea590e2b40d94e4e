use Rattle.std.proofs.Common.{Some, ap, length, refl, slice_get, subst, sym, ◌<◌, ◌≡◌, ◌∙◌}
use Rattle.std.proofs.Math.ListN.{set}
use Rattle.std.specs.Option.{option_map}
use Rattle.packet_sets.specs.Sets.{IsSet}
use Rattle.chain_sets.proofs.Cases.{adds_one, adds_to, are-at, found-at}
use Rattle.chain_sets.proofs.Packets.{packets-more, packets-to}
use Rattle.chain_sets.proofs.merging.add_case.Goals as goal

pub or-requires-clause-left : goal.or-requires-clause-left
or-requires-clause-left g c =
    let found = found-at c.args.cases.now.items c.in-Some.place c.args.case.outcome
    (subst (λ l. option_map (λ x. x.outcome) (slice_get l c.in-Some.place) ≡ Some c.args.case.outcome) c.deref.ensures.value c.in-Some.ensures) in
    subst (λ x. IsSet c.args.diagrams.now x.set) (sym c.index.ensures)
    (are-at c.args.diagrams.now c.args.cases.now.items c.in-Some.place c.index.result.now c.requires.cases found.0)

pub index_mut-requires : goal.index_mut-requires
index_mut-requires g c =
    let found = found-at c.args.cases.now.items c.in-Some.place c.args.case.outcome
    (subst (λ l. option_map (λ x. x.outcome) (slice_get l c.in-Some.place) ≡ Some c.args.case.outcome) c.deref.ensures.value c.in-Some.ensures) in
    subst (λ n. c.in-Some.place < n) (sym (ap length c.deref.ensures.value) ∙ c.deref.ensures.len) found.0

pub returns-in_ok-set-in-Some-clause-adds : goal.returns-in_ok-set-in-Some-clause-adds
returns-in_ok-set-in-Some-clause-adds g c =
    let found = found-at c.args.cases.now.items c.in-Some.place c.args.case.outcome
    (subst (λ l. option_map (λ x. x.outcome) (slice_get l c.in-Some.place) ≡ Some c.args.case.outcome) c.deref.ensures.value c.in-Some.ensures) in
    adds_to c.args.diagrams.now c.or.new.self c.args.case c.index.result.now c.in_ok-set-in-Some.set c.args.cases.now.items _ c.in-Some.place
    c.requires.cases c.or.ensures.keeps found.0 (sym c.index.ensures)
    (ap (λ x. x.outcome) c.index.ensures ∙ found.1 c.index.result.now) c.in_ok-set-in-Some.ensures.value
    (ap (λ o. set c.args.cases.now.items c.in-Some.place (record { set = c.in_ok-set-in-Some.set; outcome = o }))
    (ap (λ x. x.outcome) c.index_mut.ensures.value ∙ found.1 c.index_mut.result.now))

pub returns-in_ok-set-in-Some-clause-packets : goal.returns-in_ok-set-in-Some-clause-packets
returns-in_ok-set-in-Some-clause-packets g c =
    let some = c.if-is_none.ensures.some in
    packets-to c.args.diagrams.now c.or.new.self c.args.cases.now.items _ c.in-Some.place c.index.result.now c.args.case.set
    (record { set = c.in_ok-set-in-Some.set; outcome = c.index_mut.result.now.outcome }) some.0 c.or.ensures.keeps c.requires.cases some.1
    c.in_ok-set-in-Some.ensures.value refl

pub returns-in_ok-push-in-None-clause-adds : goal.returns-in_ok-push-in-None-clause-adds
returns-in_ok-push-in-None-clause-adds g c =
    adds_one c.args.diagrams.now c.args.case c.args.cases.now.items c.push.new.self.items c.requires.cases c.requires.set
    c.in_ok-push-in-None.ensures.items

pub returns-in_ok-push-in-None-clause-packets : goal.returns-in_ok-push-in-None-clause-packets
returns-in_ok-push-in-None-clause-packets g c =
    let some = c.if-is_none.ensures.some in
    packets-more c.args.diagrams.now c.args.cases.now.items c.push.new.self.items c.args.case some.0 some.1 c.in_ok-push-in-None.ensures.items
