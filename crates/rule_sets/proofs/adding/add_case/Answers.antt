use Rattle.std.proofs.Common.{◌∙◌, ap, refl, sym}
use Rattle.std.specs.List.{position}
use Rattle.std.proofs.lemmas.List.Quantifiers.{position-Some}
use Rattle.fact_sets.specs.declared.cases.Case.{Case}
use Rattle.rule_sets.proofs.Merging.{adds_new_case, adds_to_case, is_at}
use Rattle.rule_sets.proofs.adding.add_case.Goals as goal

pub or-requires-clause-left : goal.or-requires-clause-left
or-requires-clause-left g c =
    let test = λ (x : Case _). g.V.PartialEq.eq x.outcome c.args.outcome in
    let found = position-Some test c.args.cases.now.items c.in-Some.index c.index.result.now
    (ap (position test) (sym c.deref.ensures.value) ∙ sym c.index_of.ensures ∙ c.in-Some.is) in
    is_at c.args.diagrams.now c.args.cases.now.items c.in-Some.index c.index.result.now found.0 c.index.ensures c.requires.cases

pub returns-in_ok-set-in-Some-clause-adds : goal.returns-in_ok-set-in-Some-clause-adds
returns-in_ok-set-in-Some-clause-adds g c =
    let test = λ (x : Case _). g.V.PartialEq.eq x.outcome c.args.outcome in
    let found = position-Some test c.args.cases.now.items c.in-Some.index c.index.result.now
    (ap (position test) (sym c.deref.ensures.value) ∙ sym c.index_of.ensures ∙ c.in-Some.is) in
    adds_to_case c.args.diagrams.now c.or.new.self c.args.cases.now.items _ c.in-Some.index c.index.result.now c.args.set c.in_ok-set-in-Some.set
    c.args.outcome found.0 c.index.ensures (c.requires.same _ _ found.1) c.requires.cases c.or.ensures.keeps c.in_ok-set-in-Some.ensures.value refl

pub returns-in_ok-push-in-None-clause-adds : goal.returns-in_ok-push-in-None-clause-adds
returns-in_ok-push-in-None-clause-adds g c =
    adds_new_case c.args.diagrams.now c.args.cases.now.items c.push.new.self.items c.args.set c.args.outcome c.requires.cases c.requires.set
    c.in_ok-push-in-None.ensures.items
