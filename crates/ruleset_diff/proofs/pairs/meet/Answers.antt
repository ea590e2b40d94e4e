use Rattle.std.proofs.Common.{subst, sym}
use Rattle.std.proofs.lemmas.Result.{IfOk-weaker}
use Rattle.fact_sets.proofs.SetLaws.{keeps_trans}
use Rattle.ruleset_diff.specs.steps.Pieces.{ArePieces}
use Rattle.ruleset_diff.proofs.Compared.{met_none, met_some}
use Rattle.ruleset_diff.proofs.pairs.meet.Goals as goal

pub add_some-requires : goal.add_some-requires
add_some-requires c = rw c.deref.ensures.value c.in_ok-sets.ensures.value.sets

pub returns-then-is_none-clause-met : goal.returns-then-is_none-clause-met
returns-then-is_none-clause-met c =
    met_none c.args.diagrams.now c.and.new.self c.args.stage c.args.left c.args.new c.args.differences.now.items c.in_ok-both.both
    c.and.ensures.keeps c.requires.left c.in_ok-both.ensures.value c.if-is_none.ensures.none

pub returns-clause-met : goal.returns-clause-met
returns-clause-met c =
    let d1 = c.and.new.self in
    let d2 = c.pieces.new.diagrams in
    let pieces = subst (ArePieces d1 d2 c.in_ok-both.both c.args.left.outcome c.args.new.outcome) (sym c.deref.ensures.value)
    c.in_ok-sets.ensures.value in
    IfOk-weaker c.without.result _ _ (λ rest means. met_some c.args.diagrams.now d1 d2 c.without.new.self c.and.ensures.keeps c.pieces.ensures.keeps
    c.without.ensures.keeps c.args.stage c.args.left c.args.new c.requires.left c.requires.new c.in_ok-both.both rest c.deref.result.now
    c.args.differences.now.items c.add_some.new.differences.items c.in_ok-both.ensures.value pieces c.in_ok-add_some.ensures means)
    c.without.ensures.value

pub returns-in_err-sets-clause-keeps : goal.returns-in_err-sets-clause-keeps
returns-in_err-sets-clause-keeps c = keeps_trans c.args.diagrams.now c.and.new.self c.pieces.new.diagrams c.and.ensures.keeps c.pieces.ensures.keeps

pub returns-in_err-add_some-clause-keeps : goal.returns-in_err-add_some-clause-keeps
returns-in_err-add_some-clause-keeps c = keeps_trans c.args.diagrams.now c.and.new.self c.pieces.new.diagrams c.and.ensures.keeps c.pieces.ensures.keeps

pub returns-clause-keeps : goal.returns-clause-keeps
returns-clause-keeps c = keeps_trans c.args.diagrams.now c.pieces.new.diagrams c.without.new.self (keeps_trans c.args.diagrams.now c.and.new.self c.pieces.new.diagrams c.and.ensures.keeps c.pieces.ensures.keeps) c.without.ensures.keeps
