use Rattle.fact_sets.proofs.SetLaws.{keeps_thrice, keeps_trans, keeps_twice}
use Rattle.std.proofs.lemmas.Result.{IfOk-weaker}
use Rattle.coming_sets.proofs.Matching.{alike_means}
use Rattle.coming_sets.proofs.can_come.alike.Goals as goal

pub returns-in_err-in_right_alone-clause-keeps : goal.returns-in_err-in_right_alone-clause-keeps
returns-in_err-in_right_alone-clause-keeps c =
    keeps_trans c.args.diagrams.now c.without.new.self c.without-2.new.self c.without.ensures.keeps c.without-2.ensures.keeps

pub returns-in_err-in_one-clause-keeps : goal.returns-in_err-in_one-clause-keeps
returns-in_err-in_one-clause-keeps c = keeps_twice c.args.diagrams.now c.without.new.self c.without-2.new.self c.or.new.self
    c.without.ensures.keeps c.without-2.ensures.keeps c.or.ensures.keeps

pub returns-clause-keeps : goal.returns-clause-keeps
returns-clause-keeps c = keeps_thrice c.args.diagrams.now c.without.new.self c.without-2.new.self c.or.new.self c.not.new.self
    c.without.ensures.keeps c.without-2.ensures.keeps c.or.ensures.keeps c.not.ensures.keeps

pub returns-clause-value : goal.returns-clause-value
returns-clause-value c = IfOk-weaker c.not.result _ _ (λ set h.
    alike_means c.args.diagrams.now c.without.new.self c.without-2.new.self c.or.new.self c.not.new.self c.args.left c.args.right
    c.in_ok-in_left_alone.in_left_alone c.in_ok-in_right_alone.in_right_alone c.in_ok-in_one.in_one set c.requires.left c.requires.right
    c.without.ensures.keeps c.without-2.ensures.keeps c.in_ok-in_left_alone.ensures.value c.in_ok-in_right_alone.ensures.value
    c.in_ok-in_one.ensures.value h) c.not.ensures.value
