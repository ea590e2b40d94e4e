use Rattle.fact_sets.proofs.SetLaws.{keeps_trans}
use Rattle.ruleset_diff.proofs.Adding.{written_added}
use Rattle.ruleset_diff.proofs.pieces.add_written.Goals as goal

pub returns-clause-adds : goal.returns-clause-adds
returns-clause-adds c =
    written_added c.args.diagrams.now c.add_marks.new.diagrams c.with_connection.new.diagrams c.add_marks-2.new.diagrams c.add_untracked.new.diagrams
    c.add_marks.ensures.keeps c.with_connection.ensures.keeps c.add_marks-2.ensures.keeps c.args.set c.in_ok-known.known c.requires.set c.args.old c.args.new
    c.in_ok-known.ensures.value c.args.pieces.now.items c.add_marks.new.pieces.items c.add_marks-2.new.pieces.items c.add_untracked.new.pieces.items
    c.in_ok-add_marks.ensures.adds c.in_ok-add_marks-2.ensures.adds c.in_ok-add_untracked.ensures.adds

pub returns-in_err-known-clause-keeps : goal.returns-in_err-known-clause-keeps
returns-in_err-known-clause-keeps c = keeps_trans c.args.diagrams.now c.add_marks.new.diagrams c.with_connection.new.diagrams c.add_marks.ensures.keeps c.with_connection.ensures.keeps

pub returns-in_err-add_marks-2-clause-keeps : goal.returns-in_err-add_marks-2-clause-keeps
returns-in_err-add_marks-2-clause-keeps c = keeps_trans c.args.diagrams.now c.with_connection.new.diagrams c.add_marks-2.new.diagrams (keeps_trans c.args.diagrams.now c.add_marks.new.diagrams c.with_connection.new.diagrams c.add_marks.ensures.keeps c.with_connection.ensures.keeps) c.add_marks-2.ensures.keeps

pub returns-in_err-add_untracked-clause-keeps : goal.returns-in_err-add_untracked-clause-keeps
returns-in_err-add_untracked-clause-keeps c = keeps_trans c.args.diagrams.now c.add_marks-2.new.diagrams c.add_untracked.new.diagrams (keeps_trans c.args.diagrams.now c.with_connection.new.diagrams c.add_marks-2.new.diagrams (keeps_trans c.args.diagrams.now c.add_marks.new.diagrams c.with_connection.new.diagrams c.add_marks.ensures.keeps c.with_connection.ensures.keeps) c.add_marks-2.ensures.keeps) c.add_untracked.ensures.keeps

pub returns-clause-keeps : goal.returns-clause-keeps
returns-clause-keeps c = keeps_trans c.args.diagrams.now c.add_marks-2.new.diagrams c.add_untracked.new.diagrams (keeps_trans c.args.diagrams.now c.with_connection.new.diagrams c.add_marks-2.new.diagrams (keeps_trans c.args.diagrams.now c.add_marks.new.diagrams c.with_connection.new.diagrams c.add_marks.ensures.keeps c.with_connection.ensures.keeps) c.add_marks-2.ensures.keeps) c.add_untracked.ensures.keeps
