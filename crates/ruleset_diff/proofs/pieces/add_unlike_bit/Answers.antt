use Rattle.std.proofs.Common.{◌+◌, subst}
use Rattle.packet_sets.specs.Sets.{Means}
use Rattle.fact_sets.proofs.SetLaws.{keeps_trans}
use Rattle.ruleset_diff.specs.steps.Pieces.{connection_mark_bit, mark_bit}
use Rattle.ruleset_diff.proofs.Adding.{unlike_bit}
use Rattle.ruleset_diff.proofs.pieces.add_unlike_bit.Goals as goal

pub returns-clause-adds : goal.returns-clause-adds
returns-clause-adds c =
    let place = c.args.place in
    unlike_bit c.args.diagrams.now c.bit.new.self c.bit-2.new.self c.and.new.self c.add_without.new.diagrams c.and-2.new.self c.add_without-2.new.diagrams
    c.bit.ensures.keeps c.bit-2.ensures.keeps c.and.ensures.keeps c.add_without.ensures.keeps c.and-2.ensures.keeps c.args.set
    c.in_ok-marked.marked c.in_ok-connection_marked.connection_marked c.in_ok-with_mark.with_mark c.in_ok-with_connection_mark.with_connection_mark
    c.requires.set (mark_bit place) (connection_mark_bit place)
    (subst (λ f. Means c.bit.new.self c.in_ok-marked.marked (λ p. p (f.first + place))) c.place.ensures c.in_ok-marked.ensures.value)
    (subst (λ f. Means c.bit-2.new.self c.in_ok-connection_marked.connection_marked (λ p. p (f.first + place))) c.place-2.ensures
    c.in_ok-connection_marked.ensures.value)
    c.in_ok-with_mark.ensures.value c.in_ok-with_connection_mark.ensures.value
    c.args.pieces.now.items c.add_without.new.pieces.items c.add_without-2.new.pieces.items c.in_ok-add_without.ensures.adds c.in_ok-add_without-2.ensures.adds

pub returns-in_err-connection_marked-clause-keeps : goal.returns-in_err-connection_marked-clause-keeps
returns-in_err-connection_marked-clause-keeps c = keeps_trans c.args.diagrams.now c.bit.new.self c.bit-2.new.self c.bit.ensures.keeps c.bit-2.ensures.keeps

pub returns-in_err-with_mark-clause-keeps : goal.returns-in_err-with_mark-clause-keeps
returns-in_err-with_mark-clause-keeps c = keeps_trans c.args.diagrams.now c.bit-2.new.self c.and.new.self (keeps_trans c.args.diagrams.now c.bit.new.self c.bit-2.new.self c.bit.ensures.keeps c.bit-2.ensures.keeps) c.and.ensures.keeps

pub returns-in_err-add_without-clause-keeps : goal.returns-in_err-add_without-clause-keeps
returns-in_err-add_without-clause-keeps c = keeps_trans c.args.diagrams.now c.and.new.self c.add_without.new.diagrams (keeps_trans c.args.diagrams.now c.bit-2.new.self c.and.new.self (keeps_trans c.args.diagrams.now c.bit.new.self c.bit-2.new.self c.bit.ensures.keeps c.bit-2.ensures.keeps) c.and.ensures.keeps) c.add_without.ensures.keeps

pub returns-in_err-with_connection_mark-clause-keeps : goal.returns-in_err-with_connection_mark-clause-keeps
returns-in_err-with_connection_mark-clause-keeps c = keeps_trans c.args.diagrams.now c.add_without.new.diagrams c.and-2.new.self (keeps_trans c.args.diagrams.now c.and.new.self c.add_without.new.diagrams (keeps_trans c.args.diagrams.now c.bit-2.new.self c.and.new.self (keeps_trans c.args.diagrams.now c.bit.new.self c.bit-2.new.self c.bit.ensures.keeps c.bit-2.ensures.keeps) c.and.ensures.keeps) c.add_without.ensures.keeps) c.and-2.ensures.keeps

pub returns-in_err-add_without-2-clause-keeps : goal.returns-in_err-add_without-2-clause-keeps
returns-in_err-add_without-2-clause-keeps c = keeps_trans c.args.diagrams.now c.and-2.new.self c.add_without-2.new.diagrams (keeps_trans c.args.diagrams.now c.add_without.new.diagrams c.and-2.new.self (keeps_trans c.args.diagrams.now c.and.new.self c.add_without.new.diagrams (keeps_trans c.args.diagrams.now c.bit-2.new.self c.and.new.self (keeps_trans c.args.diagrams.now c.bit.new.self c.bit-2.new.self c.bit.ensures.keeps c.bit-2.ensures.keeps) c.and.ensures.keeps) c.add_without.ensures.keeps) c.and-2.ensures.keeps) c.add_without-2.ensures.keeps

pub returns-clause-keeps : goal.returns-clause-keeps
returns-clause-keeps c = keeps_trans c.args.diagrams.now c.and-2.new.self c.add_without-2.new.diagrams (keeps_trans c.args.diagrams.now c.add_without.new.diagrams c.and-2.new.self (keeps_trans c.args.diagrams.now c.and.new.self c.add_without.new.diagrams (keeps_trans c.args.diagrams.now c.bit-2.new.self c.and.new.self (keeps_trans c.args.diagrams.now c.bit.new.self c.bit-2.new.self c.bit.ensures.keeps c.bit-2.ensures.keeps) c.and.ensures.keeps) c.add_without.ensures.keeps) c.and-2.ensures.keeps) c.add_without-2.ensures.keeps
