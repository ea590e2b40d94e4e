use Rattle.fact_sets.proofs.SetLaws.{keeps_trans}
use Rattle.std.proofs.Common.{◌==◌, subst}
use Rattle.packet_sets.specs.Sets.{Means, field_value}
use Rattle.fact_sets.specs.declared.written.MarkSource.TheVariants as sources
use Rattle.fact_sets.specs.Facts.{mark_number}
use Rattle.ruleset_diff.proofs.Adding.{others_added}
use Rattle.ruleset_diff.proofs.pieces.add_other_connection_marks.Goals as goal

pub returns-clause-adds : goal.returns-clause-adds
returns-clause-adds c =
    others_added c.args.diagrams.now c.equal.new.self c.add_without.new.diagrams c.equal.ensures.keeps c.args.set c.in_ok-equal.equal
    (λ p. mark_number sources.Connection p == c.args.number) c.requires.set
    (subst (λ f. Means c.equal.new.self c.in_ok-equal.equal (λ p. field_value f.first f.width p == c.args.number)) c.place.ensures c.in_ok-equal.ensures.value)
    c.args.pieces.now.items c.add_without.new.pieces.items c.in_ok-add_without.ensures.adds

pub returns-in_err-add_without-clause-keeps : goal.returns-in_err-add_without-clause-keeps
returns-in_err-add_without-clause-keeps c = keeps_trans c.args.diagrams.now c.equal.new.self c.add_without.new.diagrams c.equal.ensures.keeps c.add_without.ensures.keeps

pub returns-clause-keeps : goal.returns-clause-keeps
returns-clause-keeps c = keeps_trans c.args.diagrams.now c.equal.new.self c.add_without.new.diagrams c.equal.ensures.keeps c.add_without.ensures.keeps
