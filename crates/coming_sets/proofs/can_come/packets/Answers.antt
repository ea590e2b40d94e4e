use Rattle.std.specs.Prelude.{◌&&◌}
use Rattle.coming_sets.specs.Coming.{has_headers, has_input, has_length}
use Rattle.fact_sets.specs.Cases.{seen}
use Rattle.fact_sets.proofs.SetLaws.{keeps_trans, keeps_twice}
use Rattle.coming_sets.proofs.Matching.{and_after}
use Rattle.coming_sets.proofs.can_come.packets.Goals as goal

pub returns-in_err-whole-clause-keeps : goal.returns-in_err-whole-clause-keeps
returns-in_err-whole-clause-keeps c =
    keeps_trans c.args.diagrams.now c.matching.new.diagrams c.whole.new.diagrams c.matching.ensures.keeps c.whole.ensures.keeps

pub returns-clause-keeps : goal.returns-clause-keeps
returns-clause-keeps c = keeps_twice c.args.diagrams.now c.matching.new.diagrams c.whole.new.diagrams c.and.new.self c.matching.ensures.keeps
    c.whole.ensures.keeps c.and.ensures.keeps

pub returns-clause-value : goal.returns-clause-value
returns-clause-value c =
    and_after c.matching.new.diagrams c.whole.new.diagrams c.and.new.self c.in_ok-input.input c.in_ok-whole.whole
    (λ f. has_input (seen c.args.reader f))
    (λ f. has_length (seen c.args.reader f) && has_headers (seen c.args.reader f)) c.and.result c.whole.ensures.keeps
    c.in_ok-input.ensures.value c.in_ok-whole.ensures.value c.and.ensures.value
