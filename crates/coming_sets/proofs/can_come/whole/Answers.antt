use Rattle.coming_sets.specs.Coming.{has_headers, has_length}
use Rattle.fact_sets.specs.Cases.{seen}
use Rattle.fact_sets.proofs.SetLaws.{keeps_trans, keeps_twice}
use Rattle.coming_sets.proofs.Matching.{and_after}
use Rattle.coming_sets.proofs.can_come.whole.Goals as goal

pub returns-in_err-headers-clause-keeps : goal.returns-in_err-headers-clause-keeps
returns-in_err-headers-clause-keeps c =
    keeps_trans c.args.diagrams.now c.matching.new.diagrams c.headers.new.diagrams c.matching.ensures.keeps c.headers.ensures.keeps

pub returns-clause-keeps : goal.returns-clause-keeps
returns-clause-keeps c = keeps_twice c.args.diagrams.now c.matching.new.diagrams c.headers.new.diagrams c.and.new.self c.matching.ensures.keeps
    c.headers.ensures.keeps c.and.ensures.keeps

pub returns-clause-value : goal.returns-clause-value
returns-clause-value c =
    and_after c.matching.new.diagrams c.headers.new.diagrams c.and.new.self c.in_ok-long.long c.in_ok-headers.headers
    (λ f. has_length (seen c.args.reader f)) (λ f. has_headers (seen c.args.reader f)) c.and.result c.headers.ensures.keeps
    c.in_ok-long.ensures.value c.in_ok-headers.ensures.value c.and.ensures.value
