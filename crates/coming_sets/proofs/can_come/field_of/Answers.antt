use Rattle.std.proofs.Common.{Bool, ℕ}
use Rattle.nft_tree.specs.declared.selector.Selector.TheVariants.{IpProtocol}
use Rattle.nft_tree.specs.declared.statement.Operator.TheVariants.{Equal}
use Rattle.fact_sets.specs.Cases.{seen}
use Rattle.fact_sets.proofs.SetLaws.{keeps_trans, keeps_twice, means_kept}
use Rattle.coming_sets.specs.Coming.{has_value, matches}
use Rattle.coming_sets.proofs.Matching.{alike_ok}
use Rattle.coming_sets.proofs.can_come.field_of.Goals as goal

pub returns-in_err-of-clause-keeps : goal.returns-in_err-of-clause-keeps
returns-in_err-of-clause-keeps c =
    keeps_trans c.args.diagrams.now c.matching.new.diagrams c.matching-2.new.diagrams c.matching.ensures.keeps c.matching-2.ensures.keeps

pub alike-requires-clause-left : goal.alike-requires-clause-left
alike-requires-clause-left c = c.matching-2.ensures.keeps.sets c.in_ok-valued.valued c.in_ok-valued.ensures.value.is_set

pub returns-clause-keeps : goal.returns-clause-keeps
returns-clause-keeps c = keeps_twice c.args.diagrams.now c.matching.new.diagrams c.matching-2.new.diagrams c.alike.new.diagrams c.matching.ensures.keeps
    c.matching-2.ensures.keeps c.alike.ensures.keeps

pub returns-clause-value : goal.returns-clause-value
returns-clause-value c =
    let valued = λ (f : ℕ → Bool). has_value c.args.selector (seen c.args.reader f) in
    alike_ok c.matching-2.new.diagrams c.alike.new.diagrams c.in_ok-valued.valued c.in_ok-of.of valued
    (λ f. matches IpProtocol Equal c.args.protocol (seen c.args.reader f)) c.alike.result
    (means_kept c.matching.new.diagrams c.matching-2.new.diagrams c.in_ok-valued.valued valued c.matching-2.ensures.keeps c.in_ok-valued.ensures.value)
    c.in_ok-of.ensures.value c.alike.ensures.value
