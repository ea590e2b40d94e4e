use Rattle.std.proofs.Common.{nat_le, true}
use Rattle.nft_tree.specs.declared.selector.Selector.TheVariants as selectors
use Rattle.rule_meaning.specs.Matches.{tests}
use Rattle.rule_meaning.specs.Selectors.{value}
use Rattle.fact_sets.specs.Cases.{seen}
use Rattle.action_cases.proofs.CaseLaws.{one_reads}
use Rattle.action_cases.proofs.KeptLaws.{ct_mark, meta_mark}
use Rattle.action_cases.proofs.cases.mark.Goals as goal

pub returns-in_ok-one-in-Meta-clause-value : goal.returns-in_ok-one-in-Meta-clause-value
returns-in_ok-one-in-Meta-clause-value c =
    rw c.in-Meta.is (one_reads c.args.diagrams.now c.in_ok-one-in-Meta.field-0.items
    c.fixed-all.result c.args.reader.written.packet (λ f. true) _ c.in_ok-one-in-Meta.ensures c.fixed-all.ensures
    (meta_mark c.args.reader))

pub returns-in_ok-one-in-Ct-clause-value : goal.returns-in_ok-one-in-Ct-clause-value
returns-in_ok-one-in-Ct-clause-value c =
    rw c.in-Ct.is (one_reads c.passing.new.diagrams c.in_ok-one-in-Ct.field-0.items
    c.in_ok-known-in-Ct.known c.args.reader.written.connection (λ f. tests (value selectors.CtMark (seen c.args.reader f)) (nat_le 0)) _ c.in_ok-one-in-Ct.ensures
    c.in_ok-known-in-Ct.ensures.value (ct_mark c.args.reader))
