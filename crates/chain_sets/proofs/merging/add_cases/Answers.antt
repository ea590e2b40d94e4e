use Rattle.std.proofs.Common.{arith, drop, subst, sym, ◌+◌, ◌∷◌}
use Rattle.std.proofs.lemmas.List.{drop_all}
use Rattle.packet_sets.specs.Sets.{IsSet}
use Rattle.rule_sets.proofs.Sorting.{keeps_trans}
use Rattle.chain_sets.proofs.Cases.{AddsSoFar, are-at, so_far_all, so_far_more, so_far_next, so_far_none}
use Rattle.chain_sets.proofs.merging.add_cases.Goals as goal

pub loop-case-init : goal.loop-case-init
loop-case-init g c = record {
  so_far = so_far_none c.args.diagrams.now c.args.more.now c.args.cases.now.items c.requires.more c.requires.cases;
  packets = λ have. have;
}

pub add_case-requires : goal.add_case-requires
add_case-requires g c = record {
  set = c.loop-case.invariant.so_far.keeps.sets c.case-item.result.set (subst (λ x. IsSet c.args.diagrams.now x.set) (sym c.case-item.is)
      (are-at c.args.diagrams.now c.args.more.now c.loop-case.case-index c.case-item.result c.requires.more c.loop-case-test.true));
  cases = c.loop-case.invariant.so_far.are;
}

pub returns-in_err-add_case-clause-keeps : goal.returns-in_err-add_case-clause-keeps
returns-in_err-add_case-clause-keeps g c =
    keeps_trans c.args.diagrams.now c.loop-case.diagrams c.add_case.new.diagrams c.loop-case.invariant.so_far.keeps c.add_case.ensures.keeps

pub loop-case-preserved : goal.loop-case-preserved
loop-case-preserved g c =
    let i = c.loop-case.case-index in
    let all = c.args.more.now in
    record {
      so_far = so_far_more c.args.diagrams.now c.loop-case.diagrams c.add_case.new.diagrams c.case-item.result (drop (i + 1) all) all
          c.args.cases.now.items c.loop-case.cases.items c.add_case.new.cases.items
          (subst (λ x. AddsSoFar c.args.diagrams.now c.loop-case.diagrams (x ∷ drop (i + 1) all) all c.args.cases.now.items c.loop-case.cases.items)
          (sym c.case-item.is) (so_far_next c.args.diagrams.now c.loop-case.diagrams all c.args.cases.now.items c.loop-case.cases.items i
          c.case-item.result c.loop-case-test.true c.loop-case.invariant.so_far)) c.add_case.ensures.keeps c.in_ok-add_case.ensures.adds;
      packets = λ have. c.in_ok-add_case.ensures.packets (c.loop-case.invariant.packets have);
    }

pub returns-clause-adds : goal.returns-clause-adds
returns-clause-adds g c =
    so_far_all c.args.diagrams.now c.loop-case.diagrams (drop c.loop-case.case-index c.args.more.now) c.args.more.now c.args.cases.now.items
    c.loop-case.cases.items (drop_all c.loop-case.case-index c.args.more.now (omega arith)) c.loop-case.invariant.so_far

pub returns-clause-packets : goal.returns-clause-packets
returns-clause-packets g c = c.loop-case.invariant.packets
