use Rattle.chain_graph.proofs.Names.{List, New, ap, arith, get_or, length, length_push, ℕ, ◌-◌, ◌∙◌}
use Rattle.std.proofs.lemmas.List.Sums.{sum_by-set}
use Rattle.chain_graph.specs.declared.search.Mark.TheVariants.{Done, Open}
use Rattle.chain_graph.specs.steps.Search.{weight}
use Rattle.chain_graph.proofs.ReadLaws.{inside-row, last-follows, left-read, mark-read, popped, reads_target, rows-long}
use Rattle.chain_graph.proofs.StepLaws.{entered, finished, keeps_visited, scanned_on, visited_again}
use Rattle.chain_graph.proofs.search.step.Goals as goal

pub index-target-requires : goal.index-target-requires
index-target-requires c =
    let i = inside-row c.args.targets.now c.requires.search c.requires.below c.index-left.ensures c.if-left-eq0.false c.index-targets-last.is in
    omega arith

pub index-requires : goal.index-requires
index-requires c =
    let r = reads_target c.args.targets.now c.requires.search c.requires.below c.index-left.ensures c.if-left-eq0.false
    c.index-targets-last.is c.requires.range c.index-target.ensures in
    let within = r.within in
    let long = c.requires.search.marks_long in
    omega arith

pub index_mut-requires-in-New : goal.index_mut-requires-in-New
index_mut-requires-in-New c =
    let r = reads_target c.args.targets.now c.requires.search c.requires.below c.index-left.ensures c.if-left-eq0.false
    c.index-targets-last.is c.requires.range c.index-target.ensures in
    let within = r.within in
    let long = c.requires.search.marks_long in
    omega arith

pub returns-then-left-eq0 : goal.returns-then-left-eq0
returns-then-left-eq0 c =
    let rows = rows-long c.args.targets.now in
    let rest : List ℕ = c.requires.last.0 in
    let was = c.requires.last.1 in
    let pop = popped _ rest _ _ _ was (omega arith) c.pop.ensures.rest in
    let next = finished _ _ _ rest _ c.args.last (rw was at c.requires.search)
    (left-read c.args.targets.now c.requires.search c.requires.below c.index-left.ensures ∙ c.if-left-eq0.true) in
    let long = c.requires.search.marks_long in
    let spent = sum_by-set weight c.args.search.now.marks.items c.args.last Done New (omega arith) in
    let more = ap length was ∙ length_push rest c.args.last in
    let shorter = ap length pop in
    record {
      steps = record {
        search = rw (pop, c.in_ok-push.ensures.items) next;
        less = omega arith;
        visited = keeps_visited c.args.search.now.marks.items c.args.last Done (omega arith) (λ e. (cc));
      };
    }

pub returns-in-Done : goal.returns-in-Done
returns-in-Done c =
    let r = reads_target c.args.targets.now c.requires.search c.requires.below c.index-left.ensures c.if-left-eq0.false
    c.index-targets-last.is c.requires.range c.index-target.ensures in
    let within = r.within in
    let left = r.left_is in
    let rows = rows-long c.args.targets.now in
    let was = c.requires.last.1 in
    let long = c.requires.search.marks_long in
    let long' = c.requires.search.left_long in
    let is = mark-read c.args.search.now.marks.items c.index-target.result.now (omega arith) c.index.ensures c.in-Done.is in
    let next = scanned_on _ _ _ c.requires.last.0 _ c.args.last (c.index-left.result.now - 1) (rw was at c.requires.search) (omega arith) left
    (ap (λ x. get_or c.args.search.now.marks.items x New) r.is ∙ is) in
    let spent = sum_by-set (λ n. n) c.args.search.now.left.items c.args.last (c.index-left.result.now - 1) 0 (omega arith) in
    record { steps = record { search = rw was next; less = omega arith; visited = record { keeps = λ d h. h } } }

pub returns-in_ok-push-in-New : goal.returns-in_ok-push-in-New
returns-in_ok-push-in-New c =
    let r = reads_target c.args.targets.now c.requires.search c.requires.below c.index-left.ensures c.if-left-eq0.false
    c.index-targets-last.is c.requires.range c.index-target.ensures in
    let within = r.within in
    let long = c.requires.search.marks_long in
    let is = mark-read c.args.search.now.marks.items c.index-target.result.now (omega arith) c.index.ensures c.in-New.is in
    let next = entered _ _ _ _ _ _ c.requires.search is r.within (last-follows _ _ _ _ _ c.requires.last.1 r.edge) in
    let spent = sum_by-set weight c.args.search.now.marks.items c.index-target.result.now Open New (omega arith) in
    let two = ap weight is in
    let longer = ap length c.in_ok-push-in-New.ensures.items ∙ length_push c.args.search.now.path.items c.index-target.result.now in
    record {
      steps = record {
        search = rw c.in_ok-push-in-New.ensures.items next;
        less = omega arith;
        visited = keeps_visited c.args.search.now.marks.items c.index-target.result.now Open (omega arith) (λ e. (cc));
      };
    }

pub returns-in-Open : goal.returns-in-Open
returns-in-Open c =
    let r = reads_target c.args.targets.now c.requires.search c.requires.below c.index-left.ensures c.if-left-eq0.false
    c.index-targets-last.is c.requires.range c.index-target.ensures in
    let within = r.within in
    let was = c.requires.last.1 in
    let long = c.requires.search.marks_long in
    let is = mark-read c.args.search.now.marks.items c.index-target.result.now (omega arith) c.index.ensures c.in-Open.is in
    record { steps = visited_again _ _ _ _ _ c.args.last _ (rw was at c.requires.search) r.edge is }
