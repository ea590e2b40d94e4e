use Rattle.fact_sets.proofs.SetLaws.{keeps_trans}
use Rattle.action_cases.proofs.BoundedLaws.{bounded_ok, first_and_rest}
use Rattle.action_cases.proofs.concatenations.+bounded.Goals as goal

pub returns-in_err-within-clause-keeps : goal.returns-in_err-within-clause-keeps
returns-in_err-within-clause-keeps t c = keeps_trans c.args.diagrams.now c.split.new.diagrams c.bounded.new.diagrams
    (c.split.ensures.keeps) c.bounded.ensures.keeps

pub returns-in_err-any-clause-keeps : goal.returns-in_err-any-clause-keeps
returns-in_err-any-clause-keeps t c = keeps_trans c.args.diagrams.now c.bounded.new.diagrams c.bounded-2.new.diagrams
    (keeps_trans c.args.diagrams.now c.split.new.diagrams c.bounded.new.diagrams (c.split.ensures.keeps) c.bounded.ensures.keeps) c.bounded-2.ensures.keeps

pub returns-in_err-at-clause-keeps : goal.returns-in_err-at-clause-keeps
returns-in_err-at-clause-keeps t c = keeps_trans c.args.diagrams.now c.bounded-2.new.diagrams c.and.new.self
    (keeps_trans c.args.diagrams.now c.bounded.new.diagrams c.bounded-2.new.diagrams
    (keeps_trans c.args.diagrams.now c.split.new.diagrams c.bounded.new.diagrams
    (c.split.ensures.keeps) c.bounded.ensures.keeps) c.bounded-2.ensures.keeps) c.and.ensures.keeps

pub returns-in_err-past-clause-keeps : goal.returns-in_err-past-clause-keeps
returns-in_err-past-clause-keeps t c = keeps_trans c.args.diagrams.now c.and.new.self c.and-2.new.self
    (keeps_trans c.args.diagrams.now c.bounded-2.new.diagrams c.and.new.self
    (keeps_trans c.args.diagrams.now c.bounded.new.diagrams c.bounded-2.new.diagrams
    (keeps_trans c.args.diagrams.now c.split.new.diagrams c.bounded.new.diagrams
    (c.split.ensures.keeps) c.bounded.ensures.keeps) c.bounded-2.ensures.keeps) c.and.ensures.keeps) c.and-2.ensures.keeps

pub returns-clause-keeps : goal.returns-clause-keeps
returns-clause-keeps t c = keeps_trans c.args.diagrams.now c.and-2.new.self c.or.new.self (keeps_trans c.args.diagrams.now c.and.new.self c.and-2.new.self
    (keeps_trans c.args.diagrams.now c.bounded-2.new.diagrams c.and.new.self
    (keeps_trans c.args.diagrams.now c.bounded.new.diagrams c.bounded-2.new.diagrams
    (keeps_trans c.args.diagrams.now c.split.new.diagrams c.bounded.new.diagrams
    (c.split.ensures.keeps) c.bounded.ensures.keeps) c.bounded-2.ensures.keeps) c.and.ensures.keeps) c.and-2.ensures.keeps) c.or.ensures.keeps

pub returns-clause-value : goal.returns-clause-value
returns-clause-value t c =
    bounded_ok c.args.reader c.args.bound c.args.number c.joined_width-bits.result c.front.result c.back.result _ _ c.args.selectors.now
    c.split.new.diagrams c.bounded.new.diagrams c.bounded-2.new.diagrams c.and.new.self c.and-2.new.self c.or.new.self
    c.in_ok-sets.sets.equal c.in_ok-sets.sets.beyond c.in_ok-within.within c.in_ok-any.any c.in_ok-at.at c.in_ok-past.past c.or.result
    (first_and_rest c.args.selectors.now _ c.in-len1-up.len_at_least) (record {
      bits_are = c.joined_width-bits.ensures;
      small = c.ranges.number.fits;
      narrow = c.values_fit.ensures;
      front = c.front.ensures;
      back = c.back.ensures;
      equals = c.in_ok-sets.ensures.equal;
      beyonds = c.in_ok-sets.ensures.beyond;
      withins = c.in_ok-within.ensures.value;
      anys = c.in_ok-any.ensures.value;
      ats = c.in_ok-at.ensures.value;
      pasts = c.in_ok-past.ensures.value;
      keeps_two = c.bounded.ensures.keeps;
      keeps_three = c.bounded-2.ensures.keeps;
      keeps_four = c.and.ensures.keeps;
      keeps_five = c.and-2.ensures.keeps;
    }) c.or.ensures.value
