use Rattle.std.proofs.Common.{[], ◌∷◌, ◌+◌, ◌++◌, ◌-◌, ◌∙◌, length, take, drop, subst, sym, ap, arith}
use Rattle.list_laws.specs.Lists.{head_and_rest}
use Rattle.set_intervals.specs.Pairs.{first_value}
use Rattle.set_intervals.specs.steps.Layers.{Follows}
use Rattle.set_intervals.proofs.LayerLaws.{covered, follows, follows_none, passed, passed_all}
use Rattle.set_intervals.proofs.overlay.append_under.Goals as goal

pub append_before-requires-clause-before : goal.append_before-requires-clause-before
append_before-requires-clause-before g c =
    let parts = head_and_rest c.loop-left.left.now c.first-item.result c.in-len1-up.len_at_least c.first-item.is in
    (subst (Follows c.loop-left.pieces.items) parts c.loop-left.invariant.follows).0

pub returns-in_default-after-clause-ends : goal.returns-in_default-after-clause-ends
returns-in_default-after-clause-ends g c = λ i d lt. omega (arith, c.in_ok-append_before.ensures.ends i d lt, c.loop-left.invariant.end)

pub returns-in_default-after-clause-follows : goal.returns-in_default-after-clause-follows
returns-in_default-after-clause-follows g c =
    let parts = head_and_rest c.loop-left.left.now c.first-item.result c.in-len1-up.len_at_least c.first-item.is in
    subst (Follows c.append_before.new.pieces.items) (sym parts)
    (c.in_ok-append_before.ensures.before, (subst (Follows c.loop-left.pieces.items) parts c.loop-left.invariant.follows).1)

pub returns-in_default-after-clause-first_values : goal.returns-in_default-after-clause-first_values
returns-in_default-after-clause-first_values g c = λ key.
    let pieces = c.loop-left.pieces.items in
    let new = c.append_before.new.pieces.items in
    let left = c.loop-left.left.now in
    let first = c.first-item.result in
    let others = take (length left - 1) (drop 1 left) in
    let parts = head_and_rest left first c.in-len1-up.len_at_least c.first-item.is in
    let past = subst (Follows pieces) parts c.loop-left.invariant.follows in
    ap (λ l. first_value (new ++ l) key) parts
    ∙ covered pieces new first others c.loop-left.rest c.args.value c.in_default-after.ensures past.1 c.in_ok-append_before.ensures.first_values key
    ∙ ap (λ l. first_value (pieces ++ (l ++ (c.loop-left.rest, c.args.value) ∷ [])) key) (sym parts)
    ∙ c.loop-left.invariant.first_values key

pub loop-left-preserved : goal.loop-left-preserved
loop-left-preserved g c =
    let pieces = c.loop-left.pieces.items in
    let new = c.append_before.new.pieces.items in
    let newer = c.append.new.pieces.items in
    let left = c.loop-left.left.now in
    let first = c.first-item.result in
    let others = take (length left - 1) (drop 1 left) in
    let parts = head_and_rest left first c.in-len1-up.len_at_least c.first-item.is in
    let past = subst (Follows pieces) parts c.loop-left.invariant.follows in
    let part = c.in-Some.part in
    record {
      table = c.in_ok-append.ensures.table;
      before = λ i d lt. omega (arith, c.in_ok-append.ensures.ends i d lt, c.in-Some.ensures.0);
      follows = follows newer (first.0.high + 1) others c.in_ok-append.ensures.ends past.1;
      end = c.in-Some.ensures.1 ∙ c.loop-left.invariant.end;
      first_values = λ key.
          passed pieces new newer first others c.loop-left.rest part c.args.value c.in-Some.ensures.0
          c.in-Some.ensures.1 past.1 c.in_ok-append_before.ensures.first_values c.in_ok-append.ensures.first_values key
          ∙ ap (λ l. first_value (pieces ++ (l ++ (c.loop-left.rest, c.args.value) ∷ [])) key) (sym parts)
          ∙ c.loop-left.invariant.first_values key;
    }

pub returns-clause-ends : goal.returns-clause-ends
returns-clause-ends g c = λ i d lt. omega (arith, c.in_ok-append-2.ensures.ends i d lt, c.loop-left.invariant.end)

pub returns-clause-follows : goal.returns-clause-follows
returns-clause-follows g c = follows_none c.append-2.new.pieces.items c.loop-left.left.now c.in_default.len_below

pub returns-clause-first_values : goal.returns-clause-first_values
returns-clause-first_values g c =
    passed_all c.loop-left.pieces.items c.append-2.new.pieces.items c.loop-left.left.now
    (c.args.pieces.now.items ++ (c.args.upper.now ++ (c.args.range, c.args.value) ∷ [])) c.loop-left.rest c.args.value
    c.in_default.len_below c.in_ok-append-2.ensures.first_values c.loop-left.invariant.first_values
