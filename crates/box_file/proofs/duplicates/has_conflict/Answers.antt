use Rattle.std.proofs.Common.{arith}
use Rattle.box_file.proofs.Names.{ap, drop_all, false, get, sym, two_values, ◌∙◌, ◌≡◌}
use Rattle.std.specs.HashMap.Eq.{lookup_congr}
use Rattle.std.specs.Map.{lookup}
use Rattle.box_file.proofs.RepeatLaws.{no_some, differs, none_seen, key_more, repeat_found, value_more}
use Rattle.box_file.proofs.duplicates.has_conflict.Goals as goal
use Rattle.box_file.proofs.duplicates.has_conflict.Goals.{in-Some+else-ne, in_default}

pub loop-line-init : goal.loop-line-init
loop-line-init g c = none_seen (two_values g.K.PartialEq.eq g.V.PartialEq.eq) _
    (λ x. ap (λ es. differs g.V.PartialEq.eq (lookup (g.K.PartialEq.eq x.0) es) x.1) c.new-values.ensures.empty) _

pub returns-then-ne : goal.returns-then-ne
returns-then-ne g c =
    let x = c.entry-key.result in
    repeat_found g.L.HasEntry.entry_of c.args.lines.now c.loop-line.line-index c.loop-line-test.true c.line-item.is
    c.entry-key.ensures (two_values g.K.PartialEq.eq g.V.PartialEq.eq) _
    (ap (λ o. differs g.V.PartialEq.eq o x.1) (sym c.in_ok-before.ensures.old ∙ c.in-Some.is) ∙ sym c.ne.ensures ∙ c.if-ne.true)
    ∙ c.loop-line.invariant

pub loop-line-preserved : goal.loop-line-preserved
loop-line-preserved g c =
    let same_key = g.K.PartialEq.eq in
    let same_value = g.V.PartialEq.eq in
    let x = c.entry-key.result in
    let known = get same_key c.loop-line.values in
    let agrees : differs same_value (known x.0) x.1 ≡ false =
    ap (λ o. differs same_value o x.1) (sym c.in_ok-before.ensures.old) ∙ elim c.match-branch-2.branch [
      | in-Some+else-ne w ↦ ap (λ o. differs same_value o x.1) w.in-Some.is ∙ sym w.ne.ensures ∙ w.if-ne.false
      | in_default w ↦ ap (λ o. differs same_value o x.1) (no_some _ w.in_default.not-Some)
    ] in
    key_more g.L.HasEntry.entry_of c.args.lines.now c.loop-line.line-index c.loop-line-test.true c.line-item.is
    c.entry-key.ensures (two_values same_key same_value) _ _ agrees
    (λ y. ap (λ o. differs same_value o y.1) (c.in_ok-before.ensures.updates.0 y.0)
    ∙ value_more same_value g.met.V.Eq.laws (same_key x.0 y.0) (known y.0) (known x.0) x.1 y.1
    (λ e. sym (lookup_congr same_key g.met.K.Eq.laws.congr c.loop-line.values.entries x.0 y.0 e)) agrees)
    ∙ c.loop-line.invariant

pub returns : goal.returns
returns g c = grind (arith, drop_all, c.loop-line.line-index, c.args.lines.now, c.loop-line-test.false, c.loop-line.invariant)
