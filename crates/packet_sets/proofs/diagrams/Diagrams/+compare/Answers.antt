use Rattle.std.proofs.Common.{arith, subst, ℕ, ◌+◌, ◌-◌, ◌<◌}
use Rattle.std.proofs.lemmas.Result.{IfOk-weaker}
use Rattle.packet_sets.specs.steps.Comparisons.{IsComparison}
use Rattle.packet_sets.specs.steps.Nodes.{IsJoined}
use Rattle.packet_sets.specs.declared.fields.Field.{Field}
use Rattle.packet_sets.proofs.FieldLaws.{compared_high, compared_low, compared_none, power_split}
use Rattle.packet_sets.proofs.diagrams.Diagrams.+compare.Goals as goal

pub returns-then-field-eq0-clause-value : goal.returns-then-field-eq0-clause-value
returns-then-field-eq0-clause-value t c =
    compared_none c.args.self.now.nodes c.args.comparison c.args.field c.args.number c.sound.ensures c.if-field-eq0.true (omega (arith, c.requires.field))
    c.requires.number

pub compare-requires : goal.compare-requires
compare-requires t c =
    let wide : 0 < c.args.field.width = omega arith in
    let p = power_split c.args.field.width wide in
    let half = c.pow-half.ensures in
    let n = c.requires.number in
    (omega arith, (omega arith, (omega arith, omega (arith, p, half, n))))

pub returns-in_ok-high-clause-value : goal.returns-in_ok-high-clause-value
returns-in_ok-high-clause-value t c =
    let wide : 0 < c.args.field.width = omega arith in
    let half = c.pow-half.ensures in
    let rest : Field = record { first = c.args.field.first + 1; width = c.args.field.width - 1 } in
    let highs = subst (λ (x : ℕ). IsComparison c.compare.new.self.nodes c.args.comparison rest (c.args.number - x) c.in_ok-high.high) half
    c.in_ok-high.ensures.value in
    IfOk-weaker c.join.result (λ n. IsJoined c.join.new.self.nodes c.args.field.first c.less.result c.in_ok-high.high n)
    (λ n. IsComparison c.join.new.self.nodes c.args.comparison c.args.field c.args.number n)
    (λ n is. compared_high c.compare.new.self c.join.new.self c.args.comparison c.args.field c.args.number c.less.result c.in_ok-high.high n
    c.join.ensures.grows c.sound-then-number-half.ensures wide (omega (arith, half, c.if-number-half.true)) c.less.ensures highs is)
    c.join.ensures.joined

pub returns-in_ok-low-clause-value : goal.returns-in_ok-low-clause-value
returns-in_ok-low-clause-value t c =
    let wide : 0 < c.args.field.width = omega arith in
    let half = c.pow-half.ensures in
    let at = c.compare-else-number-half.new.self in
    let to = c.join-else-number-half.new.self in
    IfOk-weaker c.join-else-number-half.result (λ n. IsJoined to.nodes c.args.field.first c.in_ok-low.low c.greater.result n)
    (λ n. IsComparison to.nodes c.args.comparison c.args.field c.args.number n)
    (λ n is. compared_low at to c.args.comparison c.args.field c.args.number c.greater.result c.in_ok-low.low n
    c.join-else-number-half.ensures.grows c.sound-else-number-half.ensures wide (omega (arith, half, c.if-number-half.false)) c.greater.ensures
    c.in_ok-low.ensures.value is)
    c.join-else-number-half.ensures.joined
