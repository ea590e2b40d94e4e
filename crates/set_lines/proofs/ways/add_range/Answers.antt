use Rattle.std.proofs.Common.{arith, refl, ◌+◌, ◌≡◌}
use Rattle.set_lines.proofs.WayLaws.{in_apart, in_first, in_joined}
use Rattle.set_lines.proofs.ways.add_range.Goals as goal

pub returns-in_ok-push-in-None : goal.returns-in_ok-push-in-None
returns-in_ok-push-in-None c =
    in_first c.args.ranges.now.items c.pop.new.self.items c.push.new.self.items c.args.numbers c.in-None.ensures.items c.in_ok-push-in-None.ensures.items

pub returns-in_ok-push-in-Some : goal.returns-in_ok-push-in-Some
returns-in_ok-push-in-Some c =
    let touch : c.in-Some.last.high + 1 ≡ c.args.numbers.low = omega arith in
    in_joined c.args.ranges.now.items c.pop.new.self.items c.push-then-from.new.self.items c.in-Some.last c.args.numbers _ c.in-Some.ensures.items
    c.in_ok-push-in-Some.ensures.items touch refl refl

pub returns-in_ok-push-in-Some-3 : goal.returns-in_ok-push-in-Some-3
returns-in_ok-push-in-Some-3 c =
    in_apart c.args.ranges.now.items c.pop.new.self.items c.push-else-from.new.self.items c.push-else-from-2.new.self.items c.in-Some.last c.args.numbers
    c.in-Some.ensures.items c.in_ok-push-in-Some-2.ensures.items c.in_ok-push-in-Some-3.ensures.items
