use Rattle.std.proofs.Common.{arith}
use Rattle.packet_sets.proofs.Results.{result_after}
use Rattle.packet_sets.proofs.Walks.{grows_trans}
use Rattle.packet_sets.proofs.diagrams.Diagrams.+apply.Goals as goal

pub join-requires-clause-high_after : goal.join-requires-clause-high_after
join-requires-clause-high_after t c =
    let step = c.step-step.result in
    let left = c.step-step.ensures.left_part in
    let right = c.step-step.ensures.right_part in
    let hl = c.requires.left in
    let hr = c.requires.right in
    result_after c.args.self.now c.apply-2.new.self c.args.operation step.bit step.left.high step.right.high c.in_ok-high.high
    (grows_trans c.args.self.now c.apply.new.self c.apply-2.new.self c.in_ok-low.ensures.grows c.in_ok-high.ensures.grows)
    (omega (arith, left.high_most, hl)) (omega (arith, right.high_most, hr)) left.high_after right.high_after c.in_ok-high.ensures.value
