use Rattle.std.proofs.Common.{arith}
use Rattle.box_file.proofs.Names.{Some, find, idle_tree, is_of_kind, map, ◌≡◌}
use Rattle.box_file.proofs.IdleLaws.{found, some_limit}
use Rattle.box_file.proofs.idle.limit.Goals as goal

pub returns-in-Some-clause-value : goal.returns-in-Some-clause-value
returns-in-Some-clause-value c =
    let there : Some (idle_tree c.in-Some.line.now) ≡ find (is_of_kind c.args.kind) (map idle_tree c.args.lines.now) =
    rw c.in-Some.is at c.find_by_kind.ensures in
    rw (← there) (c.seconds.ensures.small (found c.args.kind _ (map idle_tree c.args.lines.now) c.requires there).1)

pub returns-in-Some-clause-positive : goal.returns-in-Some-clause-positive
returns-in-Some-clause-positive c =
    grind (arith, found c.args.kind _ (map idle_tree c.args.lines.now) c.requires (rw c.in-Some.is at c.find_by_kind.ensures), c.seconds.ensures.small)

pub returns-in-None-clause-value : goal.returns-in-None-clause-value
returns-in-None-clause-value c = grind arith

pub returns-in-None-clause-positive : goal.returns-in-None-clause-positive
returns-in-None-clause-positive c = rw (c.of.ensures, c.usual.ensures) (some_limit c.args.kind).1
