use Rattle.std.proofs.Common.{arith}
use Rattle.box_file.proofs.Names.{line_tree, map_push, sym, map, ◌<◌, ◌≡◌, ◌∙◌, lines_in, words_of, uncons, length}
use Rattle.box_file.proofs.TextLaws.{before_next, lines_step, rest_shorter, one_more, no_more}
use Rattle.box_file.proofs.line.lines.Goals as goal
use Rattle.box_file.proofs.line.lines.Goals.{After-first_line}

step : (c : After-first_line) → (lines_in c.loop-rest.rest.now
    ≡ one_more (uncons (words_of c.first_line.result.0.now)) (lines_in c.first_line.result.1.now))
    × (length c.first_line.result.1.now < length c.loop-rest.rest.now)
step c = grind (arith, lines_step, rest_shorter)

pub returns-in_default-line_of : goal.returns-in_default-line_of
returns-in_default-line_of c =
    rw ((step (goal.at.returns-in_default-line_of c).After-first_line).0, ← c.in-Some.ensures, ← c.line_of.ensures, c.in_default-line_of.is) at
    c.loop-rest.invariant

pub loop-rest-smaller-in_ok-push : goal.loop-rest-smaller-in_ok-push
loop-rest-smaller-in_ok-push c = (step (goal.at.loop-rest-smaller-in_ok-push c).After-first_line).1

pub loop-rest-preserved-in_ok-push : goal.loop-rest-preserved-in_ok-push
loop-rest-preserved-in_ok-push c =
    rw (c.in_ok-push.ensures.items, map_push line_tree c.loop-rest.found.items c.in-Some-line_of.line)
    (before_next _ _ _ ∙ (rw (
      (step (goal.at.loop-rest-preserved-in_ok-push c).After-first_line).0,
      sym c.in-Some.ensures,
      sym (rw c.in-Some-line_of.is at c.line_of.ensures),
    ) at c.loop-rest.invariant))

pub loop-rest-smaller : goal.loop-rest-smaller
loop-rest-smaller c = (step (goal.at.loop-rest-smaller c).After-first_line).1

pub loop-rest-preserved : goal.loop-rest-preserved
loop-rest-preserved c =
    rw ((step (goal.at.loop-rest-preserved c).After-first_line).0, sym c.word.ensures, c.in_default.is) at c.loop-rest.invariant

pub returns : goal.returns
returns c = no_more (map line_tree c.loop-rest.found.items) c.loop-rest.rest.now _ _ c.is_empty.ensures
    c.loop-rest-test.false c.loop-rest.invariant
