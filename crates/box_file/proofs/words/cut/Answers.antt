use Rattle.box_file.proofs.Names.{YieldsList-from_slice, add-one, position, position_from_yields_List, refl, rest_from, rules, tests, ◌+◌, ◌==◌, ◌≡◌}
use Rattle.box_file.proofs.words.cut.Goals as goal
use Rattle.box_file.proofs.words.cut.Goals.{After-position}

place : (c : After-position) → c.position.result ≡ position (λ b. b == c.args.at) c.args.bytes.now
place c = position_from_yields_List (λ b. b == c.args.at) _ _ c.position.result c.position.ensures.ran
    (YieldsList-from_slice c.args.bytes.now cc) (λ x b q k. search (rules, tests))

pub returns-in_err-index : goal.returns-in_err-index
returns-in_err-index c =
    rw (c.from_residual.ensures, ← place (goal.at.returns-in_err-index c).After-position, c.in_err-index.was) refl

pub returns : goal.returns
returns c =
    rw (← place (goal.at.returns c).After-position, c.in_ok-index.was, rest_from c.args.bytes.now (c.in_ok-index.index + 1), add-one) refl
