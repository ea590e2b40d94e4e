use Rattle.std.proofs.Common.{length, refl, subst, sym, ◌<◌}
use Rattle.std.specs.List.{All}
use Rattle.std.proofs.lemmas.List.Elements.{All-push}
use Rattle.set_lines.specs.steps.Parts.{IsAdded, IsWay}
use Rattle.set_lines.proofs.WayLaws.{added_at, added_push, in_one, way_of}
use Rattle.set_lines.proofs.ways.add.Goals as goal

pub returns-in_default-clause-ways : goal.returns-in_default-clause-ways
returns-in_default-clause-ways c = λ d set field all is.
    subst (λ xs. All (IsWay d set field) xs) (sym c.in_ok-push.ensures.items)
    (All-push (IsWay d set field) c.args.ways.now.items _ all
    (way_of d set field c.args.piece (record { ranges = c.in_ok-ranges.ranges; rest = c.args.piece.rest }) is refl
    (in_one c.in_ok-ranges.ranges.items c.args.piece.numbers c.in_ok-ranges.ensures.items)))

pub returns-in_default-clause-added : goal.returns-in_default-clause-added
returns-in_default-clause-added c = λ n.
    subst (λ xs. IsAdded c.args.ways.now.items xs c.args.piece n) (sym c.in_ok-push.ensures.items)
    (added_push c.args.ways.now.items (record { ranges = c.in_ok-ranges.ranges; rest = c.args.piece.rest }) c.args.piece n
    (in_one c.in_ok-ranges.ranges.items c.args.piece.numbers c.in_ok-ranges.ensures.items n))

pub returns-clause-added : goal.returns-clause-added
returns-clause-added c = λ n.
    let place = c.in-Some.ensures in
    added_at c.args.ways.now.items c.in-Some.place c.index_mut.result.now _ c.args.piece n
    (subst (λ xs. c.in-Some.place < length xs) c.deref.ensures.value place.below) c.index_mut.ensures.value (c.in_ok-add_range.ensures n)
