use Rattle.std.proofs.Common.{[], ◌∷◌, append_assoc, inr, refl, sym, arith}
use Rattle.std.proofs.lemmas.List.{append-nil}
use Rattle.node_spans.specs.declared.token_range.TokenRange.{TokenRange}
use Rattle.node_spans.proofs.Lists.{length_ahead}
use Rattle.node_spans.proofs.reading.ranges.Goals as goal

pub loop-found-preserved : goal.loop-found-preserved
loop-found-preserved g c = λ others more.
    let read = rw c.in-Some.is at c.in_ok-_part.ensures in
    let range : TokenRange = record { first = c.loop-found.here; end = c.in-Some.end } in
    let tokens = c.args.tokens.now in
    let all = c.loop-found.invariant (range ∷ others) (
      record {
        ahead = omega arith;
        same = refl;
        some = read.1.0;
        within = read.1.1;
        shorter = omega (arith, length_ahead tokens c.loop-found.here, length_ahead tokens c.in-Some.end, read.1);
        part = g.P.Production.tree c.in-Some._part;
        found = sym read.0;
      },
      inr (
        c.in-Some-after.next,
        sym c.in-Some-after.ensures.read,
        c.in-Some-after.ensures.within,
        omega (
          arith,
          length_ahead tokens c.in-Some-after.next,
          length_ahead tokens c.in-Some.end,
          c.in-Some-after.ensures.within,
        ),
        more,
      ),
    ) in
    rw (c.in_ok-push.ensures.items, append_assoc c.loop-found.found.items (range ∷ []) others) all

pub returns : goal.returns
returns g c =
    rw append-nil at (c.loop-found.invariant [] (sym (rw c.in_default.is at c.in_ok-_part.ensures).0))
