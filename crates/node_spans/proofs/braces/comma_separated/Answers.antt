use Rattle.std.proofs.Common.{◌≡◌, ◌-◌, [], ◌∷◌, append_assoc, drop, inl, inr, length, refl, sym, ap, ◌∙◌, arith}
use Rattle.std.proofs.lemmas.List.{append-nil}
use Rattle.token_reader.specs.Readers.{remaining}
use Rattle.token_reader.specs.Repeats.{without_newlines}
use Rattle.node_spans.specs.declared.token_range.TokenRange.{TokenRange}
use Rattle.node_spans.proofs.Lists.{length_ahead}
use Rattle.node_spans.proofs.Newlines.{part_read, remaining_on}
use Rattle.node_spans.proofs.braces.comma_separated.Goals as goal

pub returns-in_default-after_punctuator : goal.returns-in_default-after_punctuator
returns-in_default-after_punctuator g c =
    let read = rw c.in-Some.is at c.in_ok-_part.ensures in
    let it = part_read g.P.Production.read_at c.args.tokens.now c.args.inner.now c.loop-found.place
    c.loop-found.here c.next_token-first.result c.in-Some.end c.after_tokens-last.result
    (g.P.Production.tree c.in-Some._part) c.loop-found.invariant.same c.next_token-first.ensures.here
    c.next_token-first.ensures.within.0 c.after_tokens-last.ensures.read c.after_tokens-last.ensures.within.0
    c.after_tokens-last.ensures.within.1 read.1 read.0 in
    let range : TokenRange = record { first = c.next_token-first.result; end = c.after_tokens-last.result } in
    let all = c.loop-found.invariant.behind (range ∷ [])
    (it.0, inl (rw it.1 (sym c.in_default-after_punctuator.ensures.read), refl)) in
    rw c.in_ok-push.ensures.items all

pub loop-found-preserved : goal.loop-found-preserved
loop-found-preserved g c =
    let tokens = c.args.tokens.now in
    let inner = c.args.inner.now in
    let read = rw c.in-Some.is at c.in_ok-_part.ensures in
    let it = part_read g.P.Production.read_at tokens inner c.loop-found.place
    c.loop-found.here c.next_token-first.result c.in-Some.end c.after_tokens-last.result
    (g.P.Production.tree c.in-Some._part) c.loop-found.invariant.same c.next_token-first.ensures.here
    c.next_token-first.ensures.within.0 c.after_tokens-last.ensures.read c.after_tokens-last.ensures.within.0
    c.after_tokens-last.ensures.within.1 read.1 read.0 in
    let end = c.in-Some.end in
    let next = c.in-Some-after_punctuator.next in
    let after = c.in-Some-after_punctuator.ensures.within in
    let range : TokenRange = record { first = c.next_token-first.result; end = c.after_tokens-last.result } in
    let same : without_newlines (remaining tokens c.after_tokens-place.result) ≡ remaining inner next =
    c.after_tokens-place.ensures.read ∙ ap (drop (next - end)) it.1
    ∙ remaining_on inner end next (omega (arith, after.0)) in
    record {
      same = same;
      within = c.after_tokens-place.ensures.within.1;
      inside = after.1;
      behind = λ others more.
          rw (c.in_ok-push.ensures.items, append_assoc c.loop-found.found.items (range ∷ []) others)
          (c.loop-found.invariant.behind (range ∷ others) (
            it.0,
            inr (
              c.after_tokens-place.result,
              rw (it.1, same) (sym c.in-Some-after_punctuator.ensures.read),
              omega (arith, c.after_tokens-place.ensures.within.0),
              omega (arith, ap length same, ap length it.1, length_ahead inner next, length_ahead inner end, after.0),
              more,
            ),
          ));
    }

pub returns : goal.returns
returns g c =
    rw append-nil at (c.loop-found.invariant.behind []
    (rw c.loop-found.invariant.same (sym (rw c.in_default.is at c.in_ok-_part.ensures).0)))
