use Rattle.std.proofs.Common.{◌≡◌, ◌<◌, ◌∷◌, ◌++◌, [], length, map, sym, arith}
use Rattle.std.proofs.lemmas.List.{map_push}
use Rattle.token_reader.specs.Readers.{IsAfter, remaining}
use Rattle.token_reader.proofs.Loops.{length_ahead, one_more, all_read}
use Rattle.token_reader.proofs.productions.more.Given as given
use Rattle.token_reader.proofs.productions.more.Goals as goal

pub loop-part-init : goal.loop-part-init
loop-part-init g c = grind arith

-- The next part ends after this position, and within the tokens.
after_here : (g : given.Over) (c : goal.In_ok-push g)
    → IsAfter c.args.tokens.now c.loop-part.here c.in-Some.after
after_here g c = (rw c.in-Some.is at c.in_ok-part.ensures).1

pub loop-part-smaller : goal.loop-part-smaller
loop-part-smaller g c = let after = after_here g c in omega (arith, after.0, after.1)

pub loop-part-preserved : goal.loop-part-preserved
loop-part-preserved g c =
    let tokens = c.args.tokens.now in
    let after = after_here g c in
    let shorter : length (remaining tokens c.in-Some.after) < length (remaining tokens c.loop-part.here) =
    rw (length_ahead tokens c.in-Some.after, length_ahead tokens c.loop-part.here)
    (omega (arith, after.0, after.1)) in
    let pushed : map g.P.Production.tree c.push.new.self.items
    ≡ map g.P.Production.tree c.loop-part.found.items ++ g.P.Production.tree c.in-Some.part ∷ [] =
    rw c.in_ok-push.ensures.items (map_push _ c.loop-part.found.items c.in-Some.part) in
    record {
      read = rw pushed (one_more g.P.Production.read_at _ (map g.P.Production.tree c.loop-part.found.items)
          (remaining tokens c.args.at) (remaining tokens c.loop-part.here)
          (g.P.Production.tree c.in-Some.part, remaining tokens c.in-Some.after)
          (sym (rw c.in-Some.is at c.in_ok-part.ensures).0) shorter c.loop-part.invariant.read);
      after = omega (arith, after.0, c.loop-part.invariant.after);
      within = λ inside. after.1;
    }

pub returns-clause-read : goal.returns-clause-read
returns-clause-read g c =
    all_read g.P.Production.read_at (map g.P.Production.tree c.args.found.now.items)
    (map g.P.Production.tree c.loop-part.found.items) (remaining c.args.tokens.now c.args.at)
    (remaining c.args.tokens.now c.loop-part.here)
    (sym (rw c.in_default.is at c.in_ok-part.ensures).0) c.loop-part.invariant.read

pub returns-clause-within : goal.returns-clause-within
returns-clause-within g c = (c.loop-part.invariant.after, c.loop-part.invariant.within)
