use Rattle.std.proofs.Common.{◌≡◌, ℕ, ◌+◌, ◌<◌, ◌≤◌, ◌-◌, ◌==◌, ◌&&◌, if◌then◌else◌, Bool, List, ◌++◌, ◌∙◌, length, take, drop}
use Rattle.std.proofs.Common.{length-take, refl, append_assoc, length-drop, arith}
use Rattle.std.proofs.lemmas.List.{take-append-drop}
use Rattle.std.proofs.Math.Seq.{take-length}
use Rattle.std.proofs.KnownBytes.{Appends-trans}
use Rattle.std.specs.Prelude.{nat_lt}
use Rattle.devices.specs.declared.failures.Failures.{Failures}
use Rattle.devices.specs.Counting.{one_more}
use Rattle.devices.proofs.whole.write_whole.Goals as goal

-- what a write took moves from the rest to what is done
moved_on : (bytes done rest : List ℕ) (n : ℕ) → bytes ≡ done ++ rest
    → bytes ≡ (done ++ take n rest) ++ take (length rest - n) (drop n rest)
moved_on bytes done rest n whole =
    let all = take-length (drop n rest) in
    rw (whole, ← length-drop n rest, all, append_assoc done (take n rest) (drop n rest), take-append-drop n rest) refl

-- a write that took some bytes isn't counted
took_some : (n : ℕ) (b : Bool) (x y : Failures) → 0 < n → (if (n == 0) && b then x else y) ≡ y
took_some n b x y some = grind arith

-- one more write took some of the rest
one_written : (n : ℕ) (rest : List ℕ) (before after start bytes : ℕ) → 0 < n → n ≤ length rest
    → after ≡ (if (n == 0) && nat_lt 0 (length rest) then before else one_more before)
    → before + length rest ≤ start + bytes → after + length (take (length rest - n) (drop n rest)) ≤ start + bytes
one_written n rest before after start bytes some fits counted few = grind (arith, length-take, length-drop, counted)

pub loop-rest-preserved : goal.loop-rest-preserved
loop-rest-preserved g c =
    let (done, whole, written) = c.loop-rest.invariant.done in record {
      done = (
        done ++ take c.in-Ok.count c.loop-rest.rest.now,
        moved_on _ done c.loop-rest.rest.now c.in-Ok.count whole,
        Appends-trans _ _ _ _ _ written c.in-Ok.ensures.bytes,
      );
      no_failure = c.in-Ok.ensures.counts ∙ took_some c.in-Ok.count _ _ _ (grind (arith, c.in-Ok.count-test))
          ∙ c.loop-rest.invariant.no_failure;
      writes = one_written c.in-Ok.count c.loop-rest.rest.now _ _ _ _ (grind (arith, c.in-Ok.count-test))
          c.in-Ok.ensures.bound c.in-Ok.ensures.writes c.loop-rest.invariant.writes;
      flushes = c.write.ensures.flushes ∙ c.loop-rest.invariant.flushes;
    }
