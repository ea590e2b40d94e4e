-- Each return gives its comparisons.
use Rattle.std.proofs.Common.{[], ◌∷◌, ◌++◌, refl}
use Rattle.std.proofs.lemmas.List.{append_assoc, drop_all}
use Rattle.std.proofs.lemmas.Result.{err_from_is_err_and}
use Rattle.program.specs.Calls.{identify}
use Rattle.program.proofs.Chains.{HappenInOrder-append}
use Rattle.program.proofs.Looks.{looks-at}
use Rattle.program.proofs.replaying.check_output_path.Goals as goal

pub returns-in-Err : goal.returns-in-Err
returns-in-Err g c = (identify _ _ ∷ [], (_, c.in-Err.ensures, refl), (refl, c.ignore_not_found.ensures))

pub loop-other-init : goal.loop-other-init
loop-other-init g c = ([], refl, λ _ _ on. on)

pub returns-in_err-compare : goal.returns-in_err-compare
returns-in_err-compare g c =
    let p = err_from_is_err_and c.from_residual.result c.from_residual.ensures.1 in
    let before = c.loop-other.invariant in
    let looked = c.in_err-compare.ensures in
    let calls = before.0 ++ identify _ looked.0 ∷ [] in
    rw p.1 rw p.2 (
      identify _ _ ∷ calls,
      (_, c.in-Ok.ensures, HappenInOrder-append g.H.Host.happens _ _ _ before.0 _ before.1 (_, looked.1, refl)),
      (
        refl,
        before.2 _ _ (looks-at (λ other. other.now) _ _ _ _ _ _ _ [] _ c.loop-other-test.true looked.2
            (refl, refl)),
      ),
    )

pub loop-other-preserved : goal.loop-other-preserved
loop-other-preserved g c =
    let before = c.loop-other.invariant in
    let looked = c.in_ok-compare.ensures in (
      before.0 ++ identify _ looked.0 ∷ [],
      HappenInOrder-append g.H.Host.happens _ _ _ before.0 _ before.1 (_, looked.1, refl),
      λ later verdict on. rw (append_assoc before.0 (identify _ looked.0 ∷ []) later)
          (before.2 _ _ (looks-at (λ other. other.now) _ _ _ _ _ _ _ later _ c.loop-other-test.true looked.2 on)),
    )

pub returns : goal.returns
returns g c =
    let looked = c.loop-other.invariant in (
      identify _ _ ∷ looked.0 ++ [],
      (_, c.in-Ok.ensures, HappenInOrder-append g.H.Host.happens _ _ _ looked.0 [] looked.1 refl),
      (refl, looked.2 [] _ (rw (drop_all c.loop-other.other-index _ c.loop-other-test.false) refl)),
    )
