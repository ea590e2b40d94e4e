use Rattle.report.proofs.Imports.{All, All-push, arith, common_steps}
use Rattle.report.proofs.Fresh.{FitsStart}
use Rattle.report.proofs.tallies.TableTallies.new.Goals.{in-Some+in_ok-new+in_ok-push, in_default}
use Rattle.report.proofs.tallies.TableTallies.new.Goals as goal

pub loop-item-preserved : goal.loop-item-preserved
loop-item-preserved c = record {
  are = grind (arith, common_steps);
  fit = elim c.match-chain.branch [
    | in-Some+in_ok-new+in_ok-push w ↦ rw w.chains-is (rw w.in_ok-push.ensures.items (All-push (All (All FitsStart)) _ _
        c.loop-item.invariant.fit w.in_ok-new.ensures.fits))
    | in_default w ↦ rw w.chains-is c.loop-item.invariant.fit
  ];
}
