-- Loop invariant: the comparisons so far, and the paths that are left.
use Rattle.std.proofs.Common.{List, Result, ◌++◌, map, drop}
use Rattle.std.specs.Bool.{⊤}
use Rattle.program.specs.Calls.{Call, HappenInOrder}
use Rattle.program.specs.Replaying.{Compares}
use Rattle.program.specs.declared.status.Status.{Status}
use Rattle.program.proofs.replaying.check_output_path.Given as goal

abbrev pub invariant-loop-other : goal.invariant-loop-other
invariant-loop-other g l =
    let I = g.row.H-Input.Denot in
    let O = g.row.H-Output.Denot in
    (calls : List (Call I O)) × HappenInOrder g.H.Host.happens l.initial.host calls l.host
    × ((later : List (Call I O)) (verdict : Result ⊤ Status)
    → Compares l.same l.file (map (λ other. other.now) (drop l.other-index l.others)) later verdict
    → Compares l.same l.file (map (λ other. other.now) l.others) (calls ++ later) verdict)
