use Rattle.report.proofs.Imports.{Bool, Text, [], and_number, append_assoc, bool_byte, drop_line, drops_in, false, flat_map, refl, true, ◌++◌, ◌∷◌, ◌≡◌}
use Rattle.std.specs.Prelude.{codes}
use Rattle.history.specs.Outcomes.{causes}
use Rattle.report.specs.Report.{bit}
use Rattle.report.proofs.Putting.{puts_as, puts_on}
use Rattle.report.proofs.total_lines.put_totals.Goals as goal

bit_is : (b : Bool) → bool_byte b ≡ bit b
bit_is true = refl
bit_is false = refl

-- three lines, the lines of the causes, and three lines
joined : (a b c drops x y z : Text)
    → (a ++ 10 ∷ (b ++ 10 ∷ (c ++ 10 ∷ []))) ++ (drops ++ (x ++ 10 ∷ (y ++ 10 ∷ (z ++ 10 ∷ []))))
    ≡ ((((((a ++ 10 ∷ []) ++ (b ++ 10 ∷ [])) ++ (c ++ 10 ∷ [])) ++ drops) ++ (x ++ 10 ∷ [])) ++ (y ++ 10 ∷ [])) ++ (z ++ 10 ∷ [])
joined a b c drops x y z = simp append_assoc

pub returns : goal.returns
returns g c =
    let t = c.args.totals.now in
    puts_as (puts_on c.put_all.ensures (puts_on c.put_drops.ensures c.put_all-2.ensures))
    (rw (c.from.ensures, c.from-2.ensures, c.from-3.ensures, c.from-4.ensures, c.from-5.ensures, c.from-6.ensures, bit_is)
    (joined (codes "records" ++ and_number t.records) (codes "passed" ++ and_number t.passed) (codes "local" ++ and_number t.local)
    (flat_map (drop_line (drops_in t.dropped.now)) causes) (codes "begun" ++ and_number t.begun) (codes "live" ++ and_number t.live)
    (codes "torn" ++ and_number (bit t.torn))))
