-- Comparing a file to write with other files.
use Rattle.std.proofs.Common.{◌≡◌, ◌<◌, ◌+◌, ◌++◌, ℕ, List, [], ◌∷◌, Option, Some, Result, refl, sym, subst, map, drop, length}
use Rattle.std.proofs.Math.ListN.{get_or}
use Rattle.std.proofs.Math.Numerals.{suc-eq-add-one}
use Rattle.std.proofs.Math.Seq.{drop-cons}
use Rattle.std.specs.Bool.{⊤}
use Rattle.std.specs.Borrow.{Bor}
use Rattle.std.specs.declared.io.Error.{Error}
use Rattle.program.specs.Calls.{Call, Text, identify}
use Rattle.command_line.specs.CommandLine.{name_of_file}
use Rattle.command_line.specs.declared.tasks.ReplayPaths.{ReplayPaths}
use Rattle.program.specs.Replaying.{Compares, Continues, CreatesFile, CreatesReport, ChecksOutputPath, compared}
use Rattle.program.specs.declared.identity.FileIdentity.{FileIdentity}
use Rattle.program.specs.declared.status.Status.{Status}
use Rattle.program.specs.declared.status.Status.TheVariants.{SameReport}

-- the path that is compared is the first of those that are left
pub looks-at : {I O A : Type 0} (text : A → Text) (same : Status) (file : FileIdentity) (items : List A) (n : ℕ)
    (d : A) (answer : Result FileIdentity Error) (found : Result ⊤ Status) (later : List (Call I O))
    (verdict : Result ⊤ Status) → n < length items → found ≡ compared same file answer
    → Continues found (Compares same file (map text (drop (n + 1) items))) later verdict
    → Compares same file (map text (drop n items)) (identify (text (get_or items n d)) answer ∷ later) verdict
looks-at {A = A} text same file items n d answer found later verdict within is next =
    let Left : List A → Type 0 = λ left. Compares same file (map text left)
    (identify (text (get_or items n d)) answer ∷ later) verdict in
    let Goes : Result ⊤ Status → Type 0 = λ r. Continues r (Compares same file (map text (drop (n + 1) items)))
    later verdict in
    let Rest : ℕ → Type 0 = λ m. Continues (compared same file answer)
    (Compares same file (map text (drop m items))) later verdict in
    subst Left (sym (drop-cons items n d within)) (refl, subst Rest (sym (suc-eq-add-one n)) (subst Goes is next))

-- the report's file is created, or not, after the comparisons
pub made-by : {I O : Type 0} (report : Option (Bor Text)) (file : Bor Text) (paths : ReplayPaths)
    (looks : List (Call I O)) (verdict : Result ⊤ Status) (later : List (Call I O))
    (answer : Result (Option O) Status) → report ≡ Some file
    → ChecksOutputPath SameReport file.now (paths.output.now ∷ []) looks verdict
    → CreatesFile file.now verdict later answer → CreatesReport (name_of_file report) paths (looks ++ later)
    answer
made-by {O = O} report file paths looks verdict later answer is looked made =
    subst (λ (r : Option (Bor Text)). CreatesReport {O = O} (name_of_file r) paths (looks ++ later) answer)
    (sym is) (looks, verdict, later, looked, refl, made)
