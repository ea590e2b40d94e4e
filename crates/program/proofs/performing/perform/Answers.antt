-- The command line is read, and then parsed and run.
use Rattle.std.proofs.Common.{◌∙◌, ◌++◌, List, Ok, [], ◌∷◌, ap, inr, map, refl, string_bytes, subst}
use Rattle.clap.specs.declared.error.kind.ErrorKind.TheVariants.{OutOfMemory}
use Rattle.program.specs.Calls.{Text, errors_to_terminal, words}
use Rattle.program.specs.Performing.{ParsesAndRuns, status_line_calls}
use Rattle.program.specs.declared.status.Status.TheVariants.{Memory}
use Rattle.program.proofs.Chains.{HappenInOrder-append}
use Rattle.program.proofs.performing.perform.Goals as goal

pub returns-in-Err : goal.returns-in-Err
returns-in-Err g c = (
  words _ ∷ (status_line_calls c.of_words.result ++ []),
  (
    _,
    c.in-Err.ensures,
    HappenInOrder-append g.H.Host.happens _ _ _ (status_line_calls c.of_words.result) []
        c.end.ensures.0 refl,
  ),
  (words _ ∷ [], c.of_words.result, [], (c.of_words.ensures, refl), refl, c.end.ensures.1),
)

pub returns-in-Ok-slices_of : goal.returns-in-Ok-slices_of
returns-in-Ok-slices_of g c =
    let acted = c.parse_and_run.ensures in
    let ends = acted.2 in
    let terminal = c.errors_to_terminal-terminal.result in
    let texts = map string_bytes c.in-Ok.words.items in
    let given = c.in-Ok-slices_of.ensures ∙ ap (map string_bytes) c.deref.ensures.value in
    let same = ap (map (λ slice. slice.now)) c.deref-in-Ok-slices_of.ensures.value ∙ given in
    let Words : List Text → Type 0 = λ words. ParsesAndRuns terminal words ends.0 ends.1 ends.2 in (
      words (Ok texts) ∷ errors_to_terminal terminal ∷ acted.0,
      (_, c.in-Ok.ensures, (_, c.errors_to_terminal-terminal.ensures, acted.1)),
      (
        words (Ok texts) ∷ errors_to_terminal terminal ∷ ends.0,
        ends.1,
        ends.2,
        subst Words same ends.3,
        ap (λ calls. words (Ok texts) ∷ errors_to_terminal terminal ∷ calls) ends.4,
        ends.5,
      ),
    )

pub returns : goal.returns
returns g c = (
  words _ ∷ errors_to_terminal _ ∷ (status_line_calls Memory ++ []),
  (
    _,
    c.in-Ok.ensures,
    (
      _,
      c.errors_to_terminal-terminal.ensures,
      HappenInOrder-append g.H.Host.happens _ _ _ (status_line_calls Memory) []
          c.end-in-Err-slices_of.ensures.0 refl,
    ),
  ),
  (
    words _ ∷ errors_to_terminal _ ∷ [],
    Memory,
    [],
    inr (OutOfMemory, λ _. refl, (refl, refl), refl),
    refl,
    c.end-in-Err-slices_of.ensures.1,
  ),
)
