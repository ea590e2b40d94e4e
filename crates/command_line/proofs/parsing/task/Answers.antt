use Rattle.std.proofs.Common.{◌≡◌, refl, sym, true, true≢false, map, ◌∙◌}
use Rattle.command_line.proofs.Requested.{contradicted, has_read, refused, task_requested, words_pass}
use Rattle.clap.proofs.TakesLemmas.{passed_up}
use Rattle.clap.specs.Words.{found_of, kind_of}
use Rattle.clap.specs.declared.error.kind.ErrorKind.TheVariants.{OutOfMemory}
use Rattle.command_line.specs.CommandLine.{is_well_formed}
use Rattle.command_line.proofs.parsing.task.Goals as goal

pub returns-in-Some-clause-requested : goal.returns-in-Some-clause-requested
returns-in-Some-clause-requested c =
    task_requested _ _ (found_of c.unwrap.result.1.now) (has_read _ (map (λ w. w.now) c.args.words.now) c.in_ok-matches.matches
    c.subcommand.result c.unwrap.result (c.in_ok-program.ensures refl) c.in_ok-matches.ensures.kinds c.in_ok-matches.ensures.matches
    c.unwrap.ensures c.subcommand.ensures.name c.subcommand.ensures.rows) c.in-Some.task c.in-Some.ensures

pub returns-clause-refused : goal.returns-clause-refused
returns-clause-refused c =
    let got = has_read _ (map (λ w. w.now) c.args.words.now) c.in_ok-matches.matches
    c.subcommand.result c.unwrap.result (c.in_ok-program.ensures refl) c.in_ok-matches.ensures.kinds c.in_ok-matches.ensures.matches
    c.unwrap.ensures c.subcommand.ensures.name c.subcommand.ensures.rows in
    λ formed. absurd (true≢false (sym formed ∙ contradicted _ _ (found_of c.unwrap.result.1.now) got c.in-None.ensures))

pub returns-in_err-matches-clause-refused : goal.returns-in_err-matches-clause-refused
returns-in_err-matches-clause-refused c =
    passed_up c.from_residual-in_err-matches.result c.in_err-matches.field-0.0
    (λ e. is_well_formed (map (λ w. w.now) c.args.words.now) ≡ true → kind_of e ≡ OutOfMemory)
    c.from_residual-in_err-matches.ensures.1
    (λ formed. refused _ _ c.in_err-matches.field-0.0 (c.in_ok-program.ensures refl) c.in_err-matches.ensures.kinds
    (words_pass (map (λ w. w.now) c.args.words.now) formed))
