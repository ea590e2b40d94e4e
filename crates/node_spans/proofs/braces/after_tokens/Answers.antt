use Rattle.std.proofs.Common.{drop, length, ap, ◌∙◌, arith}
use Rattle.std.proofs.lemmas.List.{drop-drop, length-drop}
use Rattle.token_reader.specs.Readers.{remaining}
use Rattle.token_reader.specs.Repeats.{without_newlines}
use Rattle.node_spans.proofs.Lists.{length_ahead}
use Rattle.node_spans.proofs.Newlines.{no_more_without}
use Rattle.node_spans.proofs.braces.after_tokens.Goals as goal

pub loop-step-preserved : goal.loop-step-preserved
loop-step-preserved c =
    let tokens = c.args.tokens.now in
    let step = c.loop-step._step in
    let all = without_newlines (remaining tokens c.args.at) in
    let here = c.next_token-here.result in
    record {
      read = c.next_token-here.ensures.after ∙ ap (drop 1) c.loop-step.invariant.read ∙ drop-drop 1 step all;
      after = omega (arith, c.next_token-here.ensures.within.0, c.loop-step.invariant.after);
      within = omega (
        arith,
        c.loop-step-test.true,
        c.requires.enough,
        ap length c.next_token-here.ensures.here,
        ap length c.loop-step.invariant.read,
        length-drop step all,
        no_more_without (remaining tokens here),
        length_ahead tokens here,
      );
    }
