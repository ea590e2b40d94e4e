use Rattle.box_file.proofs.Names.{YieldsList-from_slice, ends_word, position_from_yields_List, rules, tests, ◌∙◌}
use Rattle.box_file.proofs.WordLaws.{place_or_end}
use Rattle.box_file.proofs.words.word_length.Goals as goal

pub returns : goal.returns
returns c = c.unwrap_or.ensures ∙ place_or_end ends_word c.args.line.now c.position.result
    (position_from_yields_List ends_word _ _ c.position.result c.position.ensures.ran
    (YieldsList-from_slice c.args.line.now cc) (λ x b q k. search (rules, tests)))
