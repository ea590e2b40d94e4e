use Rattle.box_file.proofs.Names.{arith, ends_word, ◌<◌}
use Rattle.box_file.proofs.WordLaws.{place_within, rest_at, no_word_in, word_in}
use Rattle.box_file.proofs.words.word.Goals as goal

pub returns-then-length-eq0 : goal.returns-then-length-eq0
returns-then-length-eq0 c = no_word_in c.args.line.now c.blanks.result c.word_length-length.result c.blanks.ensures
    c.word_length-length.ensures c.if-length-eq0.true

pub split_at-requires : goal.split_at-requires
split_at-requires c = omega (arith, place_within ends_word (rest_at c.args.line.now c.blanks.result), c.word_length-length.ensures)

pub returns : goal.returns
returns c =
    let some : 0 < c.word_length-length.result = omega arith in
    word_in c.args.line.now c.blanks.result c.word_length-length.result c.blanks.ensures c.word_length-length.ensures
    some _ _ c.split_at.ensures.front c.split_at.ensures.back
