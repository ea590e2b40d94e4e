use Rattle.box_file.proofs.Names.{le-ltb, lt-ltb, number_in, refl}
use Rattle.box_file.proofs.idle.seconds.Goals as goal

pub returns-clause-small : goal.returns-clause-small
unfolding number_in
returns-clause-small c small =
    rw (c.unwrap_or.ensures, c.number.ensures, c.args.line.now.numeral, lt-ltb _ 4294967296 small) refl

pub returns-clause-large : goal.returns-clause-large
unfolding number_in
returns-clause-large c large =
    rw (c.unwrap_or.ensures, c.number.ensures, c.args.line.now.numeral, le-ltb _ 4294967296 large) refl
