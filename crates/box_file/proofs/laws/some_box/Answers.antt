use Rattle.box_file.proofs.BoxLaws.{some_answer}
use Rattle.box_file.proofs.laws.some_box.Goals as goal

pub returns : goal.returns
returns c = some_answer
