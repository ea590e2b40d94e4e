use Rattle.box_file.proofs.BoxLaws.{one_plant, one_fault, box_or_fault}
use Rattle.box_file.proofs.laws.one_box.Goals as goal

pub returns : goal.returns
returns c = record { one = one_plant; one_fault = one_fault; faultless = box_or_fault }
