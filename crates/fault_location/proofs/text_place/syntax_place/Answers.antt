use Rattle.fault_location.proofs.text_place.syntax_place.Goals as goal

pub returns-in-None-word : goal.returns-in-None-word
returns-in-None-word c = c.begun_place.ensures c.args.fault
