use Rattle.packet_sets.proofs.SetLaws.{keeps_trans}
use Rattle.packet_sets.proofs.diagrams.Diagrams.within.Goals as goal

pub returns-in_err-most-clause-keeps : goal.returns-in_err-most-clause-keeps
returns-in_err-most-clause-keeps c = keeps_trans c.args.self.now c.at_least.new.self c.at_most.new.self c.in_ok-least.ensures.keeps c.in_err-most.ensures.keeps

pub returns-clause-keeps : goal.returns-clause-keeps
returns-clause-keeps c =
    keeps_trans c.args.self.now c.at_most.new.self c.and.new.self (keeps_trans c.args.self.now c.at_least.new.self c.at_most.new.self
    c.in_ok-least.ensures.keeps c.in_ok-most.ensures.keeps)
    c.and.ensures.keeps
