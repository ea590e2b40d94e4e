-- Errors of sets and of ways, as those of what is told.
use Rattle.packet_sets.specs.declared.fault.SetError.{SetError}
use Rattle.packet_sets.specs.declared.fault.SetError.TheVariants as sets
use Rattle.chain_sets.specs.declared.fault.WalkError.{WalkError}
use Rattle.chain_sets.specs.declared.fault.WalkError.TheVariants as ways
use Rattle.rule_reach.specs.declared.answers.ReachError.{ReachError}
use Rattle.rule_reach.specs.declared.answers.ReachError.TheVariants.{TooDeep, TooLarge, Memory}

abbrev pub of_sets : SetError → ReachError
of_sets sets.TooLarge = TooLarge
of_sets sets.Memory = Memory

abbrev pub of_ways : WalkError → ReachError
of_ways ways.TooLarge = TooLarge
of_ways ways.TooDeep = TooDeep
of_ways ways.Memory = Memory
