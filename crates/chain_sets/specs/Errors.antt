-- Why the ways through a chain aren't told. (own)
use Rattle.packet_sets.specs.declared.fault.SetError.{SetError}
use Rattle.packet_sets.specs.declared.fault.SetError.TheVariants as sets
use Rattle.chain_sets.specs.declared.fault.WalkError.{WalkError}
use Rattle.chain_sets.specs.declared.fault.WalkError.TheVariants.{TooLarge, Memory}

abbrev pub walk_error : SetError → WalkError
walk_error sets.TooLarge = TooLarge
walk_error sets.Memory = Memory
