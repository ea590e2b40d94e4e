use Rattle.compiler.proofs.Names.{AreTableCodes, take}
use Rattle.compiler.proofs.tables.add_tables.Given as goal

abbrev pub invariant-loop-number : goal.invariant-loop-number
invariant-loop-number l = AreTableCodes l.network (take l.number l.names) l.codes.items
