use Rattle.lowering.specs.Lowered.{HasDeclared}
use Rattle.compiler.proofs.TableLaws.{ChainsSoFar}
use Rattle.compiler.proofs.tables.add_chains.Given as goal

abbrev pub invariant-loop-place : goal.invariant-loop-place
invariant-loop-place l = record {
  placed : ChainsSoFar l.network l.table l.names l.place l.code;
  declared : HasDeclared l.network l.names l.code.lookups;
}
