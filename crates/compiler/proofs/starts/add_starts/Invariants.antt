use Rattle.compiler.proofs.Names.{Hook, hook_starts, starts_of, take, ◌≡◌}
use Rattle.compiler.proofs.starts.add_starts.Given as goal

-- the starts so far
abbrev pub invariant-loop-base : goal.invariant-loop-base
invariant-loop-base l = record {
  tables : l.code.tables ≡ l.fn.code.tables;
  starts : (hook : Hook) → starts_of l.code hook ≡ hook_starts hook (take l.base-index l.base-items);
}
