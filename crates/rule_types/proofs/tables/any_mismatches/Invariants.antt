use Rattle.std.proofs.Common.{◌≡◌, drop, map}
use Rattle.std.specs.List.{list_any}
use Rattle.rule_types.proofs.tables.any_mismatches.Given as goal

-- the result is that for the remaining parts
abbrev pub invariant-loop-part : goal.invariant-loop-part
invariant-loop-part g l = list_any (g.T.Typed.mismatches_in l.names) (map g.T.Typed.tree (drop l.part-index l.parts))
    ≡ list_any (g.T.Typed.mismatches_in l.names) (map g.T.Typed.tree l.parts)
