use Rattle.std.proofs.Common.{◌≡◌, map, length}
use Rattle.nft_tree.specs.TreeViews.{statement}
use Rattle.rule_check.specs.Chains.{has_statement_after_terminal}
use Rattle.rule_check.proofs.terminal_statements.has_statement_after_terminal.Given as goal

abbrev pub invariant-loop-rest : goal.invariant-loop-rest
invariant-loop-rest l = has_statement_after_terminal (map statement l.statements) ≡ has_statement_after_terminal (map statement l.rest)

abbrev pub decreases-loop-rest : goal.decreases-loop-rest
decreases-loop-rest l = length l.rest
