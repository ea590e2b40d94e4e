-- the tallies so far
use Rattle.report.proofs.Imports.{All, fresh_statement, map, statement, take, ◌≡◌}
use Rattle.report.proofs.Fresh.{FitsStart}
use Rattle.report.proofs.tallies.RuleTallies.new.Given as goal

abbrev pub invariant-loop-statement : goal.invariant-loop-statement
invariant-loop-statement l = record {
  are : l.statements.items ≡ map fresh_statement (map statement (take l.statement-index l.rule.statements.items));
  fit : All FitsStart l.statements.items;
}
