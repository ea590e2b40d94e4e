-- The lines of counters, by their values.
use Rattle.std.specs.Prelude.{ℕ, ◌+◌, List, [], ◌∷◌, ◌++◌, Option, Some, None, codes, unwrap_or}
use Rattle.nft_tree.specs.declared.statement.CounterStart.{CounterStart}
use Rattle.nft_tree.specs.Tree.{Text, Statement, RuleTree, ChainTree, TableTree}
use Rattle.nft_tree.specs.TableItems.{chains_of, counter_in}
use Rattle.rule_meaning.specs.declared.event.StatementPosition.{StatementPosition}
use Rattle.report.specs.declared.tallies.Tally.{Tally}
use Rattle.report.specs.declared.tallies.Location.{Location}
use Rattle.report.specs.Report.{chain_name, and_word, and_number, end, next_position, next_number}
use Rattle.report.specs.Representing.{Tallies, tally_at}
use Rattle.report.specs.steps.Tallying.{started}

abbrev pub position_of : Location → StatementPosition
position_of at = record {
  rule = record { table = at.table; chain = at.chain; rule = at.rule };
  statement = at.statement;
}

-- the value of the statement at a position, zero where there is none
abbrev pub tally_or_zero : Tallies → StatementPosition → Tally
tally_or_zero tallies at = unwrap_or (tally_at tallies at) (started None)

abbrev pub tally_line : TableTree → ChainTree → ℕ → ℕ → Tally → Text
tally_line t c rule k tally =
    codes "counter" ++ and_word (chain_name t c) ++ and_number rule ++ and_number k ++ codes " packets"
    ++ and_number tally.packets ++ codes " bytes" ++ and_number tally.bytes ++ end

abbrev pub counter_text : Tallies → TableTree → ChainTree → StatementPosition → ℕ → Option CounterStart
    → Text
counter_text tallies t c at k None = []
counter_text tallies t c at k (Some start) = tally_line t c at.rule.rule k (tally_or_zero tallies at)

abbrev pub statements_text : Tallies → TableTree → ChainTree → StatementPosition → ℕ → List Statement → Text
statements_text tallies t c at k [] = []
statements_text tallies t c at k (s ∷ ss) =
    counter_text tallies t c at k (counter_in s)
    ++ statements_text tallies t c (next_position at) (next_number k (counter_in s)) ss

abbrev pub first_of : ℕ → ℕ → ℕ → StatementPosition
first_of table chain n = record { rule = record { table = table; chain = chain; rule = n }; statement = 1 }

-- the lines of a list's items, each by its number, from n on
abbrev pub numbered_lines : {A : Type 0} → (ℕ → A → Text) → ℕ → List A → Text
numbered_lines line n [] = []
numbered_lines line n (x ∷ xs) = line n x ++ numbered_lines line (n + 1) xs

abbrev pub rules_text : Tallies → TableTree → ChainTree → ℕ → ℕ → ℕ → List RuleTree → Text
rules_text tallies t c table chain =
    numbered_lines (λ n r. statements_text tallies t c (first_of table chain n) 1 r.statements)

abbrev pub chains_text : Tallies → TableTree → ℕ → ℕ → List ChainTree → Text
chains_text tallies t table = numbered_lines (λ n c. rules_text tallies t c table n 1 c.rules)

abbrev pub tables_text : Tallies → ℕ → List TableTree → Text
tables_text tallies = numbered_lines (λ n t. chains_text tallies t n 0 (chains_of t))
