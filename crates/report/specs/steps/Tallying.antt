-- Counters before the first record, and after one more packet.
use Rattle.std.specs.Prelude.{ℕ, zero, suc, ◌+◌, ◌-◌, ◌^◌, min, List, [], ◌∷◌, map, Option, Some, None}
use Rattle.nft_tree.specs.declared.statement.CounterStart.{CounterStart}
use Rattle.nft_tree.specs.Tree.{Statement, RuleTree, ChainTree, TableTree}
use Rattle.nft_tree.specs.TableItems.{chains_of, counter_in}
use Rattle.rule_meaning.specs.declared.event.StatementPosition.{StatementPosition}
use Rattle.rule_meaning.specs.declared.event.Event.{Event}
use Rattle.rule_meaning.specs.declared.event.Event.TheVariants as events
use Rattle.report.specs.declared.tallies.Tally.{Tally}
use Rattle.report.specs.Representing.{Tallies}

-- ---- before the first record

abbrev pub started : Option CounterStart → Tally
started None = record { packets = 0; bytes = 0 }
started (Some start) = record { packets = start.packets; bytes = start.bytes }

abbrev pub fresh_statement : Statement → Tally
fresh_statement s = started (counter_in s)

abbrev pub fresh_rule : RuleTree → List Tally
fresh_rule r = map fresh_statement r.statements

abbrev pub fresh_chain : ChainTree → List (List Tally)
fresh_chain c = map fresh_rule c.rules

abbrev pub fresh_table : TableTree → List (List (List Tally))
fresh_table t = map fresh_chain (chains_of t)

abbrev pub fresh : List TableTree → Tallies
fresh rules = map fresh_table rules

-- ---- one more packet

-- the item of this number, from 0, is changed, if there is one
abbrev pub changed : {A : Type 0} → (A → A) → ℕ → List A → List A
changed f n [] = []
changed f zero (x ∷ xs) = f x ∷ xs
changed f (suc n) (x ∷ xs) = x ∷ changed f n xs

-- the same, by numbers from 1
abbrev pub changed_from_one : {A : Type 0} → (A → A) → ℕ → List A → List A
changed_from_one f zero xs = xs
changed_from_one f (suc n) xs = changed f n xs

abbrev pub GREATEST : ℕ
GREATEST = 2 ^ 128 - 1

-- one more packet of this length, saturating
abbrev pub raised : ℕ → Tally → Tally
raised length t = record { packets = min (t.packets + 1) GREATEST; bytes = min (t.bytes + length) GREATEST }

abbrev pub rule_counted : ℕ → ℕ → List Tally → List Tally
rule_counted length statement = changed_from_one (raised length) statement

abbrev pub chain_counted : ℕ → ℕ → ℕ → List (List Tally) → List (List Tally)
chain_counted length statement rule = changed_from_one (rule_counted length statement) rule

abbrev pub table_counted : ℕ → ℕ → ℕ → ℕ → List (List (List Tally)) → List (List (List Tally))
table_counted length statement rule chain = changed (chain_counted length statement rule) chain

abbrev pub counted : ℕ → StatementPosition → Tallies → Tallies
counted length at = changed (table_counted length at.statement at.rule.rule at.rule.chain) at.rule.table

abbrev pub counted_event : ℕ → Event → Tallies → Tallies
counted_event length (events.Counted at) tallies = counted length at tallies
counted_event length _ tallies = tallies

-- after these events
abbrev pub counted_all : ℕ → List Event → Tallies → Tallies
counted_all length [] tallies = tallies
counted_all length (e ∷ es) tallies = counted_all length es (counted_event length e tallies)
