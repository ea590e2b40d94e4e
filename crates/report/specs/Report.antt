-- The report of a history (own): lines of its entries, lines of the rules' counters, totals. The verdicts
-- have the words of nft(8).
use Rattle.std.specs.Prelude.{ℕ, ◌+◌, ◌*◌, ◌==◌, ◌&&◌, Bool, true, false, cond, List, [], ◌∷◌, ◌++◌}
use Rattle.std.specs.Prelude.{length}
use Rattle.std.specs.Prelude.{count_by, sum_by, codes, Option, Some, None, slice_get, unwrap_or}
use Rattle.std.specs.List.{flat_map}
use Rattle.std.specs.Option.{option_map, option_and_then}
use Rattle.std.specs.Fmt.{decimal}
use Rattle.nft_tree.specs.declared.ruleset.Family.{Family}
use Rattle.nft_tree.specs.declared.ruleset.Family.TheVariants as families
use Rattle.nft_tree.specs.declared.chain.Policy.{Policy}
use Rattle.nft_tree.specs.declared.chain.Policy.TheVariants as policies
use Rattle.nft_tree.specs.declared.statement.CounterStart.{CounterStart}
use Rattle.nft_tree.specs.Tree as tree
use Rattle.nft_tree.specs.Tree.{Text, Statement, RuleTree, ChainTree, TableTree}
use Rattle.nft_tree.specs.TableItems.{chains_of, counter_in, numbered_from_one}
use Rattle.rule_meaning.specs.declared.event.StatementPosition.{StatementPosition}
use Rattle.rule_meaning.specs.declared.event.RuleVerdict.{RuleVerdict}
use Rattle.rule_meaning.specs.declared.event.RuleVerdict.TheVariants as decisions
use Rattle.rule_meaning.specs.declared.event.NatAction.{NatAction}
use Rattle.rule_meaning.specs.declared.event.NatAction.TheVariants as nat_actions
use Rattle.rule_meaning.specs.declared.event.Event.{Event}
use Rattle.rule_meaning.specs.declared.event.Event.TheVariants as events
use Rattle.history.specs.declared.outcome.Cause.{Cause}
use Rattle.history.specs.declared.outcome.Outcome.{Outcome}
use Rattle.history.specs.declared.outcome.Outcome.TheVariants.{Passed, Local, Dropped}
use Rattle.history.specs.Outcomes.{causes, report_word, is_passed, is_local, is_dropped_for}
use Rattle.conntrack.specs.Histories.{is_creation}
use Rattle.history.specs.Setup.{Setup}
use Rattle.history.specs.History.{Entry, live_in}

-- ---- words

-- a blank and a word; a blank and a number
abbrev pub and_word : Text → Text
and_word text = 32 ∷ text

abbrev pub and_number : ℕ → Text
and_number n = 32 ∷ decimal n

-- the end of a line
abbrev pub end : Text
end = 10 ∷ []

abbrev pub family_word : Family → Text
family_word families.Ip = codes "ip"
family_word families.Inet = codes "inet"

-- the family and the name of a chain's table, and the chain's name
abbrev pub chain_name : TableTree → ChainTree → Text
chain_name t c = family_word t.family ++ and_word t.name ++ and_word c.name

-- the chain of these numbers (from 0), with its table
abbrev pub chain_at : List TableTree → ℕ → ℕ → Option (TableTree × ChainTree)
chain_at rules table chain =
    option_and_then (λ t. option_map (λ c. (t, c)) (slice_get (chains_of t) chain)) (slice_get rules table)

-- a line about the chain of these numbers; none where there is no such chain
abbrev pub on_chain : List TableTree → ℕ → ℕ → (TableTree → ChainTree → Text) → Text
on_chain rules table chain line_on =
    unwrap_or (option_map (λ at. line_on at.0 at.1) (chain_at rules table chain)) []

-- ---- lines of entries

-- `KIND N FAMILY TABLE CHAIN`, what of the chain, and what is told of that
abbrev pub chain_line : Text → ℕ → TableTree → ChainTree → Text → Text → Text
chain_line kind n t c about told = kind ++ and_number n ++ and_word (chain_name t c) ++ about ++ told ++ end

-- the prefix of a log statement
abbrev pub prefix_in : Option Statement → Text
prefix_in (Some (tree.log (Some prefix))) = and_word prefix
prefix_in _ = []

abbrev pub statement_at : ChainTree → StatementPosition → Option Statement
statement_at c position =
    option_and_then (λ r. numbered_from_one r.statements position.statement) (numbered_from_one c.rules
    position.rule.rule)

-- `log N FAMILY TABLE CHAIN RULE`, and the prefix where there is one
abbrev pub log_line : ℕ → StatementPosition → TableTree → ChainTree → Text
log_line n position t c =
    chain_line (codes "log") n t c (and_number position.rule.rule) (prefix_in (statement_at c position))

-- the name of the table's chain of this number
abbrev pub target : TableTree → ℕ → Text
target t chain = unwrap_or (option_map (λ c. c.name) (slice_get (chains_of t) chain)) []

abbrev pub nat_word : NatAction → Text
nat_word (nat_actions.Source a ports) = codes "snat"
nat_word (nat_actions.Destination a port) = codes "dnat"
nat_word (nat_actions.Masquerade ports) = codes "masquerade"
nat_word (nat_actions.Redirect port) = codes "redirect"

abbrev pub verdict_words : TableTree → RuleVerdict → Text
verdict_words t decisions.Accept = codes "accept"
verdict_words t decisions.Drop = codes "drop"
verdict_words t decisions.Continue = codes "continue"
verdict_words t decisions.Return = codes "return"
verdict_words t (decisions.Jump chain) = codes "jump" ++ and_word (target t chain)
verdict_words t (decisions.Goto chain) = codes "goto" ++ and_word (target t chain)
verdict_words t (decisions.Translate nat_action) = nat_word nat_action

-- `trace N FAMILY TABLE CHAIN RULE VERDICT`
abbrev pub verdict_line : ℕ → ℕ → RuleVerdict → TableTree → ChainTree → Text
verdict_line n rule verdict t c =
    chain_line (codes "trace") n t c (and_number rule) (and_word (verdict_words t verdict))

abbrev pub policy_word : Policy → Text
policy_word policies.Accept = codes "accept"
policy_word policies.Drop = codes "drop"

-- `trace N FAMILY TABLE CHAIN policy POLICY`
abbrev pub policy_line : ℕ → Policy → TableTree → ChainTree → Text
policy_line n policy t c =
    chain_line (codes "trace") n t c (codes " policy") (and_word (policy_word policy))

-- the line of an event of record n: of a log always, of a verdict and a policy where it is traced
abbrev pub event_line : List TableTree → Bool → ℕ → Event → Text
event_line rules trace n (events.Logged position) =
    on_chain rules position.rule.table position.rule.chain (log_line n position)
event_line rules trace n (events.TookVerdict rule verdict) =
    cond trace (on_chain rules rule.table rule.chain (verdict_line n rule.rule verdict)) []
event_line rules trace n (events.TookPolicy chain policy) =
    cond trace (on_chain rules chain.table chain.chain (policy_line n policy)) []
event_line rules trace n _ = []

abbrev pub outcome_word : Outcome → Text
outcome_word (Passed interface) = codes "passed"
outcome_word Local = codes "local"
outcome_word (Dropped cause) = report_word cause

-- `trace N outcome OUTCOME`, the last line of an entry
abbrev pub outcome_line : Bool → ℕ → Outcome → Text
outcome_line trace n outcome =
    cond trace (codes "trace" ++ and_number n ++ codes " outcome" ++ and_word (outcome_word outcome) ++ end)
    []

-- the lines of the entry of record n
abbrev pub lines_of : List TableTree → Bool → ℕ → Entry → Text
lines_of rules trace n e = flat_map (event_line rules trace n) e.events ++ outcome_line trace n e.outcome

-- the lines of a history's entries, in the order of the records
abbrev pub entry_lines : List TableTree → Bool → List Entry → Text
entry_lines rules trace [] = []
entry_lines rules trace (e ∷ history) =
    entry_lines rules trace history ++ lines_of rules trace (length (e ∷ history)) e

-- ---- lines of counters

abbrev pub same_position : StatementPosition → StatementPosition → Bool
same_position a b =
    ((a.rule.table == b.rule.table) && (a.rule.chain == b.rule.chain))
    && ((a.rule.rule == b.rule.rule) && (a.statement == b.statement))

abbrev pub is_counted_at : StatementPosition → Event → Bool
is_counted_at position (events.Counted other) = same_position other position
is_counted_at position _ = false

-- how often an entry was counted at a position
abbrev pub counts_at : StatementPosition → Entry → ℕ
counts_at position e = count_by (is_counted_at position) e.events

-- packets and bytes counted there over a history; a packet counts its total length as received
abbrev pub packets : StatementPosition → List Entry → ℕ
packets position history = sum_by (counts_at position) history

abbrev pub bytes : StatementPosition → List Entry → ℕ
bytes position history = sum_by (λ e. counts_at position e * e.length) history

-- `counter FAMILY TABLE CHAIN RULE K packets P bytes B`, from its initial values on; it is its rule's Kth
-- counter
abbrev pub counter_line : List Entry → TableTree → ChainTree → StatementPosition → ℕ → CounterStart → Text
counter_line history t c position k start =
    codes "counter" ++ and_word (chain_name t c) ++ and_number position.rule.rule ++ and_number k
    ++ codes " packets" ++ and_number (start.packets + packets position history)
    ++ codes " bytes" ++ and_number (start.bytes + bytes position history) ++ end

-- the position of the next statement
abbrev pub next_position : StatementPosition → StatementPosition
next_position position = record position { statement = position.statement + 1 }

-- the line of a statement that is a counter, and the number of the next counter of its rule
abbrev pub line_if_counter : List Entry → TableTree → ChainTree → StatementPosition → ℕ
    → Option CounterStart → Text
line_if_counter history t c position k None = []
line_if_counter history t c position k (Some start) = counter_line history t c position k start

abbrev pub next_number : ℕ → Option CounterStart → ℕ
next_number k None = k
next_number k (Some start) = k + 1

abbrev pub statement_lines : List Entry → TableTree → ChainTree → StatementPosition → ℕ → List Statement
    → Text
statement_lines history t c position k [] = []
statement_lines history t c position k (s ∷ ss) =
    line_if_counter history t c position k (counter_in s)
    ++ statement_lines history t c (next_position position) (next_number k (counter_in s)) ss

-- the lines of a chain's rules from rule n on; of a table's chains; of a ruleset's tables
abbrev pub rule_lines : List Entry → TableTree → ChainTree → ℕ → ℕ → ℕ → List RuleTree → Text
rule_lines history t c table chain n [] = []
rule_lines history t c table chain n (r ∷ rs) =
    statement_lines history t c
    (record { rule = record { table = table; chain = chain; rule = n }; statement = 1 }) 1 r.statements
    ++ rule_lines history t c table chain (n + 1) rs

abbrev pub chain_lines : List Entry → TableTree → ℕ → ℕ → List ChainTree → Text
chain_lines history t table chain [] = []
chain_lines history t table chain (c ∷ cs) =
    rule_lines history t c table chain 1 c.rules ++ chain_lines history t table (chain + 1) cs

abbrev pub table_lines : List Entry → ℕ → List TableTree → Text
table_lines history table [] = []
table_lines history table (t ∷ ts) =
    chain_lines history t table 0 (chains_of t) ++ table_lines history (table + 1) ts

-- the counters, in the ruleset's order
abbrev pub counter_lines : List TableTree → List Entry → Text
counter_lines rules history = table_lines history 0 rules

-- ---- totals

-- a word and a number
abbrev pub line : Text → ℕ → Text
line name n = name ++ and_number n ++ end

abbrev pub bit : Bool → ℕ
bit false = 0
bit true = 1

-- how many entries of a history have this outcome
abbrev pub passed : List Entry → ℕ
passed history = count_by (λ e. is_passed e.outcome) history

abbrev pub local : List Entry → ℕ
local history = count_by (λ e. is_local e.outcome) history

abbrev pub dropped : Cause → List Entry → ℕ
dropped cause history = count_by (λ e. is_dropped_for cause e.outcome) history

-- how many began a connection
abbrev pub connections_begun : List Entry → ℕ
connections_begun history = count_by (λ e. is_creation e.tracked.change) history

abbrev pub drop_line : (Cause → ℕ) → Cause → Text
drop_line lost cause = line (codes "drop" ++ and_word (report_word cause)) (lost cause)

-- the totals: the records, of them forwarded, delivered and dropped by cause; the connections begun, and
-- those alive
abbrev pub number_lines : ℕ → ℕ → ℕ → (Cause → ℕ) → ℕ → ℕ → Bool → Text
number_lines records sent kept lost beginnings live torn =
    line (codes "records") records
    ++ line (codes "passed") sent
    ++ line (codes "local") kept
    ++ flat_map (drop_line lost) causes
    ++ line (codes "begun") beginnings
    ++ line (codes "live") live
    ++ line (codes "torn") (bit torn)

abbrev pub totals : List Entry → ℕ → Bool → Text
totals history live torn =
    number_lines (length history) (passed history) (local history) (λ cause. dropped cause history)
    (connections_begun history) live torn

-- ---- the whole

-- the lines after those of the last record, with so many connections alive
abbrev pub closing_lines : List TableTree → List Entry → ℕ → Bool → Text
closing_lines rules history live torn = counter_lines rules history ++ totals history live torn

-- the connections alive at the time of the last record are counted
abbrev pub report_text : Setup → Bool → List Entry → Bool → Text
report_text setup trace history torn =
    entry_lines setup.rules trace history
    ++ closing_lines setup.rules history (length (live_in setup history)) torn
