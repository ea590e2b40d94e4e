-- The end of a report is that of each history that it represents.
use Rattle.report.proofs.Imports.{Bool, ChainTree, CounterStart, Entry, IsReportOf, List, None, Note, Option}
use Rattle.report.proofs.Imports.{ReportState, Some, StatementPosition, TableTree, Tallies, Text, [], ap, append_assoc, arith, chains_of}
use Rattle.report.proofs.Imports.{counter_at, counter_in, counter_text, drops_in, drops_of, entry_lines, flat_map, length, next_number, next_position}
use Rattle.report.proofs.Imports.{note_line, numbered_lines, option_and_then, refl, slice_get, statements_text, suc, sym, tables_text, tally_at}
use Rattle.report.proofs.Imports.{tally_of, tally_or_zero, ℕ, ◌++◌, ◌+◌, ◌∙◌, ◌∷◌, ◌≡◌}
use Rattle.std.proofs.Common.{add-zero}
use Rattle.std.specs.Prelude.{unwrap_or}
use Rattle.nft_tree.specs.Tree.{RuleTree, Statement}
use Rattle.report.specs.Report.{chain_lines, closing_lines, counter_lines, dropped, line_if_counter}
use Rattle.report.specs.Report.{number_lines, rule_lines, statement_lines, table_lines, totals}
use Rattle.report.specs.steps.Tallying.{started}
use Rattle.report.specs.steps.TallyLines.{first_of}
use Rattle.report.specs.steps.Totals.{rest_text}

-- ---- the lines of counters

-- the value of the counter found there
abbrev CountersAre : Tallies → List Entry → StatementPosition → Option CounterStart → Type 0
CountersAre tallies history at found = (start : CounterStart) → found ≡ Some start
    → tally_or_zero tallies at ≡ tally_of start at history

statements_written : (tallies : Tallies) (history : List Entry) (t : TableTree) (c : ChainTree) (at : StatementPosition)
    (k : ℕ) (ss : List Statement)
    → ((i : ℕ) (p : StatementPosition) → p.rule ≡ at.rule → p.statement ≡ at.statement + i
    → CountersAre tallies history p (option_and_then counter_in (slice_get ss i)))
    → statements_text tallies t c at k ss ≡ statement_lines history t c at k ss
statements_written tallies history t c at k [] stands = refl
statements_written tallies history t c at k (s ∷ ss) stands =
    let here = stands 0 at refl (sym (add-zero at.statement)) in
    let first : counter_text tallies t c at k (counter_in s) ≡ line_if_counter history t c at k (counter_in s) = grind (arith, here) in
    let others = statements_written tallies history t c (next_position at) (next_number k (counter_in s)) ss
    (λ i p same n. stands (suc i) p same (omega (arith, n))) in
    rw (first, others)

-- lines by numbers are those that a recursion has, where each item has the same lines
numbered_same : {A : Type 0} (line line' : ℕ → A → Text) (lines : ℕ → List A → Text) → ((n : ℕ) → lines n [] ≡ [])
    → ((n : ℕ) (x : A) (xs : List A) → lines n (x ∷ xs) ≡ line' n x ++ lines (n + 1) xs) → (n : ℕ) (xs : List A)
    → ((i m : ℕ) (x : A) → m ≡ n + i → slice_get xs i ≡ Some x → line m x ≡ line' m x)
    → numbered_lines line n xs ≡ lines n xs
numbered_same line line' lines none more n [] same = sym (none n)
numbered_same line line' lines none more n (x ∷ xs) same =
    let first = same 0 n x (sym (add-zero n)) refl in
    let others = numbered_same line line' lines none more (n + 1) xs (λ i m y is. same (suc i) m y (omega (arith, is))) in
    cc (first, others, more n x xs)

-- the counter of a statement of a rule of a chain of a table
counter_found : (rules : List TableTree) (p : StatementPosition) (t : TableTree) (c : ChainTree) (r : RuleTree)
    (start : CounterStart) (i j k l : ℕ) → p.rule.table ≡ 0 + i → p.rule.chain ≡ 0 + j → p.rule.rule ≡ 1 + k
    → p.statement ≡ 1 + l → slice_get rules i ≡ Some t → slice_get (chains_of t) j ≡ Some c → slice_get c.rules k ≡ Some r
    → option_and_then counter_in (slice_get r.statements l) ≡ Some start → counter_at rules p ≡ Some start
counter_found rules p t c r start i j k l table chain rule statement in_rules in_table in_chain is =
    let a : p.rule.table ≡ i = omega (arith, table) in
    let b : p.rule.chain ≡ j = omega (arith, chain) in
    let d : p.rule.rule ≡ suc k = omega (arith, rule) in
    let e : p.statement ≡ suc l = omega (arith, statement) in
    rw (a, in_rules, b, in_table, d, in_chain, e) is

counters_written : (tallies : Tallies) (rules : List TableTree) (history : List Entry)
    → ((at : StatementPosition) (start : CounterStart) → counter_at rules at ≡ Some start
    → tally_at tallies at ≡ Some (tally_of start at history))
    → tables_text tallies 0 rules ≡ counter_lines rules history
counters_written tallies rules history tallied =
    numbered_same _ (λ n t. chain_lines history t n 0 (chains_of t)) (table_lines history) (λ n. refl) (λ n t ts. refl) 0 rules
    (λ i table t a in_rules. numbered_same _ (λ n c. rule_lines history t c table n 1 c.rules) (chain_lines history t table)
    (λ n. refl) (λ n c cs. refl) 0 (chains_of t)
    (λ j chain c b in_table. numbered_same _ (λ n r. statement_lines history t c (first_of table chain n) 1 r.statements)
    (rule_lines history t c table chain) (λ n. refl) (λ n r rs. refl) 1 c.rules
    (λ k rule r d in_chain. statements_written tallies history t c (first_of table chain rule) 1 r.statements
    (λ l p same e start is. ap (λ found. unwrap_or found (started None)) (tallied p start
    (counter_found rules p t c r start i j k l (ap (λ w. w.table) same ∙ a) (ap (λ w. w.chain) same ∙ b)
    (ap (λ w. w.rule) same ∙ d) e in_rules in_table in_chain is))))))

-- ---- the totals

totals_written : (report : ReportState) (rules : List TableTree) (trace : Bool) (history : List Entry)
    (written : Text) (live : ℕ) (torn : Bool) → IsReportOf report rules trace history written
    → number_lines report.records report.passed report.local (drops_in report.dropped) report.begun live torn
    ≡ totals history live torn
totals_written report rules trace history written live torn reports =
    let same_drops : drops_of report ≡ (λ cause. dropped cause history) = λ i. λ cause. reports.dropped_are cause i in
    ap (λ n. number_lines n report.passed report.local (drops_of report) report.begun live torn) reports.records
    ∙ ap (λ lost. number_lines (length history) report.passed report.local lost report.begun live torn) same_drops
    ∙ rw (reports.passed_are, reports.local_are, reports.begun_are)

-- ---- the rest of the whole

regrouped : (written notes counters numbers : Text)
    → written ++ ((notes ++ counters) ++ numbers) ≡ (written ++ notes) ++ (counters ++ numbers)
regrouped written notes counters numbers = simp append_assoc

-- by what is seen of the report and by the notes as they lie
pub rest_written : {seen report : ReportState} {notes : List Note} {rules : List TableTree} {trace : Bool}
    {history : List Entry} {written : Text} (live : ℕ) (torn : Bool) → seen ≡ report → notes ≡ seen.notes
    → IsReportOf report rules trace history written
    → written ++ rest_text rules notes seen.tallies seen.records seen.passed seen.local seen.dropped seen.begun live
    torn ≡ entry_lines rules trace history ++ closing_lines rules history live torn
rest_written {seen} {report} {rules = rules} {trace} {history} {written} live torn is same reports =
    let end : ReportState → List Note → Text = λ r ns. rest_text rules ns r.tallies r.records r.passed r.local r.dropped r.begun
    live torn in
    let counters = counters_written report.tallies rules history reports.tallies_are in
    let numbers = totals_written report rules trace history written live torn reports in
    ap (λ ns. written ++ end seen ns) same ∙ ap (λ (r : ReportState). written ++ end r r.notes) is
    ∙ regrouped written (flat_map (note_line rules) report.notes) (tables_text report.tallies 0 rules) _
    ∙ cc (reports.rest, counters, numbers)
