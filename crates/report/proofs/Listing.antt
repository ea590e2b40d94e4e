-- The lines of counters, one after another.
use Rattle.report.proofs.Imports.{Bool, ChainTree, List, StatementPosition, TableTree, Tallies, Text, add-one, ap, arith}
use Rattle.report.proofs.Imports.{cond, counter_in, counter_text, drop, drop-cons, get_or, is_some, length, map, next_number, next_position, numbered_lines}
use Rattle.report.proofs.Imports.{statement, statements_text, tally_line, tally_or_zero, ℕ, ◌++◌, ◌+◌, ◌<◌, ◌∷◌, ◌≡◌}
use Rattle.nft_tree.specs.declared.statement.Stmt.{Stmt}

from_item : {A : Type 0} (xs : List A) (i : ℕ) (x : A) → i < length xs → x ≡ get_or xs i x
    → drop i xs ≡ x ∷ drop (i + 1) xs
from_item xs i x h is = cc (drop-cons xs i x h, add-one i)

pub numbered_on : {A B : Type 0} (line : ℕ → B → Text) (f : A → B) (n : ℕ) (xs : List A) (i : ℕ) (x : A) → i < length xs
    → x ≡ get_or xs i x → numbered_lines line n (map f (drop i xs))
    ≡ line n (f x) ++ numbered_lines line (n + 1) (map f (drop (i + 1) xs))
numbered_on line f n xs i x h is = ap (λ ys. numbered_lines line n (map f ys)) (from_item xs i x h is)

-- a counter, or none
pub statements_on : (tallies : Tallies) (t : TableTree) (c : ChainTree) (at : StatementPosition) (k : ℕ)
    (xs : List Stmt) (i : ℕ) (s : Stmt) (counts : Bool) → i < length xs → s ≡ get_or xs i s → is_some (counter_in (statement s)) ≡ counts
    → statements_text tallies t c at k (map statement (drop i xs))
    ≡ cond counts (tally_line t c at.rule.rule k (tally_or_zero tallies at)
    ++ statements_text tallies t c (next_position at) (k + 1) (map statement (drop (i + 1) xs)))
    (statements_text tallies t c (next_position at) k (map statement (drop (i + 1) xs)))
statements_on tallies t c at k xs i s counts h is some = grind (arith, from_item, counter_text, next_number)
