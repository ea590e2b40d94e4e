-- All rules, one after another.
use Rattle.std.proofs.Common.{◌≡◌, ◌∙◌, ℕ, ◌+◌, ◌<◌, List, [], ◌∷◌, ◌++◌, map, drop, length, slice_get, Some, refl, ap, sym, append_assoc, add-one, get_or}
use Rattle.std.proofs.Common.{Bor, None}
use Rattle.std.proofs.lemmas.List.{drop_more, map-append}
use Rattle.std.proofs.lemmas.Option.{slice_get-map, slice_get_read}
use Rattle.nft_tree.specs.declared.chain.Chain.{Chain}
use Rattle.nft_tree.specs.declared.ruleset.RuleNo.{RuleNo}
use Rattle.nft_tree.specs.Tree.{ChainTree, RuleTree, TableTree}
use Rattle.nft_tree.specs.TableItems.{chains_of}
use Rattle.nft_tree.specs.TreeViews.{chain_tree}
use Rattle.rule_reach.specs.declared.answers.RuleReach.{RuleReach}
use Rattle.rule_reach.specs.Reach.{rules_of_chain, rules_of_chains, rules_of_tables}
use Rattle.rule_reach.specs.steps.Rules.{unreached}
use Rattle.rule_reach.proofs.Bases.{rest_from}

-- the chain at a place
pub chain_at : (chains : List (Bor Chain)) (t : TableTree) (i : ℕ) (x : Bor Chain) → map (λ b. chain_tree b.now) chains ≡ chains_of t
    → i < length chains → x ≡ get_or chains i x → slice_get (chains_of t) i ≡ Some (chain_tree x.now)
chain_at chains t i x all lt is = rw (
  ← all,
  slice_get-map (λ (b : Bor Chain). chain_tree b.now) chains i,
  slice_get_read chains (length chains) i x refl lt is,
) refl

any_rule : RuleTree
any_rule = record { statements = []; comment = None }

abbrev no : ℕ → ℕ → ℕ → RuleNo
no table chain rule = record { table = table; chain = chain; rule = rule }

pub rule_more : (table chain : ℕ) (rules : List RuleTree) (place number : ℕ) (before after all : List RuleReach) → place < length rules
    → number ≡ place + 1 → after ≡ before ++ unreached (record { table = table; chain = chain; rule = number }) ∷ []
    → before ++ map unreached (rules_of_chain table chain (place + 1) (drop place rules)) ≡ all
    → after ++ map unreached (rules_of_chain table chain (place + 1 + 1) (drop (place + 1) rules)) ≡ all
rule_more table chain rules place number before after all inside is pushed so_far =
    let rest = map unreached (rules_of_chain table chain (place + 1 + 1) (drop (place + 1) rules)) in
    ap (λ l. l ++ rest) pushed ∙ append_assoc before (unreached (no table chain number) ∷ []) rest
    ∙ ap (λ n. before ++ unreached (no table chain n) ∷ rest) is
    ∙ sym (ap (λ l. before ++ map unreached (rules_of_chain table chain (place + 1) l)) (drop_more rules place any_rule inside)) ∙ so_far

pub chain_more : (table : ℕ) (chains : List ChainTree) (place number : ℕ) (c : ChainTree) (before after all : List RuleReach)
    → slice_get chains place ≡ Some c → number ≡ place → after ≡ before ++ map unreached (rules_of_chain table number 1 c.rules)
    → before ++ map unreached (rules_of_chains table place (drop place chains)) ≡ all
    → after ++ map unreached (rules_of_chains table (place + 1) (drop (place + 1) chains)) ≡ all
chain_more table chains place number c before after all here is added so_far =
    let now = added ∙ ap (λ n. before ++ map unreached (rules_of_chain table n 1 c.rules)) is in
    rw (now, append_assoc, add-one) (rw (rest_from chains place c here, add-one, map-append) at so_far)

pub table_more : (tables : List TableTree) (place number : ℕ) (t : TableTree) (before after all : List RuleReach) → slice_get tables place ≡ Some t
    → number ≡ place → after ≡ before ++ map unreached (rules_of_chains number 0 (chains_of t))
    → before ++ map unreached (rules_of_tables place (drop place tables)) ≡ all
    → after ++ map unreached (rules_of_tables (place + 1) (drop (place + 1) tables)) ≡ all
table_more tables place number t before after all here is added so_far =
    let now = added ∙ ap (λ n. before ++ map unreached (rules_of_chains n 0 (chains_of t))) is in
    rw (now, append_assoc, add-one) (rw (rest_from tables place t here, add-one, map-append) at so_far)
