-- Chains in one another, from the base chains of a table and of all tables on.
use Rattle.std.proofs.Common.{◌≡◌, ℕ, zero, suc, ◌+◌, List, [], ◌∷◌, drop, filter, slice_get, Some, Contains, subst, sym, arith}
use Rattle.std.proofs.lemmas.List.Elements.{Contains-append_left, Contains-append_right, filter-append}
use Rattle.list_laws.specs.Decisions.{Contains-none}
use Rattle.nft_tree.specs.Tree.{ChainTree, TableTree}
use Rattle.nft_tree.specs.TableItems.{chains_of}
use Rattle.packet_sets.specs.declared.fault.SetError.{SetError}
use Rattle.packet_sets.specs.declared.fault.SetError.TheVariants as sets
use Rattle.rule_meaning.specs.Hooks.{BaseChain, base_chain_of, base_chains_from, base_chains_of_tables}
use Rattle.chain_sets.specs.declared.fault.WalkError.{WalkError}
use Rattle.chain_sets.specs.declared.fault.WalkError.TheVariants as ways
use Rattle.coming_sets.specs.Bases.{runs}
use Rattle.rule_reach.specs.declared.answers.ReachError.TheVariants.{TooDeep}
use Rattle.rule_reach.specs.steps.Errors.{of_sets, of_ways}
use Rattle.rule_reach.proofs.Bases.{chains_left, tables_left}

pub not_deep : (e : SetError) → of_sets e ≡ TooDeep → ⊥
not_deep sets.TooLarge is = cc
not_deep sets.Memory is = cc

pub deep_way : (e : WalkError) → of_ways e ≡ TooDeep → e ≡ ways.TooDeep
deep_way ways.TooLarge is = cc
deep_way ways.TooDeep is = cc
deep_way ways.Memory is = cc

-- ---- the base chains of one chain are among those of its table

left_of_table : (table c : ℕ) (cs : List ChainTree) (i : ℕ) (b : BaseChain) → Contains (filter runs (base_chains_from table (c + i) (drop i cs))) b
    → Contains (filter runs (base_chains_from table c cs)) b
left_of_table table c cs zero b has =
    let here : c + 0 ≡ c = omega arith in
    subst (λ n. Contains (filter runs (base_chains_from table n cs)) b) here has
left_of_table table c [] (suc i) b has = absurd (Contains-none b has)
left_of_table table c (x ∷ xs) (suc i) b has =
    let on : c + suc i ≡ suc c + i = omega arith in
    subst (λ l. Contains l b) (sym (filter-append runs (base_chain_of table c x.head) (base_chains_from table (suc c) xs)))
    (Contains-append_right (filter runs (base_chain_of table c x.head)) (filter runs (base_chains_from table (suc c) xs)) b
    (left_of_table table (suc c) xs i b (subst (λ n. Contains (filter runs (base_chains_from table n (drop i xs))) b) on has)))

pub of_chain : (table i : ℕ) (cs : List ChainTree) (x : ChainTree) (b : BaseChain) → slice_get cs i ≡ Some x
    → Contains (filter runs (base_chain_of table i x.head)) b → Contains (filter runs (base_chains_from table 0 cs)) b
of_chain table i cs x b at has =
    let here : i ≡ 0 + i = omega arith in
    left_of_table table 0 cs i b (subst (λ n. Contains (filter runs (base_chains_from table n (drop i cs))) b) here
    (subst (λ l. Contains l b) (sym (chains_left table i cs x at))
    (Contains-append_left (filter runs (base_chain_of table i x.head)) (filter runs (base_chains_from table (i + 1) (drop (i + 1) cs))) b has)))

-- ---- and those of one table among all

left_of_all : (k : ℕ) (ts : List TableTree) (i : ℕ) (b : BaseChain) → Contains (filter runs (base_chains_of_tables (k + i) (drop i ts))) b
    → Contains (filter runs (base_chains_of_tables k ts)) b
left_of_all k ts zero b has =
    let here : k + 0 ≡ k = omega arith in
    subst (λ n. Contains (filter runs (base_chains_of_tables n ts)) b) here has
left_of_all k [] (suc i) b has = absurd (Contains-none b has)
left_of_all k (t ∷ ts) (suc i) b has =
    let on : k + suc i ≡ suc k + i = omega arith in
    subst (λ l. Contains l b) (sym (filter-append runs (base_chains_from k 0 (chains_of t)) (base_chains_of_tables (suc k) ts)))
    (Contains-append_right (filter runs (base_chains_from k 0 (chains_of t))) (filter runs (base_chains_of_tables (suc k) ts)) b
    (left_of_all (suc k) ts i b (subst (λ n. Contains (filter runs (base_chains_of_tables n (drop i ts))) b) on has)))

pub of_table : (i : ℕ) (ts : List TableTree) (t : TableTree) (b : BaseChain) → slice_get ts i ≡ Some t
    → Contains (filter runs (base_chains_from i 0 (chains_of t))) b → Contains (filter runs (base_chains_of_tables 0 ts)) b
of_table i ts t b at has =
    let here : i ≡ 0 + i = omega arith in
    left_of_all 0 ts i b (subst (λ n. Contains (filter runs (base_chains_of_tables n (drop i ts))) b) here
    (subst (λ l. Contains l b) (sym (tables_left i ts t at))
    (Contains-append_left (filter runs (base_chains_from i 0 (chains_of t))) (filter runs (base_chains_of_tables (i + 1) (drop (i + 1) ts))) b has)))
