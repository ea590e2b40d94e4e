-- Base chains in the order of the text, and what they cost.
use Rattle.compiler.proofs.Names.{All, All-cons, All-head, All-nil, All-tail, BaseChain, ChainNo, ChainTree, Code, CompiledChain, HeadTree, Hook, List, None}
use Rattle.compiler.proofs.Names.{AreOrdered, Option, Prices, Some, Start, TableTree, Text, [], ap, ap₂, arith, base, base_chain_of, base_chains_from}
use Rattle.compiler.proofs.Names.{base_chains_of, base_chains_of_tables, chain_cost_by, chains_of, cond, cost_in, costed, costs-long, drop, drop_more, filter}
use Rattle.compiler.proofs.Names.{firsts-zip, fold, fold-map, get_or, get_or_from_slice_get, map, map-id, none-some, priced, refl, runs_on_hook, same_hook}
use Rattle.compiler.proofs.Names.{slice_get, slice_get_within, slice_index, start_cost, start_of, starts_of, subst, suc, sum_by, sum_by-IsPermutation}
use Rattle.compiler.proofs.Names.{sum_by-append, sum_by-cons, sym, total_cost, zero, zip, ℕ, ◌++◌, ◌+◌, ◌<◌, ◌∙◌, ◌∷◌, ◌≡◌}
use Rattle.chain_graph.specs.Measures.{saturated}
use Rattle.rule_check.specs.Checked.{AreRulesetCosts, base_part, base_sum, ruleset_sum}
use Rattle.rule_paths.specs.Findings.{AreChainCosts}
use Rattle.rule_paths.specs.Paths.{AreAllCosts, AreCosts, Caller, MAX_COST, a_chain, base_cost, ruleset_cost, table_cost}
use Rattle.rule_laws.specs.Ranking as ranking
use Rattle.nft_tree.specs.declared.chain.Hook.TheVariants as hooks

abbrev pub cost_of : CompiledChain → ℕ
cost_of x = x.cost

-- what a loop over a list has yet to see
pub rest_from : {A : Type 0} (xs : List A) (i : ℕ) (x : A) → slice_get xs i ≡ Some x → drop i xs ≡ x ∷ drop (i + 1) xs
rest_from xs i x is = drop_more xs i x (slice_get_within xs i x is) ∙ ap (λ y. y ∷ drop (i + 1) xs) (get_or_from_slice_get xs i x x is)

-- ---- prices

in_row : (cost : Caller → ℕ) (cs : List ChainTree) (j : ℕ)
    → slice_index (map (λ c. saturated (cost (a_chain c.name))) cs) j ≡ saturated (ranking.cost_of cost (slice_get cs j))
in_row cost [] j = refl
in_row cost (c ∷ cs) zero = refl
in_row cost (c ∷ cs) (suc j) = in_row cost cs j

-- a number below the limit is the chain's cost itself
pub cost-in : (t : TableTree) (row : List ℕ) → AreChainCosts t row → (cost : Caller → ℕ) → AreCosts t cost → (j : ℕ)
    → slice_index row j < MAX_COST → chain_cost_by t cost j ≡ slice_index row j
cost-in t row is cost solves j small = omega (arith, ap (λ xs. slice_index xs j) (is.are cost solves), in_row cost (chains_of t) j)

-- the costs of all chains are prices
abbrev pub row_price : List (List ℕ) → ChainNo → ℕ
row_price costs n = 1 + slice_index (get_or costs n.table []) n.chain

pub rows-price : (tables : List TableTree) (costs : List (List ℕ)) → AreRulesetCosts tables costs → Prices tables (row_price costs)
rows-price tables costs are i t row at is j lt small =
    let cost = is.has_costs in
    ap (λ xs. 1 + slice_index xs j) ((are.are i t at).are cost.0 cost.1 ∙ sym (is.are cost.0 cost.1))

-- so is what a start costs
abbrev pub start_price : List TableTree → (TableTree → Caller → ℕ) → ChainNo → ℕ
start_price tables cost n = cost_in cost (slice_get tables n.table) n.chain

pub starts-price : (tables : List TableTree) (cost : TableTree → Caller → ℕ) → AreAllCosts tables cost → Prices tables (start_price tables cost)
starts-price tables cost all i t row at is j lt small =
    ap (λ o. cost_in cost o j) at ∙ ap (λ n. 1 + n) (cost-in t row is (cost t)
    (all t (i, slice_get_within tables i t at, get_or_from_slice_get tables i t t at)) j small)

module _ (price : ChainNo → ℕ) where
  abbrev pub IsPriced : CompiledChain → Type 0
  IsPriced x = x.cost ≡ price x.number

  -- all base chains are there, each with its price
  pub all_priced : (xs : List CompiledChain) (bs : List BaseChain) → map costed xs ≡ map (priced price) bs → (map base xs ≡ bs) × All IsPriced xs
  all_priced [] [] is = (refl, All-nil IsPriced)
  all_priced (x ∷ xs) (b ∷ bs) is =
      let first : costed x ≡ priced price b = cc in
      let rest = all_priced xs bs (cc) in
      (ap₂ ◌∷◌ (ap (λ p. p.0) first) rest.0, All-cons IsPriced x xs (ap (λ p. p.1) first ∙ ap (λ p. price p.0.number) (sym first)) rest.1)
  all_priced xs bs is = absurd cc

  pub costs-shown : (xs : List CompiledChain) → All IsPriced xs → map (λ s. s.cost) (map start_of xs) ≡ map (λ b. price b.number) (map base xs)
  costs-shown [] all = refl
  costs-shown (x ∷ xs) all = ap₂ ◌∷◌ (All-head IsPriced x xs all) (costs-shown xs (All-tail IsPriced x xs all))

  pub sum-priced : (xs : List CompiledChain) (bs : List BaseChain) → map costed xs ≡ map (priced price) bs
      → sum_by cost_of xs ≡ sum_by (λ b. price b.number) bs
  sum-priced xs bs is = sym (fold-map (λ n p. n + p.1) costed 0 xs) ∙ ap (fold (λ n (p : BaseChain × ℕ). n + p.1) 0) is
      ∙ fold-map (λ n p. n + p.1) (priced price) 0 bs

  one_sum : (table chain cost : ℕ) (head : Option HeadTree) → price (record { table = table; chain = chain }) ≡ 1 + cost
      → sum_by (λ b. price b.number) (base_chain_of table chain head) ≡ base_part head cost
  one_sum table chain cost None is = refl
  one_sum table chain cost (Some head) is = omega (arith, is)

-- ---- what all base chains cost together

-- base chains that are made of a list, those of element k by `one k`, where the elements are the first parts of others, which say what they cost
module _ {X Z : Type 0} (first : Z → X) (cost : BaseChain → ℕ) (from : ℕ → List X → List BaseChain) (one : ℕ → X → List BaseChain)
    (worth : Z → ℕ) (none : (k : ℕ) → from k [] ≡ []) (more : (k : ℕ) (x : X) (xs : List X) → from k (x ∷ xs) ≡ one k x ++ from (suc k) xs) where
  sums : (k : ℕ) (zs : List Z) → ((i : ℕ) (z : Z) → slice_get zs i ≡ Some z → (n : ℕ) → n ≡ k + i → sum_by cost (one n (first z)) ≡ worth z)
      → sum_by cost (from k (map first zs)) ≡ sum_by worth zs
  sums k [] each = ap (sum_by cost) (none k)
  sums k (z ∷ zs) each =
      omega (
        arith,
        ap (sum_by cost) (more k (first z) (map first zs)),
        sum_by-append cost (one k (first z)) (from (suc k) (map first zs)),
        each 0 z refl k (omega arith),
        sums (suc k) zs (λ i y at n is. each (suc i) y at n (omega arith)),
        sum_by-cons worth z zs,
      )

zip_at : {A B : Type 0} (xs : List A) (ys : List B) (i : ℕ) (z : A × B) → slice_get (zip xs ys) i ≡ Some z
    → (slice_get xs i ≡ Some z.0) × (slice_get ys i ≡ Some z.1)
zip_at (x ∷ xs) (y ∷ ys) zero z is = let e : (x, y) ≡ z = cc in (ap (λ p. Some p.0) e, ap (λ p. Some p.1) e)
zip_at (x ∷ xs) (y ∷ ys) (suc i) z is = zip_at xs ys i z is
zip_at xs ys i z is = absurd (none-some z is)

-- by the costs of all chains
pub sum_by_rows : (ts : List TableTree) (rows : List (List ℕ)) → AreRulesetCosts ts rows
    → sum_by (λ b. row_price rows b.number) (base_chains_of ts) ≡ ruleset_sum ts rows
sum_by_rows ts rows are =
    let cost : BaseChain → ℕ = λ b. row_price rows b.number in
    ap (λ l. sum_by cost (base_chains_of l)) (sym (firsts-zip ts rows are.long))
    ∙ sums (λ z. z.0) cost base_chains_of_tables (λ n t. base_chains_from n 0 (chains_of t)) (λ z. base_sum z.0 z.1) (λ k. refl) (λ k t us. refl)
    0 (zip ts rows) (λ i z its n is.
    let at = zip_at ts rows i z its in
    let row = get_or_from_slice_get rows i z.1 [] at.1 in
    let long = costs-long z.0 z.1 (subst (AreChainCosts z.0) row (are.are i z.0 at.0)) in
    let same : n ≡ i = omega arith in
    ap (λ l. sum_by cost (base_chains_from n 0 l)) (sym (firsts-zip (chains_of z.0) z.1 long))
    ∙ sums (λ y. y.0) cost (base_chains_from n) (λ m c. base_chain_of n m c.head) (λ y. base_part y.0.head y.1) (λ k. refl) (λ k c cs. refl)
    0 (zip (chains_of z.0) z.1) (λ j y its m is. one_sum (row_price rows) n m y.1 y.0.head
    (let here : m ≡ j = omega arith in ap₂ (λ r k. 1 + slice_index r k) (ap (λ k. get_or rows k []) same ∙ row) here
    ∙ ap (λ x. 1 + x) (get_or_from_slice_get z.1 j y.1 0 (zip_at (chains_of z.0) z.1 j y its).1))))

base_is : (cost : Caller → ℕ) (name : Text) (head : Option HeadTree) → base_part head (cost (a_chain name)) ≡ base_cost cost name head
base_is cost name None = refl
base_is cost name (Some head) = refl

-- by a solution of the cost equations
pub sum_by_costs : (ts : List TableTree) (cost : TableTree → Caller → ℕ) → sum_by (start_cost ts cost) (base_chains_of ts) ≡ ruleset_cost cost ts
sum_by_costs ts cost =
    ap (λ l. sum_by (start_cost ts cost) (base_chains_of l)) (sym (map-id ts))
    ∙ sums (λ t. t) (start_cost ts cost) base_chains_of_tables (λ n t. base_chains_from n 0 (chains_of t)) (λ t. table_cost (cost t) t)
    (λ k. refl) (λ k t us. refl) 0 ts (λ i t at n is.
    let same : n ≡ i = omega arith in
    ap (λ l. sum_by (start_cost ts cost) (base_chains_from n 0 l)) (sym (map-id (chains_of t)))
    ∙ sums (λ c. c) (start_cost ts cost) (base_chains_from n) (λ m c. base_chain_of n m c.head) (λ c. base_cost (cost t) c.name c.head)
    (λ k. refl) (λ k c cs. refl) 0 (chains_of t) (λ j c has m is. one_sum (start_price ts cost) n m (cost t (a_chain c.name)) c.head
    (let here : m ≡ j = omega arith in ap (λ o. cost_in cost o m) (ap (slice_get ts) same ∙ at)
    ∙ ap (λ o. 1 + ranking.cost_of (cost t) o) (ap (slice_get (chains_of t)) here ∙ has)) ∙ base_is (cost t) c.name c.head))

-- ---- the starts of all hooks together cost what all base chains cost

-- what the base chains of a hook cost
abbrev on_hook : Hook → List CompiledChain → ℕ
on_hook hook xs = sum_by cost_of (filter (runs_on_hook hook) xs)

-- together over all hooks
abbrev over_hooks : (Hook → ℕ) → ℕ
over_hooks f = f hooks.Prerouting + f hooks.Input + f hooks.Forward + f hooks.Output + f hooks.Postrouting

all_hooks : (xs : List CompiledChain) → over_hooks (λ h. on_hook h xs) ≡ sum_by cost_of xs
all_hooks [] = refl
all_hooks (x ∷ xs) = by x.head.now.hook (all_hooks xs)
  where
    by : (h : Hook) → over_hooks (λ k. on_hook k xs) ≡ sum_by cost_of xs
        → over_hooks (λ k. sum_by cost_of (cond (same_hook h k) (x ∷ filter (runs_on_hook k) xs) (filter (runs_on_hook k) xs))) ≡ sum_by cost_of (x ∷ xs)
    by hooks.Prerouting is = omega (arith, sum_by-cons cost_of x)
    by _ is = omega (arith, sum_by-cons cost_of x)

pub starts_total : (bases : List CompiledChain) (code : Code) → AreOrdered bases code → total_cost code ≡ sum_by cost_of bases
starts_total bases code ordered =
    let at : (h : Hook) → sum_by (λ s. s.cost) (starts_of code h) ≡ on_hook h ordered.order =
    λ h. ap (sum_by (λ s. s.cost)) (ordered.starts h) ∙ fold-map (λ n (s : Start). n + s.cost) start_of 0 (filter (runs_on_hook h) ordered.order) in
    omega (
      arith,
      all_hooks ordered.order,
      sum_by-IsPermutation cost_of bases ordered.order ordered.moved,
      at hooks.Prerouting,
      at hooks.Input,
      at hooks.Forward,
      at hooks.Output,
      at hooks.Postrouting,
    )
