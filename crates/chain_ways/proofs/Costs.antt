-- Costs fall along the jumps and gotos of a table, and those of base chains are bounded.
use Rattle.std.proofs.Common.{◌≡◌, ◌⊎◌, inl, inr, ℕ, zero, suc, ◌+◌, ◌<◌, ◌≤◌, List, [], ◌∷◌, length, get_or, sum_by, slice_get, slice_index}
use Rattle.std.proofs.Common.{Contains, Option, Some, None, unwrap_or, refl, sym, ap, ◌∙◌, subst, arith}
use Rattle.std.proofs.lemmas.Bool.{cases_lt}
use Rattle.std.proofs.lemmas.List.{length-map}
use Rattle.std.proofs.lemmas.List.Elements.{Contains-append_cases}
use Rattle.std.proofs.lemmas.List.Sums.{sum_by-cons, get_or-le-sum_by}
use Rattle.list_laws.specs.Lists.{Contains-head}
use Rattle.list_laws.specs.Decisions.{Contains-there, Contains-cases, Contains-none}
use Rattle.nft_tree.specs.Tree.{Text, HeadTree, ChainTree, TableTree}
use Rattle.nft_tree.specs.TableItems.{chains_of}
use Rattle.chain_graph.specs.Graph.{Call, IsPath, jumps}
use Rattle.rule_names.specs.Names.{chain_names}
use Rattle.rule_paths.specs.Paths.{Caller, a_chain, CallsOf, AreCosts, AreAllCosts, Cycles, HasDeepPath, MAX_JUMPS}
use Rattle.rule_paths.specs.Paths.{MAX_COST, TooCostly, base_cost, table_cost, ruleset_cost}
use Rattle.rule_paths.specs.Findings.{HasDepth, AreChainDepths}
use Rattle.rule_meaning.specs.Runs.{Program}
use Rattle.rule_meaning.specs.Hooks.{BaseChain, base_chain_of, base_chains_from, base_chains_of_tables, base_chains_of}
use Rattle.rule_laws.specs.Ranking.{IsRanking, cost_of, chain_cost_by}
use Rattle.chain_ways.proofs.Along.{Falls}

-- ---- sums

within_sum : {X : Type 0} (f : X → ℕ) (xs : List X) (x : X) → Contains xs x → f x ≤ sum_by f xs
within_sum f xs x has = subst (λ y. f y ≤ sum_by f xs) has.2 (get_or-le-sum_by f xs has.0 x has.1)

sum_at : {X : Type 0} (f : X → ℕ) (xs : List X) (i : ℕ) (x : X) → slice_get xs i ≡ Some x → f x ≤ sum_by f xs
sum_at f [] i x e = absurd cc
sum_at f (y ∷ ys) zero x e =
    let same : y ≡ x = ap (λ o. unwrap_or o y) e in
    omega (arith, ap f same, sum_by-cons f y ys)
sum_at f (y ∷ ys) (suc i) x e = omega (arith, sum_at f ys i x e, sum_by-cons f y ys)

-- ---- rankings

pub ranked : {S : Type 0} (p : Program S) (weight : S → ℕ) (cost depth : ℕ → ℕ) → IsRanking p weight cost depth → Falls p cost
ranked p weight cost depth rank = record {
  jumps = λ c d s at f stands is.
      omega (
        arith,
        (rank.jumps c d s at f stands is).0,
        within_sum weight stands.rule s stands.in_rule,
        within_sum (sum_by weight) stands.rules stands.rule stands.in_chain,
        rank.sums c stands.rules stands.has,
      );
  gotos = λ c d s at f stands is.
      omega (
        arith,
        (rank.gotos c d s at f stands is).0,
        within_sum weight stands.rule s stands.in_rule,
        within_sum (sum_by weight) stands.rules stands.rule stands.in_chain,
        rank.sums c stands.rules stands.has,
      );
}

-- ---- depths: that there are none is impossible

abbrev Possible : Type 0 → Type 0
Possible A = (A → ⊥) → ⊥

-- a set of numbers up to `most`, one of which is n
greatest_possible : (P : ℕ → Type 0) (most : ℕ) → ((i : ℕ) → P i → i ≤ most) → (k n : ℕ) → P n → most ≤ n + k
    → Possible ((m : ℕ) × P m × ((i : ℕ) → P i → i ≤ m))
greatest_possible P most all zero n here near none = none (n, here, λ i at. omega (arith, all i at))
greatest_possible P most all (suc k) n here near none =
    none (n, here, λ i at. by_order i (cases_lt n i) (λ more. greatest_possible P most all k i at (omega arith) none))
  where
    by_order : (i : ℕ) → (n < i) ⊎ (i ≤ n) → (n < i → ⊥) → i ≤ n
    by_order i (inl more) not_more = absurd (not_more more)
    by_order i (inr less) not_more = less

module _ (t : TableTree) (deep : HasDeepPath t → ⊥) where
  -- a path from a chain with so many jumps
  record Path (name : Text) (n : ℕ) : Type 0 where
    to : Caller
    along : List (Call Caller)
    path : IsPath (CallsOf t) (a_chain name) along to
    long : jumps along ≡ n

  bounded : (name : Text) → Contains (chain_names t) name → (n : ℕ) → Path name n → n ≤ MAX_JUMPS
  bounded name has n q = by_order (cases_lt MAX_JUMPS n)
    where
      by_order : (MAX_JUMPS < n) ⊎ (n ≤ MAX_JUMPS) → n ≤ MAX_JUMPS
      by_order (inl more) = absurd (deep (record {
        chain = name;
        member = has;
        path = record { from = a_chain name; to = q.to; along = q.along; path = q.path; over = omega (arith, q.long) };
        begins = refl;
      }))
      by_order (inr less) = less

  depth_possible : (name : Text) → Contains (chain_names t) name → Possible ((depth : ℕ) × HasDepth t (a_chain name) depth)
  depth_possible name has none =
      greatest_possible (Path name) MAX_JUMPS (bounded name has) MAX_JUMPS 0
      (record { to = a_chain name; along = []; path = refl; long = refl }) (omega arith)
      (λ q. none (
        q.0,
        record {
          most = λ b es path. omega (arith, q.2 (jumps es) (record { to = b; along = es; path = path; long = refl }));
          to = q.1.to;
          along = q.1.along;
          path = q.1.path;
          deep = omega (arith, q.1.long);
        },
      ))

  depths_of : (names : List Text) → ((name : Text) → Contains names name → Possible ((depth : ℕ) × HasDepth t (a_chain name) depth))
      → Possible ((depths : List ℕ) × (length depths ≡ length names)
      × ((j : ℕ) → j < length depths → HasDepth t (a_chain (get_or names j [])) (slice_index depths j)))
  depths_of [] each none = none ([], refl, λ j h. absurd (omega (arith, h)))
  depths_of (x ∷ xs) each none =
      each x (Contains-head x xs) (λ d. depths_of xs (λ y h. each y (Contains-there x y xs h))
      (λ ds. none (d.0 ∷ ds.0, omega (arith, ds.1), at d.0 d.1 ds.0 ds.2)))
    where
      at : (d : ℕ) → HasDepth t (a_chain x) d → (ds : List ℕ)
          → ((j : ℕ) → j < length ds → HasDepth t (a_chain (get_or xs j [])) (slice_index ds j))
          → (j : ℕ) → j < length (d ∷ ds) → HasDepth t (a_chain (get_or (x ∷ xs) j [])) (slice_index (d ∷ ds) j)
      at d first ds others zero h = first
      at d first ds others (suc j) h = others j (omega arith)

  depths_possible : Possible ((depths : List ℕ) × AreChainDepths t depths)
  depths_possible none =
      depths_of (chain_names t) depth_possible
      (λ q. none (q.0, record { long = q.1 ∙ length-map (chains_of t) (λ (c : ChainTree). c.name); are = q.2 }))

  -- whether costs fall doesn't depend on depths
  pub falling : {S : Type 0} (p : Program S) (weight : S → ℕ) (cost : ℕ → ℕ)
      → ((depths : List ℕ) → AreChainDepths t depths → IsRanking p weight cost (λ c. slice_index depths c)) → Falls p cost
  falling p weight cost rank = record {
    jumps = λ c d s at f stands is. by_order (cost d) (cost c)
        (λ depths. (ranked p weight cost (λ i. slice_index depths.0 i) (rank depths.0 depths.1)).jumps c d s at f stands is);
    gotos = λ c d s at f stands is. by_order (cost d) (cost c)
        (λ depths. (ranked p weight cost (λ i. slice_index depths.0 i) (rank depths.0 depths.1)).gotos c d s at f stands is);
  }
    where
      by_cases : (m n : ℕ) → ((depths : List ℕ) × AreChainDepths t depths → m < n) → (m < n) ⊎ (n ≤ m) → m < n
      by_cases m n less (inl h) = h
      by_cases m n less (inr h) = absurd (depths_possible (λ depths. let other = less depths in omega (arith, other)))

      by_order : (m n : ℕ) → ((depths : List ℕ) × AreChainDepths t depths → m < n) → m < n
      by_order m n less = by_cases m n less (cases_lt m n)

-- ---- base chains

-- the chain of a base chain that is among these chains, of which the first has index c
record InChains (k c : ℕ) (cs : List ChainTree) (b : BaseChain) : Type 0 where
  table : b.number.table ≡ k
  place : ℕ
  number : b.number.chain ≡ c + place
  chain : ChainTree
  at : slice_get cs place ≡ Some chain
  head : chain.head ≡ Some b.head

in_chain_of : (k c : ℕ) (x : ChainTree) (xs : List ChainTree) (head : Option HeadTree) (b : BaseChain) → x.head ≡ head
    → Contains (base_chain_of k c head) b → InChains k c (x ∷ xs) b
in_chain_of k c x xs None b is has = absurd (Contains-none b has)
in_chain_of k c x xs (Some head) b is has =
    by_first (Contains-cases (record { number = record { table = k; chain = c }; head = head }) b [] has)
  where
    by_first : (record { number = record { table = k; chain = c }; head = head } ≡ b) ⊎ Contains [] b → InChains k c (x ∷ xs) b
    by_first (inl same) = record {
      table = ap (λ (y : BaseChain). y.number.table) (sym same);
      place = 0;
      number = omega (arith, ap (λ (y : BaseChain). y.number.chain) same);
      chain = x;
      at = refl;
      head = is ∙ ap (λ (y : BaseChain). Some y.head) same;
    }
    by_first (inr none) = absurd (Contains-none b none)

in_chains : (k c : ℕ) (cs : List ChainTree) (b : BaseChain) → Contains (base_chains_from k c cs) b → InChains k c cs b
in_chains k c [] b has = absurd (Contains-none b has)
in_chains k c (x ∷ xs) b has =
    by_part (Contains-append_cases (base_chain_of k c x.head) (base_chains_from k (suc c) xs) b has) (λ later. in_chains k (suc c) xs b later)
  where
    by_part : Contains (base_chain_of k c x.head) b ⊎ Contains (base_chains_from k (suc c) xs) b
        → (Contains (base_chains_from k (suc c) xs) b → InChains k (suc c) xs b) → InChains k c (x ∷ xs) b
    by_part (inl first) next = in_chain_of k c x xs x.head b refl first
    by_part (inr later) next =
        let h = next later in
        record { table = h.table; place = suc h.place; number = omega (arith, h.number); chain = h.chain; at = h.at; head = h.head }

-- the table of a base chain of these tables, of which the first has number k
record InTables (k : ℕ) (ts : List TableTree) (b : BaseChain) : Type 0 where
  place : ℕ
  table : TableTree
  at : slice_get ts place ≡ Some table
  chains : InChains (k + place) 0 (chains_of table) b

in_tables : (k : ℕ) (ts : List TableTree) (b : BaseChain) → Contains (base_chains_of_tables k ts) b → InTables k ts b
in_tables k [] b has = absurd (Contains-none b has)
in_tables k (t ∷ ts) b has =
    by_part (Contains-append_cases (base_chains_from k 0 (chains_of t)) (base_chains_of_tables (suc k) ts) b has)
    (λ later. in_tables (suc k) ts b later)
  where
    by_part : Contains (base_chains_from k 0 (chains_of t)) b ⊎ Contains (base_chains_of_tables (suc k) ts) b
        → (Contains (base_chains_of_tables (suc k) ts) b → InTables (suc k) ts b) → InTables k (t ∷ ts) b
    by_part (inl first) next =
        let here : k ≡ k + 0 = omega arith in
        record { place = 0; table = t; at = refl; chains = subst (λ i. InChains i 0 (chains_of t) b) here (in_chains k 0 (chains_of t) b first) }
    by_part (inr later) next =
        let h = next later in
        let on : suc k + h.place ≡ k + suc h.place = omega arith in
        record { place = suc h.place; table = h.table; at = h.at; chains = subst (λ i. InChains i 0 (chains_of h.table) b) on h.chains }

module _ (tables : List TableTree) (cost : TableTree → Caller → ℕ) (are : AreAllCosts tables cost) (costly : TooCostly tables → ⊥) where
  cheap : ruleset_cost cost tables ≤ MAX_COST
  cheap = by_order (cases_lt MAX_COST (ruleset_cost cost tables))
    where
      by_order : (MAX_COST < ruleset_cost cost tables) ⊎ (ruleset_cost cost tables ≤ MAX_COST) → ruleset_cost cost tables ≤ MAX_COST
      by_order (inl more) = absurd (costly (record { cost = cost; are = are; over = more }))
      by_order (inr less) = less

  -- a base chain costs less than the bound
  pub base_cheap : (b : BaseChain) → Contains (base_chains_of tables) b → (t : TableTree) → slice_get tables b.number.table ≡ Some t
      → chain_cost_by t (cost t) b.number.chain < MAX_COST
  base_cheap b has t at =
      let h = in_tables 0 tables b has in
      let table_index : h.place ≡ b.number.table = omega (arith, h.chains.table) in
      let chain_index : b.number.chain ≡ h.chains.place = omega (arith, h.chains.number) in
      let same : h.table ≡ t = ap (λ o. unwrap_or o h.table) (sym h.at ∙ ap (slice_get tables) table_index ∙ at) in
      let here : chain_cost_by h.table (cost h.table) b.number.chain ≡ cost h.table (a_chain h.chains.chain.name) =
      ap (λ i. chain_cost_by h.table (cost h.table) i) chain_index ∙ ap (cost_of (cost h.table)) h.chains.at in
      let based : base_cost (cost h.table) h.chains.chain.name h.chains.chain.head ≡ 1 + cost h.table (a_chain h.chains.chain.name) =
      ap (base_cost (cost h.table) h.chains.chain.name) h.chains.head in
      let less : chain_cost_by h.table (cost h.table) b.number.chain < MAX_COST =
      omega (
        arith,
        here,
        based,
        cheap,
        sum_at (λ c. base_cost (cost h.table) c.name c.head) (chains_of h.table) h.chains.place h.chains.chain h.chains.at,
        sum_at (λ x. table_cost (cost x) x) tables h.place h.table h.at,
      ) in
      subst (λ x. chain_cost_by x (cost x) b.number.chain < MAX_COST) same less

-- ---- costs of all tables

module _ (decide : (tables : List TableTree) → Cycles tables ⊎ (Cycles tables → ⊥))
    (some : (tables : List TableTree) (t : TableTree) → (Cycles tables → ⊥) → Contains tables t → (cost : Caller → ℕ) × AreCosts t cost) where
  abbrev pub costs_by : (t : TableTree) → Cycles (t ∷ []) ⊎ (Cycles (t ∷ []) → ⊥) → Caller → ℕ
  costs_by t (inl cyclic) = λ caller. 0
  costs_by t (inr acyclic) = (some (t ∷ []) t acyclic (Contains-head t [])).0

  abbrev pub all_costs : TableTree → Caller → ℕ
  all_costs t = costs_by t (decide (t ∷ []))

  module _ (tables : List TableTree) (acyclic : Cycles tables → ⊥) where
    costs_are : (t : TableTree) → Contains tables t → (x : Cycles (t ∷ []) ⊎ (Cycles (t ∷ []) → ⊥)) → AreCosts t (costs_by t x)
    costs_are t has (inl cyclic) =
        absurd (acyclic (record { table = cyclic.table; member = member (Contains-cases t cyclic.table [] cyclic.member); cycle = cyclic.cycle }))
      where
        member : (t ≡ cyclic.table) ⊎ Contains [] cyclic.table → Contains tables cyclic.table
        member (inl same) = subst (Contains tables) same has
        member (inr none) = absurd (Contains-none cyclic.table none)
    costs_are t has (inr acyclic_alone) = (some (t ∷ []) t acyclic_alone (Contains-head t [])).1

    pub all_costs_are : AreAllCosts tables all_costs
    all_costs_are t has = costs_are t has (decide (t ∷ []))
