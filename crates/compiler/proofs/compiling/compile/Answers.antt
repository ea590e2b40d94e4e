use Rattle.compiler.proofs.Names.{All, All-contains, All-filter, All-permutation, ChainNo, Code, CompiledChain, Contains, Contains-unmap, Hook, InOrder, List, Prices, [], ap, arith}
use Rattle.compiler.proofs.Names.{base, base_chain_head, base_chains_of, chain_cost_by, filter, get_or, is_on_hook, map, runs_on_hook, slice_index, start_head}
use Rattle.compiler.proofs.Names.{start_of, subst, sum_by, sym, total_cost, weight_by, ℕ, ◌∙◌, ◌≡◌}
use Rattle.std.proofs.lemmas.Simd.{map-map}
use Rattle.compiler.proofs.OrderLaws.{filter_shown, some_in_order}
use Rattle.compiler.proofs.Simulation.{agrees, runs-there}
use Rattle.compiler.proofs.StartLaws.{IsPriced, all_priced, cost-in, costs-shown, row_price, rows-price, start_price, starts-price, starts_total, sum-priced}
use Rattle.compiler.proofs.StartLaws.{sum_by_costs, sum_by_rows}
use Rattle.compiler.proofs.compiling.compile.Goals as goal

pub returns : goal.returns
returns c =
    let checked = c.args.checked.now in
    let code : Code = c.in_ok-code.code in
    let made = c.in_ok-code.ensures in
    let known = c.known_bounds.ensures in
    let costs = known.some.0 in
    let are = known.some.1 in
    let prices = rows-price checked.rules costs are in
    let its = λ (price : ChainNo → ℕ) (prices : Prices checked.rules price). all_priced price made.bases (base_chains_of checked.rules)
    (made.are price prices) in
    let total : (price : ChainNo → ℕ) → Prices checked.rules price → total_cost code ≡ sum_by (λ b. price b.number) (base_chains_of checked.rules) =
    λ price prices. starts_total made.bases code made.ordered ∙ sum-priced price made.bases (base_chains_of checked.rules) (made.are price prices) in
    let o = made.ordered in
    let here : Hook → List CompiledChain = λ hook. filter (runs_on_hook hook) o.order in
    let paid : (hook : Hook) (price : ChainNo → ℕ) → Prices checked.rules price → All (IsPriced price) (here hook) =
    λ hook price prices. All-filter (runs_on_hook hook) (IsPriced price) o.order
    (All-permutation (IsPriced price) made.bases o.order o.moved (its price prices).1) in
    record {
      starts = λ hook. record {
        order = map base (here hook);
        in_order = subst (InOrder (filter (is_on_hook hook) (base_chains_of checked.rules))) (sym (filter_shown base (is_on_hook hook) o.order))
            (subst (λ bs. InOrder (filter (is_on_hook hook) bs) (filter (is_on_hook hook) (map base o.order))) (its (row_price costs) prices).0
            (some_in_order (is_on_hook hook) (map base made.bases) (map base o.order) o.in_order));
        are = ap (map start_head) (o.starts hook) ∙ map-map start_head start_of (here hook) ∙ sym (map-map base_chain_head base (here hook));
        costs = λ cost all. ap (map (λ s. s.cost)) (o.starts hook) ∙ costs-shown (start_price checked.rules cost) (here hook)
            (paid hook (start_price checked.rules cost) (starts-price checked.rules cost all));
      };
      runs = λ hook start b is_start is_base same_head.
          let n = b.number.table in
          agrees checked.network checked.rules b code start (λ f es end r.
          let at = are.are n r.table r.stands in
          let its = at.has_costs in
          let coded = made.tables.each n r.table r.stands in
          let x = Contains-unmap start_of (here hook) start (subst (λ xs. Contains xs start) (o.starts hook) is_start) in
          let same = ap (λ s. s.cost) x.2 in
          let price = All-contains (IsPriced (row_price costs)) (here hook) x.0 (paid hook (row_price costs) prices) x.1
          ∙ ap (λ h. row_price costs h.chain) (ap start_head x.2 ∙ same_head) in
          let limit = x.0.in_limit in
          let its_cost = cost-in r.table (get_or costs n []) at its.0 its.1 b.number.chain (omega arith) in
          runs-there checked.network checked.rules b code start same_head coded.0 (weight_by its.0) (chain_cost_by r.table its.0)
          (λ k. slice_index (get_or known.deep.0 n []) k) f es end r coded.1 coded.2
          (c.costs_rank_chains.ensures checked.rules checked.network known.fine n r.table r.stands its.0 its.1
          (get_or known.deep.0 n []) (known.deep.1.are n r.table r.stands)) (omega arith) (known.deep.2 n b.number.chain))
          (c.hooks_terminate.ensures.base checked.rules checked.network known.fine b is_base);
      steps = made.tables;
      total = λ cost all. total (start_price checked.rules cost) (starts-price checked.rules cost all) ∙ sum_by_costs checked.rules cost;
      cost = omega (arith, total (row_price costs) prices, sum_by_rows checked.rules costs are, known.total costs are);
    }
