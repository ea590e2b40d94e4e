-- The base chains of a stage run along their ways, one after another.
use Rattle.std.proofs.Common.{◌≡◌, ◌<◌, true, false, Bool, not, ◌&&◌, List, [], ◌∷◌, filter, slice_get, Contains}
use Rattle.std.proofs.Common.{Some, refl, sym, ap, ap₂, ◌∙◌, subst, arith}
use Rattle.std.specs.List.Sorted.{ties}
use Rattle.std.proofs.lemmas.List.Elements.{All-contains, All-contains_itself, All-filter}
use Rattle.std.proofs.lemmas.Option.{get_or_from_slice_get}
use Rattle.list_laws.specs.Lists.{Contains-head}
use Rattle.list_laws.specs.Decisions.{Contains-there}
use Rattle.list_laws.specs.Filters.{has_filter}
use Rattle.nft_tree.specs.declared.chain.Policy.{Policy}
use Rattle.nft_tree.specs.Tree.{TableTree}
use Rattle.box_file.specs.Box.{PlantTree}
use Rattle.rule_paths.specs.Paths.{MAX_COST}
use Rattle.rule_meaning.specs.declared.facts.Facts.{Facts}
use Rattle.rule_meaning.specs.declared.event.ChainNo.{ChainNo}
use Rattle.rule_meaning.specs.declared.event.Event.{Event}
use Rattle.rule_meaning.specs.declared.event.HookVerdict.{HookVerdict}
use Rattle.rule_meaning.specs.declared.event.HookVerdict.TheVariants.{Accepted, Dropped, Translated}
use Rattle.rule_meaning.specs.declared.stage.HookStage.{HookStage}
use Rattle.rule_meaning.specs.Runs.{table_program}
use Rattle.rule_meaning.specs.Hooks as hooks
use Rattle.rule_meaning.specs.Hooks.{BaseChain, HookResult, InOrder, InTurn, RunsBaseChain, Stage, Continues, Stops, Then}
use Rattle.rule_meaning.specs.Hooks.{base_chains_of, chains_in_stage, policy_of, runs_before, with_policy}
use Rattle.rule_meaning.proofs.Priorities.{priorities}
use Rattle.rule_laws.specs.Terminates.{Terminates}
use Rattle.rule_laws.proofs.Sorting.{ordered, sorted, stable}
use Rattle.chain_ways.specs.Ways.{WayEnd, ended, over, way, run_result, result_with, events_of_visits}
use Rattle.chain_ways.specs.Laws.{BaseChainRunsAreWays}
use Rattle.chain_ways.specs.BaseWays.{LEVELS, AreChainsOf, StageEnd, StageRunsAreWays, base_end, base_way, behind_end, by_policy}
use Rattle.chain_ways.specs.BaseWays.{end_of_chains, program_at, table_at}

-- ---- results and ends

-- this result has the verdict and the facts of the end
record IsEnd (r : HookResult) (e : StageEnd) : Type 0 where
  verdict : r.verdict ≡ e.verdict
  facts : r.facts ≡ e.facts

with_events : (number : ChainNo) (policy : Policy) (es : List Event) (end : WayEnd)
    → IsEnd (with_policy number policy (result_with es end)) (by_policy policy end)
with_events number policy es (ended f) = record { verdict = refl; facts = refl }
with_events number policy es (over verdict f) = record { verdict = refl; facts = refl }

-- an accept goes on, any other verdict ends all
on_accept : (v : HookVerdict) → Continues v → (rest : Facts → StageEnd) (f : Facts)
    → behind_end rest (record { verdict = v; facts = f }) ≡ rest f
on_accept Accepted on rest f = refl
on_accept Dropped on rest f = absurd on
on_accept (Translated t) on rest f = absurd on

on_other : (v : HookVerdict) → Stops v → (rest : Facts → StageEnd) (f : Facts)
    → behind_end rest (record { verdict = v; facts = f }) ≡ record { verdict = v; facts = f }
on_other Accepted stops rest f = absurd (stops tt)
on_other Dropped stops rest f = refl
on_other (Translated t) stops rest f = refl

-- ---- base chains in order

neither : (b : Bool) → (b ≡ true → b ≡ false) → b ≡ false
neither true h = h refl
neither false h = refl

-- a base chain ties with itself
tied : (b : BaseChain) → ties runs_before b b ≡ true
tied b =
    let e : runs_before b b ≡ false = neither (runs_before b b) (priorities.one_way b b) in
    ap (λ t. not t && not t) e

-- what passes a test is in the list
pub in_list : {X : Type 0} (p : X → Bool) (xs : List X) (x : X) → Contains (filter p xs) x → Contains xs x
in_list p xs x h = All-contains (Contains xs) (filter p xs) x (All-filter p (Contains xs) xs (All-contains_itself xs)) h

-- what is in order is in the text
pub in_text : (text order : List BaseChain) → InOrder text order → (b : BaseChain) → Contains order b → Contains text b
in_text text order o b h =
    let same = ties runs_before b in
    in_list same text b (subst (λ (l : List BaseChain). Contains l b) (o.stable b) (has_filter same order b h (tied b)))

-- ---- one base chain, and those behind it

many : MAX_COST < LEVELS
unfolding LEVELS
many = omega arith

-- of each base chain
abbrev pub RunsAre : PlantTree → List TableTree → Type 0
RunsAre network tables = (b : BaseChain) → Contains (base_chains_of tables) b → (t : TableTree)
    → slice_get tables b.number.table ≡ Some t → BaseChainRunsAreWays network tables b t

module _ (network : PlantTree) (tables : List TableTree) (law : RunsAre network tables) where
  base_run : (b : BaseChain) → Contains (base_chains_of tables) b → (f : Facts) (es : List Event) (r : HookResult) → RunsBaseChain network tables b f es r
      → IsEnd r (base_end network tables b f)
  base_run b has f es r run =
      let same : table_at tables b.number.table ≡ run.table =
      get_or_from_slice_get tables b.number.table run.table _ run.stands in
      let p = program_at network tables b.number.table in
      let is = subst (λ t. r ≡ with_policy b.number (policy_of b.head)
      (run_result (table_program network b.number.table t) (way (table_program network b.number.table t) LEVELS b.number.chain f) es))
      (sym same) ((law b has run.table run.stands LEVELS many f es r).0 run) in
      subst (λ x. IsEnd x (base_end network tables b f)) (sym is)
      (with_events b.number (policy_of b.head) (events_of_visits p (base_way network tables b f).visits es) (base_way network tables b f).end)

  -- base chains in turn come to the end of the way through them
  abbrev Comes : List BaseChain → Type 0
  Comes bs = (f : Facts) (es : List Event) (r : HookResult) → InTurn network tables bs f es r → IsEnd r (end_of_chains network tables bs f)

  behind_first : (b : BaseChain) (bs : List BaseChain) → Contains (base_chains_of tables) b → Comes bs → (f : Facts) (es : List Event) (r : HookResult)
      → Then (RunsBaseChain network tables b) (InTurn network tables bs) f es r → IsEnd r (end_of_chains network tables (b ∷ bs) f)
  behind_first b bs has others f es r (hooks.goes_on m ran on more) =
      let rest = end_of_chains network tables bs in
      let first = base_run b has f es m ran in
      subst (IsEnd r) (sym (on_accept m.verdict on rest m.facts)
      ∙ ap₂ (λ v g. behind_end rest (record { verdict = v; facts = g })) first.verdict first.facts) (others m.facts m.events r more)
  behind_first b bs has others f es r (hooks.stops ran stops) =
      let rest = end_of_chains network tables bs in
      let only = base_run b has f es r ran in
      subst (IsEnd r) (sym (on_other r.verdict stops rest r.facts)
      ∙ ap₂ (λ v g. behind_end rest (record { verdict = v; facts = g })) only.verdict only.facts) (record { verdict = refl; facts = refl })

  in_turn : (bs : List BaseChain) → ((b : BaseChain) → Contains bs b → Contains (base_chains_of tables) b) → Comes bs
  in_turn [] all f es r is = record { verdict = ap (λ x. x.verdict) is; facts = ap (λ x. x.facts) is }
  in_turn (b ∷ bs) all f es r run =
      behind_first b bs (all b (Contains-head b bs)) (in_turn bs (λ x at. all x (Contains-there b x bs at))) f es r run

  module _ (one_order : (text a b : List BaseChain) → InOrder text a → InOrder text b → a ≡ b)
      (terminate : (stage : HookStage) → Terminates (Stage stage network tables)) where
    pub stage_runs_are_ways : (stage : HookStage) → StageRunsAreWays network tables stage
    stage_runs_are_ways stage =
        let test = chains_in_stage stage in
        let text = filter test (base_chains_of tables) in
        let order = ordered runs_before text in
        let are : AreChainsOf tables stage order = record { rising = sorted runs_before priorities text; stable = stable runs_before priorities text } in
        record {
          order = order;
          are = are;
          runs = terminate stage;
          ways = λ f es r run.
              let same = one_order text run.order order run.in_order are in
              let at_end = in_turn order (λ b has. in_list test (base_chains_of tables) b (in_text text order are b has)) f es r
              (subst (λ (l : List BaseChain). InTurn network tables l f es r) same run.run) in
              (at_end.verdict, at_end.facts);
        }
