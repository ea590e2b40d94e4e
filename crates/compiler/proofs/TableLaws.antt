-- The chains of a table, one after another, and the tables of a ruleset.
use Rattle.compiler.proofs.Names.{AddsChain, AllZip, AreLeft, AreTableCodes, Bool, Bor, Chain, ChainTree, ExtendsCode, Global, IsTableCode, ItemTree, List}
use Rattle.compiler.proofs.Names.{Option, PlantTree, RulesAt, Some, Statement, StatementsAt, TableCode, TableTree, Vec, [], all_zipped_more, ap, arith}
use Rattle.compiler.proofs.Names.{chain_in, chain_steps, chain_tree, chains_of, dropped_rules, extends_code_itself, extends_code_on, extends_itself, false}
use Rattle.compiler.proofs.Names.{false_from_ne_true, false≢true, filter_map, get_or, get_or_from_slice_get, inl, inr, keeps_push, left_program}
use Rattle.compiler.proofs.Names.{left_statements, length, length-append, list_any, list_any_at, map, min, none-some, or_parts, refl, rules_in}
use Rattle.compiler.proofs.Names.{same_Some, slice_get, slice_get-map, slice_get-push, slice_get_read, slice_get_within, some_of_map, subst, suc, sum_by}
use Rattle.compiler.proofs.Names.{sum_by_push, sym, take, take_all, take_more, zero, ℕ, ⊎_elim, ◌++◌, ◌+◌, ◌-◌, ◌<◌, ◌^◌, ◌∙◌, ◌∷◌, ◌≡◌, ◌≤◌, ◌⊎◌}
use Rattle.code_layout.specs.Adding.{AddsNumber}
use Rattle.code_layout.specs.CodeLayout.{IsSumOver}
use Rattle.code_layout.specs.MergedRules.{HasMerged, HasTables}
use Rattle.lowering.specs.Lowered.{scope_of}
use Rattle.rule_meaning.specs.Runs.{table_program}
use Rattle.nft_tree.specs.Tree as tree

-- ---- an element of a list

pub chain_at : (chains : List (Bor Chain)) (t : TableTree) (i : ℕ) (x : Bor Chain) → map (λ b. chain_tree b.now) chains ≡ chains_of t
    → i < length chains → x ≡ get_or chains i x → slice_get (chains_of t) i ≡ Some (chain_tree x.now)
chain_at chains t i x all lt is = rw (
  ← all,
  slice_get-map (λ (b : Bor Chain). chain_tree b.now) chains i,
  slice_get_read chains (length chains) i x refl lt is,
) refl

-- what is so of no element isn't so of one
pub none_at : {A : Type 0} (p : A → Bool) (xs : List A) (i : ℕ) (x : A) → i < length xs → x ≡ get_or xs i x → list_any p xs ≡ false → p x ≡ false
none_at p xs i x lt is none = false_from_ne_true (p x) (λ yes. false≢true (sym none ∙ list_any_at p xs i x lt (ap p (sym is) ∙ yes)))

-- what is wrong with no item is wrong with no chain
pub chain_free : (p : ItemTree → Bool) (q : ChainTree → Bool) → ((c : ChainTree) → p (tree.chain c) ≡ false → q c ≡ false)
    → (items : List ItemTree) (i : ℕ) (c : ChainTree) → list_any p items ≡ false → slice_get (filter_map chain_in items) i ≡ Some c → q c ≡ false
chain_free p q h [] i c none is = cc
chain_free p q h (tree.chain x ∷ items) zero c none is = let e : x ≡ c = cc in ap q (sym e) ∙ h x (or_parts _ _ none).0
chain_free p q h (tree.chain x ∷ items) (suc i) c none is = chain_free p q h items i c (or_parts (p (tree.chain x)) (list_any p items) none).1 is
chain_free p q h (item ∷ items) i c none is = chain_free p q h items i c (or_parts (p item) (list_any p items) none).1 is

-- ---- the chains of a table

push-cases : {A : Type 0} (xs : List A) (y : A) (i : ℕ) (x : A) → slice_get (xs ++ y ∷ []) i ≡ Some x
    → (slice_get xs i ≡ Some x) ⊎ ((length xs ≡ i) × (y ≡ x))
push-cases [] y zero x is = inr (refl, same_Some y x is)
push-cases [] y (suc i) x is = absurd (none-some x is)
push-cases (z ∷ xs) y zero x is = inl is
push-cases (z ∷ xs) y (suc i) x is = ⊎_elim inl (λ last. inr (ap suc last.0, last.1)) (push-cases xs y i x is)

-- the number of one chain more
sum_more : (Has : ChainTree → ℕ → Type 0) (chains : List ChainTree) (place : ℕ) (chain : ChainTree) (old new : ℕ)
    → slice_get chains place ≡ Some chain → AddsNumber (Has chain) old new
    → IsSumOver Has (take place chains) old → IsSumOver Has (take (place + 1) chains) new
sum_more Has chains place chain old new is added so =
    let within = slice_get_within chains place chain is in
    record {
      numbers = so.numbers ++ added.number ∷ [];
      each = rw (take_more chains place chain within, get_or_from_slice_get chains place chain chain is)
          (all_zipped_more Has (take place chains) so.numbers chain added.number so.each added.such);
      is_sum = omega (arith, added.sum, so.is_sum, sum_by_push (λ (n : ℕ). n) so.numbers added.number);
    }

sum_none : (Has : ChainTree → ℕ → Type 0) (total : ℕ) → total ≡ 0 → IsSumOver Has [] total
sum_none Has total none = record { numbers = []; each = tt; is_sum = omega (arith, none) }

module _ (network : PlantTree) (number : ℕ) (t : TableTree) where
  -- how many merged rules and tables a chain has
  abbrev CountsMerged : ChainTree → ℕ → Type 0
  CountsMerged chain = HasMerged (rules_in chain) (scope_of network t)

  abbrev CountsTables : ChainTree → ℕ → Type 0
  CountsTables chain = HasTables (rules_in chain) (scope_of network t)

  -- what is left of the rules of chain c is in the code, from the chain's offset on, whatever is added later
  abbrev IsPlaced : TableCode → ℕ → List (Option (List Statement)) → Type 0
  IsPlaced now c rules = (at_step : ℕ) × (slice_get now.chain_offsets.items c ≡ Some at_step) × ((later : TableCode) → ExtendsCode now later
      → RulesAt (table_program network number t) later at_step c 1 (map left_statements rules))

  -- loop invariant: the first chains of the table are in the code
  pub record ChainsSoFar (place : ℕ) (now : TableCode) : Type 0 where
    pub left : List (List (Option (List Statement)))
    pub are_left : AllZip (λ chain rules. AreLeft (rules_in chain) (scope_of network t) rules) (take place (chains_of t)) left
    pub count : length left ≡ place
    pub offsets : length now.chain_offsets.items ≡ place
    pub placed : (c : ℕ) (rules : List (Option (List Statement))) → slice_get left c ≡ Some rules → IsPlaced now c rules
    pub steps : length now.steps.items ≡ sum_by chain_steps left
    pub tables : IsSumOver CountsTables (take place (chains_of t)) now.tables
    pub merged : IsSumOver CountsMerged (take place (chains_of t)) now.merged
    pub dropped : now.dropped ≡ min (sum_by dropped_rules left) (2 ^ 64 - 1)

  pub chains_none : (code : TableCode) → code.steps.items ≡ [] → code.chain_offsets.items ≡ []
      → code.tables ≡ 0 → code.merged ≡ 0 → code.dropped ≡ 0 → ChainsSoFar 0 code
  chains_none code steps offsets tables merged dropped = record {
    left = [];
    are_left = tt;
    count = refl;
    offsets = ap length offsets;
    placed = λ c rules has. absurd (none-some rules has);
    steps = ap length steps;
    tables = sum_none CountsTables code.tables tables;
    merged = sum_none CountsMerged code.merged merged;
    dropped = omega (arith, dropped);
  }

  pub chains_more : (place : ℕ) (chain : ChainTree) (offsets : Vec ℕ Global) (now new : TableCode) → slice_get (chains_of t) place ≡ Some chain
      → offsets.items ≡ now.chain_offsets.items ++ length now.steps.items ∷ []
      → AddsChain network number t place chain (record now { chain_offsets = offsets }) new → ChainsSoFar place now → ChainsSoFar (place + 1) new
  chains_more place chain offsets now new is pushed added so = record {
    left = so.left ++ added.left ∷ [];
    are_left = rw (take_more (chains_of t) place chain within, get_or_from_slice_get (chains_of t) place chain chain is)
        (all_zipped_more (λ c rules. AreLeft (rules_in c) (scope_of network t) rules) (take place (chains_of t)) so.left chain added.left
        so.are_left added.are_left);
    count = length-append so.left (added.left ∷ []) ∙ ap (λ n. n + 1) so.count;
    offsets = ap (λ ps. length ps.items) added.adds.same_places ∙ ap length pushed
        ∙ length-append now.chain_offsets.items (length now.steps.items ∷ []) ∙ ap (λ n. n + 1) so.offsets;
    placed = λ c rules has. ⊎_elim (λ early. let old = so.placed c rules early in
        (old.0, grown.chain_offsets c old.0 old.1, λ later g. old.2 later (extends_code_on now new later grown g)))
        (λ last. subst (λ k. IsPlaced new k rules) (sym so.count ∙ last.0) (subst (IsPlaced new place) last.1 here))
        (push-cases so.left added.left c rules has);
    steps = omega (arith, added.steps, so.steps, sum_by_push chain_steps so.left added.left);
    tables = sum_more CountsTables (chains_of t) place chain now.tables new.tables is added.tables so.tables;
    merged = sum_more CountsMerged (chains_of t) place chain now.merged new.merged is added.merged so.merged;
    dropped = omega (arith, added.dropped, so.dropped, sum_by_push dropped_rules so.left added.left);
  }
    where
      within : place < length (chains_of t)
      within = slice_get_within (chains_of t) place chain is

      with_offset : TableCode
      with_offset = record now { chain_offsets = offsets }

      grown : ExtendsCode now new
      grown = extends_code_on now with_offset new (record {
        steps = λ i x h. h;
        chain_offsets = λ i x h. rw pushed (keeps_push now.chain_offsets.items (length now.steps.items) i x h);
        lookups = extends_itself now.lookups;
        few = omega arith;
      }) added.adds.extends_code

      here : IsPlaced new place added.left
      here = (
        length now.steps.items,
        added.adds.extends_code.chain_offsets place (length now.steps.items)
            (rw (pushed, ← so.offsets) (slice_get-push now.chain_offsets.items (length now.steps.items))),
        added.adds.holds,
      )

  -- the same steps, of a program with other rules
  module _ (left : List (List (Option (List Statement)))) (code : TableCode) where
    statements-as : (at_step c n k : ℕ) (ss : List Statement) → StatementsAt (table_program network number t) code at_step c n k ss
        → StatementsAt (left_program network number t left) code at_step c n k ss
    statements-as at_step c n k [] here = tt
    statements-as at_step c n k (s ∷ ss) here =
        let is = here.0.2 in
        ((here.0.0, here.0.1, record { rule = is.rule; skip = is.skip; effect = is.effect }), statements-as (at_step + 1) c n (k + 1) ss here.1)

    rules-as : (at_step c n : ℕ) (rs : List (List Statement)) → RulesAt (table_program network number t) code at_step c n rs
        → RulesAt (left_program network number t left) code at_step c n rs
    rules-as at_step c n [] here = here
    rules-as at_step c n (r ∷ rs) here = (statements-as at_step c n 1 r here.0, rules-as (at_step + length r) c (n + 1) rs here.1)

  pub chains_all : (place : ℕ) (now : TableCode) → length (chains_of t) ≤ place → ChainsSoFar place now → IsTableCode network number t now
  chains_all place now past so = record {
    left = so.left;
    are_left = rw (take_all place (chains_of t) past) at so.are_left;
    laid_out = record {
      chains = λ c rules has.
          let found = some_of_map (map left_statements) (slice_get so.left c) rules has in
          let holds = so.placed c found.0 found.1 in
          let laid = rules-as so.left now holds.0 c 1 (map left_statements found.0) (holds.2 now (extends_code_itself now)) in
          (holds.0, holds.1, rw found.2 at laid);
    };
    steps = so.steps;
    tables = rw (take_all place (chains_of t) past) at so.tables;
    merged = rw (take_all place (chains_of t) past) at so.merged;
    dropped = so.dropped;
  }

-- ---- the tables of a ruleset

-- one more
pub codes_more : (network : PlantTree) (ts : List TableTree) (codes : List TableCode) (t : TableTree) (code : TableCode) → AreTableCodes network ts codes
    → IsTableCode network (length codes) t code → AreTableCodes network (ts ++ t ∷ []) (codes ++ code ∷ [])
codes_more network ts codes t code so is = record {
  each = λ i u has. ⊎_elim (λ early. let old = so.each i u early in (old.0, keeps_push codes code i old.0 old.1, old.2))
      (λ last. let place : length codes ≡ i = so.same_length ∙ last.0 in (
        code,
        subst (λ k. slice_get (codes ++ code ∷ []) k ≡ Some code) place (slice_get-push codes code),
        subst (λ v. IsTableCode network i v code) last.1 (subst (λ k. IsTableCode network k t code) place is),
      )) (push-cases ts t i u has);
  same_length = length-append codes (code ∷ []) ∙ ap (λ n. n + 1) so.same_length ∙ sym (length-append ts (t ∷ []));
}
