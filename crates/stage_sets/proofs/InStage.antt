-- The base chains of a stage: those of a text, and their order.
use Rattle.std.proofs.Common.{◌≡◌, ◌∙◌, ◌&&◌, ℕ, ℤ, suc, ◌+◌, ◌<◌, ◌≤◌, Bool, true, false, not, cond, List, [], ◌∷◌, ◌++◌, map, filter, drop, length, get_or}
use Rattle.std.proofs.Common.{Bor, Option, Some, None, slice_get, refl, sym, ap, ap₂, subst, arith, add-one, All, Contains}
use Rattle.std.specs.List.{list_any}
use Rattle.std.specs.List.Sorted.{IsPermutation, IsSortedBy, IsStableBy, ties}
use Rattle.std.specs.Prelude.{int_lt}
use Rattle.std.specs.Ordering.{int_cmp, is_lt}
use Rattle.std.specs.declared.cmp.Ordering.TheVariants.{Less, Equal, Greater}
use Rattle.std.proofs.Math.Path.{fun_ext}
use Rattle.std.proofs.lemmas.Bool.{false≢true}
use Rattle.std.proofs.lemmas.Cmp.{int_ranked}
use Rattle.std.proofs.lemmas.List.{drop_more, get_or-map, length-map}
use Rattle.std.proofs.lemmas.List.Elements.{All-append, All-contains, All-contains_itself, All-nil, All-push, filter-append}
use Rattle.std.proofs.lemmas.List.Folds.{Any-from_list_any}
use Rattle.std.proofs.lemmas.List.Sorted.{list_any-IsPermutation}
use Rattle.std.proofs.lemmas.Option.{get_or_from_slice_get, slice_get-map, slice_get_read, slice_get_within}
use Rattle.list_laws.specs.Elements.{Contains-map}
use Rattle.list_laws.specs.Tests.{less_by}
use Rattle.nft_tree.specs.declared.chain.Chain.{Chain}
use Rattle.nft_tree.specs.Priorities.{priority_number}
use Rattle.nft_tree.specs.Tree.{ChainTree, HeadTree, TableTree}
use Rattle.nft_tree.specs.TableItems.{chains_of}
use Rattle.nft_tree.specs.TreeViews.{chain_tree}
use Rattle.rule_meaning.specs.declared.stage.HookStage.{HookStage}
use Rattle.rule_meaning.specs.Hooks.{BaseChain, InOrder, base_chain_of, base_chains_from, base_chains_of, base_chains_of_tables, chains_in_stage}
use Rattle.rule_meaning.specs.Hooks.{priority, runs_before}
use Rattle.chain_ways.specs.BaseWays.{AreChainsOf}
use Rattle.chain_ways.proofs.Stages.{in_list, in_text}
use Rattle.stage_sets.specs.declared.bases.Base.{Base}
use Rattle.stage_sets.specs.steps.Bases.{StandsIn, base_chain}

-- ---- those that are left

-- the first of those that are left at a place of a list
rest_from : {A : Type 0} (xs : List A) (i : ℕ) (x : A) → slice_get xs i ≡ Some x → drop i xs ≡ x ∷ drop (i + 1) xs
rest_from xs i x is = drop_more xs i x (slice_get_within xs i x is) ∙ ap (λ y. y ∷ drop (i + 1) xs) (get_or_from_slice_get xs i x x is)

pub chain_at : (chains : List (Bor Chain)) (t : TableTree) (i : ℕ) (x : Bor Chain) → map (λ b. chain_tree b.now) chains ≡ chains_of t
    → i < length chains → x ≡ get_or chains i x → slice_get (chains_of t) i ≡ Some (chain_tree x.now)
chain_at chains t i x all lt is = rw (
  ← all,
  slice_get-map (λ (b : Bor Chain). chain_tree b.now) chains i,
  slice_get_read chains (length chains) i x refl lt is,
) refl

pub chains_left : (test : BaseChain → Bool) (table i : ℕ) (cs : List ChainTree) (c : ChainTree) → slice_get cs i ≡ Some c
    → filter test (base_chains_from table i (drop i cs))
    ≡ filter test (base_chain_of table i c.head) ++ filter test (base_chains_from table (i + 1) (drop (i + 1) cs))
chains_left test table i cs c is = rw (rest_from cs i c is, add-one)
    (filter-append test (base_chain_of table i c.head) (base_chains_from table (suc i) (drop (suc i) cs)))

pub tables_left : (test : BaseChain → Bool) (i : ℕ) (ts : List TableTree) (t : TableTree) → slice_get ts i ≡ Some t
    → filter test (base_chains_of_tables i (drop i ts))
    ≡ filter test (base_chains_from i 0 (chains_of t)) ++ filter test (base_chains_of_tables (i + 1) (drop (i + 1) ts))
tables_left test i ts t is = rw (rest_from ts i t is, add-one)
    (filter-append test (base_chains_from i 0 (chains_of t)) (base_chains_of_tables (suc i) (drop (suc i) ts)))

-- ---- each in its table

abbrev Below : ℕ → BaseChain → Type 0
Below n b = b.number.table < n

one_below : (k c n : ℕ) → k < n → (head : Option HeadTree) → All (Below n) (base_chain_of k c head)
one_below k c n lt None = All-nil (Below n)
one_below k c n lt (Some head) =
    All-push (Below n) [] (record { number = record { table = k; chain = c }; head = head }) (All-nil (Below n)) lt

from_below : (k c n : ℕ) → k < n → (cs : List ChainTree) → All (Below n) (base_chains_from k c cs)
from_below k c n lt [] = All-nil (Below n)
from_below k c n lt (x ∷ xs) =
    All-append (Below n) (base_chain_of k c x.head) (base_chains_from k (suc c) xs) (one_below k c n lt x.head) (from_below k (suc c) n lt xs)

tables_below : (k n : ℕ) (ts : List TableTree) → k + length ts ≤ n → All (Below n) (base_chains_of_tables k ts)
tables_below k n [] le = All-nil (Below n)
tables_below k n (t ∷ ts) le =
    All-append (Below n) (base_chains_from k 0 (chains_of t)) (base_chains_of_tables (suc k) ts)
    (from_below k 0 n (omega (arith, le)) (chains_of t)) (tables_below (suc k) n ts (omega (arith, le)))

each_stands : (tables : List TableTree) (test : BaseChain → Bool) (bases : List Base)
    → ((b : BaseChain) → Contains (map base_chain bases) b → Contains (filter test (base_chains_of tables)) b) → All (StandsIn tables) bases
each_stands tables test bases among k d inside =
    let b = get_or bases k d in
    All-contains (Below (length tables)) (base_chains_of tables) (base_chain b) (tables_below 0 (length tables) tables (omega arith))
    (in_list test (base_chains_of tables) (base_chain b) (among (base_chain b)
    (Contains-map base_chain bases b (All-contains_itself bases k d inside))))

-- those of a stage, in order
pub all_stand : (tables : List TableTree) (stage : HookStage) (bases : List Base) → AreChainsOf tables stage (map base_chain bases)
    → All (StandsIn tables) bases
all_stand tables stage bases are =
    each_stands tables (chains_in_stage stage) bases
    (in_text (filter (chains_in_stage stage) (base_chains_of tables)) (map base_chain bases) are)

-- those of the text
pub text_stands : (tables : List TableTree) (test : BaseChain → Bool) (bases : List Base)
    → map base_chain bases ≡ filter test (base_chains_of tables) → All (StandsIn tables) bases
text_stands tables test bases are = each_stands tables test bases (λ b inside. subst (λ (l : List BaseChain). Contains l b) are inside)

-- ---- order

-- the number that base chains are sorted by
abbrev pub key : Base → ℤ
key b = priority_number b.head.now.priority

abbrev by_key : Base → Base → Bool
by_key x y = is_lt (int_cmp (key x) (key y))

abbrev by_priority : Base → Base → Bool
by_priority x y = runs_before (base_chain x) (base_chain y)

same_order : by_key ≡ by_priority
same_order = fun_ext (λ x. fun_ext (λ y. less_by (int_lt (key x) (key y)) (int_lt (key y) (key x))))

sorted_shown : {A B : Type 0} (f : A → B) (lt : B → B → Bool) (xs : List A) → IsSortedBy (λ a b. lt (f a) (f b)) xs → IsSortedBy lt (map f xs)
sorted_shown f lt [] rising k d low high = absurd (omega arith)
sorted_shown f lt (x ∷ xs) rising k d low high =
    let n = length-map (x ∷ xs) f in
    ap₂ lt (get_or-map f (x ∷ xs) (k + 1) x d (omega arith)) (get_or-map f (x ∷ xs) k x d (omega arith)) ∙ rising k x low (omega arith)

filter_shown : {A B : Type 0} (f : A → B) (p : B → Bool) (xs : List A) → map f (filter (λ x. p (f x)) xs) ≡ filter p (map f xs)
filter_shown f p [] = refl
filter_shown f p (x ∷ xs) = grind (arith, filter_shown f p xs)

none_passes : {A : Type 0} (p : A → Bool) (xs : List A) → list_any p xs ≡ false → filter p xs ≡ []
none_passes p [] none = refl
none_passes p (x ∷ xs) none = grind (arith, none_passes p xs)

both_false : (a b : Bool) → not a && not b ≡ true → cond a Less (cond b Greater Equal) ≡ Equal
both_false false false h = refl
both_false a b h = absurd (false≢true h)

tied : (a b : BaseChain) → ties runs_before a b ≡ true → priority a ≡ priority b
tied a b h = int_ranked (priority a) (priority b) Equal (sym (both_false (int_lt (priority a) (priority b)) (int_lt (priority b) (priority a)) h))

-- it is neither before nor behind base chains of this priority
abbrev at_priority : ℤ → Base → Bool
at_priority p x = not (int_lt p (priority (base_chain x))) && not (int_lt (priority (base_chain x)) p)

-- base chains that are sorted are in order
module _ (xs ys : List Base) (moved : IsPermutation xs ys) (sorted : IsSortedBy by_key ys) (stable : IsStableBy by_key xs ys) where
  -- those of equal priority keep the order of the text
  stays : (b : BaseChain) (some : Bool) → list_any (at_priority (priority b)) xs ≡ some
      → filter (at_priority (priority b)) ys ≡ filter (at_priority (priority b)) xs
  stays b true some =
      let found = Any-from_list_any (at_priority (priority b)) xs some in
      subst (λ p. filter (at_priority p) ys ≡ filter (at_priority p) xs) (sym (tied b (base_chain found.1) found.4))
      (subst (λ lt. IsStableBy lt xs ys) same_order stable found.1)
  stays b false none = none_passes (at_priority (priority b)) ys
      (sym (list_any-IsPermutation (at_priority (priority b)) xs ys moved) ∙ none) ∙ sym (none_passes (at_priority (priority b)) xs none)

  pub in_order : InOrder (map base_chain xs) (map base_chain ys)
  in_order = record {
    rising = sorted_shown base_chain runs_before ys (subst (λ lt. IsSortedBy lt ys) same_order sorted);
    stable = λ b. sym (filter_shown base_chain (ties runs_before b) ys)
        ∙ ap (map base_chain) (stays b (list_any (at_priority (priority b)) xs) refl) ∙ filter_shown base_chain (ties runs_before b) xs;
  }
