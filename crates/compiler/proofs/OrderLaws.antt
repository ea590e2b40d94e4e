-- The starts of hooks are their base chains, in order of priority and of text.
use Rattle.compiler.proofs.Names.{Any-from_list_any, BaseChain, Bool, CompiledChain, Equal, Greater, InOrder, IsPermutation, IsSortedBy, IsStableBy, Less, List}
use Rattle.compiler.proofs.Names.{Code, Global, Hook, Start, Vec, append-nil, get_or, hook_starts, length, map-append, runs_on_hook, same_hook, start_of, starts_of, take}
use Rattle.compiler.proofs.Names.{take_more, ℕ, ◌++◌, ◌<◌}
use Rattle.nft_tree.specs.declared.chain.Hook.TheVariants as hooks
use Rattle.compiler.proofs.Names.{[], ap, ap₂, arith, base, cond, false, false≢true, filter, fun_ext, get_or-map, int_lt, length-map, list_any}
use Rattle.compiler.proofs.Names.{list_any-IsPermutation, map, not, priority, refl, runs_before, subst, sym, ties, true, ℤ, ◌&&◌, ◌+◌, ◌∙◌, ◌∷◌, ◌≡◌}
use Rattle.list_laws.specs.Tests.{and-flip, less_by}
use Rattle.rule_meaning.proofs.Priorities.{priorities}
use Rattle.std.proofs.lemmas.List.Elements.{filter-append, filter_agree}
use Rattle.std.proofs.lemmas.List.Kept.{IsSortedBy-filter}
use Rattle.nft_tree.specs.Priorities.{priority_number}
use Rattle.std.proofs.lemmas.Cmp.{int_ranked}
use Rattle.std.specs.Ordering.{int_cmp, is_lt}

-- ---- order

-- the number that base chains are sorted by
abbrev pub key : CompiledChain → ℤ
key b = priority_number b.head.now.priority

abbrev pub by_key : CompiledChain → CompiledChain → Bool
by_key x y = is_lt (int_cmp (key x) (key y))

abbrev by_priority : CompiledChain → CompiledChain → Bool
by_priority x y = runs_before (base x) (base y)

same_order : by_key ≡ by_priority
same_order = fun_ext (λ x. fun_ext (λ y. less_by (int_lt (key x) (key y)) (int_lt (key y) (key x))))

-- ---- a list and what it shows

sorted_shown : {A B : Type 0} (f : A → B) (lt : B → B → Bool) (xs : List A) → IsSortedBy (λ a b. lt (f a) (f b)) xs → IsSortedBy lt (map f xs)
sorted_shown f lt [] rising k d low high = absurd (omega arith)
sorted_shown f lt (x ∷ xs) rising k d low high =
    let n = length-map (x ∷ xs) f in
    ap₂ lt (get_or-map f (x ∷ xs) (k + 1) x d (omega arith)) (get_or-map f (x ∷ xs) k x d (omega arith)) ∙ rising k x low (omega arith)

pub filter_shown : {A B : Type 0} (f : A → B) (p : B → Bool) (xs : List A) → map f (filter (λ x. p (f x)) xs) ≡ filter p (map f xs)
filter_shown f p [] = refl
filter_shown f p (x ∷ xs) = grind (arith, filter_shown f p xs)

none_passes : {A : Type 0} (p : A → Bool) (xs : List A) → list_any p xs ≡ false → filter p xs ≡ []
none_passes p [] none = refl
none_passes p (x ∷ xs) none = grind (arith, none_passes p xs)

-- ---- one filter after another

module _ {X : Type 0} where
  twice_by : (p q : X → Bool) (x : X) (b : Bool) (ps both : List X) → filter q ps ≡ both
      → filter q (cond b (x ∷ ps) ps) ≡ cond (b && q x) (x ∷ both) both
  twice_by p q x true ps both e = ap (λ l. cond (q x) (x ∷ l) l) e
  twice_by p q x false ps both e = e

  -- a filter of a filter is a filter by both tests
  pub filter_twice : (p q : X → Bool) (xs : List X) → filter q (filter p xs) ≡ filter (λ x. p x && q x) xs
  filter_twice p q [] = refl
  filter_twice p q (x ∷ xs) = twice_by p q x (p x) (filter p xs) (filter (λ y. p y && q y) xs) (filter_twice p q xs)

  filter_swap : (p q : X → Bool) (xs : List X) → filter q (filter p xs) ≡ filter p (filter q xs)
  filter_swap p q xs = filter_twice p q xs ∙ filter_agree (λ x. p x && q x) (λ x. q x && p x)
      (λ x. and-flip (p x) (q x)) xs ∙ sym (filter_twice q p xs)

-- ---- equal priorities

both_false : (a b : Bool) → not a && not b ≡ true → cond a Less (cond b Greater Equal) ≡ Equal
both_false false false h = refl
both_false a b h = absurd (false≢true h)

tied : (a b : BaseChain) → ties runs_before a b ≡ true → priority a ≡ priority b
tied a b h = int_ranked (priority a) (priority b) Equal (sym (both_false (int_lt (priority a) (priority b)) (int_lt (priority b) (priority a)) h))

-- it is neither before nor behind base chains of this priority
abbrev at_priority : ℤ → CompiledChain → Bool
at_priority p x = not (int_lt p (priority (base x))) && not (int_lt (priority (base x)) p)

-- base chains that are sorted are in order
module _ (xs ys : List CompiledChain) (moved : IsPermutation xs ys) (sorted : IsSortedBy by_key ys) (stable : IsStableBy by_key xs ys) where
  -- those of equal priority keep the order of the text
  stays : (b : BaseChain) (some : Bool) → list_any (at_priority (priority b)) xs ≡ some
      → filter (at_priority (priority b)) ys ≡ filter (at_priority (priority b)) xs
  stays b true some =
      let found = Any-from_list_any (at_priority (priority b)) xs some in
      subst (λ p. filter (at_priority p) ys ≡ filter (at_priority p) xs) (sym (tied b (base found.1) found.4))
      (subst (λ lt. IsStableBy lt xs ys) same_order stable found.1)
  stays b false none = none_passes (at_priority (priority b)) ys
      (sym (list_any-IsPermutation (at_priority (priority b)) xs ys moved) ∙ none) ∙ sym (none_passes (at_priority (priority b)) xs none)

  pub in-order : InOrder (map base xs) (map base ys)
  in-order = record {
    rising = sorted_shown base runs_before ys (subst (λ lt. IsSortedBy lt ys) same_order sorted);
    stable = λ b. sym (filter_shown base (ties runs_before b) ys)
        ∙ ap (map base) (stays b (list_any (at_priority (priority b)) xs) refl) ∙ filter_shown base (ties runs_before b) xs;
  }

-- some base chains of a text, in the order that all of them have
pub some_in_order : (test : BaseChain → Bool) (text order : List BaseChain) → InOrder text order
    → InOrder (filter test text) (filter test order)
some_in_order test text order o =
    record {
      rising = IsSortedBy-filter runs_before priorities test order o.rising;
      stable = λ x. filter_swap test (ties runs_before x) order ∙ ap (filter test) (o.stable x)
          ∙ filter_swap (ties runs_before x) test text;
    }

-- ---- one start more

-- the start of a base chain on its hook, which is none on others
pub one_start : (b : CompiledChain) (h : Hook) → b.head.now.hook ≡ h → (hook : Hook)
    → hook_starts hook (b ∷ []) ≡ cond (same_hook h hook) (start_of b ∷ []) []
one_start b h is hook = ap (λ k. map start_of (cond (same_hook k hook) (b ∷ []) [])) is ∙ shown (same_hook h hook)
  where
    shown : (t : Bool) → map start_of (cond t (b ∷ []) []) ≡ cond t (start_of b ∷ []) []
    shown true = refl
    shown false = refl

-- the code with other starts of a hook
abbrev with_starts : Hook → Code → Vec Start Global → Code
with_starts hooks.Prerouting code starts = record code { prerouting = starts }
with_starts hooks.Input code starts = record code { input = starts }
with_starts hooks.Forward code starts = record code { forward = starts }
with_starts hooks.Output code starts = record code { output = starts }
with_starts hooks.Postrouting code starts = record code { postrouting = starts }

-- those of the hook are changed, and no others
changed : (code : Code) (starts : Vec Start Global) (more : List Start) (h hook : Hook) → starts.items ≡ starts_of code h ++ more
    → starts_of (with_starts h code starts) hook ≡ starts_of code hook ++ cond (same_hook h hook) more []
changed code starts more hooks.Prerouting hooks.Prerouting is = is
changed code starts more hooks.Input hooks.Input is = is
changed code starts more hooks.Forward hooks.Forward is = is
changed code starts more hooks.Output hooks.Output is = is
changed code starts more hooks.Postrouting hooks.Postrouting is = is
changed code starts more h hook is = sym (append-nil (starts_of code hook))

-- with the start of a base chain at its hook, each hook has those of its base chains
pub started : (code : Code) (starts : Vec Start Global) (b : CompiledChain) (start : Start) (h : Hook) → start ≡ start_of b
    → b.head.now.hook ≡ h → starts.items ≡ starts_of code h ++ start ∷ [] → (hook : Hook)
    → starts_of (with_starts h code starts) hook ≡ starts_of code hook ++ hook_starts hook (b ∷ [])
started code starts b start h same at is hook =
    changed code starts (start_of b ∷ []) h hook (is ∙ ap (λ x. starts_of code h ++ x ∷ []) same)
    ∙ ap (λ xs. starts_of code hook ++ xs) (sym (one_start b h at hook))

-- one base chain more of a list
pub more_starts : (hook : Hook) (bases : List CompiledChain) (i : ℕ) (b : CompiledChain) → i < length bases → b ≡ get_or bases i b
    → hook_starts hook (take (i + 1) bases) ≡ hook_starts hook (take i bases) ++ hook_starts hook (b ∷ [])
more_starts hook bases i b inside is = ap (hook_starts hook) (take_more bases i b inside ∙ ap (λ x. take i bases ++ x ∷ []) (sym is))
    ∙ ap (map start_of) (filter-append (runs_on_hook hook) (take i bases) (b ∷ []))
    ∙ map-append start_of (filter (runs_on_hook hook) (take i bases)) (filter (runs_on_hook hook) (b ∷ []))

pub no_starts : (code : Code) → code.prerouting.items ≡ [] → code.input.items ≡ [] → code.forward.items ≡ [] → code.output.items ≡ []
    → code.postrouting.items ≡ [] → (hook : Hook) → starts_of code hook ≡ []
no_starts code a b c d e hooks.Prerouting = a
no_starts code a b c d e hooks.Input = b
no_starts code a b c d e hooks.Forward = c
no_starts code a b c d e hooks.Output = d
no_starts code a b c d e hooks.Postrouting = e
