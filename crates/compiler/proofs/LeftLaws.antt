-- What is left of a chain: the rules that are left out of it never match a packet that gets to them.
use Rattle.compiler.proofs.Names.{AreLeft, Bool, Facts, FailsAt, IsDropped, IsLeft, IsShadowed, IsSomeAnd, LeadsTo, LeavesOut, LeavesOutOf, List, MatchTree}
use Rattle.compiler.proofs.Names.{None, Option, PlantTree, Some, Statement, TableTree, VerdictTree, [], always_ends, ap, arith, cases_lt, ends_chain, false}
use Rattle.compiler.proofs.Names.{false_from_ne_true, false≢true, fun_ext, get_or, goes_on, if◌then◌else◌, inl, inr, left_statements, length, lists, map}
use Rattle.compiler.proofs.Names.{merged_selectors, none-some, option_map, passes_if, refl, rule_at, same_Some, subst, suc, sym, true, ℕ, ⊎_elim, ◌*◌, ◌+◌, ◌<◌}
use Rattle.compiler.proofs.Names.{◌^◌, ◌∙◌, ◌∷◌, ◌≡◌, ◌≤◌}
use Rattle.code_layout.proofs.ShadowLaws.{merged-goes-on}
use Rattle.lowering.specs.Asked.{asked_selectors, asks_for}
use Rattle.nft_tree.specs.declared.selector.Selector.{Selector}
use Rattle.nft_tree.specs.ValueTypes.{selector_width}
use Rattle.nft_values.specs.Values.{Span}
use Rattle.rule_meaning.specs.Matches.{bit_selector, compares_with, holds, tests}
use Rattle.rule_meaning.specs.Runs.{Program, table_program}
use Rattle.rule_meaning.specs.Selectors.{join, joined_value, value}
use Rattle.rule_meaning.specs.Sets.{Scope, spans}
use borrow.Author.Count.{below_more}
use Rattle.nft_tree.specs.declared.selector.Selector.TheVariants as selectors
use Rattle.nft_tree.specs.declared.statement.Operator.TheVariants as operators
use Rattle.nft_tree.specs.declared.statement.BitTest.TheVariants as bit_tests
use Rattle.nft_tree.specs.Tree as tree

-- ---- what a rule lists, and whether it matches

compares-as : (o : Option Span) (n : ℕ) → compares_with operators.Equal o n ≡ spans o n
compares-as None n = refl
compares-as (Some span) n = refl

-- a concatenation of one value is that value
joined-one : (o : Option ℕ) (width : ℕ) (p : ℕ → Bool) → tests (join 0 ((width, o) ∷ [])) p ≡ tests o p
joined-one None width p = refl
joined-one (Some n) width p = let same : 0 * 2 ^ width + n ≡ n = omega arith in ap p same

-- a match that lists values of selectors holds where their concatenation is one of them
pub holds-as : (scope : Scope) (m : MatchTree) (s : List Selector) (f : Facts) → asked_selectors m ≡ Some s
    → holds scope m f ≡ tests (joined_value s f) (asks_for scope m)
holds-as scope (tree.compare x operators.Equal r) s f is = rw (← (same_Some (x ∷ []) s is))
    (ap (tests (value x f)) (fun_ext (compares-as _)) ∙ sym (joined-one (value x f) _ _))
holds-as scope (tree.is_in ss set) s f is = rw (← (same_Some ss s is))
holds-as scope (tree.bits field bit_tests.Exactly words) s f is =
    rw (← (same_Some (bit_selector field ∷ []) s is)) (sym (joined-one (value (bit_selector field) f) _ _))
holds-as scope (tree.exact_flags fs) s f is =
    rw (← (same_Some (selectors.TcpFlags ∷ []) s is)) (sym (joined-one (value selectors.TcpFlags f) (selector_width selectors.TcpFlags) _))
holds-as scope m s f is = absurd (none-some s is)

asked : (b : Bool) (o : Option (List Selector)) (s : List Selector) → (if b then o else None) ≡ Some s → (b ≡ true) × (o ≡ Some s)
asked true o s is = (refl, is)
asked false o s is = absurd (none-some s is)

tests-false : (o : Option ℕ) (p : ℕ → Bool) → ((n : ℕ) → o ≡ Some n → p n ≡ true → ⊥) → tests o p ≡ false
tests-false None p h = refl
tests-false (Some n) p h = false_from_ne_true (p n) (h n refl)

module _ (network : PlantTree) (number : ℕ) (t : TableTree) where
  abbrev own : Program Statement
  own = table_program network number t

  -- no packet gets past a verdict that ends the chain, behind counters and logs
  none-past : (c n k : ℕ) (ss : List Statement) (f g : Facts) → always_ends ss ≡ true → LeadsTo own c n k ss f g → ⊥
  none-past c n k (tree.counter start ∷ ss) f g is to = none-past c n (k + 1) ss f g is to
  none-past c n k (tree.log text ∷ ss) f g is to = none-past c n (k + 1) ss f g is to
  none-past c n k (tree.verdict tree.continue ∷ ss) f g is to = false≢true is
  none-past c n k (tree.verdict (tree.jump name) ∷ ss) f g is to = false≢true is
  none-past c n k (tree.verdict v ∷ ss) f g is to = to
  none-past c n k ss f g is to = false≢true is

  abbrev scope : Scope
  scope = record { network = network; table = t }

  by-match : (c n : ℕ) (v : VerdictTree) (f g : Facts) (b : Bool) → ends_chain v ≡ true
      → goes_on (passes_if b) (LeadsTo own c n 2 (tree.verdict v ∷ [])) f g → (g ≡ f) × (b ≡ false)
  by-match c n v f g true ends to = absurd (none-past c n 2 (tree.verdict v ∷ []) f g ends to)
  by-match c n v f g false ends to = (to, refl)

  -- a rule that may be merged, a match and a verdict: it fails where it doesn't list the packet's value, and no other packet gets past it
  merged-by : (c n : ℕ) (r : List Statement) (s : List Selector) (f : Facts) → merged_selectors r ≡ Some s
      → ((g : Facts) → LeadsTo own c n 1 r f g → (g ≡ f) × (tests (joined_value s f) (lists scope r) ≡ false))
      × (tests (joined_value s f) (lists scope r) ≡ false → FailsAt own c n 1 r f)
  merged-by c n (tree.matching m ∷ tree.verdict v ∷ []) s f is =
      let ends = asked (ends_chain v) (asked_selectors m) s is in
      let same = holds-as scope m s f ends.1 in (
        λ g to. let way = by-match c n v f g (holds scope m f) ends.0 to in (way.0, sym same ∙ way.1),
        λ none. ap passes_if (same ∙ none),
      )
  merged-by c n r s f is = absurd (none-some s is)

  -- the rules of a chain, the rule at an index
  module _ (rules : List (List Statement)) where
    abbrev at : ℕ → List Statement
    at i = rule_at rules i

    -- a packet with these facts gets to the rule with an index: no earlier rule ended the chain for all, and it has
    -- no value that an earlier rule of its run lists
    record Reaches (k : ℕ) (f : Facts) : Type 0 where
      on : (i : ℕ) → i < k → always_ends (at i) ≡ true → ⊥
      missed : (s : List Selector) (x : ℕ) → joined_value s f ≡ Some x → (i : ℕ) → i < k
          → ((m : ℕ) → i ≤ m → m < k → merged_selectors (at m) ≡ Some s) → lists scope (at i) x ≡ true → ⊥

    -- behind the next rule, which didn't end the chain for all, and doesn't list a value that the packet has then
    reaches-next : (k : ℕ) (f g : Facts) → Reaches k f → (always_ends (at k) ≡ true → ⊥)
        → ((s : List Selector) (x : ℕ) → merged_selectors (at k) ≡ Some s → joined_value s g ≡ Some x
        → (joined_value s f ≡ Some x) × (lists scope (at k) x ≡ true → ⊥)) → Reaches (k + 1) g
    reaches-next k f g so goes here = record {
      on = below_more (λ i. always_ends (at i) ≡ true → ⊥) k so.on goes;
      missed = λ s x has i before merged.
          let its = here s x (merged k (omega arith) (omega arith)) has in
          ⊎_elim (λ early. so.missed s x its.0 i early (λ m from to. merged m from (omega arith)))
          (λ from. let at_k : k ≡ i = omega arith in subst (λ m. lists scope (at m) x ≡ true → ⊥) at_k its.1) (cases_lt i k);
    }

    reaches-more : (k c n : ℕ) (f g : Facts) → Reaches k f → LeadsTo own c n 1 (at k) f g → Reaches (k + 1) g
    reaches-more k c n f g so to = reaches-next k f g so (λ ends. none-past c n 1 (at k) f g ends to) (λ s x merged has.
        let past = (merged-by c n (at k) s f merged).0 g to in
        let had = ap (joined_value s) (sym past.0) ∙ has in
        (had, λ listed. false≢true (sym past.1 ∙ ap (λ o. tests o (lists scope (at k))) had ∙ listed)))

    -- an earlier rule of the run takes each value that a dropped rule lists
    untaken : (k : ℕ) (f : Facts) (d : IsShadowed rules scope k) → Reaches k f → (x : ℕ) → joined_value d.selectors f ≡ Some x
        → lists scope (at k) x ≡ true → ⊥
    untaken k f d so x has listed =
        let taken = d.taken x listed in
        so.missed d.selectors x has taken.by taken.earlier (λ m from to. taken.merged m from (omega arith)) taken.lists_it

    dropped-more : (k : ℕ) (f : Facts) → IsDropped rules scope k → Reaches k f → Reaches (k + 1) f
    dropped-more k f (inl u) so = absurd (so.on u.by u.earlier u.ends)
    dropped-more k f (inr d) so = reaches-next k f f so (merged-goes-on (at k) d.selectors d.reads) (λ s x is has.
        let same : s ≡ d.selectors = same_Some s d.selectors (sym is ∙ d.reads) in
        (has, untaken k f d so x (subst (λ y. joined_value y f ≡ Some x) same has)))

    -- no packet matches a rule that is dropped
    never-by : (k c n : ℕ) (f : Facts) → IsDropped rules scope k → Reaches k f → FailsAt own c n 1 (at k) f
    never-by k c n f (inl u) so = absurd (so.on u.by u.earlier u.ends)
    never-by k c n f (inr d) so =
        (merged-by c n (at k) d.selectors f d.reads).1 (tests-false (joined_value d.selectors f) (lists scope (at k)) (λ x has. untaken k f d so x has))

    -- ---- rule by rule

    leaves : (k n c : ℕ) (rs : List (List Statement)) (ls : List (Option (List Statement))) (f : Facts) → length ls ≡ length rs
        → ((i m : ℕ) → m ≡ k + i → get_or rs i [] ≡ at m) → ((i m : ℕ) → m ≡ k + i → i < length rs → IsLeft rules scope m (get_or ls i None))
        → Reaches k f → LeavesOut own f c n rs (map left_statements ls)
    leaves k n c [] [] f same rules_are are so = tt
    leaves k n c (r ∷ rs) (l ∷ ls) f same rules_are are so =
        by (rules_are 0 k (omega arith)) l (are 0 k (omega arith) (omega arith)) (λ g. leaves (k + 1) (n + 1) c rs ls g (omega arith)
        (λ i m is. rules_are (suc i) m (omega arith)) (λ i m is lt. are (suc i) m (omega arith) (omega arith)))
      where
        by : r ≡ at k → (l : Option (List Statement)) → IsLeft rules scope k l
            → ((g : Facts) → Reaches (k + 1) g → LeavesOut own g c (n + 1) rs (map left_statements ls))
            → LeavesOut own f c n (r ∷ rs) (left_statements l ∷ map left_statements ls)
        by rule None is later = inr (refl, rw rule (never-by k c n f is so), later f (dropped-more k f is so))
        by rule (Some kept) is later = inl (is.0 ∙ sym rule, λ g way. later g (reaches-more k c n f g so (rw rule at way)))
    leaves k n c rs ls f same rules_are are so = absurd (omega arith)

  -- the rules of chain c that are dropped are left out of the program
  pub leaves-of : (c : ℕ) (rules : List (List Statement)) (left : Option (List (Option (List Statement)))) → IsSomeAnd left (AreLeft rules scope)
      → LeavesOutOf own c rules (option_map (map left_statements) left)
  leaves-of c rules None are = absurd are
  leaves-of c rules (Some ls) are = (
    map left_statements ls,
    refl,
    λ f. leaves rules 0 1 c rules ls f are.same_length
        (λ i m is. let same : i ≡ m = omega arith in ap (λ k. get_or rules k []) same)
        (λ i m is lt. let same : i ≡ m = omega arith in subst (λ k. IsLeft rules scope k (get_or ls i None)) same (are.each i lt))
        (record { on = λ i lt. absurd (omega arith); missed = λ s x has i lt. absurd (omega arith) }),
  )
