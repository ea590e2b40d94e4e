-- From what the parsers give to what is spelled, and what is not.
use Rattle.std.proofs.Common.{◌≡◌, List, [], ◌∷◌, Bool, true, false, cond, Option, Some, None, inl, inr, refl}
use Rattle.list_laws.specs.Options.{IfSome_at}
use Rattle.nft_lexer.specs.Terminal.{Terminal}
use Rattle.nft_tree.specs.declared.selector.Selector.{Selector}
use Rattle.nft_tree.specs.declared.selector.Selector.TheVariants as selectors
use Rattle.nft_tree.specs.declared.statement.Operator.{Operator}
use Rattle.nft_tree.specs.Tree as tree
use Rattle.nft_tree.specs.Tree.{RangeTree, SetRefTree, FlagTree, Statement, TableTree}
use Rattle.token_reader.specs.Repeats.{Many}
use Rattle.token_reader.specs.Grammar.{Grammar}
use Rattle.token_reader.specs.steps.Lawful.{Lawful}
use Rattle.nft_expressions.specs.Elements.{comment}
use Rattle.nft_rules.specs.Matches.{is_range_for, comparison, bits, flag_match, masked_by, flag_list, masked, one_test, direct, set_test, matching}
use Rattle.nft_rules.specs.Rules.{statement, rule, SpellsRule}
use Rattle.nft_rules.specs.steps.Laws.{lawful_statement}
use Rattle.nft_rulesets.specs.Rulesets.{SpellsRuleset}
use Rattle.nft_rulesets.specs.steps.Laws.{ruleset_at, ruleset_found}

pub spelled : {A : Type 0} (p : Grammar A) → Lawful p → (x : A) (from to : List Terminal)
    → p.read from ≡ Some (x, to) → p.spells x from to
spelled p l x from to e = IfSome_at (p.read from) (λ y. p.spells y.0 from y.1) (x, to) e (l.found from)

pub text_spelled : (tables : List TableTree) (tokens : List Terminal) → ruleset_at tokens ≡ Some tables
    → SpellsRuleset tables tokens
text_spelled tables tokens e = IfSome_at (ruleset_at tokens) (λ t. SpellsRuleset t tokens) tables e
    (ruleset_found tokens)

-- Statements that are read one after the other.
abbrev pub AreRead : List Statement → List Terminal → List Terminal → Type 0
AreRead [] from to = from ≡ to
AreRead (x ∷ xs) from to = (mid : List Terminal) × (statement.read from ≡ Some (x, mid)) × AreRead xs mid to

all_spelled : (xs : List Statement) (from to : List Terminal) → AreRead xs from to
    → Many statement.spells xs from to
all_spelled [] from to e = e
all_spelled (x ∷ xs) from to (mid, e, es) =
    (mid, spelled statement lawful_statement x from mid e, all_spelled xs mid to es)

-- A rule without a comment, from its statements.
pub plain_spelled : (x : Statement) (xs : List Statement) (from to : List Terminal) → AreRead (x ∷ xs) from to
    → SpellsRule (record { statements = x ∷ xs; comment = None }) from to
unfolding rule comment
plain_spelled x xs from to (a, e, es) = (
  (x, (xs, None)),
  refl,
  (a, spelled statement lawful_statement x from a e, (to, all_spelled xs a to es, refl)),
)

-- ---- comparisons

-- All selectors but `ct state`, `ct status` and `tcp flags`.
abbrev pub is_plain : Selector → Bool
is_plain selectors.CtState = false
is_plain selectors.CtStatus = false
is_plain selectors.TcpFlags = false
is_plain s = true

module _ (s : Selector) (op : Operator) (r : RangeTree) where
  no_set_test : (equal : Bool) (ss : List Selector) (set : SetRefTree)
      → tree.compare s op r ≡ cond equal (tree.is_in ss set) (tree.not_in ss set) → ⊥
  no_set_test true ss set e = cc
  no_set_test false ss set e = cc

  no_flags : (equal : Option Bool) (wanted : List FlagTree) (mask : Option (List FlagTree))
      → flag_match equal wanted mask ≡ Some (tree.compare s op r) → ⊥
  no_flags None wanted None e = cc
  no_flags None wanted (Some mask) e = cc
  no_flags (Some true) wanted None e = cc
  no_flags (Some false) wanted None e = cc
  no_flags (Some true) wanted (Some mask) e = cc
  no_flags (Some false) wanted (Some mask) e = cc

  no_mask : (equal : Bool) (mask wanted : List FlagTree) → tree.compare s op r ≡ masked_by equal mask wanted
      → ⊥
  no_mask true mask wanted e = cc
  no_mask false mask wanted e = cc

  -- Only a plain selector is compared, and only with its own symbolic constants.
  test_compares : (t : Selector) (from to : List Terminal) → (one_test t).spells (tree.compare s op r) from to
      → (is_plain s ≡ true) × (is_range_for s r ≡ true)
  unfolding one_test comparison bits flag_list masked
  test_compares selectors.CtState from to h = absurd (let e = h.1 in cc)
  test_compares selectors.CtStatus from to h = absurd (let e = h.1 in cc)
  test_compares selectors.TcpFlags from to h =
      elim h [
        | inl x ↦ absurd (no_flags x.0.0 x.0.1.0 x.0.1.1 x.1)
        | inr x ↦ absurd (no_mask x.0.1.0 x.0.0 x.0.1.1 x.1)
      ]
  test_compares t from to h =
      let e = h.1 in
      let es : s ≡ t = cc in
      let er : r ≡ h.0.1 = cc in
      (rw es refl, rw (es, er) h.2.2.1)

  direct_compares : (ss : List Selector) (from to : List Terminal)
      → (direct ss).spells (tree.compare s op r) from to → (is_plain s ≡ true) × (is_range_for s r ≡ true)
  direct_compares [] from to h = absurd h
  direct_compares (t ∷ []) from to h = test_compares t from to h
  direct_compares (t ∷ u ∷ ss) from to h = absurd h

  pub compares : (from to : List Terminal) → matching.spells (tree.compare s op r) from to
      → (is_plain s ≡ true) × (is_range_for s r ≡ true)
  unfolding matching set_test
  compares from to (ss, mid, keys, inl h) = absurd (no_set_test _ ss h.0.1 h.1)
  compares from to (ss, mid, keys, inr h) = direct_compares ss mid to h
