-- The possible verdicts of a statement.
use Rattle.std.proofs.Common.{arith}
use Rattle.std.proofs.Common.{◌≡◌, ℕ, Bool, true, false, cond, List, [], ◌∷◌, map, Contains, Option, Some, None, option_and_then, refl, sym, subst}
use Rattle.std.specs.Option.{option_or}
use Rattle.list_laws.specs.Lists.{Contains-head}
use Rattle.nft_tree.specs.declared.compared_types.ComparedType.{ComparedType}
use Rattle.nft_tree.specs.declared.selector.Selector.{Selector}
use Rattle.nft_tree.specs.declared.statement.MarkField.{MarkField}
use Rattle.nft_tree.specs.declared.statement.MarkField.TheVariants as marks
use Rattle.nft_tree.specs.Tree as tree
use Rattle.nft_tree.specs.Tree.{Text, VerdictTree, DataTree, PairTree, MapRefTree, Statement, MapTree, TableTree}
use Rattle.nft_tree.specs.ComparedTypes.{selector_compared_type}
use Rattle.nft_values.specs.Values.{numbers_of}
use Rattle.box_file.specs.Box.{PlantTree}
use Rattle.rule_names.specs.Names.{map_named, some_of}
use Rattle.list_laws.specs.Decisions.{Contains-there}
use Rattle.rule_meaning.specs.declared.facts.Facts.{Facts}
use Rattle.rule_meaning.specs.declared.facts.CtFacts.{CtFacts}
use Rattle.rule_meaning.specs.declared.facts.CtFacts.TheVariants as ct
use Rattle.rule_meaning.specs.declared.event.StatementPosition.{StatementPosition}
use Rattle.rule_meaning.specs.declared.event.RuleVerdict.{RuleVerdict}
use Rattle.rule_meaning.specs.declared.event.RuleVerdict.TheVariants as decisions
use Rattle.rule_meaning.specs.declared.event.NatAction.{NatAction}
use Rattle.rule_meaning.specs.Selectors.{value}
use Rattle.rule_meaning.specs.Sets.{Scope, spans, data_verdict, pair_gives, pairs_give, declared_gives, map_gives, looked_up}
use Rattle.rule_meaning.specs.Matches.{holds}
use Rattle.rule_meaning.specs.Statements.{StatementEffect, pass, fail, note, give, passes_if, with_value}
use Rattle.rule_meaning.specs.Statements.{chain_number, rule_verdict_of, operand_number, sets_notrack, writes}
use Rattle.rule_meaning.specs.Statements.{writes_connection, nat_action_of, statement_effect}

-- an element has the verdict
abbrev pub Among : List PairTree → VerdictTree → Type 0
Among ps v = Contains (map (λ p. p.value) ps) (tree.to_verdict v)

module _ (t : TableTree) where
  -- the verdict of a statement, or one in its map
  pub data Chooses : Statement → VerdictTree → Type 0 where
    itself : {v : VerdictTree} → Chooses (tree.verdict v) v
    of_pairs : {x : Selector} {ps : List PairTree} {v : VerdictTree} → Among ps v → Chooses (tree.verdict_map x (tree.pairs ps)) v
    of_map : {x : Selector} {name : Text} (m : MapTree) {v : VerdictTree} → map_named t name ≡ Some m
        → Among (some_of m.elements) v → Chooses (tree.verdict_map x (tree.named_map name)) v

  -- the target of a jump or goto is among the statement's targets
  abbrev pub Decides : Statement → RuleVerdict → Type 0
  Decides s (decisions.Jump i) = (name : Text) × (chain_number t name ≡ i) × Chooses s (tree.jump name)
  Decides s (decisions.Goto i) = (name : Text) × (chain_number t name ≡ i) × Chooses s (tree.goto name)
  Decides s decisions.Accept = Unit {0}
  Decides s decisions.Drop = Unit {0}
  Decides s decisions.Continue = Unit {0}
  Decides s decisions.Return = Unit {0}
  Decides s (decisions.Translate x) = Unit {0}

  abbrev Says : Statement → StatementEffect → Type 0
  Says s pass = Unit {0}
  Says s fail = Unit {0}
  Says s (note e g) = Unit {0}
  Says s (give d) = Decides s d

  chosen : (s : Statement) (v : VerdictTree) → Chooses s v → Decides s (rule_verdict_of t v)
  chosen s tree.accept h = tt
  chosen s tree.drop h = tt
  chosen s tree.continue h = tt
  chosen s tree.return h = tt
  chosen s (tree.jump name) h = (name, refl, h)
  chosen s (tree.goto name) h = (name, refl, h)

  -- ---- maps

  -- the data found in a list is in the list
  abbrev FromList : List PairTree → Option VerdictTree → Type 0
  FromList ps None = Unit {0}
  FromList ps (Some v) = Among ps v

  first : (d : DataTree) (ps : List PairTree) (p : PairTree) → p.value ≡ d → FromList (p ∷ ps) (data_verdict d)
  first (tree.to_verdict v) ps p is = subst (λ x. Contains (x ∷ map (λ y. y.value) ps) (tree.to_verdict v)) (sym is)
      (Contains-head (tree.to_verdict v) (map (λ y. y.value) ps))
  first (tree.to_value v) ps p is = tt

  later : (p : PairTree) (ps : List PairTree) (o : Option VerdictTree) → FromList ps o → FromList (p ∷ ps) o
  later p ps None h = tt
  later p ps (Some v) h = Contains-there p.value (tree.to_verdict v) (map (λ y. y.value) ps) h

  if_spans : (b : Bool) (p : PairTree) (ps : List PairTree) → FromList (p ∷ ps) (cond b (data_verdict p.value) None)
  if_spans true p ps = first p.value ps p refl
  if_spans false p ps = tt

  either : (ps : List PairTree) (a b : Option VerdictTree) → FromList ps a → FromList ps b → FromList ps (option_or a b)
  either ps None b x y = y
  either ps (Some v) b x y = x

  from_list : (network : PlantTree) (kind : ComparedType) (ps : List PairTree) (n : ℕ) → FromList ps (pairs_give data_verdict network kind ps n)
  from_list network kind [] n = tt
  from_list network kind (p ∷ ps) n =
      either (p ∷ ps) (pair_gives data_verdict network kind n p) (pairs_give data_verdict network kind ps n)
      (if_spans (spans (numbers_of network kind p.key) n) p ps)
      (later p ps (pairs_give data_verdict network kind ps n) (from_list network kind ps n))

  abbrev Chosen : Statement → Option VerdictTree → Type 0
  Chosen s None = Unit {0}
  Chosen s (Some v) = Chooses s v

  of_list : (x : Selector) (ps : List PairTree) (o : Option VerdictTree) → FromList ps o → Chosen (tree.verdict_map x (tree.pairs ps)) o
  of_list x ps None h = tt
  of_list x ps (Some v) h = of_pairs h

  of_named : (x : Selector) (name : Text) (m : MapTree) (o : Option VerdictTree) → map_named t name ≡ Some m
      → FromList (some_of m.elements) o → Chosen (tree.verdict_map x (tree.named_map name)) o
  of_named x name m None is h = tt
  of_named x name m (Some v) is h = of_map m is h

  of_declared : (network : PlantTree) (x : Selector) (name : Text) (n : ℕ) (o : Option MapTree) → map_named t name ≡ o
      → Chosen (tree.verdict_map x (tree.named_map name)) (declared_gives data_verdict network o n)
  of_declared network x name n None is = tt
  of_declared network x name n (Some m) is = grind (arith, of_named, m.types, m.elements, from_list)

  -- ---- statements

  verdict_said : (s : Statement) (o : Option VerdictTree) → Chosen s o → Says s (with_value (λ v. give (rule_verdict_of t v)) o)
  verdict_said s None h = tt
  verdict_said s (Some v) h = chosen s v h

  matched : (s : Statement) (b : Bool) → Says s (passes_if b)
  matched s true = tt
  matched s false = tt

  connection_marked : (s : Statement) (f : Facts) (x : CtFacts) (n : ℕ) → Says s (writes_connection f x n)
  connection_marked s f ct.NotLookedUp n = tt
  connection_marked s f ct.Notrack n = tt
  connection_marked s f ct.Untracked n = tt
  connection_marked s f ct.Invalid n = tt
  connection_marked s f (ct.Known c) n = tt

  passed_untracked : (f : Facts) (known : CtFacts) → Says tree.notrack (sets_notrack f known)
  passed_untracked f ct.NotLookedUp = tt
  passed_untracked f ct.Notrack = tt
  passed_untracked f ct.Untracked = tt
  passed_untracked f ct.Invalid = tt
  passed_untracked f (ct.Known c) = tt

  marked : (s : Statement) (field : MarkField) (f : Facts) (o : Option ℕ) → Says s (with_value (writes field f) o)
  marked s field f None = tt
  marked s marks.Meta f (Some n) = tt
  marked s marks.Ct f (Some n) = connection_marked s f f.ct n

  translated : (s : Statement) (o : Option NatAction) → Says s (with_value (λ x. give (decisions.Translate x)) o)
  translated s None = tt
  translated s (Some x) = tt

  module _ (network : PlantTree) where
    abbrev scope : Scope
    scope = record { network = network; table = t }

    by_map : (x : Selector) (m : MapRefTree) (o : Option ℕ) → Chosen (tree.verdict_map x m) (option_and_then (map_gives data_verdict scope x m) o)
    by_map x m None = tt
    by_map x (tree.named_map name) (Some n) = of_declared network x name n (map_named t name) refl
    by_map x (tree.pairs ps) (Some n) = of_list x ps (pairs_give data_verdict network (selector_compared_type x) ps n)
        (from_list network (selector_compared_type x) ps n)

    effect_of : (s : Statement) (at : StatementPosition) (f : Facts) → Says s (statement_effect scope at s f)
    effect_of (tree.matching m) at f = matched (tree.matching m) (holds scope m f)
    effect_of (tree.counter start) at f = tt
    effect_of (tree.log text) at f = tt
    effect_of tree.notrack at f = passed_untracked f f.ct
    effect_of (tree.set_mark field operand) at f = marked (tree.set_mark field operand) field f (operand_number scope operand f)
    effect_of (tree.verdict_map x m) at f = verdict_said (tree.verdict_map x m) (looked_up data_verdict scope x m f) (by_map x m (value x f))
    effect_of (tree.verdict v) at f = chosen (tree.verdict v) v itself
    effect_of (tree.nat n) at f = translated (tree.nat n) (nat_action_of scope n f)

    pub decides : (s : Statement) (at : StatementPosition) (f : Facts) (d : RuleVerdict) → statement_effect scope at s f ≡ give d → Decides s d
    decides s at f d is = subst (Says s) is (effect_of s at f)
