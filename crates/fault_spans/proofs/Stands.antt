-- Each level's ranges lead to those of the next.
use Rattle.std.proofs.Common.{◌≡◌, ℕ, zero, suc, ◌<◌, ◌≤◌, List, [], ◌∷◌, length, refl, sym, subst, ◌⊎◌, inl, inr, arith}
use Rattle.std.specs.Prelude.{Option, Some, None, IsSomeAnd, slice_get}
use Rattle.std.specs.Option.{unwrap_or}
use Rattle.std.proofs.lemmas.Option.{slice_get_within}
use Rattle.fault_spans.specs.steps.Picking.{picked}
use Rattle.nft_lexer.specs.declared.token.Token.{Token}
use Rattle.nft_lexer.specs.Terminal.{Terminal}
use Rattle.nft_tree.specs.Tree as tree
use Rattle.nft_tree.specs.Tree.{ChainTree, ElementTree, ItemTree, MapRefTree, MapTree, PairTree, RuleTree, SetTree, Statement, TableTree}
use Rattle.token_reader.specs.Grammar.{Grammar}
use Rattle.token_reader.specs.Readers.{remaining}
use Rattle.token_reader.specs.Repeats.{Ends, SomeEnds}
use Rattle.nft_expressions.specs.Elements.{element, pair}
use Rattle.nft_rules.specs.Rules.{SpellsEndedRule, ended_rule, statement}
use Rattle.rule_check.specs.Limits.{length_if, map_ref_elements, statement_elements}
use Rattle.nft_rulesets.specs.Rulesets.{item, table}
use Rattle.node_spans.specs.Spans.{AreInBraces, AreSpelled, IsComma, IsNothing, anonymous_map, anonymous_set, pairs_in, within_braces}
use Rattle.node_spans.specs.declared.token_range.TokenRange.{TokenRange}
use Rattle.fault_nodes.specs.declared.nodes.Node.{Node}
use Rattle.fault_nodes.specs.declared.nodes.Node.TheVariants as nodes
use Rattle.fault_nodes.specs.Nodes.{anonymous_elements_in, elements_in, item_at, items_at, items_in, rule_at, rules_at, rules_in, statement_at, statements_at, statements_in}
use Rattle.fault_spans.specs.Standing.{AnonymousElementStands, AnonymousElementsStand, ElementStands, ElementsStand, ItemStands, NodeStands, RuleStands, StatementStands, TableStands}
use Rattle.fault_spans.proofs.Spelled.{has_range, spells_at}

-- ---- the range of a part

-- The ranges that were found, and the one of the index.
abbrev Picks : {V : Type 0} → (List TokenRange → Type 0) → (V → List TokenRange) → Option V → ℕ → Type 0
Picks P view o i = (rs : List TokenRange) × P rs × (r : TokenRange) × (slice_get rs i ≡ Some r)
    × (picked view o i ≡ Some r)

picks : {A V : Type 0} (p : Grammar A) (B : List Terminal → List Terminal → Type 0) (rest : ℕ → List Terminal)
    (from to : ℕ) (xs : List A) (view : V → List TokenRange) (o : Option V) (i : ℕ)
    → IsSomeAnd o (λ v. AreSpelled p B rest from to xs (view v)) → i < length xs
    → Picks (AreSpelled p B rest from to xs) view o i
picks p B rest from to xs view None i s less = absurd s
picks p B rest from to xs view (Some v) i s less =
    let r = has_range p B rest from to xs (view v) i s less in
    (view v, s, r.0, r.1, r.1)

braces_have : {A : Type 0} (p : Grammar A) (tokens : List Token) (from to : ℕ) (xs : List A) (rs : List TokenRange)
    (i : ℕ) → AreInBraces p tokens from to xs rs → i < length xs
    → (r : TokenRange) × (slice_get rs i ≡ Some r)
braces_have p tokens from to [] rs i s less = absurd (omega (arith, less))
braces_have p tokens from to (x ∷ xs) rs i s less =
    has_range p IsComma (within_braces tokens s.0) from s.0 (x ∷ xs) rs i s.3 less

picks_in_braces : {A V : Type 0} (p : Grammar A) (tokens : List Token) (from to : ℕ) (xs : List A)
    (view : V → List TokenRange) (o : Option V) (i : ℕ)
    → IsSomeAnd o (λ v. AreInBraces p tokens from to xs (view v)) → i < length xs
    → Picks (AreInBraces p tokens from to xs) view o i
picks_in_braces p tokens from to xs view None i s less = absurd s
picks_in_braces p tokens from to xs view (Some v) i s less =
    let r = braces_have p tokens from to xs (view v) i s less in
    (view v, s, r.0, r.1, r.1)

-- ---- what is there

table_of : (o : Option TableTree) (i : ℕ) → i < length (items_in o) → (t : TableTree) × (o ≡ Some t)
table_of None i less = absurd (omega (arith, less))
table_of (Some t) i less = (t, refl)

chain_of : (o : Option ItemTree) (k : ℕ) → k < length (rules_in o) → (c : ChainTree) × (o ≡ Some (tree.chain c))
chain_of None k less = absurd (omega (arith, less))
chain_of (Some (tree.comment text)) k less = absurd (omega (arith, less))
chain_of (Some (tree.chain c)) k less = (c, refl)
chain_of (Some (tree.set s)) k less = absurd (omega (arith, less))
chain_of (Some (tree.map_item m)) k less = absurd (omega (arith, less))

rule_of : (o : Option RuleTree) (s : ℕ) → s < length (statements_in o) → (r : RuleTree) × (o ≡ Some r)
rule_of None s less = absurd (omega (arith, less))
rule_of (Some r) s less = (r, refl)

statement_of : (o : Option Statement) (e : ℕ) → e < anonymous_elements_in o → (s : Statement) × (o ≡ Some s)
statement_of None e less = absurd (omega (arith, less))
statement_of (Some s) e less = (s, refl)

-- ---- tables and items

pub table_stands : {V : Type 0} (tokens : List Token) (tables : List TableTree) (t : ℕ)
    (view : V → List TokenRange) (o : Option V) (result : Option TokenRange)
    → IsSomeAnd o (λ v. AreSpelled table Ends (remaining tokens) 0 (length tokens) tables (view v))
    → result ≡ picked view o t → t < length tables
    → IsSomeAnd result (TableStands tokens tables t)
table_stands tokens tables t view o result given e less =
    let it = picks table Ends (remaining tokens) 0 (length tokens) tables view o t given less in
    rw e (rw it.4 (record { ranges = it.0; spelled = it.1; own = it.3 }))

-- where an item is, its table is
pub table_there : (tables : List TableTree) (t i : ℕ) → i < length (items_at tables t) → t < length tables
table_there tables t i less =
    let x = table_of (slice_get tables t) i less in
    slice_get_within tables t x.0 x.1

pub item_stands : {V : Type 0} (tokens : List Token) (tables : List TableTree) (t i : ℕ) (outer : TokenRange)
    (view : V → List TokenRange) (o : Option V) (result : Option TokenRange) → TableStands tokens tables t outer
    → ((x : TableTree) → table.spells x (remaining tokens outer.first) (remaining tokens outer.end)
    → IsSomeAnd o (λ v. AreSpelled item Ends (remaining tokens) outer.first outer.end x.items (view v)))
    → result ≡ picked view o i → i < length (items_at tables t)
    → IsSomeAnd result (ItemStands tokens tables t i)
item_stands tokens tables t i outer view o result around given e less =
    let x = table_of (slice_get tables t) i less in
    let at = spells_at table Ends (remaining tokens) 0 (length tokens) tables around.ranges t x.0 outer
    around.spelled x.1 around.own in
    let it = picks item Ends (remaining tokens) outer.first outer.end x.0.items view o i (given x.0 at.0)
    (subst (λ a. i < length (items_in a)) x.1 less) in
    rw e (rw it.4 (record {
      outer = outer;
      around = around;
      ranges = it.0;
      spelled = subst (λ a. AreSpelled item Ends (remaining tokens) outer.first outer.end (items_in a) it.0)
          (sym x.1) it.1;
      own = it.3;
    }))

-- ---- rules and statements

pub item_there : (tables : List TableTree) (t i k : ℕ) → k < length (rules_at tables t i)
    → i < length (items_at tables t)
item_there tables t i k less =
    let x = chain_of (item_at tables t i) k less in
    slice_get_within (items_at tables t) i (tree.chain x.0) x.1

pub rule_stands : {V : Type 0} (tokens : List Token) (tables : List TableTree) (t i k : ℕ) (outer : TokenRange)
    (view : V → List TokenRange) (o : Option V) (result : Option TokenRange) → ItemStands tokens tables t i outer
    → ((c : ChainTree) → item.spells (tree.chain c) (remaining tokens outer.first) (remaining tokens outer.end)
    → IsSomeAnd o (λ v. AreSpelled ended_rule SomeEnds (remaining tokens) outer.first outer.end c.rules (view v)))
    → result ≡ picked view o k → k < length (rules_at tables t i)
    → IsSomeAnd result (RuleStands tokens tables t i k)
rule_stands tokens tables t i k outer view o result around given e less =
    let x = chain_of (item_at tables t i) k less in
    let at = spells_at item Ends (remaining tokens) around.outer.first around.outer.end (items_at tables t)
    around.ranges i (tree.chain x.0) outer around.spelled x.1 around.own in
    let it = picks ended_rule SomeEnds (remaining tokens) outer.first outer.end x.0.rules view o k (given x.0 at.0)
    (subst (λ a. k < length (rules_in a)) x.1 less) in
    rw e (rw it.4 (record {
      outer = outer;
      around = around;
      ranges = it.0;
      spelled = subst (λ a. AreSpelled ended_rule SomeEnds (remaining tokens) outer.first outer.end (rules_in a) it.0)
          (sym x.1) it.1;
      own = it.3;
    }))

pub rule_there : (tables : List TableTree) (t i k s : ℕ) → s < length (statements_at tables t i k)
    → k < length (rules_at tables t i)
rule_there tables t i k s less =
    let x = rule_of (rule_at tables t i k) s less in
    slice_get_within (rules_at tables t i) k x.0 x.1

pub statement_stands : {V : Type 0} (tokens : List Token) (tables : List TableTree) (t i k s : ℕ)
    (outer : TokenRange) (view : V → List TokenRange) (o : Option V) (result : Option TokenRange)
    → RuleStands tokens tables t i k outer
    → ((r : RuleTree) → SpellsEndedRule r (remaining tokens outer.first) (remaining tokens outer.end)
    → IsSomeAnd o (λ v. AreSpelled statement IsNothing (remaining tokens) outer.first outer.end r.statements
    (view v)))
    → result ≡ picked view o s → s < length (statements_at tables t i k)
    → IsSomeAnd result (StatementStands tokens tables t i k s)
unfolding ended_rule
statement_stands tokens tables t i k s outer view o result around given e less =
    let x = rule_of (rule_at tables t i k) s less in
    let at = spells_at ended_rule SomeEnds (remaining tokens) around.outer.first around.outer.end
    (rules_at tables t i) around.ranges k x.0 outer around.spelled x.1 around.own in
    let it = picks statement IsNothing (remaining tokens) outer.first outer.end x.0.statements view o s
    (given x.0 at.0) (subst (λ a. s < length (statements_in a)) x.1 less) in
    rw e (rw it.4 (record {
      outer = outer;
      around = around;
      ranges = it.0;
      spelled = subst (λ a. AreSpelled statement IsNothing (remaining tokens) outer.first outer.end
          (statements_in a) it.0) (sym x.1) it.1;
      own = it.3;
    }))

-- ---- elements

listed : {A : Type 0} (o : Option (List A)) (e : ℕ) → e < length_if o → e < length (unwrap_or o [])
listed None e less = less
listed (Some xs) e less = less

set_or_map_of : (o : Option ItemTree) (e : ℕ) → e < elements_in o
    → ((s : SetTree) × (o ≡ Some (tree.set s)) × (e < length (unwrap_or s.elements [])))
    ⊎ ((m : MapTree) × (o ≡ Some (tree.map_item m)) × (e < length (unwrap_or m.elements [])))
set_or_map_of None e less = absurd (omega (arith, less))
set_or_map_of (Some (tree.comment text)) e less = absurd (omega (arith, less))
set_or_map_of (Some (tree.chain c)) e less = absurd (omega (arith, less))
set_or_map_of (Some (tree.set s)) e less = inl (s, refl, listed s.elements e less)
set_or_map_of (Some (tree.map_item m)) e less = inr (m, refl, listed m.elements e less)

pub container_there : (tables : List TableTree) (t i e : ℕ) → e < elements_in (item_at tables t i)
    → i < length (items_at tables t)
container_there tables t i e less =
    elim (set_or_map_of (item_at tables t i) e less) [
      | inl x ↦ slice_get_within (items_at tables t) i (tree.set x.0) x.1
      | inr x ↦ slice_get_within (items_at tables t) i (tree.map_item x.0) x.1
    ]

pub element_stands : {V : Type 0} (tokens : List Token) (tables : List TableTree) (t i e : ℕ) (outer : TokenRange)
    (view : V → List TokenRange) (o : Option V) (result : Option TokenRange) → ItemStands tokens tables t i outer
    → ((s : SetTree) → item.spells (tree.set s) (remaining tokens outer.first) (remaining tokens outer.end)
    → IsSomeAnd o (λ v. AreInBraces element tokens outer.first outer.end (unwrap_or s.elements []) (view v)))
    → ((m : MapTree) → item.spells (tree.map_item m) (remaining tokens outer.first) (remaining tokens outer.end)
    → IsSomeAnd o (λ v. AreInBraces pair tokens outer.first outer.end (unwrap_or m.elements []) (view v)))
    → result ≡ picked view o e → e < elements_in (item_at tables t i)
    → IsSomeAnd result (ElementStands tokens tables t i e)
element_stands tokens tables t i e outer view o result around of_set of_map eq less =
    elim (set_or_map_of (item_at tables t i) e less) [
      | inl x ↦
          let at = spells_at item Ends (remaining tokens) around.outer.first around.outer.end (items_at tables t)
          around.ranges i (tree.set x.0) outer around.spelled x.1 around.own in
          let it = picks_in_braces element tokens outer.first outer.end (unwrap_or x.0.elements []) view o e
          (of_set x.0 at.0) x.2 in
          rw eq (rw it.4 (record {
            outer = outer;
            around = around;
            ranges = it.0;
            spelled = subst (λ a. ElementsStand tokens outer a it.0) (sym x.1) it.1;
            own = it.3;
          }))
      | inr x ↦
          let at = spells_at item Ends (remaining tokens) around.outer.first around.outer.end (items_at tables t)
          around.ranges i (tree.map_item x.0) outer around.spelled x.1 around.own in
          let it = picks_in_braces pair tokens outer.first outer.end (unwrap_or x.0.elements []) view o e
          (of_map x.0 at.0) x.2 in
          rw eq (rw it.4 (record {
            outer = outer;
            around = around;
            ranges = it.0;
            spelled = subst (λ a. ElementsStand tokens outer a it.0) (sym x.1) it.1;
            own = it.3;
          }))
    ]

-- ---- elements of anonymous sets and maps

-- The list of a statement, which has an element of this index.
abbrev HasList : Statement → ℕ → Type 0
HasList s e = ((es : List ElementTree) × (anonymous_set s ≡ Some es) × (e < length es))
    ⊎ ((ps : List PairTree) × (anonymous_map s ≡ Some ps) × (e < length ps))

pairs_of : (m : MapRefTree) (e : ℕ) → e < map_ref_elements m
    → (ps : List PairTree) × (pairs_in m ≡ Some ps) × (e < length ps)
pairs_of (tree.named_map name) e less = absurd (omega (arith, less))
pairs_of (tree.pairs ps) e less = (ps, refl, less)

list_of : (s : Statement) (e : ℕ) → e < statement_elements s → HasList s e
list_of (tree.matching (tree.is_in ss (tree.elements es))) e less = inl (es, refl, less)
list_of (tree.matching (tree.is_in ss (tree.named_set name))) e less = absurd (omega (arith, less))
list_of (tree.matching (tree.not_in ss (tree.elements es))) e less = inl (es, refl, less)
list_of (tree.matching (tree.not_in ss (tree.named_set name))) e less = absurd (omega (arith, less))
list_of (tree.matching (tree.compare s o r)) e less = absurd (omega (arith, less))
list_of (tree.matching (tree.bits f b ws)) e less = absurd (omega (arith, less))
list_of (tree.matching (tree.any_flag fs)) e less = absurd (omega (arith, less))
list_of (tree.matching (tree.exact_flags fs)) e less = absurd (omega (arith, less))
list_of (tree.matching (tree.masked_flags a b)) e less = absurd (omega (arith, less))
list_of (tree.matching (tree.masked_flags_unequal a b)) e less = absurd (omega (arith, less))
list_of (tree.counter c) e less = absurd (omega (arith, less))
list_of (tree.log t) e less = absurd (omega (arith, less))
list_of tree.notrack e less = absurd (omega (arith, less))
list_of (tree.set_mark f (tree.constant n)) e less = absurd (omega (arith, less))
list_of (tree.set_mark f (tree.mark_of m)) e less = absurd (omega (arith, less))
list_of (tree.set_mark f (tree.looked_up l)) e less = inr (pairs_of l.map e less)
list_of (tree.verdict_map s m) e less = inr (pairs_of m e less)
list_of (tree.verdict v) e less = absurd (omega (arith, less))
list_of (tree.nat (tree.source (tree.source_address a p))) e less = absurd (omega (arith, less))
list_of (tree.nat (tree.source (tree.source_lookup l))) e less = inr (pairs_of l.map e less)
list_of (tree.nat (tree.destination (tree.destination_address a p))) e less = absurd (omega (arith, less))
list_of (tree.nat (tree.destination (tree.destination_lookup l))) e less = inr (pairs_of l.map e less)
list_of (tree.nat (tree.masquerade p)) e less = absurd (omega (arith, less))
list_of (tree.nat (tree.redirect p)) e less = absurd (omega (arith, less))

pub statement_there : (tables : List TableTree) (t i k s e : ℕ)
    → e < anonymous_elements_in (statement_at tables t i k s) → s < length (statements_at tables t i k)
statement_there tables t i k s e less =
    let x = statement_of (statement_at tables t i k s) e less in
    slice_get_within (statements_at tables t i k) s x.0 x.1

pub anonymous_stands : {V : Type 0} (tokens : List Token) (tables : List TableTree) (t i k s e : ℕ)
    (outer : TokenRange) (view : V → List TokenRange) (o : Option V) (result : Option TokenRange)
    → StatementStands tokens tables t i k s outer
    → ((x : Statement) (es : List ElementTree) → statement.spells x (remaining tokens outer.first)
    (remaining tokens outer.end) → anonymous_set x ≡ Some es
    → IsSomeAnd o (λ v. AreInBraces element tokens outer.first outer.end es (view v)))
    → ((x : Statement) (ps : List PairTree) → statement.spells x (remaining tokens outer.first)
    (remaining tokens outer.end) → anonymous_map x ≡ Some ps
    → IsSomeAnd o (λ v. AreInBraces pair tokens outer.first outer.end ps (view v)))
    → result ≡ picked view o e → e < anonymous_elements_in (statement_at tables t i k s)
    → IsSomeAnd result (AnonymousElementStands tokens tables t i k s e)
anonymous_stands tokens tables t i k s e outer view o result around of_set of_map eq less =
    let x = statement_of (statement_at tables t i k s) e less in
    let at = spells_at statement IsNothing (remaining tokens) around.outer.first around.outer.end
    (statements_at tables t i k) around.ranges s x.0 outer around.spelled x.1 around.own in
    elim (list_of x.0 e (subst (λ a. e < anonymous_elements_in a) x.1 less)) [
      | inl y ↦
          let it = picks_in_braces element tokens outer.first outer.end y.0 view o e (of_set x.0 y.0 at.0 y.1) y.2 in
          rw eq (rw it.4 (record {
            outer = outer;
            around = around;
            ranges = it.0;
            spelled = subst (λ a. AnonymousElementsStand tokens outer a it.0) (sym x.1) (inl (y.0, y.1, it.1));
            own = it.3;
          }))
      | inr y ↦
          let it = picks_in_braces pair tokens outer.first outer.end y.0 view o e (of_map x.0 y.0 at.0 y.1) y.2 in
          rw eq (rw it.4 (record {
            outer = outer;
            around = around;
            ranges = it.0;
            spelled = subst (λ a. AnonymousElementsStand tokens outer a it.0) (sym x.1) (inr (y.0, y.1, it.1));
            own = it.3;
          }))
    ]

-- ---- a node has tokens, and they are within those of the text

abbrev pub HasTokens : List Token → TokenRange → Type 0
HasTokens tokens r = (r.first < r.end) × (r.end ≤ length tokens)

bounds : {A : Type 0} (p : Grammar A) (B : List Terminal → List Terminal → Type 0) (rest : ℕ → List Terminal)
    (from to : ℕ) (xs : List A) (rs : List TokenRange) (i : ℕ) (r : TokenRange)
    → AreSpelled p B rest from to xs rs → slice_get rs i ≡ Some r → (r.first < r.end) × (r.end ≤ to)
bounds p B rest from to [] [] i r s there = absurd (cc there)
bounds p B rest from to [] (q ∷ qs) i r s there = absurd s
bounds p B rest from to (y ∷ ys) [] i r s there = absurd s
bounds p B rest from to (y ∷ ys) (q ∷ qs) zero r s there = grind (arith, s.1, s.2, there)
bounds p B rest from to (y ∷ ys) (q ∷ qs) (suc i) r s there = bounds p B rest q.end to ys qs i r s.5 there

braces_bounds : {A : Type 0} (p : Grammar A) (tokens : List Token) (from to : ℕ) (xs : List A)
    (rs : List TokenRange) (i : ℕ) (r : TokenRange) → AreInBraces p tokens from to xs rs
    → slice_get rs i ≡ Some r → (r.first < r.end) × (r.end ≤ to)
braces_bounds p tokens from to [] rs i r s there =
    absurd (cc (subst (λ qs. slice_get qs i ≡ Some r) s there))
braces_bounds p tokens from to (x ∷ xs) rs i r s there =
    let b = bounds p IsComma (within_braces tokens s.0) from s.0 (x ∷ xs) rs i r s.3 there in
    (b.0, omega (arith, b.1, s.1))

table_has : (tokens : List Token) (tables : List TableTree) (t : ℕ) (r : TokenRange)
    → TableStands tokens tables t r → HasTokens tokens r
table_has tokens tables t r s = bounds table Ends (remaining tokens) 0 (length tokens) tables s.ranges t r s.spelled s.own

item_has : (tokens : List Token) (tables : List TableTree) (t i : ℕ) (r : TokenRange)
    → ItemStands tokens tables t i r → HasTokens tokens r
item_has tokens tables t i r s =
    let outer = table_has tokens tables t s.outer s.around in
    let b = bounds item Ends (remaining tokens) s.outer.first s.outer.end (items_at tables t) s.ranges i r s.spelled s.own in
    (b.0, omega (arith, b.1, outer.1))

rule_has : (tokens : List Token) (tables : List TableTree) (t i k : ℕ) (r : TokenRange)
    → RuleStands tokens tables t i k r → HasTokens tokens r
rule_has tokens tables t i k r s =
    let outer = item_has tokens tables t i s.outer s.around in
    let b = bounds ended_rule SomeEnds (remaining tokens) s.outer.first s.outer.end (rules_at tables t i) s.ranges k r
    s.spelled s.own in
    (b.0, omega (arith, b.1, outer.1))

statement_has : (tokens : List Token) (tables : List TableTree) (t i k n : ℕ) (r : TokenRange)
    → StatementStands tokens tables t i k n r → HasTokens tokens r
statement_has tokens tables t i k n r s =
    let outer = rule_has tokens tables t i k s.outer s.around in
    let b = bounds statement IsNothing (remaining tokens) s.outer.first s.outer.end (statements_at tables t i k) s.ranges
    n r s.spelled s.own in
    (b.0, omega (arith, b.1, outer.1))

elements_bounds : (tokens : List Token) (outer : TokenRange) (o : Option ItemTree) (rs : List TokenRange) (e : ℕ)
    (r : TokenRange) → ElementsStand tokens outer o rs → slice_get rs e ≡ Some r
    → (r.first < r.end) × (r.end ≤ outer.end)
elements_bounds tokens outer None rs e r s there = absurd s
elements_bounds tokens outer (Some (tree.comment text)) rs e r s there = absurd s
elements_bounds tokens outer (Some (tree.chain c)) rs e r s there = absurd s
elements_bounds tokens outer (Some (tree.set x)) rs e r s there =
    braces_bounds element tokens outer.first outer.end (unwrap_or x.elements []) rs e r s there
elements_bounds tokens outer (Some (tree.map_item m)) rs e r s there =
    braces_bounds pair tokens outer.first outer.end (unwrap_or m.elements []) rs e r s there

anonymous_bounds : (tokens : List Token) (outer : TokenRange) (o : Option Statement) (rs : List TokenRange) (e : ℕ)
    (r : TokenRange) → AnonymousElementsStand tokens outer o rs → slice_get rs e ≡ Some r
    → (r.first < r.end) × (r.end ≤ outer.end)
anonymous_bounds tokens outer None rs e r s there = absurd s
anonymous_bounds tokens outer (Some x) rs e r (inl s) there =
    braces_bounds element tokens outer.first outer.end s.0 rs e r s.2 there
anonymous_bounds tokens outer (Some x) rs e r (inr s) there =
    braces_bounds pair tokens outer.first outer.end s.0 rs e r s.2 there

pub node_has : (tokens : List Token) (tables : List TableTree) (node : Node) (r : TokenRange)
    → NodeStands tokens tables node r → HasTokens tokens r
node_has tokens tables (nodes.Table t) r s = table_has tokens tables t r s
node_has tokens tables (nodes.Item t i) r s = item_has tokens tables t i r s
node_has tokens tables (nodes.Rule t i k) r s = rule_has tokens tables t i k r s
node_has tokens tables (nodes.Statement t i k n) r s = statement_has tokens tables t i k n r s
node_has tokens tables (nodes.Element t i e) r s =
    let outer = item_has tokens tables t i s.outer s.around in
    let b = elements_bounds tokens s.outer (item_at tables t i) s.ranges e r s.spelled s.own in
    (b.0, omega (arith, b.1, outer.1))
node_has tokens tables (nodes.AnonymousElement t i k n e) r s =
    let outer = statement_has tokens tables t i k n s.outer s.around in
    let b = anonymous_bounds tokens s.outer (statement_at tables t i k n) s.ranges e r s.spelled s.own in
    (b.0, omega (arith, b.1, outer.1))
