-- The reader of a node reads what stands before its parts, and then its parts.
use Rattle.std.proofs.Common.{◌≡◌, ℕ, ◌≤◌, List, [], ◌∷◌, length, Option, Some, None, inl, inr, refl, sym, ap, ◌∙◌, arith}
use Rattle.std.proofs.lemmas.Bool.{cases_Bool}
use Rattle.std.proofs.lemmas.Option.{same_Some}
use Rattle.std.specs.Prelude.{IsSomeAnd, codes}
use Rattle.list_laws.specs.Options.{IfSome_at, option_cases}
use Rattle.nft_lexer.specs.declared.token.Punctuator.TheVariants.{OpenBrace, CloseBrace}
use Rattle.nft_lexer.specs.declared.token.Token.{Token}
use Rattle.nft_lexer.specs.Terminal.{Terminal, punctuator}
use Rattle.nft_lexer.specs.TokenViews.{terminals}
use Rattle.nft_tree.specs.declared.ruleset.Family.{Family}
use Rattle.nft_tree.specs.Tree as tree
use Rattle.nft_tree.specs.Tree.{ChainTree, HeadTree, RuleTree, Statement, TableTree, Text}
use Rattle.token_reader.specs.Grammar.{ends, maybe, ◌◃◌}
use Rattle.token_reader.specs.Readers.{IsRead, remaining}
use Rattle.token_reader.specs.Repeats.{Ends, SomeEnds, is_rule_end}
use Rattle.token_reader.specs.steps.Lawful.{no_longer}
use Rattle.token_reader.specs.steps.Reading.{after_at, after_ends, after_punctuator, after_word, all_at, skip_ends, some_ends_at, word_at}
use Rattle.token_reader.specs.steps.TokenLaws.{ends_found, ends_takes, punctuator_after, some_ends_found}
use Rattle.nft_expressions.specs.Elements.{comment}
use Rattle.nft_expressions.specs.steps.Laws.{lawful_comment}
use Rattle.nft_rules.specs.Rules.{SpellsEndedRule, ended_rule, rule, statement}
use Rattle.nft_rules.specs.steps.Laws.{lawful_rule, lawful_statement}
use Rattle.nft_rulesets.specs.Chains.{chain, head, note, rules}
use Rattle.nft_rulesets.specs.Rulesets.{SpellsRuleset, flush, item, table, table_name, whole_ruleset}
use Rattle.nft_rulesets.specs.steps.Laws.{lawful_chain, lawful_item, lawful_ruleset, lawful_table}
use Rattle.nft_rulesets.specs.steps.Starts.{chain_start, ruleset_start, table_start, whole_from}
use Rattle.node_spans.specs.Spans.{AreSpelled, IsNothing}
use Rattle.node_spans.specs.declared.token_range.TokenRange.{TokenRange}
use Rattle.node_spans.specs.steps.Reading.{AreRead}
use Rattle.node_spans.proofs.Lists.{bounds_tokens, length_ahead, list_spelled, none_spelled, repeated_spelled}

pub skips : (ts : List Terminal) → length (skip_ends ts) ≤ length ts
skips ts = let e = ends_found ts in ends_takes e.0 ts (skip_ends ts) e.1

-- ---- tables

whole_read : (ts : List Terminal) (tables : List TableTree) → SpellsRuleset tables ts
    → whole_ruleset.read ts ≡ Some (tables, [])
unfolding whole_ruleset table table_name flush
whole_read ts tables s = lawful_ruleset.only tables ts [] s refl

tables_read : (ts rest : List Terminal) (tables : List TableTree) → ruleset_start.read ts ≡ Some (tt, rest)
    → whole_ruleset.read ts ≡ Some (tables, []) → all_at (table ◃ ends).read rest ≡ (tables, [])
tables_read ts rest tables start e = same_Some _ _ (sym (whole_from ts rest start) ∙ e)

pub tables_spelled : (tokens : List Token) (at : ℕ) (tables : List TableTree) (rs : List TokenRange)
    → SpellsRuleset tables (terminals tokens)
    → ruleset_start.read (terminals tokens) ≡ Some (tt, remaining tokens at)
    → AreRead table.read (λ ts. Some (skip_ends ts)) (remaining tokens) (length tokens) at rs
    → AreSpelled table Ends (remaining tokens) 0 (length tokens) tables rs
tables_spelled tokens at tables rs s start read =
    repeated_spelled table skip_ends Ends tokens (length tokens) lawful_table.found ends_found skips 0 at
    (length (remaining tokens at)) rs tables [] (omega arith) read (omega arith)
    (tables_read (terminals tokens) (remaining tokens at) tables start (whole_read (terminals tokens) tables s))
    (omega (arith, length_ahead tokens (length tokens)))

-- ---- items

table_read : (t : TableTree) (from to : List Terminal) → table.spells t from to
    → table.read from ≡ Some (t, to)
unfolding table table_name
table_read t from to s = lawful_table.only t from to s refl

-- What is read before the items, and the items.
record TableParts (ts : List Terminal) (t : TableTree) (to : List Terminal) : Type 0 where
  start : (Family × Text) × List Terminal
  started : table_start.read ts ≡ Some start
  last : List Terminal
  items : all_at (item ◃ ends).read start.1 ≡ (t.items, last)
  behind : length to ≤ length last

table_parts : (ts : List Terminal) (t : TableTree) (to : List Terminal) → table.read ts ≡ Some (t, to)
    → TableParts ts t to
unfolding table table_start
table_parts ts t to e =
    elim (option_cases (after_word (codes "table") ts)) [
      | inl none ↦ absurd (cc (rw none at e))
      | inr a ↦
          elim (option_cases (table_name.read a.0)) [
            | inl none ↦ absurd (cc (rw (a.1, none) at e))
            | inr name ↦
                elim (option_cases (after_punctuator OpenBrace name.0.1)) [
                  | inl none ↦ absurd (cc (rw (a.1, name.1, none) at e))
                  | inr b ↦
                      let found = all_at (item ◃ ends).read (skip_ends b.0) in
                      elim (option_cases (after_punctuator CloseBrace found.1)) [
                        | inl none ↦ absurd (cc (rw (a.1, name.1, b.1, none) at e))
                        | inr close ↦
                            let same = same_Some _ _ (rw (a.1, name.1, b.1, close.1) at e) in
                            let closed : found.1 ≡ punctuator CloseBrace ∷ close.0 =
                            IfSome_at (after_punctuator CloseBrace found.1) _ close.0 close.1
                            (punctuator_after CloseBrace found.1) in
                            let rest : close.0 ≡ to = ap (λ (x : TableTree × List Terminal). x.1) same in
                            record {
                              start = (name.0.0, skip_ends b.0);
                              started = rw (a.1, name.1, b.1) refl;
                              last = found.1;
                              items = ap (λ (x : TableTree × List Terminal). (x.0.items, found.1)) same;
                              behind = omega (arith, ap length closed, ap length rest);
                            }
                      ]
                ]
          ]
    ]

pub items_spelled : {X : Type 0} (view : X → Family × Text) (tokens : List Token) (first end : ℕ)
    (t : TableTree) (o : Option (X × ℕ)) → table.spells t (remaining tokens first) (remaining tokens end)
    → IsRead view table_start.read tokens first o
    → IsSomeAnd o (λ x. (rs : List TokenRange)
    → AreRead item.read (λ ts. Some (skip_ends ts)) (remaining tokens) (length tokens) x.1 rs
    → AreSpelled item Ends (remaining tokens) first end t.items rs)
items_spelled view tokens first end t None s start =
    let parts = table_parts (remaining tokens first) t (remaining tokens end)
    (table_read t (remaining tokens first) (remaining tokens end) s) in
    absurd (cc (start.0, parts.started))
items_spelled view tokens first end t (Some x) s start =
    let parts = table_parts (remaining tokens first) t (remaining tokens end)
    (table_read t (remaining tokens first) (remaining tokens end) s) in
    let same = same_Some _ _ (sym parts.started ∙ sym start.0) in
    let here : parts.start.1 ≡ remaining tokens x.1 =
    ap (λ (y : (Family × Text) × List Terminal). y.1) same in
    λ rs read. repeated_spelled item skip_ends Ends tokens end lawful_item.found ends_found skips first x.1
    (length (remaining tokens x.1)) rs t.items parts.last (omega (arith, start.1.0)) read (omega arith)
    (rw here at parts.items) parts.behind

-- ---- rules

chain_of : (c : ChainTree) (from to : List Terminal) → item.spells (tree.chain c) from to
    → chain.spells c from to
unfolding item
chain_of c from to (inl (text, is, s)) = absurd cc
chain_of c from to (inr (inl (d, is, s))) = let same : d ≡ c = cc in rw same at s
chain_of c from to (inr (inr (inl (d, is, s)))) = absurd cc
chain_of c from to (inr (inr (inr (d, is, s)))) = absurd cc

chain_read : (c : ChainTree) (from to : List Terminal) → chain.spells c from to
    → chain.read from ≡ Some (c, to)
unfolding chain rules
chain_read c from to s = lawful_chain.only c from to s refl

-- What is read before the rules, and the rules.
record ChainParts (ts : List Terminal) (c : ChainTree) (to : List Terminal) : Type 0 where
  start : (Text × (List Text × Option HeadTree)) × List Terminal
  started : chain_start.read ts ≡ Some start
  last : List Terminal
  read : rules.read start.1 ≡ Some (c.rules, last)
  behind : length to ≤ length last

chain_parts : (ts : List Terminal) (c : ChainTree) (to : List Terminal) → chain.read ts ≡ Some (c, to)
    → ChainParts ts c to
unfolding chain chain_start
chain_parts ts c to e =
    elim (option_cases (after_word (codes "chain") ts)) [
      | inl none ↦ absurd (cc (rw none at e))
      | inr a ↦
          elim (option_cases (word_at a.0)) [
            | inl none ↦ absurd (cc (rw (a.1, none) at e))
            | inr name ↦
                elim (option_cases (after_punctuator OpenBrace name.0.1)) [
                  | inl none ↦ absurd (cc (rw (a.1, name.1, none) at e))
                  | inr b ↦
                      let notes = all_at note.read (skip_ends b.0) in
                      elim (option_cases ((maybe head).read notes.1)) [
                        | inl none ↦ absurd (cc (rw (a.1, name.1, b.1, none) at e))
                        | inr h ↦
                            elim (option_cases (rules.read h.0.1)) [
                              | inl none ↦ absurd (cc (rw (a.1, name.1, b.1, h.1, none) at e))
                              | inr found ↦
                                  elim (option_cases (after_punctuator CloseBrace found.0.1)) [
                                    | inl none ↦ absurd (cc (rw (a.1, name.1, b.1, h.1, found.1, none) at e))
                                    | inr close ↦
                                        let same =
                                        same_Some _ _ (rw (a.1, name.1, b.1, h.1, found.1, close.1) at e) in
                                        let closed : found.0.1 ≡ punctuator CloseBrace ∷ close.0 =
                                        IfSome_at (after_punctuator CloseBrace found.0.1) _ close.0 close.1
                                        (punctuator_after CloseBrace found.0.1) in
                                        let rest : close.0 ≡ to =
                                        ap (λ (x : ChainTree × List Terminal). x.1) same in
                                        record {
                                          start = ((name.0.0, (notes.0, h.0.0)), h.0.1);
                                          started = rw (a.1, name.1, b.1, h.1) refl;
                                          last = found.0.1;
                                          read = found.1 ∙ ap (λ (x : ChainTree × List Terminal).
                                              Some (x.0.rules, found.0.1)) same;
                                          behind = omega (arith, ap length closed, ap length rest);
                                        }
                                  ]
                            ]
                      ]
                ]
          ]
    ]

rules_read : (tokens : List Token) (from at to : ℕ) (xs : List RuleTree) (last : List Terminal)
    (rs : List TokenRange) → rules.read (remaining tokens at) ≡ Some (xs, last) → from ≤ at
    → length (remaining tokens to) ≤ length last → AreRead ended_rule.read after_ends (remaining tokens) (length tokens) at rs
    → AreSpelled ended_rule SomeEnds (remaining tokens) from to xs rs
unfolding rules
rules_read tokens from at to xs last rs e ahead behind read =
    elim (option_cases (ended_rule.read (remaining tokens at))) [
      | inl none ↦
          let same = same_Some _ _ (rw none at e) in
          let no_rule : xs ≡ [] = sym (ap (λ (x : List RuleTree × List Terminal). x.0) same) in
          rw no_rule (none_spelled ended_rule after_ends SomeEnds (remaining tokens) (length tokens) to from at rs
          none read)
      | inr x ↦
          let same = same_Some _ _ (rw x.1 at e) in
          let tail = all_at (after_at some_ends_at ended_rule.read) x.0.1 in
          let all : xs ≡ x.0.0 ∷ tail.0 = sym (ap (λ (y : List RuleTree × List Terminal). y.0) same) in
          let end : skip_ends tail.1 ≡ last = ap (λ (y : List RuleTree × List Terminal). y.1) same in
          let before : length (remaining tokens to) ≤ length tail.1 =
          omega (arith, skips tail.1, ap length end, behind) in
          rw all (list_spelled ended_rule after_ends SomeEnds (remaining tokens) (length tokens) to
          lawful_rule.found some_ends_found from at (length x.0.1) rs x.0 tail.0 tail.1 ahead
          (bounds_tokens tokens to tail.1 before) read x.1 (omega arith) refl)
    ]

pub rules_spelled : {X : Type 0} (view : X → Text × (List Text × Option HeadTree)) (tokens : List Token)
    (first end : ℕ) (c : ChainTree) (o : Option (X × ℕ))
    → item.spells (tree.chain c) (remaining tokens first) (remaining tokens end)
    → IsRead view chain_start.read tokens first o
    → IsSomeAnd o (λ x. (rs : List TokenRange)
    → AreRead ended_rule.read after_ends (remaining tokens) (length tokens) x.1 rs
    → AreSpelled ended_rule SomeEnds (remaining tokens) first end c.rules rs)
rules_spelled view tokens first end c None s start =
    let parts = chain_parts (remaining tokens first) c (remaining tokens end)
    (chain_read c (remaining tokens first) (remaining tokens end)
    (chain_of c (remaining tokens first) (remaining tokens end) s)) in
    absurd (cc (start.0, parts.started))
rules_spelled view tokens first end c (Some x) s start =
    let parts = chain_parts (remaining tokens first) c (remaining tokens end)
    (chain_read c (remaining tokens first) (remaining tokens end)
    (chain_of c (remaining tokens first) (remaining tokens end) s)) in
    let same = same_Some _ _ (sym parts.started ∙ sym start.0) in
    let here : parts.start.1 ≡ remaining tokens x.1 =
    ap (λ (y : (Text × (List Text × Option HeadTree)) × List Terminal). y.1) same in
    λ rs read. rules_read tokens first x.1 end c.rules parts.last rs (rw here at parts.read)
    (omega (arith, start.1.0)) parts.behind read

-- ---- statements

rule_read : (r : RuleTree) (from to : List Terminal) → SpellsEndedRule r from to
    → ended_rule.read from ≡ Some (r, to)
unfolding ended_rule
rule_read r from to s = lawful_rule.only r from to s refl

-- The statements of a rule, as they are read.
record RuleParts (ts : List Terminal) (r : RuleTree) (to : List Terminal) : Type 0 where
  first : Statement × List Terminal
  read : statement.read ts ≡ Some first
  others : List Statement
  last : List Terminal
  more : all_at statement.read first.1 ≡ (others, last)
  all : r.statements ≡ first.0 ∷ others
  behind : length to ≤ length last

rule_parts : (ts : List Terminal) (r : RuleTree) (to : List Terminal) → ended_rule.read ts ≡ Some (r, to)
    → RuleParts ts r to
unfolding ended_rule rule
rule_parts ts r to e =
    elim (option_cases (statement.read ts)) [
      | inl none ↦ absurd (cc (rw none at e))
      | inr x ↦
          let found = all_at statement.read x.0.1 in
          elim (option_cases (comment.read found.1)) [
            | inl none ↦ absurd (cc (rw (x.1, none) at e))
            | inr note ↦
                elim (cases_Bool (is_rule_end note.0.1)) [
                  | inl stop ↦
                      let same = same_Some _ _ (rw (x.1, note.1, stop) at e) in
                      let rest : note.0.1 ≡ to = ap (λ (y : RuleTree × List Terminal). y.1) same in
                      let fewer = no_longer comment lawful_comment note.0.0 found.1 note.0.1
                      (IfSome_at (comment.read found.1) (λ y. comment.spells y.0 found.1 y.1) note.0 note.1
                      (lawful_comment.found found.1)) in
                      record {
                        first = x.0;
                        read = x.1;
                        others = found.0;
                        last = found.1;
                        more = refl;
                        all = sym (ap (λ (y : RuleTree × List Terminal). y.0.statements) same);
                        behind = omega (arith, ap length rest, fewer);
                      }
                  | inr on ↦ absurd (cc (rw (x.1, note.1, on) at e))
                ]
          ]
    ]

pub statements_spelled : (tokens : List Token) (first end : ℕ) (r : RuleTree) (rs : List TokenRange)
    → SpellsEndedRule r (remaining tokens first) (remaining tokens end)
    → AreRead statement.read (λ ts. Some ts) (remaining tokens) (length tokens) first rs
    → AreSpelled statement IsNothing (remaining tokens) first end r.statements rs
statements_spelled tokens first end r rs s read =
    let parts = rule_parts (remaining tokens first) r (remaining tokens end)
    (rule_read r (remaining tokens first) (remaining tokens end) s) in
    rw parts.all (list_spelled statement (λ ts. Some ts) IsNothing (remaining tokens) (length tokens) end
    lawful_statement.found (λ ts. refl) first first (length parts.first.1) rs parts.first parts.others parts.last
    (omega arith) (bounds_tokens tokens end parts.last parts.behind) read parts.read (omega arith) parts.more)
