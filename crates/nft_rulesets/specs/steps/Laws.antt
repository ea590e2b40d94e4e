-- Rulesets: their parser gives exactly what they spell.
use Rattle.std.proofs.Common.{◌≡◌, ◌<◌, ◌==◌, List, [], ◌∷◌, length, true, Option, Some, None, inl, inr, refl, ap, ◌∙◌, if◌then◌else◌, arith}
use Rattle.std.proofs.lemmas.Bool.{cases_Bool, eqb-true}
use Rattle.std.proofs.lemmas.List.{nil_from_length}
use Rattle.std.specs.Prelude.{codes, IfSome}
use Rattle.std.specs.Str.{bytes_eq}
use Rattle.nft_lexer.specs.Terminal.{Terminal, word}
use Rattle.nft_tree.specs.declared.chain.ChainKind.TheVariants as chain_kinds
use Rattle.nft_tree.specs.declared.chain.Policy.TheVariants as policies
use Rattle.std.specs.Option.{unwrap_or}
use Rattle.list_laws.specs.Options.{IfSome_cond, IfSome_bind, ◌>>=◌}
use Rattle.nft_tree.specs.declared.ruleset.Family.TheVariants.{Ip}
use Rattle.nft_tree.specs.declared.ruleset.Family.{Family}
use Rattle.nft_tree.specs.Tree.{Text, TableTree}
use Rattle.token_reader.specs.steps.Reading.{word_at}
use Rattle.token_reader.specs.Grammar.{any_word, begins_with, a_word, maybe, one_of, ◌⨾◌}
use Rattle.token_reader.specs.steps.Laws.{else_found, Finds}
use Rattle.token_reader.specs.steps.TokenLaws.{word_found}
use Rattle.token_reader.specs.steps.Lawful.{Lawful, shortens, begins, unread, begins_with_left, begins_with_right}
use Rattle.token_reader.specs.steps.Lawful.{lawful_keyword, lawful_punctuation, lawful_word, lawful_number}
use Rattle.token_reader.specs.steps.Lawful.{lawful_string, lawful_ends, lawful_some_ends, lawful_then, lawful_after}
use Rattle.token_reader.specs.steps.Lawful.{lawful_before, lawful_either, lawful_maybe, lawful_many, lawful_made}
use Rattle.token_reader.specs.steps.Lawful.{lawful_one_of, lawful_lines}
use Rattle.nft_expressions.specs.Selectors.{selector, selectors}
use Rattle.nft_expressions.specs.Elements.{verdict}
use Rattle.nft_rules.specs.Rules.{counter, log, notrack, nat, set_mark, verdict_map, statement, rule, ended_rule}
use Rattle.nft_rules.specs.Matches.{matching}
use Rattle.nft_rules.specs.steps.Laws.{lawful_rule}
use Rattle.nft_rulesets.specs.Sets.{named_set, named_map, block}
use Rattle.nft_rulesets.specs.steps.SetLaws.{lawful_set, lawful_map}
use Rattle.nft_rulesets.specs.Chains.{comment, note, hook_names, priority_words, offset, named_priority, priority, policy, head, rules, chain}
use Rattle.nft_rulesets.specs.Rulesets.{item, families, table_name, table, flush, whole_ruleset, SpellsRuleset}

-- ---- hook specifications

pub lawful_comment : Lawful comment
unfolding comment
lawful_comment = lawful_after (lawful_keyword _) lawful_string refl

pub lawful_note : Lawful note
unfolding note comment
lawful_note = lawful_before lawful_comment lawful_some_ends refl

lawful_offset : Lawful offset
unfolding offset
lawful_offset = lawful_then (lawful_either (lawful_made _ (lawful_punctuation _))
    (lawful_made _ (lawful_punctuation _)) refl refl) lawful_number refl

lawful_priority : Lawful priority
unfolding priority offset
lawful_priority =
    lawful_either (lawful_made _ lawful_number) (
    lawful_either (lawful_made _ (lawful_after (lawful_punctuation _) lawful_number refl)) (
    lawful_made named_priority (lawful_then (lawful_one_of priority_words refl)
    (lawful_maybe lawful_offset refl) refl)) refl refl) refl refl

lawful_policy : Lawful policy
unfolding policy
lawful_policy = lawful_after (lawful_keyword _)
    (lawful_before (lawful_one_of ((codes "accept", policies.Accept) ∷ (codes "drop", policies.Drop) ∷ [])
    refl) lawful_some_ends refl) refl

lawful_head : Lawful head
unfolding head priority offset policy note comment
lawful_head =
    lawful_made _ (lawful_after (lawful_keyword _)
    (lawful_then (lawful_one_of ((codes "filter", chain_kinds.Filter) ∷ (codes "nat", chain_kinds.Nat)
    ∷ []) refl) (
    lawful_after (lawful_keyword _) (lawful_then (lawful_one_of hook_names refl) (
    lawful_after (lawful_keyword _) (lawful_then lawful_priority (
    lawful_after lawful_some_ends (lawful_then (lawful_maybe lawful_policy refl) (
    lawful_many lawful_note refl refl) refl) refl) refl) refl) refl) refl) refl) refl)

-- ---- chains

lawful_rules : Lawful rules
unfolding rules ended_rule rule statement counter log notrack verdict nat set_mark verdict_map matching
    selector selectors
lawful_rules = lawful_made _ (lawful_maybe (lawful_lines lawful_rule refl refl refl) refl)

pub lawful_chain : Lawful chain
unfolding chain note comment head priority policy rules ended_rule rule statement counter log notrack verdict
    nat set_mark verdict_map matching selector selectors
lawful_chain =
    lawful_made _ (lawful_after (lawful_keyword _) (lawful_then lawful_word (
    lawful_after (lawful_punctuation _) (lawful_after lawful_ends (
    lawful_then (lawful_many lawful_note refl refl) (lawful_then (lawful_maybe lawful_head refl) (
    lawful_before lawful_rules (lawful_punctuation _) refl) refl) refl) refl) refl) refl) refl)

-- ---- tables

pub lawful_item : Lawful item
unfolding item comment chain named_set named_map
lawful_item = lawful_either (lawful_made _ lawful_comment)
    (lawful_either (lawful_made _ lawful_chain)
    (lawful_either (lawful_made _ lawful_set) (lawful_made _ lawful_map) refl refl) refl refl) refl refl

lawful_family_name : Lawful (one_of families ⨾ a_word)
lawful_family_name = lawful_then (lawful_one_of families refl) lawful_word refl

-- Before a token that is no word, a name is no family.
no_family_name : (name : Text) (to : List Terminal) → word_at to ≡ None
    → (one_of families ⨾ a_word).read (word name ∷ to) ≡ None
no_family_name name to none =
    elim (cases_Bool (bytes_eq name (codes "ip"))) [
      | inl ip ↦ rw (ip, none) refl
      | inr other ↦
          elim (cases_Bool (bytes_eq name (codes "inet"))) [
            | inl inet ↦ rw (other, inet, none) refl
            | inr none_of ↦ rw (other, none_of) refl
          ]
    ]

table_name_found : Finds table_name.spells table_name.read
unfolding table_name
table_name_found ts =
    else_found _ ((one_of families ⨾ a_word).read ts) _ _ (lawful_family_name.found ts)
    (λ x ex. ((Some x.0.0, x.0.1), refl, ex))
    (IfSome_bind _ (word_at ts) _ (word_found ts) (λ x ex. ((None, x.0), refl, (ts, refl, ex))))

table_name_only : (y : Option Family × Text) (from to : List Terminal)
    → (maybe (one_of families) ⨾ a_word).spells y from to → word_at to ≡ None
    → table_name.read from ≡ Some ((unwrap_or y.0 Ip, y.1), to)
unfolding table_name
table_name_only (None, name) from to s none = rw (s.1, s.2, no_family_name name to none) refl
table_name_only (Some f, name) from to s none = rw (lawful_family_name.only (f, name) from to s refl) refl

table_name_front : (y : Option Family × Text) (from to : List Terminal)
    → (maybe (one_of families) ⨾ a_word).spells y from to
    → (length to < length from) × (begins_with table_name.first from ≡ true)
unfolding table_name
table_name_front (None, name) from to s = let e : from ≡ word name ∷ to = s.1 ∙ s.2 in
    (omega (arith, ap length e), begins_with_right (one_of families).first (any_word ∷ []) from (rw e refl))
table_name_front (Some f, name) from to s =
    let p = one_of families ⨾ a_word in (
      shortens p lawful_family_name refl (f, name) from to s,
      begins_with_left (one_of families).first (any_word ∷ []) from
          (begins p lawful_family_name refl (f, name) from to s),
    )

lawful_table_name : Lawful table_name
unfolding table_name
lawful_table_name = record {
  found = table_name_found;
  only = λ x from to s none. rw s.1 (table_name_only s.0 from to s.2 (unread _ lawful_word refl to none));
  front = λ x from to s. inl (table_name_front s.0 from to s.2);
}

pub lawful_table : Lawful table
unfolding table table_name item comment chain rules named_set named_map block
lawful_table =
    lawful_made _ (lawful_after (lawful_keyword _) (lawful_then lawful_table_name (
    lawful_after (lawful_punctuation _) (lawful_after lawful_ends (
    lawful_before (lawful_many (lawful_before lawful_item lawful_ends refl) refl refl) (lawful_punctuation _)
    refl) refl) refl) refl) refl)

-- ---- rulesets

lawful_flush : Lawful flush
unfolding flush
lawful_flush = lawful_after (lawful_keyword _) (lawful_after (lawful_keyword _) lawful_some_ends refl) refl

pub lawful_ruleset : Lawful whole_ruleset
unfolding whole_ruleset flush table table_name
lawful_ruleset = lawful_after lawful_ends
    (lawful_after (lawful_made _ (lawful_maybe lawful_flush refl))
    (lawful_many (lawful_before lawful_table lawful_ends refl) refl refl) refl) refl

-- The ruleset that all of the tokens spell.
unfoldable pub ruleset_at : List Terminal → Option (List TableTree)
ruleset_at ts = whole_ruleset.read ts >>= λ x. if length x.1 == 0 then Some x.0 else None

pub ruleset_found : (ts : List Terminal) → IfSome (ruleset_at ts) (λ tables. SpellsRuleset tables ts)
unfolding ruleset_at
ruleset_found ts =
    IfSome_bind _ (whole_ruleset.read ts) _ (lawful_ruleset.found ts) (λ x ex.
    IfSome_cond _ (length x.1 == 0) x.0
    (λ e. let nothing : x.1 ≡ [] = nil_from_length x.1 (eqb-true _ _ e) in rw nothing at ex))

pub ruleset_only : (tables : List TableTree) (ts : List Terminal) → SpellsRuleset tables ts
    → ruleset_at ts ≡ Some tables
unfolding ruleset_at whole_ruleset table table_name flush
ruleset_only tables ts s = rw (lawful_ruleset.only tables ts [] s refl) refl
