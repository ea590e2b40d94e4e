-- Rules: their parser gives exactly what they spell.
use Rattle.std.proofs.Common.{◌≡◌, ℕ, List, [], ◌∷◌, ◌++◌, true, false, Option, Some, None, inl, inr, refl, sym, ap, subst, ◌∙◌}
use Rattle.std.specs.Prelude.{codes, option_map}
use Rattle.std.proofs.lemmas.Option.{same_Some}
use Rattle.list_laws.specs.Options.{IfSome_cond, IfSome_bind}
use Rattle.nft_lexer.specs.declared.token.Punctuator.TheVariants.{Semicolon, CloseBrace}
use Rattle.nft_lexer.specs.Terminal.{Terminal, newline, punctuator, word}
use Rattle.nft_tree.specs.declared.selector.Selector.{Selector}
use Rattle.nft_tree.specs.declared.selector.Selector.TheVariants.{MetaMark, CtMark}
use Rattle.nft_tree.specs.Tree as tree
use Rattle.nft_tree.specs.Tree.{MapLookupTree, OperandTree, MatchTree, Statement}
use Rattle.token_reader.specs.Repeats.{is_rule_end}
use Rattle.token_reader.specs.Grammar.{Lookahead, line, this_punctuator, begins_with, Grammar}
use Rattle.token_reader.specs.steps.Reading.{word_at}
use Rattle.token_reader.specs.steps.Lawful.{Lawful, begins_with_apart, neither, begins, lawful_keyword}
use Rattle.token_reader.specs.steps.Lawful.{lawful_punctuation, lawful_number, lawful_address, lawful_string}
use Rattle.token_reader.specs.steps.Lawful.{lawful_then, lawful_after, lawful_either, lawful_first, lawful_maybe}
use Rattle.token_reader.specs.steps.Lawful.{lawful_many, lawful_made, lawful_named}
use Rattle.nft_expressions.specs.Selectors.{selector, selectors, is_word_for}
use Rattle.nft_expressions.specs.steps.SelectorLaws.{lawful_selector}
use Rattle.nft_expressions.specs.Elements.{range, comment, verdict, elements, set_ref, pairs, map_ref}
use Rattle.nft_expressions.specs.steps.Laws.{lawful_comment, lawful_verdict, lawful_map_ref}
use Rattle.nft_rules.specs.Matches.{matching, words, flag_list, masked, flag_group, flags, flag, equality}
use Rattle.nft_rules.specs.steps.MatchLaws.{lawful_matching, match_word}
use Rattle.nft_rules.specs.Rules.{map_lookup, mark_field, operand, ports, to_word, target, nat, counter, log, notrack}
use Rattle.nft_rules.specs.Rules.{set_mark, verdict_map, statement, rule, IsRuleEnd}
use Rattle.nft_rules.specs.Rules.{ended_rule}

lawful_map_lookup : Lawful map_lookup
unfolding map_lookup selector map_ref
lawful_map_lookup = lawful_made _ (lawful_then lawful_selector
    (lawful_after (lawful_keyword _) lawful_map_ref refl) refl)

lawful_operand : Lawful operand
unfolding operand selector map_ref
lawful_operand =
    lawful_either (lawful_made _ lawful_number)
    (lawful_named _ (lawful_then lawful_selector
    (lawful_maybe (lawful_after (lawful_keyword _) lawful_map_ref refl) refl) refl)) refl refl

lawful_ports : Lawful ports
unfolding ports
lawful_ports = lawful_made _ (lawful_then lawful_number
    (lawful_maybe (lawful_after (lawful_punctuation _) lawful_number refl) refl) refl)

lawful_to_word : Lawful to_word
unfolding to_word
lawful_to_word = lawful_either (lawful_keyword _) (lawful_after (lawful_keyword _) (lawful_keyword _) refl)
    refl refl

lawful_target : {A B : Type 0} (at_address : ℕ → Option A → B)
    (map_looked_up : MapLookupTree → B) {port : Grammar A} → Lawful port
    → Lawful (target at_address map_looked_up port)
unfolding map_lookup selector
lawful_target at_address map_looked_up port =
    lawful_either (lawful_made _ (lawful_then lawful_address
    (lawful_maybe (lawful_after (lawful_punctuation _) port refl) refl) refl))
    (lawful_made map_looked_up lawful_map_lookup) refl refl

lawful_nat : Lawful nat
unfolding nat to_word ports map_lookup selector
lawful_nat =
    lawful_either (lawful_made _ (lawful_after (lawful_keyword _)
    (lawful_after lawful_to_word (lawful_target _ _ lawful_ports) refl) refl))
    (lawful_either (lawful_made _ (lawful_after (lawful_keyword _)
    (lawful_after lawful_to_word (lawful_target _ _ lawful_number) refl) refl))
    (lawful_either (lawful_made _ (lawful_after (lawful_keyword _)
    (lawful_maybe (lawful_after (lawful_keyword _) (lawful_after (lawful_punctuation _) lawful_ports refl)
    refl) refl) refl))
    (lawful_made _ (lawful_after (lawful_keyword _)
    (lawful_maybe (lawful_after (lawful_keyword _)
    (lawful_after (lawful_punctuation _) lawful_number refl) refl) refl) refl))
    refl refl) refl refl) refl refl

lawful_counter : Lawful counter
unfolding counter
lawful_counter =
    lawful_made _ (lawful_after (lawful_keyword _)
    (lawful_maybe (lawful_made _ (lawful_after (lawful_keyword _)
    (lawful_then lawful_number (lawful_after (lawful_keyword _) lawful_number refl) refl) refl)) refl)
    refl)

lawful_log : Lawful log
unfolding log
lawful_log = lawful_made _ (lawful_after (lawful_keyword _)
    (lawful_maybe (lawful_after (lawful_keyword _) lawful_string refl) refl) refl)

lawful_notrack : Lawful notrack
unfolding notrack
lawful_notrack = lawful_made _ (lawful_keyword _)

-- ---- statements that start with a selector

lawful_set_mark : Lawful set_mark
unfolding set_mark operand selector
lawful_set_mark = lawful_named _ (lawful_then lawful_selector
    (lawful_after (lawful_keyword _) lawful_operand refl) refl)

lawful_verdict_map : Lawful verdict_map
unfolding verdict_map selector map_ref
lawful_verdict_map = lawful_made _ (lawful_then lawful_selector
    (lawful_after (lawful_keyword _) lawful_map_ref refl) refl)

-- At a position there is one selector, with one rest.
one_selector : (s t : Selector) (from a b : List Terminal) → selector.spells s from a
    → selector.spells t from b → a ≡ b
unfolding selector
one_selector s t from a b e f =
    let same = sym (lawful_selector.only s from a e refl) ∙ lawful_selector.only t from b f refl in
    ap (λ (x : Selector × List Terminal). x.1) (same_Some (s, a) (t, b) same)

not_both : (x y : Statement) (from to mid : List Terminal) → verdict_map.spells x from to
    → set_mark.spells y from mid → ⊥
unfolding verdict_map set_mark
not_both x y from to mid (v, is, (a, ev, (b, vmap, em))) (w, same, (c, es, (d, set, eo))) =
    let behind : word (codes "vmap") ∷ b ≡ word (codes "set") ∷ d =
    sym vmap ∙ one_selector v.0 w.0 from a c ev es ∙ set in
    absurd cc

-- A mark has no symbolic constants.
no_word : (s : Selector) (o : OperandTree) (x : Statement)
    → option_map (λ m. tree.set_mark m o) (mark_field s) ≡ Some x → is_word_for s (codes "set") ≡ true → ⊥
no_word MetaMark o x e fits = absurd cc
no_word CtMark o x e fits = absurd cc
no_word s o x e fits = absurd cc

no_set_mark : (m : MatchTree) (y : Statement) (from to mid : List Terminal) → matching.spells m from to
    → begins_with matching.follow to ≡ false → set_mark.spells y from mid → ⊥
unfolding set_mark
no_set_mark m y from to mid e none ((s, o), same, (a, es, (b, set, eo))) =
    no_word s o y same (match_word m from to e none s (codes "set") b
    (subst (λ (r : List Terminal). selector.spells s from r) set es)).0

no_verdict_map : (m : MatchTree) (y : Statement) (from to mid : List Terminal) → matching.spells m from to
    → begins_with matching.follow to ≡ false → verdict_map.spells y from mid → ⊥
unfolding verdict_map map_ref
no_verdict_map m y from to mid e none ((s, map), same, (a, es, (b, vmap, em))) =
    let plain = (match_word m from to e none s (codes "vmap") b
    (subst (λ (r : List Terminal). selector.spells s from r) vmap es)).1 in
    let stood = begins map_ref lawful_map_ref refl map b mid em in
    absurd (cc (plain, stood))

pub lawful_statement : Lawful statement
unfolding statement counter log notrack verdict nat set_mark verdict_map selector selectors matching
lawful_statement =
    lawful_either lawful_counter
    (lawful_either lawful_log
    (lawful_either lawful_notrack
    (lawful_either (lawful_made _ lawful_verdict)
    (lawful_either (lawful_made _ lawful_nat)
    (lawful_first lawful_set_mark
    (lawful_first lawful_verdict_map (lawful_made tree.matching lawful_matching) refl
    (λ x y from to mid e none s. no_verdict_map e.0 y from to mid e.2
    (neither matching.follow [] to none).0 s))
    refl (λ x y from to mid e none s.
    elim e [
      | inl v ↦ not_both x y from to mid v s
      | inr m ↦ no_set_mark m.0 y from to mid m.2
          (neither matching.follow [] to (neither verdict_map.follow (matching.follow ++ []) to
          (neither (verdict_map.follow ++ (matching.follow ++ [])) [] to none).0).1).0 s
    ]))
    refl refl) refl refl) refl refl) refl refl) refl refl

-- A statement starts with a word.
pub no_statement : (ts : List Terminal) → word_at ts ≡ None → statement.read ts ≡ None
unfolding statement counter log notrack verdict nat set_mark verdict_map selector matching
no_statement (word w ∷ ts) none = absurd cc
no_statement ts none = refl

-- ---- rules

lawful_unended : Lawful rule
unfolding rule statement comment counter log notrack verdict nat set_mark verdict_map operand to_word ports
    map_lookup selector selectors map_ref pairs matching words flag_list masked flag_group flags flag equality
    range set_ref elements
lawful_unended = lawful_made _ (lawful_then lawful_statement
    (lawful_then (lawful_many lawful_statement refl refl) lawful_comment refl) refl)

-- The tokens that end a rule.
abbrev rule_end_lookaheads : List Lookahead
rule_end_lookaheads = line ∷ this_punctuator Semicolon ∷ this_punctuator CloseBrace ∷ []

rule_end_begins : (ts : List Terminal) → IsRuleEnd ts → begins_with rule_end_lookaheads ts ≡ true
rule_end_begins [] e = absurd cc
rule_end_begins (newline ∷ ts) e = refl
rule_end_begins (punctuator Semicolon ∷ ts) e = refl
rule_end_begins (punctuator CloseBrace ∷ ts) e = refl
rule_end_begins ts e = absurd cc

pub lawful_rule : Lawful ended_rule
unfolding ended_rule rule statement comment counter log notrack verdict nat set_mark verdict_map operand
    to_word ports map_lookup selector selectors map_ref pairs matching words flag_list masked flag_group flags
    flag equality range set_ref elements
lawful_rule = record {
  found = λ ts. IfSome_bind _ (rule.read ts) _ (lawful_unended.found ts)
      (λ r e. IfSome_cond _ (is_rule_end r.1) r (λ stop. (e, stop)));
  only = λ r from to e none. rw (
    lawful_unended.only r from to e.0
        (begins_with_apart rule.follow rule_end_lookaheads to refl (rule_end_begins to e.1)),
    e.1,
  ) refl;
  front = λ r from to e. lawful_unended.front r from to e.0;
}
