-- Named sets and maps: their parsers give exactly what they spell.
use Rattle.std.proofs.Common.{◌≡◌, false, true, refl}
use Rattle.std.specs.Prelude.{ℕ, List, [], ◌∷◌, codes}
use Rattle.nft_tree.specs.declared.set.SetFlag.TheVariants.{Constant, Interval}
use Rattle.nft_lexer.specs.declared.token.Punctuator.TheVariants.{CloseBrace}
use Rattle.nft_lexer.specs.Terminal.{Terminal}
use Rattle.token_reader.specs.Grammar.{Grammar, end_lookaheads, keyword, punctuation, lines, ◌▹◌, ◌◃◌}
use Rattle.token_reader.specs.steps.Lawful.{Lawful, are_apart, lawful_keyword, lawful_punctuation, lawful_word}
use Rattle.token_reader.specs.steps.Lawful.{lawful_number, lawful_string, lawful_ends, lawful_after, lawful_before}
use Rattle.token_reader.specs.steps.Lawful.{lawful_then, lawful_either, lawful_made, lawful_named, lawful_one_of}
use Rattle.token_reader.specs.steps.Lawful.{lawful_separated, lawful_lines}
use Rattle.nft_expressions.specs.Elements.{elements, pairs}
use Rattle.nft_expressions.specs.steps.Laws.{lawful_elements, lawful_pairs}
use Rattle.nft_rulesets.specs.Sets.{set_of, map_of, collect_fields, value_type, value_types, set_type, data_type}
use Rattle.nft_rulesets.specs.Sets.{data_selector, map_type, set_flags, other_field, any_field, block, named_set}
use Rattle.nft_rulesets.specs.Sets.{named_map}
use Rattle.nft_rulesets.specs.Sets as sets
use Rattle.nft_expressions.specs.Selectors.{selector, selectors}
use Rattle.nft_expressions.specs.steps.SelectorLaws.{lawful_selector, lawful_selectors}
use Rattle.nft_rulesets.specs.steps.Reading.{read_by}

lawful_value_type : Lawful value_type
unfolding value_type
lawful_value_type = lawful_named _ lawful_word

lawful_set_type : Lawful set_type
unfolding set_type value_types value_type selectors
lawful_set_type = lawful_either (lawful_after (lawful_keyword _)
    (lawful_made _ (lawful_separated (lawful_punctuation _) lawful_value_type refl refl refl refl)) refl)
    (lawful_after (lawful_keyword _) (lawful_made _ lawful_selectors) refl) refl refl

lawful_data_type : Lawful data_type
unfolding data_type
lawful_data_type = lawful_named _ lawful_word

lawful_data_selector : Lawful data_selector
unfolding data_selector selector
lawful_data_selector = lawful_either (lawful_made _ lawful_selector) (lawful_made _ (lawful_keyword _)) refl
    refl

lawful_map_type : Lawful map_type
unfolding map_type value_type data_type data_selector selector
lawful_map_type =
    lawful_either (lawful_made _ (lawful_after (lawful_keyword _)
    (lawful_then lawful_value_type (lawful_after (lawful_punctuation _) lawful_data_type refl) refl)
    refl))
    (lawful_made _ (lawful_after (lawful_keyword _)
    (lawful_then lawful_selector (lawful_after (lawful_punctuation _) lawful_data_selector refl) refl)
    refl)) refl refl

lawful_set_flags : Lawful set_flags
unfolding set_flags
lawful_set_flags = lawful_after (lawful_keyword _)
    (lawful_separated (lawful_punctuation _)
    (lawful_one_of ((codes "constant", Constant) ∷ (codes "interval", Interval) ∷ []) refl) refl refl refl
    refl) refl

-- ---- fields, for any key and elements

lawful_other_field : {K E : Type 0} {e : Grammar E} → Lawful e
    → are_apart e.follow (punctuation CloseBrace).first ≡ true → Lawful (other_field {K = K} e)
unfolding other_field set_flags
lawful_other_field le behind =
    lawful_either (lawful_made _ lawful_set_flags) (
    lawful_either (lawful_made _ (lawful_after (lawful_keyword _) lawful_number refl)) (
    lawful_either (lawful_made _ (lawful_keyword _)) (
    lawful_either (lawful_made _ (lawful_after (lawful_keyword _) lawful_string refl))
    (lawful_made _ (lawful_after (lawful_keyword _)
    (lawful_after (lawful_punctuation _)
    (lawful_after (lawful_punctuation _) (lawful_before le (lawful_punctuation _) behind) refl) refl)
    refl))
    refl refl) refl refl) refl refl) refl refl

lawful_block : {K E : Type 0} {k : Grammar K} {e : Grammar E} → Lawful k → Lawful e → k.empty ≡ false
    → are_apart k.first (other_field {K = K} e).first ≡ true
    → are_apart e.follow (punctuation CloseBrace).first ≡ true
    → are_apart end_lookaheads (any_field k e).first ≡ true
    → are_apart (any_field k e).follow end_lookaheads ≡ true
    → are_apart end_lookaheads (lines (any_field k e) ◃ punctuation CloseBrace).first ≡ true
    → are_apart (lines (any_field k e)).follow (punctuation CloseBrace).first ≡ true → Lawful (block k e)
unfolding block any_field other_field set_flags
lawful_block lk le some apart behind ahead ended begun closed =
    let field = lawful_either (lawful_made sets.key lk) (lawful_other_field le behind) some apart in
    lawful_then lawful_word (lawful_named collect_fields
    (lawful_after (lawful_punctuation _)
    (lawful_after lawful_ends (lawful_before (lawful_lines field refl ahead ended) (lawful_punctuation _)
    closed) begun) refl)) refl

pub lawful_set_field : Lawful (any_field set_type elements)
unfolding any_field other_field set_flags set_type value_types value_type selector selectors elements
lawful_set_field = lawful_either (lawful_made sets.key lawful_set_type)
    (lawful_other_field lawful_elements refl) refl refl

pub lawful_map_field : Lawful (any_field map_type pairs)
unfolding any_field other_field set_flags map_type value_type data_type data_selector selector pairs
lawful_map_field = lawful_either (lawful_made sets.key lawful_map_type)
    (lawful_other_field lawful_pairs refl) refl refl

-- The parser of a field depends only on the parsers of its key and its elements.
pub same_field : {K E : Type 0} (k : Grammar K) (e : Grammar E) (ts : List Terminal)
    → (any_field (read_by k.read) (read_by e.read)).read ts ≡ (any_field k e).read ts
unfolding any_field other_field
same_field k e ts = refl

-- The parser of a block depends only on the parsers of its key and its elements.
pub same_block : (w : List ℕ) {K E : Type 0} (k : Grammar K) (e : Grammar E) (ts : List Terminal)
    → (keyword w ▹ block (read_by k.read) (read_by e.read)).read ts ≡ (keyword w ▹ block k e).read ts
unfolding block any_field other_field
same_block w k e ts = refl

-- ---- sets and maps

pub lawful_set : Lawful named_set
unfolding named_set block any_field other_field set_flags set_type value_types value_type selector selectors
    elements
lawful_set = lawful_named set_of (lawful_after (lawful_keyword _)
    (lawful_block lawful_set_type lawful_elements refl refl refl refl refl refl refl) refl)

pub lawful_map : Lawful named_map
unfolding named_map block any_field other_field set_flags map_type value_type data_type data_selector selector
    pairs
lawful_map = lawful_named map_of (lawful_after (lawful_keyword _)
    (lawful_block lawful_map_type lawful_pairs refl refl refl refl refl refl refl) refl)
