use Rattle.std.proofs.Common.{refl}
use Rattle.token_reader.specs.steps.Reading.{many_at}
use Rattle.nft_expressions.specs.Selectors.{selector, selectors}
use Rattle.nft_expressions.specs.Elements.{range, key, element, comment, verdict, map_data, pair, elements, pairs, set_ref, map_ref}
use Rattle.nft_expressions.specs.steps.Reading.{one_or_prefix, range_after, key_after, enclosed_at, comma_separated_at, up_to_brace_at}
use Rattle.nft_rules.specs.Matches.{equality, inequality, operator, comparison, one_test, set_test, matching}
use Rattle.nft_rules.specs.Rules.{map_lookup, to_word, nat, counter, log, notrack, set_mark, verdict_map, statement, rule}
use Rattle.nft_rules.specs.Rules.{ended_rule}
use Rattle.nft_rulesets.specs.Sets.{value_type, value_types, set_type, data_type, map_type, set_flags, other_field, any_field, block, named_set, named_map}
use Rattle.nft_rulesets.specs.Chains as chains
use Rattle.nft_rulesets.specs.Chains.{note, offset, priority, policy, head, rules, chain}
use Rattle.nft_rulesets.specs.Rulesets.{item, table_name, table, flush, whole_ruleset}
use Rattle.nft_rulesets.specs.steps.Laws.{ruleset_at}
use Rattle.definition_examples.proofs.Spellings.{text_spelled}
use Rattle.definition_examples.proofs.grammar.texts.Goals as goal

pub returns : goal.returns
unfolding many_at selector selectors one_or_prefix range_after key_after enclosed_at comma_separated_at
    up_to_brace_at range key element comment verdict map_data pair elements pairs set_ref map_ref equality
    inequality operator comparison one_test set_test matching map_lookup to_word nat counter log notrack
    set_mark verdict_map statement value_type value_types set_type data_type map_type set_flags other_field
    any_field block named_set named_map chains.comment note offset priority policy head rules chain ended_rule
    rule item table_name table flush whole_ruleset ruleset_at
returns c = record {
  loopback_only = text_spelled _ _ refl;
  table_t = text_spelled _ _ refl;
  table_ip = text_spelled _ _ refl;
  filter_listing = text_spelled _ _ refl;
  translation = text_spelled _ _ refl;
  unsupported = refl;
  none_unsupported = refl;
}
