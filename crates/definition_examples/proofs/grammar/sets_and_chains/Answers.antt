use Rattle.std.proofs.Common.{refl}
use Rattle.token_reader.specs.steps.Reading.{many_at}
use Rattle.nft_expressions.specs.Selectors.{selector, selectors}
use Rattle.nft_expressions.specs.Elements.{range, key, element, comment, verdict, map_data, pair, elements, pairs, set_ref, map_ref}
use Rattle.nft_expressions.specs.steps.Reading.{one_or_prefix, range_after, joined_after, key_after, enclosed_at, comma_separated_at, up_to_brace_at}
use Rattle.nft_rules.specs.Matches.{equality, inequality, operator, comparison, one_test, set_test, matching}
use Rattle.nft_rules.specs.Rules.{nat, counter, log, notrack, set_mark, verdict_map, statement, rule}
use Rattle.nft_rules.specs.Rules.{ended_rule}
use Rattle.nft_rulesets.specs.Sets.{value_type, value_types, set_type, data_selector, map_type, set_flags, other_field, any_field, block, named_set, named_map}
use Rattle.nft_rulesets.specs.Chains as chains
use Rattle.nft_rulesets.specs.Chains.{note, priority, policy, head, rules, chain}
use Rattle.nft_expressions.specs.steps.Laws.{lawful_elements}
use Rattle.nft_rulesets.specs.steps.SetLaws.{lawful_set, lawful_map}
use Rattle.nft_rulesets.specs.steps.Laws.{lawful_chain}
use Rattle.definition_examples.proofs.Spellings.{spelled}
use Rattle.definition_examples.proofs.grammar.sets_and_chains.Goals as goal

pub returns : goal.returns
unfolding many_at selector selectors one_or_prefix range_after joined_after key_after enclosed_at
    comma_separated_at up_to_brace_at range key element comment verdict map_data pair elements pairs set_ref
    map_ref equality inequality operator comparison one_test set_test matching nat counter log notrack
    set_mark verdict_map statement value_type value_types set_type data_selector map_type set_flags
    other_field any_field block named_set named_map chains.comment note priority policy head rules chain
    ended_rule rule
returns c = record {
  private_networks = λ rest. spelled elements lawful_elements _ _ _ refl;
  local_network = λ rest. spelled named_set lawful_set _ _ rest refl;
  guests = λ rest. spelled named_set lawful_set _ _ rest refl;
  by_interface = λ rest. spelled named_map lawful_map _ _ rest refl;
  watch = λ rest. spelled chain lawful_chain _ _ rest refl;
}
