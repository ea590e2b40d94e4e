use Rattle.std.proofs.Common.{refl}
use Rattle.token_reader.specs.steps.Reading.{many_at}
use Rattle.nft_expressions.specs.Selectors.{selector}
use Rattle.nft_expressions.specs.Elements.{range, key, element, comment, verdict, elements, set_ref}
use Rattle.nft_expressions.specs.steps.Reading.{one_or_prefix, range_after, joined_after, key_after, enclosed_at, comma_separated_at, up_to_brace_at}
use Rattle.nft_rules.specs.Matches.{equality, inequality, operator, comparison, words, bits, flag, flags, flag_group}
use Rattle.nft_rules.specs.Matches.{flag_list, masked, one_test, set_test, matching}
use Rattle.nft_rules.specs.Rules.{nat, counter, log, notrack, set_mark, verdict_map, statement}
use Rattle.definition_examples.proofs.Spellings.{plain_spelled}
use Rattle.definition_examples.proofs.grammar.rules_of_matches.Goals as goal

pub returns : goal.returns
unfolding many_at selector one_or_prefix range_after joined_after key_after enclosed_at comma_separated_at
    up_to_brace_at range key element comment verdict elements set_ref equality inequality operator comparison
    words bits flag flags flag_group flag_list masked one_test set_test matching nat counter log notrack
    set_mark verdict_map statement
returns c = record {
  port_is_22 = λ rest. plain_spelled _ _ _ rest (_, refl, (_, refl, refl));
  port_is_not_22 = λ rest. plain_spelled _ _ _ rest (_, refl, (_, refl, refl));
  either_icmp = λ rest. plain_spelled _ _ _ rest (_, refl, (_, refl, refl));
  from_loopback = λ rest. plain_spelled _ _ _ rest (_, refl, (_, refl, refl));
  from_accept = λ rest. plain_spelled _ _ _ rest (_, refl, (_, refl, refl));
  known_connection = λ rest. plain_spelled _ _ _ rest (_, refl, (_, refl, refl));
  opening_by_mask = λ rest. plain_spelled _ _ _ rest (_, refl, (_, refl, refl));
  opening_by_slash = λ rest. plain_spelled _ _ _ rest (_, refl, (_, refl, refl));
  to_name_server = λ rest. plain_spelled _ _ _ rest (_, refl, (_, refl, refl));
  some_flag = λ rest. plain_spelled _ _ _ rest (_, refl, (_, refl, refl));
  syn_ack = λ rest. plain_spelled _ _ _ rest (_, refl, (_, refl, (_, refl, refl)));
}
