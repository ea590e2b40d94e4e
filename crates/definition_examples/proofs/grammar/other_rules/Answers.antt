use Rattle.std.proofs.Common.{None, inl, inr, refl}
use Rattle.token_reader.specs.steps.Reading.{many_at}
use Rattle.nft_expressions.specs.Selectors.{selector}
use Rattle.nft_expressions.specs.Elements.{range, key, element, comment, verdict, map_data, pair, elements, pairs, set_ref, map_ref}
use Rattle.nft_expressions.specs.steps.Reading.{one_or_prefix, range_after, key_after, enclosed_at, comma_separated_at, up_to_brace_at}
use Rattle.nft_rules.specs.Matches.{equality, inequality, operator, comparison, one_test, set_test, matching}
use Rattle.nft_rules.specs.Rules.{map_lookup, operand, ports, to_word, nat, counter, log, notrack, set_mark, verdict_map, statement, rule}
use Rattle.nft_expressions.specs.steps.SelectorLaws.{lawful_selector}
use Rattle.nft_rules.specs.steps.Laws.{lawful_statement}
use Rattle.definition_examples.proofs.Spellings.{spelled, plain_spelled}
use Rattle.definition_examples.proofs.grammar.other_rules.Goals as goal

-- Where more tokens could continue an optional part, the spelling is given by hand.
pub returns : goal.returns
unfolding many_at selector one_or_prefix range_after key_after enclosed_at comma_separated_at up_to_brace_at
    range key element comment verdict map_data pair elements pairs set_ref map_ref equality inequality
    operator comparison one_test set_test matching map_lookup operand ports to_word nat counter log notrack
    set_mark verdict_map statement rule
returns c = record {
  goto_b = λ rest. plain_spelled _ _ _ rest (_, refl, refl);
  verdict_by_source = λ rest. plain_spelled _ _ _ rest (_, refl, refl);
  web_from_lan = λ rest. (
    _,
    refl,
    (
      _,
      spelled statement lawful_statement _ _ _ refl,
      (
        _,
        (
          _,
          spelled statement lawful_statement _ _ _ refl,
          (_, spelled statement lawful_statement _ _ _ refl, (_, spelled statement lawful_statement _ _ _ refl, refl)),
        ),
        (_, refl, refl),
      ),
    ),
  );
  verdict_by_state = λ rest. plain_spelled _ _ _ rest (_, refl, refl);
  masqueraded = λ rest. (
    _,
    refl,
    (
      _,
      spelled statement lawful_statement _ _ _ refl,
      (
        _,
        (_, inr (inr (inr (inr (inl (_, refl, inr (inr (inl (None, refl, (_, refl, refl))))))))), refl),
        refl,
      ),
    ),
  );
  translated_source = λ rest. plain_spelled _ _ _ rest (_, refl, refl);
  mark_from_connection = λ rest. (
    _,
    refl,
    (
      _,
      inr (inr (inr (inr (inr (inl (
        _,
        refl,
        (
          _,
          spelled selector lawful_selector _ _ _ refl,
          (_, refl, inr ((_, None), refl, (_, spelled selector lawful_selector _ _ _ refl, refl))),
        ),
      )))))),
      (_, refl, refl),
    ),
  );
  connection_marked = λ rest. plain_spelled _ _ _ rest (_, refl, refl);
  mark_by_source = λ rest. (
    _,
    refl,
    (
      _,
      spelled statement lawful_statement _ _ _ refl,
      (_, (_, inl (None, refl, (_, refl, refl)), refl), refl),
    ),
  );
  names_untracked = λ rest. plain_spelled _ _ _ rest (_, refl, (_, refl, refl));
  outside_logged = λ rest. plain_spelled _ _ _ rest (_, refl, (_, refl, (_, refl, (_, refl, refl))));
}
