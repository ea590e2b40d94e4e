use Rattle.std.proofs.Common.{◌≡◌, [], ◌∷◌, Some, None, false, true, inl, inr, refl}
use Rattle.std.specs.Prelude.{codes}
use Rattle.nft_lexer.specs.Terminal.{word}
use Rattle.nft_tree.specs.declared.selector.Selector.TheVariants as selectors
use Rattle.nft_tree.specs.Tree as tree
use Rattle.token_reader.specs.steps.Reading.{many_at}
use Rattle.token_reader.specs.steps.Lawful.{begins}
use Rattle.nft_expressions.specs.Elements.{is_data_value, verdict, map_data, elements}
use Rattle.nft_expressions.specs.steps.Laws.{lawful_verdict}
use Rattle.nft_rulesets.specs.Rulesets.{flush, whole_ruleset, table}
use Rattle.nft_rulesets.specs.steps.Laws.{ruleset_at, ruleset_only}
use Rattle.definition_examples.proofs.Spellings.{compares}
use Rattle.definition_examples.proofs.grammar.invalid_texts.Goals as goal

pub returns : goal.returns
unfolding many_at verdict map_data elements ruleset_at whole_ruleset flush table
returns c = record {
  no_unended_flush = λ tables s. let e : None ≡ Some tables =
      ruleset_only tables (word (codes "flush") ∷ word (codes "ruleset") ∷ []) s in cc;
  no_reject = λ v rest to s. let e : false ≡ true =
      begins verdict lawful_verdict refl v (word (codes "reject") ∷ rest) to s in cc;
  no_plain_flags = λ op r from to s. let e : false ≡ true = (compares selectors.TcpFlags op r from to s).0 in
      cc;
  no_unlisted_word = λ op from to s. let e : false ≡ true =
      (compares selectors.TcpDestination op (tree.one (tree.word (codes "telnet"))) from to s).1 in cc;
  no_verdict_as_value = λ from to s.
      elim s [
        | inl v ↦ let e = v.1 in cc
        | inr v ↦
            let same : v.0 ≡ tree.word (codes "accept") = cc in
            let e : is_data_value (tree.word (codes "accept")) ≡ true = rw same at v.2.1 in
            cc
      ];
  no_empty_list = λ from to s. s.listed.1;
}
