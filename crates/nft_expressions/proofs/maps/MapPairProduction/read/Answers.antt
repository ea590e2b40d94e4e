use Rattle.std.proofs.Common.{◌≡◌, List, Some, inl, inr, refl, rules}
use Rattle.list_laws.specs.Options.{option_cases, ◌>>=◌}
use Rattle.nft_lexer.specs.declared.token.Punctuator.TheVariants.{Colon}
use Rattle.nft_lexer.specs.Terminal.{Terminal}
use Rattle.token_reader.specs.Grammar.{punctuation, ◌⨾◌, ◌◃◌}
use Rattle.token_reader.specs.Readers.{remaining}
use Rattle.token_reader.specs.steps.Reading.{after_punctuator}
use Rattle.nft_expressions.specs.Elements.{range, comment, map_data, pair}
use Rattle.nft_expressions.proofs.maps.MapPairProduction.read.Goals as goal

-- A pair is its key up to the colon, and then its data.
in_two : (ts : List Terminal) → pair.read ts ≡ (range ⨾ comment ◃ punctuation Colon).read ts
    >>= λ k. map_data.read k.1 >>= λ d. Some (record { key = k.0.0; comment = k.0.1; value = d.0 }, d.1)
unfolding pair
in_two ts =
    elim (option_cases (range.read ts)) [
      | inl none ↦ rw none refl
      | inr key ↦ rw key.1
          (elim (option_cases (comment.read key.0.1)) [
            | inl none ↦ rw none refl
            | inr noted ↦ rw noted.1
                (elim (option_cases (after_punctuator Colon noted.0.1)) [
                  | inl none ↦ rw none refl
                  | inr after ↦ rw after.1
                      (elim (option_cases (map_data.read after.0))
                      [ inl none ↦ rw none refl | inr found ↦ rw found.1 refl ])
                ])
          ])
    ]

pub returns : goal.returns
returns c = rw (in_two (remaining c.args.tokens.now c.args.at)) (search rules)

pub returns-2 : goal.returns-2
returns-2 c = rw (in_two (remaining c.args.tokens.now c.args.at)) (search rules)

pub returns-3 : goal.returns-3
returns-3 c = rw (in_two (remaining c.args.tokens.now c.args.at)) (search rules)
