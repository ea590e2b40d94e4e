use Rattle.std.proofs.Common.{◌≡◌, ◌∙◌, List, inl, inr, sym, ap}
use Rattle.nft_lexer.specs.Terminal.{LexedToken, terminals_of}
use Rattle.nft_parser.specs.declared.fault.TextFault.TheVariants.{Lexical}
use Rattle.nft_rulesets.specs.UnsupportedWords.{has_unsupported}
use Rattle.nft_parser.specs.steps.Faults.{refusal}
use Rattle.nft_parser.proofs.TextLaws.{fault_cases}
use Rattle.nft_parser.proofs.laws.one_fault.Goals as goal

pub returns : goal.returns
returns c = λ text first second f s.
    elim (fault_cases text first f) [
      | inl l ↦
          elim (fault_cases text second s) [
            | inl m ↦ l.1 ∙ ap Lexical (c.one_fault.ensures text l.0 m.0 l.2 m.2) ∙ sym m.1
            | inr n ↦ absurd (c.one_tokenization.ensures.faultless text n.2.0 l.0 n.2.1 l.2)
          ]
      | inr n ↦
          elim (fault_cases text second s) [
            | inl l ↦ absurd (c.one_tokenization.ensures.faultless text n.2.0 l.0 n.2.1 l.2)
            | inr m ↦
                let same : n.2.0 ≡ m.2.0 = c.one_tokenization.ensures.one text n.2.0 m.2.0 n.2.1 m.2.1 in
                n.1 ∙ ap refusal (sym n.2.3
                ∙ ap (λ (tokens : List LexedToken). has_unsupported (terminals_of tokens)) same ∙ m.2.3)
                ∙ sym m.1
          ]
    ]
