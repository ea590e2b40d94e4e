use Rattle.std.proofs.Common.{◌≡◌, ◌∙◌, inl, inr, sym, ap}
use Rattle.std.proofs.lemmas.Option.{same_Some}
use Rattle.nft_lexer.specs.Terminal.{terminals_of}
use Rattle.nft_rulesets.specs.steps.Laws.{ruleset_at, ruleset_only}
use Rattle.nft_parser.proofs.TextLaws.{fault_cases}
use Rattle.nft_parser.proofs.laws.one_tree.Goals as goal

pub returns-clause-one : goal.returns-clause-one
returns-clause-one c = λ text first second f s.
    let same : f.0 ≡ s.0 = c.one_tokenization.ensures.one text f.0 s.0 f.1 s.1 in
    same_Some first second (sym (ruleset_only first (terminals_of f.0) f.2)
    ∙ ap (λ tokens. ruleset_at (terminals_of tokens)) same ∙ ruleset_only second (terminals_of s.0) s.2)

pub returns-clause-faultless : goal.returns-clause-faultless
returns-clause-faultless c = λ text tree fault s h.
    elim (fault_cases text fault h) [
      | inl l ↦ c.one_tokenization.ensures.faultless text s.0 l.0 s.1 l.2
      | inr n ↦
          let same : s.0 ≡ n.2.0 = c.one_tokenization.ensures.one text s.0 n.2.0 s.1 n.2.1 in
          n.2.2 tree (rw same at s.2)
    ]
