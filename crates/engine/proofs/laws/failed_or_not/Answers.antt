use Rattle.engine.proofs.Names.{inl, inr, sym, ◌∙◌}
use Rattle.engine.proofs.laws.failed_or_not.Goals as goal

pub returns : goal.returns
returns c = λ old new failed none. elim failed [
  | inl read ↦ c.failure_shows.ensures _ (sym read.0 ∙ none.0)
  | inr written ↦ elim written [
    | inl sent ↦ c.failure_shows.ensures _ (sym sent.1 ∙ none.1)
    | inr reported ↦ c.failure_shows.ensures _ (sym reported.2 ∙ none.2)
  ]
]
