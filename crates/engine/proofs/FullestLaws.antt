-- When the most connections lived, one record later.
use Rattle.std.proofs.Common.{◌≡◌, ◌≤◌, ◌<◌, ◌-◌, ◌∷◌, ℕ, List, length, drop, suc, ap, arith, inl, inr, sym, ◌∙◌}
use Rattle.std.proofs.lemmas.Bool.{cases_lt}
use Rattle.history.specs.History.{Entry, live_in}
use Rattle.history.specs.Setup.{Setup}
use Rattle.engine.specs.Fullest.{IsFullest, live_behind}
use Rattle.engine.specs.declared.fullest.Fullest.{Fullest}

module _ (setup : Setup) (e : Entry) (history : List Entry) where
  -- behind an earlier record live as many as before
  behind_earlier : (count : ℕ) → count ≤ length history
      → live_behind setup (e ∷ history) count ≡ live_behind setup history count
  behind_earlier count le =
      let more : length (e ∷ history) - count ≡ suc (length history - count) = omega (arith, le) in
      ap (λ n. length (live_in setup (drop n (e ∷ history)))) more

  behind_last : (count : ℕ) → count ≡ length (e ∷ history)
      → live_behind setup (e ∷ history) count ≡ length (live_in setup (e ∷ history))
  behind_last count is =
      let none : length (e ∷ history) - count ≡ 0 = omega (arith, is) in
      ap (λ n. length (live_in setup (drop n (e ∷ history)))) none

  module _ (before : Fullest) (was : IsFullest setup history before) (connections : ℕ)
      (is : connections ≡ length (live_in setup (e ∷ history)))
    where
      -- more live than ever
      pub raised : before.connections < connections → (number : ℕ) → number ≡ length (e ∷ history)
          → IsFullest setup (e ∷ history) (record { connections = connections; number = number })
      raised more number last = record {
        within = omega (arith, last);
        reached = behind_last number last ∙ sym is;
        most = λ count le. elim (cases_lt (length history) count) [
          | inl late ↦ rw (behind_last count (omega (arith, le, late))) (omega (arith, is))
          | inr early ↦ rw (behind_earlier count early) (omega (arith, was.most count early, more))
        ];
        first = λ count lt. let early : count ≤ length history = omega (arith, lt, last) in
            rw (behind_earlier count early) (omega (arith, was.most count early, more));
      }

      -- or not
      pub kept : connections ≤ before.connections → IsFullest setup (e ∷ history) before
      kept fewer = record {
        within = omega (arith, was.within);
        reached = behind_earlier before.number was.within ∙ was.reached;
        most = λ count le. elim (cases_lt (length history) count) [
          | inl late ↦ rw (behind_last count (omega (arith, le, late))) (omega (arith, is, fewer))
          | inr early ↦ rw (behind_earlier count early) (was.most count early)
        ];
        first = λ count lt. let early : count ≤ length history = omega (arith, lt, was.within) in
            rw (behind_earlier count early) (was.first count lt);
      }
