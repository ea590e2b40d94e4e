-- Cases by what they pick.
use Rattle.std.specs.Prelude.{◌≡◌, ℕ, Bool, true, List, [], ◌∷◌, Option}
use Rattle.std.specs.Option.{option_map}
use Rattle.packet_sets.specs.Sets.{DiagramsView, Means}
use Rattle.fact_sets.specs.declared.cases.Case.{Case}
use Rattle.fact_sets.specs.declared.written.MarkSource.{MarkSource}
use Rattle.fact_sets.specs.Cases.{AreCases, picked}
use Rattle.fact_sets.specs.Facts.{mark_number}

-- the cases pick what is wanted, for each packet
pub record Picks {V : Type 0} (d : DiagramsView) (cases : List (Case V)) (wanted : (ℕ → Bool) → Option V)
    : Type 0 where
  pub are : AreCases d cases
  pub same : (packet : ℕ → Bool) → picked d cases packet ≡ wanted packet

-- the cases pick the marks with these numbers
pub record ReadsMarks (d : DiagramsView) (cases : List (Case MarkSource)) (wanted : (ℕ → Bool) → Option ℕ)
    : Type 0 where
  pub are : AreCases d cases
  pub same : (packet : ℕ → Bool)
      → option_map (λ source. mark_number source packet) (picked d cases packet) ≡ wanted packet

-- the same case with another outcome
abbrev pub with_outcome : {V W : Type 0} → (V → W) → Case V → Case W
with_outcome f c = record { set = c.set; outcome = f c.outcome }

-- one case of all packets
pub record Always {V : Type 0} (d : DiagramsView) (cases : List (Case V)) (outcome : V) : Type 0 where
  pub case : Case V
  pub one : cases ≡ case ∷ []
  pub all : Means d case.set (λ packet. true)
  pub is : case.outcome ≡ outcome
