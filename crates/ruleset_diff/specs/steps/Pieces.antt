-- The packets of a set that end differently by two outcomes, as sets.
use Rattle.std.specs.Prelude.{◌≡◌, ℕ, ◌+◌, ◌==◌, ◌&&◌, ◌||◌, nat_le, not, cond, Bool, true, false, List, All}
use Rattle.std.specs.List.{list_any}
use Rattle.packet_sets.specs.declared.packet_set.PacketSet.{PacketSet}
use Rattle.packet_sets.specs.Sets.{DiagramsView, IsSet, holds}
use Rattle.fact_sets.specs.declared.written.MarkSource.{MarkSource}
use Rattle.fact_sets.specs.declared.written.Written.{Written}
use Rattle.fact_sets.specs.Facts.{CT_MARK, MARK, TRACKING, mark_number, number_in}
use Rattle.stage_sets.specs.declared.outcome.StageOutcome.{StageOutcome}
use Rattle.rule_meaning.specs.Same.{GoesOn}

-- one of the sets has the packet
abbrev pub some_has : DiagramsView → List PacketSet → (ℕ → Bool) → Bool
some_has d sets packet = list_any (λ set. holds d set packet) sets

-- sets were added that have together the packets which pass the test
pub record AddsPieces (d e : DiagramsView) (before after : List PacketSet) (test : (ℕ → Bool) → Bool) : Type 0 where
  pub sets : All (IsSet d) before → All (IsSet e) after
  pub same : All (IsSet d) before → (packet : ℕ → Bool)
      → some_has e after packet ≡ (some_has d before packet || test packet)

-- ---- what rules have written

-- the bit of the packet's mark at this place, from the highest on, and that of its connection's
abbrev pub mark_bit : ℕ → ℕ
mark_bit place = MARK.first + place

abbrev pub connection_mark_bit : ℕ → ℕ
connection_mark_bit place = CT_MARK.first + place

-- one of the two
abbrev pub unlike : Bool → Bool → Bool
unlike a b = cond a (not b) b

abbrev pub marks_differ : MarkSource → MarkSource → (ℕ → Bool) → Bool
marks_differ old new packet = not (mark_number old packet == mark_number new packet)

-- the packet has a connection, of which rules can read the mark
abbrev pub has_connection : (ℕ → Bool) → Bool
has_connection packet = nat_le 4 (number_in TRACKING packet)

-- the lookup of its connection is yet to come, so that `notrack` rules it out
abbrev pub is_before_lookup : (ℕ → Bool) → Bool
is_before_lookup packet = number_in TRACKING packet == 0

-- rules that read the packet's facts can tell these apart
abbrev pub written_differ : Written → Written → (ℕ → Bool) → Bool
written_differ old new packet =
    (marks_differ old.packet new.packet packet
    || (has_connection packet && marks_differ old.connection new.connection packet))
    || (is_before_lookup packet && unlike old.untracked new.untracked)

-- ---- outcomes

-- the packet ends in the same way by these outcomes: with the same verdict, and, where it goes on, the same facts
pub record SameOutcome (old new : StageOutcome) (packet : ℕ → Bool) : Type 0 where
  pub verdict : old.verdict ≡ new.verdict
  pub written : GoesOn old.verdict → written_differ old.written new.written packet ≡ false

-- these sets have together the packets of the set that don't
pub record ArePieces (d e : DiagramsView) (set : PacketSet) (old new : StageOutcome) (pieces : List PacketSet)
    : Type 0 where
  pub sets : All (IsSet e) pieces
  pub within : (packet : ℕ → Bool) → some_has e pieces packet ≡ true → holds d set packet ≡ true
  pub differ : (packet : ℕ → Bool) → some_has e pieces packet ≡ true → SameOutcome old new packet → ⊥
  pub others : (packet : ℕ → Bool) → holds d set packet ≡ true → some_has e pieces packet ≡ false
      → SameOutcome old new packet
