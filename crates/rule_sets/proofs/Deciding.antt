-- Cases that decide one effect decide any that is the same.
use Rattle.std.proofs.Common.{◌≡◌, ◌∙◌, List, ℕ, Option, Some, None}
use Rattle.packet_sets.specs.Sets.{DiagramsView}
use Rattle.rule_meaning.specs.declared.facts.Facts.{Facts}
use Rattle.rule_meaning.specs.Statements.{StatementEffect}
use Rattle.fact_sets.specs.declared.cases.Case.{Case}
use Rattle.action_cases.specs.declared.cases.Outcome.{Outcome}
use Rattle.fact_sets.specs.declared.readings.Reader.{Reader}
use Rattle.fact_sets.specs.Cases.{seen}
use Rattle.action_cases.specs.Effects.{Decides}
use Rattle.nft_tree.specs.declared.compared_types.ComparedType.{ComparedType}
use Rattle.nft_tree.specs.declared.compared_types.ComparedType.TheVariants.{Named}
use Rattle.nft_tree.specs.declared.selector.ValueType.TheVariants as types
use Rattle.nft_tree.specs.ComparedTypes.{map_data_compared_type}
use Rattle.nft_tree.specs.Tree.{MapTree, TableTree}
use Rattle.box_file.specs.Box.{PlantTree}
use Rattle.lowering.specs.Lowered.{Extends, HasDeclared, HasMap}
use Rattle.rule_code.specs.declared.code.Lookups.{Lookups}

pub decides_as : (d : DiagramsView) (r : Reader) (cs : List (Case Outcome)) (e g : Facts → StatementEffect) → ((f : Facts) → e f ≡ g f)
    → Decides d r cs e → Decides d r cs g
decides_as d r cs e g same is = record { are = is.are; same = λ p. is.same p ∙ same (seen r p) }

pub extends_same : (l : Lookups) → Extends l l
extends_same l = record { sets = λ i x e. e; verdicts = λ i x e. e; numbers = λ i x e. e }

-- ---- declared sets and maps keep their tables

map_kept : (network : PlantTree) (t : TableTree) (old new : Lookups) (i : ℕ) (m : MapTree)
    (k : Option ComparedType) → Extends old new → HasMap network t old i m k → HasMap network t new i m k
map_kept network t old new i m None e h = (h.0, e.verdicts i h.0 h.1, h.2)
map_kept network t old new i m (Some (Named types.Mark)) e h = (h.0, e.numbers i h.0 h.1, h.2)
map_kept network t old new i m (Some (Named types.Address)) e h = (h.0, e.numbers i h.0 h.1, h.2)
map_kept network t old new i m (Some k) e h = tt

pub declared_kept : (network : PlantTree) (t : TableTree) (old new : Lookups) → Extends old new → HasDeclared network t old → HasDeclared network t new
declared_kept network t old new e h = record {
  sets = λ i s is. let has = h.sets i s is in (has.0, e.sets i has.0 has.1, has.2);
  maps = λ i m is. map_kept network t old new i m (map_data_compared_type m.types) e (h.maps i m is);
}

pub extends_trans : (a b c : Lookups) → Extends a b → Extends b c → Extends a c
extends_trans a b c ab bc = record {
  sets = λ i x h. bc.sets i x (ab.sets i x h);
  verdicts = λ i x h. bc.verdicts i x (ab.verdicts i x h);
  numbers = λ i x h. bc.numbers i x (ab.numbers i x h);
}
