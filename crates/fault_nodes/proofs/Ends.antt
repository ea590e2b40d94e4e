-- A ruleset has its fault when it is read to its end, and none before it is read.
use Rattle.std.proofs.Common.{◌≡◌, ℕ, ◌+◌, ◌<◌, List, [], ◌∷◌, subst, arith}
use Rattle.std.proofs.lemmas.List.Sums.{sum_by-cons}
use Rattle.nft_tree.specs.Tree.{TableTree}
use Rattle.box_file.specs.Box.{PlantTree}
use Rattle.rule_check.specs.WellFormed.{LeastFault}
use Rattle.rule_check.specs.declared.fault.CheckFault.{CheckFault}
use Rattle.fault_nodes.specs.Parts.{declarations, ruleset_parts, table_declarations}
use Rattle.fault_nodes.specs.ReadParts.{read_up_to}
use Rattle.fault_nodes.proofs.Whole.{read_none, read_all}
use Rattle.fault_nodes.proofs.Faultless.{empty_fine}

-- a ruleset that has a fault has a declaration
pub some_to_read : (fault : CheckFault) (tables : List TableTree) (network : PlantTree) → LeastFault fault tables network
    → 0 < declarations tables + ruleset_parts tables
some_to_read fault [] network least = absurd (empty_fine network fault least.wrong)
some_to_read fault (t ∷ ts) network least = omega (arith, sum_by-cons table_declarations t ts)

module _ (fault : CheckFault) (tables : List TableTree) (network : PlantTree) where
  pub has_at_end : (total : ℕ) → total ≡ declarations tables + ruleset_parts tables → LeastFault fault tables network
      → LeastFault fault (read_up_to total tables) network
  has_at_end total is least = rw (is, read_all tables) least

  pub none_at_start : LeastFault fault (read_up_to 0 tables) network → ⊥
  none_at_start least =
      empty_fine network fault (subst (λ (ts : List TableTree). LeastFault fault ts network) (read_none tables) least).wrong
