-- Chains in one another, from some base chain on.
use Rattle.std.proofs.Common.{◌≡◌, ℕ, List, Contains, Some, slice_get, subst, sym}
use Rattle.std.proofs.lemmas.Option.{get_or_from_slice_get}
use Rattle.nft_tree.specs.Tree.{TableTree}
use Rattle.box_file.specs.Box.{PlantTree}
use Rattle.rule_meaning.specs.Hooks.{BaseChain}
use Rattle.rule_meaning.specs.Runs.{table_program}
use Rattle.chain_ways.specs.BaseWays.{program_at}
use Rattle.chain_ways.specs.Nesting.{NestsOver, SomeNestsOver}

module _ (most : ℕ) where
  -- from one of this table on
  pub nests_here : (network : PlantTree) (tables : List TableTree) (bases : List BaseChain) (b : BaseChain) (names : TableTree)
      → slice_get tables b.number.table ≡ Some names → Contains bases b → NestsOver (table_program network b.number.table names) most b.number.chain
      → SomeNestsOver most network tables bases
  nests_here network tables bases b names at among nests = record {
    base = b;
    member = among;
    nests = subst (λ t. NestsOver (table_program network b.number.table t) most b.number.chain)
        (sym (get_or_from_slice_get tables b.number.table names _ at)) nests;
  }

  -- from one of more base chains of the same tables on
  pub nests_among : (network network' : PlantTree) (tables tables' : List TableTree) (bases more : List BaseChain) → network ≡ network' → tables ≡ tables'
      → ((b : BaseChain) → Contains bases b → Contains more b) → SomeNestsOver most network tables bases → SomeNestsOver most network' tables' more
  nests_among network network' tables tables' bases more of_plant of_tables all some = record {
    base = some.base;
    member = all some.base some.member;
    nests = subst (λ ts. NestsOver (program_at network' ts some.base.number.table) most some.base.number.chain) of_tables
        (subst (λ q. NestsOver (program_at q tables some.base.number.table) most some.base.number.chain) of_plant some.nests);
  }
