-- Base chains as the code has them.
use Rattle.std.specs.Prelude.{◌<◌, Bool, List, length}
use Rattle.nft_tree.specs.Tree.{TableTree}
use Rattle.nft_tree.specs.TreeViews.{head_tree}
use Rattle.rule_meaning.specs.Hooks.{BaseChain, chains_in_stage, is_filter}
use Rattle.stage_sets.specs.declared.bases.Asked.{Asked}
use Rattle.stage_sets.specs.declared.bases.Asked.TheVariants.{InStage, Filters}
use Rattle.stage_sets.specs.declared.bases.Base.{Base}

abbrev pub base_chain : Base → BaseChain
base_chain b = record { number = b.number; head = head_tree b.head.now }

-- its table is one of these
abbrev pub StandsIn : List TableTree → Base → Type 0
StandsIn tables b = b.number.table < length tables

abbrev pub is_asked : Asked → BaseChain → Bool
is_asked (InStage stage) = chains_in_stage stage
is_asked Filters = λ b. is_filter b.head.kind
