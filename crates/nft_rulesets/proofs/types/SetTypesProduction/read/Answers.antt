use Rattle.std.proofs.Common.{rules}
use Rattle.std.proofs.lemmas.List.{map-id}
use Rattle.nft_rulesets.specs.Sets.{set_type, value_types}
use Rattle.nft_rulesets.proofs.types.SetTypesProduction.read.Goals as goal

pub returns-in-Some-2 : goal.returns-in-Some-2
unfolding set_type value_types
returns-in-Some-2 c = search (rules, map-id)
