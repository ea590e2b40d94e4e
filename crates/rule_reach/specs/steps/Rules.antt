-- All rules before any packet is told of, and what is told after some base chains.
use Rattle.std.specs.Prelude.{◌≡◌, List, map, All}
use Rattle.nft_tree.specs.declared.ruleset.RuleNo.{RuleNo}
use Rattle.nft_tree.specs.Tree.{TableTree}
use Rattle.box_file.specs.Box.{PlantTree}
use Rattle.rule_meaning.specs.Hooks.{BaseChain}
use Rattle.rule_reach.specs.declared.answers.Answer.TheVariants.{NotReached}
use Rattle.rule_reach.specs.declared.answers.Reach.{Reach}
use Rattle.rule_reach.specs.declared.answers.RuleReach.{RuleReach}
use Rattle.rule_reach.specs.Reach.{IsAnswer, IsPolicyReach, rules_of}

abbrev pub unreached : RuleNo → RuleReach
unreached r = record { rule = r; answer = NotReached }

-- what is told of packets that come to these base chains
pub record IsReach (network : PlantTree) (tables : List TableTree) (bases : List BaseChain) (reach : Reach)
    : Type 0 where
  pub rules : map (λ r. r.rule) reach.rules.items ≡ rules_of tables
  pub answers : All (λ r. IsAnswer network tables bases r.rule r.answer) reach.rules.items
  pub policies : map (λ p. p.chain) reach.policies.items ≡ map (λ b. b.number) bases
  pub applies : All (IsPolicyReach network tables bases) reach.policies.items
