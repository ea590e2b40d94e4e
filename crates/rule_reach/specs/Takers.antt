-- Which rules take the packets that would meet a rule which none meets. (own)
use Rattle.std.specs.Prelude.{◌↔◌, ℕ, zero, suc, ◌+◌, ◌<◌, ◌≤◌, ◌==◌, ◌&&◌, not, Bool, true, false, List, []}
use Rattle.std.specs.Prelude.{Contains, Option, Some, None, slice_get, unwrap_or}
use Rattle.std.specs.List.Sorted.{IsStrictlyIncreasing}
use Rattle.nft_tree.specs.declared.ruleset.RuleNo.{RuleNo}
use Rattle.nft_tree.specs.Tree.{Statement, TableTree}
use Rattle.box_file.specs.Box.{PlantTree}
use Rattle.rule_meaning.specs.declared.facts.Facts.{Facts}
use Rattle.rule_meaning.specs.Hooks.{BaseChain}
use Rattle.rule_meaning.specs.Runs.{Program}
use Rattle.rule_sets.specs.Ends.{rule_end}
use Rattle.rule_reach.specs.declared.answers.Answer.{Answer}
use Rattle.rule_reach.specs.declared.answers.Answer.TheVariants.{Met}
use Rattle.rule_reach.specs.declared.answers.RuleReach.{RuleReach}
use Rattle.rule_reach.specs.declared.answers.Unmet.{Unmet}
use Rattle.rule_reach.specs.Reach.{NoPacket, SomePacket, comes_at}
use Rattle.chain_ways.specs.BaseWays.{program_at}

abbrev pub not_met : Answer → Bool
not_met Met = false
not_met _ = true

-- no packet meets it
abbrev pub is_unmet : RuleReach → Bool
is_unmet r = not_met r.answer

-- the statements of a rule of these, by its number, from 1
abbrev pub numbered : List (List Statement) → ℕ → Option (List Statement)
numbered rules zero = None
numbered rules (suc n) = slice_get rules n

-- the facts meet the last statement of the rule, taken by itself; none meet a rule that isn't there
abbrev pub meets_statements : Program Statement → RuleNo → Option (List Statement) → Facts → Bool
meets_statements p r None f = false
meets_statements p r (Some statements) f = (rule_end p r.chain r.rule 1 statements f).met

abbrev pub meets_alone : Program Statement → RuleNo → Facts → Bool
meets_alone p r f = meets_statements p r (numbered (unwrap_or (p.rules_at r.chain) []) r.rule) f

-- rule k of the same chain
abbrev pub rule_beside : RuleNo → ℕ → RuleNo
rule_beside r k = record { table = r.table; chain = r.chain; rule = k }

module _ (network : PlantTree) (tables : List TableTree) where
  -- a packet would meet the rule with the facts with which it came to this base chain of the rule's table
  abbrev pub would_meet : RuleNo → BaseChain → Facts → Bool
  would_meet r b f = (b.number.table == r.table) && meets_alone (program_at network tables r.table) r f

  -- and it comes to rule k of the rule's chain
  abbrev pub comes_for : RuleNo → ℕ → BaseChain → Facts → Bool
  comes_for r k b f = would_meet r b f && comes_at network tables (rule_beside r k) b f

  -- rule k takes it: it comes to rule k and not to the next, so that its way through the chain ended there, by a
  -- verdict of the rule or in a chain that the rule jumped to
  abbrev pub takes : RuleNo → ℕ → BaseChain → Facts → Bool
  takes r k b f = comes_for r k b f && not (comes_at network tables (rule_beside r (k + 1)) b f)

  -- whether some packet of these base chains passes the test
  abbrev pub Whether : List BaseChain → (BaseChain → Facts → Bool) → Bool → Type 0
  Whether bases test true = SomePacket network tables bases test
  Whether bases test false = NoPacket network tables bases test

  -- rule k stands before the rule, and takes some packet of these base chains that would meet the rule
  pub record IsTaker (bases : List BaseChain) (r : RuleNo) (k : ℕ) : Type 0 where
    pub from_first : 1 ≤ k
    pub before : k < r.rule
    pub takes_some : SomePacket network tables bases (takes r k)

  -- the numbers are those of all such rules, in order
  pub record AreTakers (bases : List BaseChain) (r : RuleNo) (numbers : List ℕ) : Type 0 where
    pub rising : IsStrictlyIncreasing numbers
    pub all : (k : ℕ) → Contains numbers k ↔ IsTaker bases r k

  -- why no packet meets the rule: the rules that take those that would, and whether any of those that come to the
  -- first rule of its chain would
  pub record IsUnmet (bases : List BaseChain) (u : Unmet) : Type 0 where
    pub takers : AreTakers bases u.rule u.takers.items
    pub matches : Whether bases (comes_for u.rule 1) u.matches_some
