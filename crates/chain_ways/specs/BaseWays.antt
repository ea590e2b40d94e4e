-- The ways of packets through base chains, and through those of a stage of hooks one after another (nft(8),
-- "Chains", "Verdict statement"). They are values, while `Stage` of rule_meaning is a relation.
use Rattle.std.specs.Prelude.{◌≡◌, ℕ, Bool, true, false, List, [], ◌∷◌, filter, slice_index_or}
use Rattle.nft_tree.specs.declared.chain.Policy.{Policy}
use Rattle.nft_tree.specs.declared.ruleset.Family.TheVariants.{Ip}
use Rattle.nft_tree.specs.Tree.{Statement, TableTree}
use Rattle.box_file.specs.Box.{PlantTree}
use Rattle.rule_meaning.specs.declared.facts.Facts.{Facts}
use Rattle.rule_meaning.specs.declared.event.Event.{Event}
use Rattle.rule_meaning.specs.declared.event.HookVerdict.{HookVerdict}
use Rattle.rule_meaning.specs.declared.event.HookVerdict.TheVariants.{Accepted}
use Rattle.rule_meaning.specs.declared.stage.HookStage.{HookStage}
use Rattle.rule_meaning.specs.Hooks.{BaseChain, HookResult, InOrder, Stage, base_chains_of, chains_in_stage}
use Rattle.rule_meaning.specs.Hooks.{is_filter, policy_of, policy_verdict}
use Rattle.rule_meaning.specs.Runs.{Program, table_program}
use Rattle.chain_ways.specs.Ways.{Way, WayEnd, ended, over, way}

-- ---- base chains

-- more than a base chain of a well-formed ruleset costs; each jump and goto costs 1, so more than chains lie
-- in one another
unfoldable pub LEVELS : ℕ
LEVELS = 65537

-- the table with the index; one without chains where there is none
abbrev pub table_at : List TableTree → ℕ → TableTree
table_at tables n = slice_index_or tables n (record { family = Ip; name = []; items = [] })

abbrev pub program_at : PlantTree → List TableTree → ℕ → Program Statement
program_at network tables n = table_program network n (table_at tables n)

-- the way of a packet through the base chain
abbrev pub base_way : PlantTree → List TableTree → BaseChain → Facts → Way Statement
base_way network tables b f = way (program_at network tables b.number.table) LEVELS b.number.chain f

-- ---- base chains one after another

-- these are the base chains of the stage, in the order in which they run
abbrev pub AreChainsOf : List TableTree → HookStage → List BaseChain → Type 0
AreChainsOf tables stage order = InOrder (filter (chains_in_stage stage) (base_chains_of tables)) order

-- what base chains come to: the verdict of the last one, and the facts then
pub record StageEnd : Type 0 where
  pub verdict : HookVerdict
  pub facts : Facts

-- the policy applies to a packet that reaches the end of a base chain
abbrev pub by_policy : Policy → WayEnd → StageEnd
by_policy policy (ended f) = record { verdict = policy_verdict policy; facts = f }
by_policy policy (over verdict f) = record { verdict = verdict; facts = f }

-- an accept ends one base chain, and the next one runs; a drop or a NAT statement ends all
abbrev pub behind_verdict : (rest : Facts → StageEnd) → HookVerdict → Facts → StageEnd
behind_verdict rest Accepted f = rest f
behind_verdict rest verdict f = record { verdict = verdict; facts = f }

abbrev pub behind_end : (rest : Facts → StageEnd) → StageEnd → StageEnd
behind_end rest end = behind_verdict rest end.verdict end.facts

-- the filter chains of a ruleset, in text order
abbrev pub filters_of : List TableTree → List BaseChain
filters_of tables = filter (λ b. is_filter b.head.kind) (base_chains_of tables)

abbrev pub is_accepted : HookVerdict → Bool
is_accepted Accepted = true
is_accepted verdict = false

module _ (network : PlantTree) (tables : List TableTree) where
  abbrev pub base_end : BaseChain → Facts → StageEnd
  base_end b f = by_policy (policy_of b.head) (base_way network tables b f).end

  -- through these base chains; where there is none, the packet is accepted as it came
  abbrev pub end_of_chains : List BaseChain → Facts → StageEnd
  end_of_chains [] f = record { verdict = Accepted; facts = f }
  end_of_chains (b ∷ bs) f = behind_end (end_of_chains bs) (base_end b f)

  -- a packet with these facts is accepted by each filter chain of the ruleset, one after another in the order of
  -- the text
  abbrev pub accepts : Facts → Bool
  accepts f = is_accepted (end_of_chains (filters_of tables) f).verdict

  -- what each packet comes to in the stage, whatever its events before, is the end of its way through them
  pub record StageRunsAreWays (stage : HookStage) : Type 0 where
    pub order : List BaseChain
    pub are : AreChainsOf tables stage order
    pub runs : (f : Facts) (es : List Event) → (result : HookResult) × Stage stage network tables f es result
    pub ways : (f : Facts) (es : List Event) (result : HookResult) → Stage stage network tables f es result
        → (result.verdict ≡ (end_of_chains order f).verdict) × (result.facts ≡ (end_of_chains order f).facts)
