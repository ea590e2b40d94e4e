-- Expected events and results, in the first table. (own)
use Rattle.std.specs.Prelude.{ℕ, List, [], ◌∷◌}
use Rattle.nft_tree.specs.declared.ruleset.RuleNo.{RuleNo}
use Rattle.nft_tree.specs.declared.chain.Policy.{Policy}
use Rattle.nft_tree.specs.declared.chain.Policy.TheVariants as policies
use Rattle.nft_tree.specs.Tree as tree
use Rattle.nft_tree.specs.Tree.{MatchTree, ItemTree, TableTree}
use Rattle.rule_meaning.specs.declared.facts.Facts.{Facts}
use Rattle.rule_meaning.specs.declared.event.StatementPosition.{StatementPosition}
use Rattle.rule_meaning.specs.declared.event.RuleVerdict.{RuleVerdict}
use Rattle.rule_meaning.specs.declared.event.RuleVerdict.TheVariants as rule_verdicts
use Rattle.rule_meaning.specs.declared.event.NatAction.{NatAction}
use Rattle.rule_meaning.specs.declared.event.Event.{Event}
use Rattle.rule_meaning.specs.declared.event.Event.TheVariants as events
use Rattle.rule_meaning.specs.declared.event.HookVerdict.TheVariants as hook_verdicts
use Rattle.rule_meaning.specs.declared.stage.HookStage.TheVariants as stages
use Rattle.rule_meaning.specs.Hooks.{HookResult, Stage}
use Rattle.definition_examples.specs.Fixtures.{box, one_table, forwards, drop}

-- rule n of chain c, and its statement k
abbrev pub rule : ℕ → ℕ → RuleNo
rule c n = record { table = 0; chain = c; rule = n }

abbrev pub statement_position : ℕ → ℕ → ℕ → StatementPosition
statement_position c n k = record { rule = rule c n; statement = k }

abbrev pub counted : ℕ → ℕ → ℕ → Event
counted c n k = events.Counted (statement_position c n k)

abbrev pub took : ℕ → ℕ → RuleVerdict → Event
took c n d = events.TookVerdict (rule c n) d

abbrev pub took_policy : ℕ → Policy → Event
took_policy c policy = events.TookPolicy (record { table = 0; chain = c }) policy

abbrev pub accepted : Facts → List Event → HookResult
accepted f es = record { verdict = hook_verdicts.Accepted; facts = f; events = es }

abbrev pub dropped : Facts → List Event → HookResult
dropped f es = record { verdict = hook_verdicts.Dropped; facts = f; events = es }

abbrev pub translated : NatAction → Facts → List Event → HookResult
translated t f es = record { verdict = hook_verdicts.Translated t; facts = f; events = es }

-- ---- forwarding

-- the filter chains on forward accept the packet as it is, with these events
abbrev pub ForwardAccepts : List TableTree → Facts → List Event → Type 0
ForwardAccepts tables f es = Stage stages.Forward box tables f [] (accepted f es)

-- the filter chains on forward drop the packet, with these events
abbrev pub ForwardDrops : List TableTree → Facts → List Event → Type 0
ForwardDrops tables f es = Stage stages.Forward box tables f [] (dropped f es)

-- a filter chain on forward with the one rule `MATCH drop`, beside other items of the table
abbrev pub dropping_ruleset : List ItemTree → MatchTree → List TableTree
dropping_ruleset items m = one_table (forwards policies.Accept ((tree.matching m ∷ drop ∷ []) ∷ []) ∷ items)

-- this rule drops the packet
abbrev pub DropsBeside : List ItemTree → MatchTree → Facts → Type 0
DropsBeside items m f = ForwardDrops (dropping_ruleset items m) f (took 0 1 rule_verdicts.Drop ∷ [])

-- it doesn't, and the policy accept applies
abbrev pub PassesBeside : List ItemTree → MatchTree → Facts → Type 0
PassesBeside items m f = ForwardAccepts (dropping_ruleset items m) f (took_policy 0 policies.Accept ∷ [])

abbrev pub Drops : MatchTree → Facts → Type 0
Drops = DropsBeside []

abbrev pub Passes : MatchTree → Facts → Type 0
Passes = PassesBeside []
