use Rattle.std.specs.Prelude.{◌≡◌, true, List}
use Rattle.nft_tree.specs.Tree.{TableTree}
use Rattle.rule_meaning.specs.declared.facts.Facts.{Facts}
use Rattle.rule_meaning.specs.declared.stage.HookStage.{HookStage}
use Rattle.fact_sets.specs.Boxes.{IsOfBox}
use Rattle.rule_sets.specs.Interfaces.{interfaces_of}
use Rattle.coming_sets.specs.Coming.{can_come_to}
use Rattle.history.specs.Setup.{Setup}
use Rattle.diff_laws.specs.Coming.{ComesTo}
use Rattle.diff_laws.specs.Same.{SameStages}
use Rattle.diff_laws.specs.AllSame.{AllSame}
use Rattle.diff_laws.proofs.all_same_same_runs.Goals as goal

same_stages : (setup : Setup) (new : List TableTree)
    → ((stage : HookStage) (f : Facts) → ComesTo setup stage f → IsOfBox (interfaces_of setup.network) f × (can_come_to stage f ≡ true))
    → AllSame setup.network setup.rules new → SameStages setup new
same_stages setup new come same stage f x = same stage f (come stage f x).0 (come stage f x).1

pub returns-clause-stages : goal.returns-clause-stages
returns-clause-stages c = λ old new box before after same.
    same_stages before.setup after.setup.rules (c.packets_come_as_they_can.ensures.accepted old box before) same

pub returns-clause-runs : goal.returns-clause-runs
returns-clause-runs c = λ old new box capture trace other_trace count others torn other_torn sent other_sent report other_report before after bytes same.
    c.same_stages_same_runs.ensures.whole old new box capture trace other_trace count others torn other_torn sent other_sent report other_report before
    after bytes (same_stages before.accepted.setup after.accepted.setup.rules
    (c.packets_come_as_they_can.ensures.accepted old box before.accepted) same)

pub returns-clause-refused : goal.returns-clause-refused
returns-clause-refused c = λ old new box capture trace other_trace fault other_fault left left_now other_left other_left_now before after bytes same.
    c.same_stages_same_runs.ensures.refused old new box capture trace other_trace fault other_fault left left_now other_left other_left_now before after
    bytes (same_stages before.taken_so_far.accepted.setup after.taken_so_far.accepted.setup.rules
    (c.packets_come_as_they_can.ensures.accepted old box before.taken_so_far.accepted) same)
