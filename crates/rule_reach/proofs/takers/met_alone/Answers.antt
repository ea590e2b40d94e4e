use Rattle.std.proofs.Common.{map}
use Rattle.std.proofs.lemmas.Result.{IfOk-weaker}
use Rattle.nft_tree.specs.TreeViews.{statement}
use Rattle.rule_meaning.specs.Runs.{table_program}
use Rattle.fact_sets.specs.Boxes.{NOTHING}
use Rattle.fact_sets.proofs.SetLaws.{keeps_trans}
use Rattle.rule_sets.specs.Ends.{rule_end}
use Rattle.rule_reach.proofs.Alone.{met_means}
use Rattle.rule_reach.proofs.takers.met_alone.Goals as goal

pub returns-clause-keeps : goal.returns-clause-keeps
returns-clause-keeps c =
    keeps_trans c.args.diagrams.now c.rule_ends.new.diagrams c.met.new.diagrams c.rule_ends.ensures.keeps c.met.ensures.keeps

pub returns-clause-value : goal.returns-clause-value
returns-clause-value c = IfOk-weaker c.met.result _ _ (λ set h.
    met_means c.args.diagrams.now c.rule_ends.new.diagrams c.met.new.diagrams (record { interfaces = c.args.interfaces; written = NOTHING })
    (record { node = 1 }) set
    (rule_end (table_program c.args.setting.network.now c.args.rule.table c.args.setting.names.now) c.args.rule.chain c.args.rule.rule 1
    (map statement c.args.stmts.now)) c.in_ok-ends.ends.items c.ends.ensures.all c.in_ok-ends.ensures.value
    (rw c.deref.ensures.value at h)) c.met.ensures.value
