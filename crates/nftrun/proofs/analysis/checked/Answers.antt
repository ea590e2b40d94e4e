use Rattle.std.proofs.Common.{List, ℕ}
use Rattle.std.proofs.lemmas.Result.{err_from_is_err_and}
use Rattle.engine.specs.Judged.{JudgeRefuses}
use Rattle.engine.specs.Refusals.{Spelled}
use Rattle.engine.specs.steps.Faults.{of_check}
use Rattle.nft_tree.specs.TreeViews.{tables_of}
use Rattle.rule_check.specs.Checked.{IsCheckRefusal}
use Rattle.rule_check.specs.declared.fault.CheckError.{CheckError}
use Rattle.rule_check.specs.declared.fault.CheckError.TheVariants as checks
use Rattle.nftrun.proofs.analysis.checked.Goals as goal

-- a ruleset that is refused on its box is a fault of the two texts
of_texts : (rules box : List ℕ) (texts : Spelled rules box) (error : CheckError)
    → IsCheckRefusal texts.tables texts.network error → JudgeRefuses rules box (of_check error)
of_texts rules box texts (checks.Refused fault) refused = (texts, refused)
of_texts rules box texts checks.Memory refused = refused

pub returns-in_err-check-clause-refused : goal.returns-in_err-check-clause-refused
returns-in_err-check-clause-refused c =
    let q = err_from_is_err_and c.from_residual-in_err-check.result c.from_residual-in_err-check.ensures.1 in
    rw (q.1, q.2) (of_texts _ _ (record {
      tables = tables_of c.in_ok-ruleset.ruleset;
      spelled = c.in_ok-ruleset.ensures.found;
      network = c.in_ok-network.network;
      read = c.in_ok-network.ensures.ok;
    }) c.in_err-check.field-0.0 c.in_err-check.ensures.refused)
