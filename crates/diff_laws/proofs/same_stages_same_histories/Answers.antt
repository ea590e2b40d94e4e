use Rattle.std.proofs.Common.{◌≡◌, [], ap, refl}
use Rattle.rule_meaning.specs.Hooks.{HookResult}
use Rattle.diff_laws.specs.Coming as coming
use Rattle.diff_laws.proofs.Records.{histories_same, outputs_same}
use Rattle.diff_laws.proofs.same_stages_same_histories.Goals as goal

pub returns-clause-histories : goal.returns-clause-histories
returns-clause-histories c = λ setup new same records bytes history other.
    histories_same setup new same records bytes [] [] coming.empty refl history other

pub returns-clause-outputs : goal.returns-clause-outputs
returns-clause-outputs c = outputs_same

pub returns-clause-itself : goal.returns-clause-itself
returns-clause-itself c = λ setup stage f comes result other x y.
    let same : result ≡ other = c.hook_result_unique.ensures.stages stage setup.network setup.rules f [] result other x y in
    record { verdict = ap (λ (e : HookResult). e.verdict) same; facts = λ on. ap (λ (e : HookResult). e.facts) same }
