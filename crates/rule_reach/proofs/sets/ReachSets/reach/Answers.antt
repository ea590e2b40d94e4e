use Rattle.std.proofs.Common.{ap, arith, length, map, refl, subst, take, ◌∙◌, ◌≤◌}
use Rattle.std.proofs.lemmas.List.{take_all}
use Rattle.std.proofs.lemmas.Option.{slice_get_read}
use Rattle.std.proofs.lemmas.Slice.Zip.{AllZip-long}
use Rattle.rule_reach.specs.Reach.{rules_of, run_chains}
use Rattle.rule_reach.specs.Sets.{AreBaseSets}
use Rattle.rule_reach.specs.steps.Rules.{IsReach, unreached}
use Rattle.rule_reach.proofs.Bases.{reach_none, taken_next, zipped}
use Rattle.rule_reach.proofs.sets.ReachSets.reach.Goals as goal

pub loop-base-init : goal.loop-base-init
loop-base-init c =
    let all = c.in_ok-all_rules.ensures ∙ ap (λ tables. map unreached (rules_of tables)) (c.deref.ensures.value ∙ c.in_ok-tables.ensures) in
    reach_none c.args.checked.now.network c.args.checked.now.rules (record { rules = c.in_ok-all_rules.field-0; policies = c.new.result }) all c.new.ensures.items

pub add_base-requires : goal.add_base-requires
add_base-requires c =
    let checked = c.args.checked.now in
    let list = c.deref-base-items.result.now in
    let at = rw c.deref-base-items.ensures.value at
    (slice_get_read list (length list) c.loop-base.base-index c.base-item.result refl c.loop-base-test.true c.base-item.is) in
    let z = zipped (AreBaseSets checked.network checked.rules c.args.self.now.diagrams) (run_chains checked.rules) c.args.self.now.bases.items
    c.loop-base.base-index c.base-item.result c.requires at in
    record { rules = λ chain rule. ((z.2.on_ways.reached chain rule).is_set, (z.2.on_ways.met chain rule).is_set); ends = z.2.on_ways.are }

pub loop-base-preserved : goal.loop-base-preserved
loop-base-preserved c =
    let checked = c.args.checked.now in
    let list = c.deref-base-items.result.now in
    let i = c.loop-base.base-index in
    let at = rw c.deref-base-items.ensures.value at
    (slice_get_read list (length list) i c.base-item.result refl c.loop-base-test.true c.base-item.is) in
    let z = zipped (AreBaseSets checked.network checked.rules c.args.self.now.diagrams) (run_chains checked.rules) c.args.self.now.bases.items
    i c.base-item.result c.requires at in
    rw (taken_next (run_chains checked.rules) i z.0 z.1)
    (c.in_ok-add_base.ensures checked.network checked.rules (take i (run_chains checked.rules)) z.0 z.2 c.loop-base.invariant)

pub returns : goal.returns
returns c =
    let checked = c.args.checked.now in
    let list = c.deref-base-items.result.now in
    let i = c.loop-base.base-index in
    let long = AllZip-long (AreBaseSets checked.network checked.rules c.args.self.now.diagrams) (run_chains checked.rules) c.args.self.now.bases.items c.requires in
    let same = ap length c.deref-base-items.ensures.value in
    let past : length (run_chains checked.rules) ≤ i = omega (arith, long, same) in
    let all = subst (λ l. IsReach checked.network checked.rules l c.loop-base.reach) (take_all i (run_chains checked.rules) past) c.loop-base.invariant in
    record { rules = all.rules; answers = all.answers; policies = all.policies; applies = all.applies }
