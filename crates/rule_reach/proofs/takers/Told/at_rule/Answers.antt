use Rattle.std.proofs.Common.{length, refl, subst, take, ◌≤◌, arith}
use Rattle.std.proofs.lemmas.List.{take_all}
use Rattle.std.proofs.lemmas.Option.{slice_get_read}
use Rattle.std.proofs.lemmas.Slice.Zip.{AllZip-long}
use Rattle.fact_sets.proofs.SetLaws.{keeps_trans, means_kept}
use Rattle.rule_reach.specs.Reach.{run_chains}
use Rattle.rule_reach.specs.Sets.{AreBaseSets}
use Rattle.rule_reach.specs.Takers.{Whether, comes_for, takes}
use Rattle.rule_reach.proofs.Bases.{taken_next, zipped}
use Rattle.rule_reach.proofs.Made.{base_kept}
use Rattle.rule_reach.proofs.Taking.{whether_more}
use Rattle.rule_reach.proofs.takers.Told.at_rule.Goals as goal

pub at_base-requires-clause-sets : goal.at_base-requires-clause-sets
at_base-requires-clause-sets c =
    let network = c.args.self.network.now in
    let tables = c.args.self.tables.now in
    let list = c.args.self.bases.now in
    let at = slice_get_read list (length list) c.loop-base.base-index c.base-item.result refl c.loop-base-test.true c.base-item.is in
    let z = zipped (AreBaseSets network tables c.args.diagrams.now) (run_chains tables) list c.loop-base.base-index c.base-item.result c.requires.sets at in
    let kept = base_kept network tables c.args.diagrams.now c.loop-base.diagrams z.0 c.base-item.result c.loop-base.invariant.keeps z.2 in
    λ chain rule. ((kept.on_ways.reached chain rule).is_set, (kept.on_ways.met chain rule).is_set)

pub returns-in_err-at-clause-keeps : goal.returns-in_err-at-clause-keeps
returns-in_err-at-clause-keeps c =
    keeps_trans c.args.diagrams.now c.loop-base.diagrams c.at_base.new.diagrams c.loop-base.invariant.keeps c.at_base.ensures.keeps

pub loop-base-preserved : goal.loop-base-preserved
loop-base-preserved c =
    let network = c.args.self.network.now in
    let tables = c.args.self.tables.now in
    let list = c.args.self.bases.now in
    let i = c.loop-base.base-index in
    let runs = run_chains tables in
    let d = c.loop-base.diagrams in
    let keeps = c.loop-base.invariant.keeps in
    let at = slice_get_read list (length list) i c.base-item.result refl c.loop-base-test.true c.base-item.is in
    let z = zipped (AreBaseSets network tables c.args.diagrams.now) runs list i c.base-item.result c.requires.sets at in
    let kept = base_kept network tables c.args.diagrams.now d z.0 c.base-item.result keeps z.2 in
    let alone = means_kept c.args.diagrams.now d c.args.alone _ keeps c.requires.alone in
    let found = c.in_ok-at.at in
    let come_test = comes_for network tables c.args.rule c.args.number in
    let end_test = takes network tables c.args.rule c.args.number in
    let next = taken_next runs i z.0 z.1 in
    record {
      keeps = keeps_trans c.args.diagrams.now d c.at_base.new.diagrams keeps c.at_base.ensures.keeps;
      come = rw next (whether_more network tables (take i runs) z.0 come_test c.loop-base.come found.come c.loop-base.invariant.come
          (c.in_ok-at.ensures.come network tables z.0 alone kept));
      end = rw next (whether_more network tables (take i runs) z.0 end_test c.loop-base.end found.end c.loop-base.invariant.end
          (c.in_ok-at.ensures.end network tables z.0 alone kept));
    }

pub returns-clause-come : goal.returns-clause-come
returns-clause-come c =
    let network = c.args.self.network.now in
    let tables = c.args.self.tables.now in
    let long = AllZip-long (AreBaseSets network tables c.args.diagrams.now) (run_chains tables) c.args.self.bases.now c.requires.sets in
    let past : length (run_chains tables) ≤ c.loop-base.base-index = omega (arith, long) in
    subst (λ l. Whether network tables l (comes_for network tables c.args.rule c.args.number) c.loop-base.come)
    (take_all c.loop-base.base-index (run_chains tables) past) c.loop-base.invariant.come

pub returns-clause-end : goal.returns-clause-end
returns-clause-end c =
    let network = c.args.self.network.now in
    let tables = c.args.self.tables.now in
    let long = AllZip-long (AreBaseSets network tables c.args.diagrams.now) (run_chains tables) c.args.self.bases.now c.requires.sets in
    let past : length (run_chains tables) ≤ c.loop-base.base-index = omega (arith, long) in
    subst (λ l. Whether network tables l (takes network tables c.args.rule c.args.number) c.loop-base.end)
    (take_all c.loop-base.base-index (run_chains tables) past) c.loop-base.invariant.end
