-- The packets that filter chains accept.
use Rattle.std.proofs.Common.{◌≡◌, ◌∙◌, ◌&&◌, ◌||◌, ◌+◌, ◌<◌, ℕ, Bool, List, length, take, get_or, sym, ap}
use Rattle.list_laws.specs.Lists.{any_of_map}
use Rattle.std.proofs.lemmas.List.{take_more}
use Rattle.nft_tree.specs.Tree.{TableTree}
use Rattle.box_file.specs.Box.{PlantTree}
use Rattle.packet_sets.specs.declared.packet_set.PacketSet.{PacketSet}
use Rattle.packet_sets.specs.Sets.{DiagramsView, IsSet, Keeps, Means, holds}
use Rattle.rule_meaning.specs.declared.facts.Interface.{Interface}
use Rattle.fact_sets.specs.declared.cases.Case.{Case}
use Rattle.fact_sets.specs.Boxes.{NOTHING}
use Rattle.fact_sets.specs.Facts.{facts_of}
use Rattle.rule_sets.specs.Ends.{outcomes_for}
use Rattle.chain_ways.specs.BaseWays.{StageEnd, accepts, end_of_chains, filters_of, is_accepted}
use Rattle.chain_sets.specs.steps.Merging.{some_outcome}
use Rattle.chain_sets.proofs.Cases.{some-more}
use Rattle.stage_sets.specs.declared.outcome.StageOutcome.{StageOutcome}
use Rattle.stage_sets.specs.Ends.{AreStageEnds, end_with}
use Rattle.stage_sets.specs.steps.Outcomes.{goes_accepted}

-- ---- all cases

pub accepted_more : (d0 d e : DiagramsView) (all : List (Case StageOutcome)) (i : ℕ) (any : Case StageOutcome) (set set' : PacketSet)
    → i < length all → IsSet d0 (get_or all i any).set → Keeps d0 d
    → Means d set (λ packet. some_outcome d0 (take i all) packet goes_accepted)
    → Means e set' (λ packet. holds d set packet || (holds d (get_or all i any).set packet && goes_accepted (get_or all i any).outcome))
    → Means e set' (λ packet. some_outcome d0 (take (i + 1) all) packet goes_accepted)
accepted_more d0 d e all i any set set' inside is k was means = record {
  is_set = means.is_set;
  same = λ packet.
      let x = get_or all i any in
      let a = goes_accepted x.outcome in
      means.same packet ∙ ap (λ h. h || (holds d x.set packet && a)) (was.same packet)
      ∙ ap (λ h. some_outcome d0 (take i all) packet goes_accepted || (h && a)) (k.same x.set packet is)
      ∙ sym (some-more d0 (take i all) x packet goes_accepted)
      ∙ ap (λ l. some_outcome d0 l packet goes_accepted) (sym (take_more all i any inside));
}

-- ---- the filter chains of a ruleset

pub accepted_by_filters : (interfaces : List Interface) (network : PlantTree) (tables : List TableTree) (d0 d e : DiagramsView) (set accepted : PacketSet)
    (outcomes : List (Case StageOutcome)) → AreStageEnds interfaces (end_of_chains network tables (filters_of tables)) d0 d set outcomes
    → Means e accepted (λ packet. some_outcome d outcomes packet goes_accepted)
    → Means e accepted (λ packet. holds d0 set packet && accepts network tables (facts_of interfaces NOTHING packet))
accepted_by_filters interfaces network tables d0 d e set accepted outcomes ends means = record {
  is_set = means.is_set;
  same = λ packet.
      let test = λ (end : StageEnd). is_accepted end.verdict in
      means.same packet ∙ any_of_map test (end_with interfaces packet) (outcomes_for d outcomes packet) ∙ ends.they_end packet test;
}
