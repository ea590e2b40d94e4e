-- The packets of a stage through its base chains, one after another.
use Rattle.std.proofs.Common.{◌≡◌, ◌∙◌, ◌&&◌, ℕ, ◌≤◌, zero, suc, Bool, false, List, [], ◌∷◌, ◌++◌, slice_get, Some, refl, sym, ap, subst}
use Rattle.std.proofs.Common.{lit≤}
use Rattle.std.specs.List.{list_any}
use Rattle.std.proofs.lemmas.Bool.{false_from_ne_true, or_parts}
use Rattle.std.proofs.lemmas.Option.{get_or_from_slice_get}
use Rattle.list_laws.specs.Lists.{any_of_map}
use Rattle.nft_tree.specs.Tree.{TableTree}
use Rattle.box_file.specs.Box.{PlantTree}
use Rattle.packet_sets.specs.declared.packet_set.PacketSet.{PacketSet}
use Rattle.packet_sets.specs.Sets.{DiagramsView, IsSet, holds}
use Rattle.rule_types.specs.Types.{table_mismatches}
use Rattle.rule_values.specs.Faults.{has_wrong_value, item_out_of_range}
use Rattle.rule_check.specs.declared.fault.CheckFault.TheVariants as faults
use Rattle.rule_check.specs.WellFormed.{WellFormed}
use Rattle.rule_meaning.specs.declared.event.HookVerdict.{HookVerdict}
use Rattle.rule_meaning.specs.declared.event.HookVerdict.TheVariants.{Accepted, Dropped, Translated}
use Rattle.rule_meaning.specs.declared.facts.Facts.{Facts}
use Rattle.rule_meaning.specs.declared.facts.Interface.{Interface}
use Rattle.rule_meaning.specs.Hooks.{BaseChain}
use Rattle.fact_sets.specs.declared.cases.Case.{Case}
use Rattle.fact_sets.specs.Boxes.{NOTHING}
use Rattle.fact_sets.specs.Facts.{facts_of}
use Rattle.rule_sets.specs.Ends.{outcomes_for}
use Rattle.chain_ways.specs.BaseWays.{LEVELS, StageEnd, base_end, behind_end, behind_verdict, end_of_chains}
use Rattle.chain_sets.proofs.Cases.{some-one}
use Rattle.stage_sets.specs.declared.outcome.StageOutcome.{StageOutcome}
use Rattle.stage_sets.specs.Ends.{AreStageEnds, end_with}
use Rattle.stage_sets.specs.steps.Outcomes.{unchanged}
use Rattle.stage_sets.specs.steps.Through.{Advances, end_in}

pub enough : 256 ≤ LEVELS
unfolding LEVELS
enough = lit≤ tt

-- ---- one base chain more

accepts : (v : HookVerdict) (f : Facts) → behind_verdict (λ g. record { verdict = Accepted; facts = g }) v f ≡ record { verdict = v; facts = f }
accepts Accepted f = refl
accepts Dropped f = refl
accepts (Translated t) f = refl

in-turn : (one two both : Facts → StageEnd) → ((g : Facts) → both g ≡ behind_end two (one g)) → (v : HookVerdict) (f : Facts)
    → behind_verdict both v f ≡ behind_end two (behind_verdict one v f)
in-turn one two both same Accepted f = same f
in-turn one two both same Dropped f = refl
in-turn one two both same (Translated t) f = refl

module _ (network : PlantTree) (tables : List TableTree) where
  end_of_more : (bs : List BaseChain) (b : BaseChain) (f : Facts)
      → end_of_chains network tables (bs ++ b ∷ []) f ≡ behind_end (base_end network tables b) (end_of_chains network tables bs f)
  end_of_more [] b f = accepts (base_end network tables b f).verdict (base_end network tables b f).facts
  end_of_more (x ∷ xs) b f =
      in-turn (end_of_chains network tables xs) (base_end network tables b) (end_of_chains network tables (xs ++ b ∷ [])) (end_of_more xs b)
      (base_end network tables x f).verdict (base_end network tables x f).facts

  module _ (interfaces : List Interface) (set : PacketSet) where
    pub none_yet : (d : DiagramsView) → IsSet d set
        → AreStageEnds interfaces (end_of_chains network tables []) d d set (record { set = set; outcome = unchanged } ∷ [])
    none_yet d is = record {
      are = (is, tt);
      they_end = λ packet test.
          sym (any_of_map test (end_with interfaces packet) (outcomes_for d (record { set = set; outcome = unchanged } ∷ []) packet))
          ∙ some-one d (record { set = set; outcome = unchanged }) packet (λ o. test (end_with interfaces packet o));
    }

    pub one_more : (d0 d e : DiagramsView) (bs : List BaseChain) (b : BaseChain) (before after : List (Case StageOutcome))
        → AreStageEnds interfaces (end_of_chains network tables bs) d0 d set before → Advances interfaces (base_end network tables b) d e before after
        → AreStageEnds interfaces (end_of_chains network tables (bs ++ b ∷ [])) d0 e set after
    one_more d0 d e bs b before after was step = record {
      are = step.are;
      they_end = λ packet test.
          let behind = λ (end : StageEnd). test (behind_end (base_end network tables b) end) in
          sym (any_of_map test (end_with interfaces packet) (outcomes_for e after packet)) ∙ step.same packet test
          ∙ any_of_map behind (end_with interfaces packet) (outcomes_for d before packet) ∙ was.they_end packet behind
          ∙ ap (λ end. holds d0 set packet && test end) (sym (end_of_more bs b (facts_of interfaces NOTHING packet)));
    }

  -- the table at its index
  pub at_index : (interfaces : List Interface) (b : BaseChain) (names : TableTree) (d e : DiagramsView) (seen before after : List (Case StageOutcome))
      → slice_get tables b.number.table ≡ Some names → seen ≡ before → Advances interfaces (end_in network names b) d e seen after
      → Advances interfaces (base_end network tables b) d e before after
  at_index interfaces b names d e seen before after at same step =
      subst (λ t. Advances interfaces (end_in network t b) d e before after) (sym (get_or_from_slice_get tables b.number.table names _ at))
      (subst (λ l. Advances interfaces (end_in network names b) d e l after) same step)

pub same_ends : (interfaces interfaces' : List Interface) (network network' : PlantTree) (tables tables' : List TableTree) (bs bs' : List BaseChain)
    (d e : DiagramsView) (set : PacketSet) (outcomes : List (Case StageOutcome)) → interfaces ≡ interfaces' → network ≡ network' → tables ≡ tables'
    → bs ≡ bs' → AreStageEnds interfaces (end_of_chains network tables bs) d e set outcomes
    → AreStageEnds interfaces' (end_of_chains network' tables' bs') d e set outcomes
same_ends i i' p p' ts ts' bs bs' d e set outcomes of_i of_p of_ts of_bs are =
    subst (λ x. AreStageEnds i' (end_of_chains p' ts' x) d e set outcomes) of_bs
    (subst (λ x. AreStageEnds i' (end_of_chains p' x bs) d e set outcomes) of_ts
    (subst (λ x. AreStageEnds i' (end_of_chains x ts bs) d e set outcomes) of_p
    (subst (λ x. AreStageEnds x (end_of_chains p ts bs) d e set outcomes) of_i are)))

-- ---- tables of a well-formed ruleset

-- what no table has
none_at : {A : Type 0} (p : A → Bool) (xs : List A) (i : ℕ) (x : A) → list_any p xs ≡ false → slice_get xs i ≡ Some x → p x ≡ false
none_at p [] i x none is = cc
none_at p (y ∷ ys) zero x none is = let e : y ≡ x = cc in ap p (sym e) ∙ (or_parts (p y) (list_any p ys) none).0
none_at p (y ∷ ys) (suc i) x none is = none_at p ys i x (or_parts (p y) (list_any p ys) none).1 is

pub types_at : (network : PlantTree) (tables : List TableTree) (i : ℕ) (t : TableTree) → WellFormed tables network → slice_get tables i ≡ Some t
    → table_mismatches t ≡ false
types_at network tables i t fine at = none_at table_mismatches tables i t (false_from_ne_true _ (fine faults.TypeMismatch)) at

pub bounds_at : (network : PlantTree) (tables : List TableTree) (i : ℕ) (t : TableTree) → WellFormed tables network → slice_get tables i ≡ Some t
    → list_any item_out_of_range t.items ≡ false
bounds_at network tables i t fine at =
    (or_parts _ _ (none_at (has_wrong_value network) tables i t (false_from_ne_true _ (fine faults.WrongValue)) at)).1
