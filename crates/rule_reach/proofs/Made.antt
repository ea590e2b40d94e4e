-- The sets of base chains, as the diagrams grow.
use Rattle.std.proofs.Common.{◌≡◌, ◌∙◌, ◌&&◌, ℕ, Bool, List, [], ◌∷◌, ◌++◌, map, ap, sym, subst, Some, slice_get, ◌≤◌, lit≤}
use Rattle.std.specs.List.{list_any}
use Rattle.std.proofs.lemmas.Option.{get_or_from_slice_get}
use Rattle.std.proofs.lemmas.Slice.Zip.{all_zipped_more}
use Rattle.nft_tree.specs.Tree.{Statement, TableTree}
use Rattle.box_file.specs.Box.{PlantTree}
use Rattle.packet_sets.specs.declared.packet_set.PacketSet.{PacketSet}
use Rattle.packet_sets.specs.Sets.{DiagramsView, IsSet, Keeps, Means}
use Rattle.rule_meaning.specs.declared.facts.Facts.{Facts}
use Rattle.rule_meaning.specs.declared.facts.Interface.{Interface}
use Rattle.rule_meaning.specs.Hooks.{BaseChain}
use Rattle.rule_meaning.specs.Runs.{Program, table_program}
use Rattle.fact_sets.specs.declared.cases.Case.{Case}
use Rattle.fact_sets.specs.Boxes.{NOTHING}
use Rattle.fact_sets.specs.Facts.{facts_of}
use Rattle.fact_sets.proofs.SetLaws.{keeps_same, means_as, means_kept}
use Rattle.rule_sets.specs.Interfaces.{interfaces_of}
use Rattle.rule_sets.proofs.Sorting.{are-kept, outcomes-kept}
use Rattle.chain_ways.specs.Ways.{Way, comes_to, meets, way}
use Rattle.chain_sets.specs.declared.outcomes.ChainEnd.{ChainEnd}
use Rattle.chain_sets.specs.declared.visits.RuleSets.{RuleSets}
use Rattle.chain_sets.specs.ChainSets.{AreOnWays}
use Rattle.chain_sets.specs.Ends.{end_of}
use Rattle.chain_sets.specs.RuleSets.{sets_of}
use Rattle.rule_reach.specs.declared.sets.BaseSets.{BaseSets}
use Rattle.coming_sets.specs.Coming.{can_come}
use Rattle.chain_ways.specs.BaseWays.{LEVELS, table_at}
use Rattle.rule_reach.specs.Sets.{AreBaseSets, AreSetsOf}

pub enough : 256 ≤ LEVELS
unfolding LEVELS
enough = lit≤ tt

-- ways told by sets of diagrams that have grown to these
ways_kept : (p : Program Statement) (interfaces : List Interface) (way_of : Facts → Way Statement) (a b d : DiagramsView) (set : PacketSet)
    (rules : ℕ → ℕ → RuleSets) (ends : List (Case ChainEnd)) → IsSet a set → Keeps a d → Keeps b d
    → AreOnWays p interfaces way_of a b set rules ends → AreOnWays p interfaces way_of d d set rules ends
ways_kept p interfaces way_of a b d set rules ends is_set ad bd on =
    let facts = λ (f : ℕ → Bool). facts_of interfaces NOTHING f in
    record {
      reached = λ c n. means_as d (rules c n).reached _ _ (means_kept b d (rules c n).reached _ bd (on.reached c n))
          (λ f. ap (λ v. v && comes_to c n (way_of (facts f))) (sym (ad.same set f is_set)));
      met = λ c n. means_as d (rules c n).met _ _ (means_kept b d (rules c n).met _ bd (on.met c n))
          (λ f. ap (λ v. v && meets p c n (way_of (facts f))) (sym (ad.same set f is_set)));
      are = are-kept b d ends bd on.are;
      they_end = λ f test. ap (λ l. list_any test (map (end_of interfaces f) l)) (outcomes-kept b d ends f bd on.are)
          ∙ on.they_end f test ∙ ap (λ v. v && test (way_of (facts f)).end) (sym (ad.same set f is_set));
    }

module _ (network : PlantTree) (tables : List TableTree) where
  pub base_kept : (d e : DiagramsView) (b : BaseChain) (sets : BaseSets) → Keeps d e → AreBaseSets network tables d b sets
      → AreBaseSets network tables e b sets
  base_kept d e b sets k are = record {
    chain = are.chain;
    coming = means_kept d e sets.coming _ k are.coming;
    on_ways = ways_kept _ _ _ d d e sets.coming (sets_of sets.rules) sets.ends.items are.coming.is_set k k are.on_ways;
  }

  pub all_kept : (d e : DiagramsView) (bases : List BaseChain) (sets : List BaseSets) → Keeps d e → AreSetsOf network tables d bases sets
      → AreSetsOf network tables e bases sets
  all_kept d e [] [] k all = tt
  all_kept d e [] (s ∷ sets) k all = absurd all
  all_kept d e (b ∷ bases) [] k all = absurd all
  all_kept d e (b ∷ bases) (s ∷ sets) k all = (base_kept d e b s k all.0, all_kept d e bases sets k all.1)

  pub one_more : (d e : DiagramsView) (bases : List BaseChain) (b : BaseChain) (sets : List BaseSets) (s : BaseSets) → Keeps d e
      → AreBaseSets network tables e b s → AreSetsOf network tables d bases sets → AreSetsOf network tables e (bases ++ b ∷ []) (sets ++ s ∷ [])
  one_more d e bases b sets s k are all = all_zipped_more (AreBaseSets network tables e) bases sets b s (all_kept d e bases sets k all) are

  -- the sets of the ways of all packets that can come to a base chain of this table
  pub made : (b : BaseChain) (names : TableTree) (d e : DiagramsView) (sets : BaseSets) (interfaces : List Interface) → interfaces ≡ interfaces_of network
      → slice_get tables b.number.table ≡ Some names → sets.chain ≡ b.number → Keeps d e
      → Means d sets.coming (λ p. can_come b (facts_of interfaces NOTHING p))
      → ((levels : ℕ) → 256 ≤ levels → AreOnWays (table_program network b.number.table names) interfaces
      (way (table_program network b.number.table names) levels b.number.chain) d e sets.coming (sets_of sets.rules) sets.ends.items)
      → AreBaseSets network tables e b sets
  made b names d e sets interfaces same stands named k comes on =
      let table : names ≡ table_at tables b.number.table = sym (get_or_from_slice_get tables b.number.table names _ stands) in
      let here = subst (λ i. AreOnWays (table_program network b.number.table names) i (way (table_program network b.number.table names) LEVELS b.number.chain) d e
      sets.coming (sets_of sets.rules) sets.ends.items) same (on LEVELS enough) in
      let at = subst (λ t. AreOnWays (table_program network b.number.table t) (interfaces_of network)
      (way (table_program network b.number.table t) LEVELS b.number.chain) d e sets.coming (sets_of sets.rules) sets.ends.items) table here in
      record {
        chain = named;
        coming = means_kept d e sets.coming _ k (subst (λ i. Means d sets.coming (λ p. can_come b (facts_of i NOTHING p))) same comes);
        on_ways = ways_kept _ _ _ d e e sets.coming (sets_of sets.rules) sets.ends.items comes.is_set k (keeps_same e) at;
      }
