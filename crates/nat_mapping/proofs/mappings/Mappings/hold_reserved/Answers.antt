use Rattle.nat_mapping.proofs.Names.{HoldsSame, IfSome, IsOneToOne, IsTable, MappedPort, Some, SourceKey, arith, get, held_by, one_more, option_map, refl}
use Rattle.nat_mapping.proofs.Names.{same_source, source_key_of, subst, sym, ◌<◌, ◌∙◌, ◌∷◌, ◌≡◌}
use Rattle.nat_mapping.proofs.Equal.{source_test}
use Rattle.nat_mapping.proofs.Sets.{sets_all}
use Rattle.nat_mapping.proofs.Represented.{HasMore, begun, few_holders, grown, held_more, more_live, own_port, port_at, port_free}
use Rattle.nat_mapping.proofs.mappings.Mappings.hold_reserved.Goals.{After-add_holder}
use Rattle.nat_mapping.proofs.mappings.Mappings.hold_reserved.Goals as goal

module _ (c : After-add_holder) where
  stays : IsOneToOne (c.args.m ∷ held_by c.self.inside.sources.entries)
  stays = rw (← c.self.view_is) at c.requires.one_to_one

  -- what the table said of the mapping, and what it says now
  before : get same_source c.self.inside.sources (source_key_of c.args.m) ≡ c.add_holder.result
  before = sym (rw c.source_key.ensures at c.add_holder.ensures.before)

  has : HasMore c.args.m c.self.inside.sources c.add_holder.new.sources
  has = grind (arith, own_port, c.self.invariant.table, stays, c.source_key.ensures, before, c.add_holder.ensures.values)

  table : IsTable c.add_holder.new.sources
  table = record {
    unique = c.add_holder.ensures.unique;
    live = sets_all same_source source_test _ _ _ _ has.sets (λ q o. IfSome o (λ (h : MappedPort). 0 < h.holders))
        (λ q apart. c.self.invariant.table.live q) (more_live _ (get same_source c.self.inside.sources (source_key_of c.args.m)));
  }

  held : HoldsSame (c.args.m ∷ held_by c.self.inside.sources.entries) (held_by c.add_holder.new.sources.entries)
  held = held_more c.args.m _ _ has c.self.invariant.table table

pub add_holder-requires-clause-few : goal.add_holder-requires-clause-few
add_holder-requires-clause-few c =
    subst (λ (k : SourceKey). IfSome (get same_source c.self.inside.sources k) (λ (h : MappedPort). h.holders < 18446744073709551615))
    (sym c.source_key.ensures) (few_holders _ c.self.invariant.table c.args.m (rw (← c.self.view_is) at c.requires.one_to_one) _
    (rw (← c.self.view_is) at c.requires.few) _ refl)

pub invariant_of-self : goal.invariant_of-self
invariant_of-self c =
    let p = (goal.at.invariant_of-self c).After-add_holder in
    grown _ _ _ c.self.invariant _ _ _ (table p) c.self.invariant.pooled (sets_all same_source source_test _ _ _ _ (has p).sets
    (λ k o. option_map (λ (h : MappedPort). h.port) o ≡ port_at c.self.inside.sources k) (λ k apart. refl)
    (subst (λ o. option_map (λ (h : MappedPort). h.port) (Some (one_more c.args.m.external.port o)) ≡ option_map (λ (h : MappedPort). h.port) o)
    (sym (before p ∙ c.in-Some.is)) refl)) (λ q. refl) (λ q p. refl)

pub returns-in-Some-clause-held : goal.returns-in-Some-clause-held
returns-in-Some-clause-held c = rw (← c.self.view_is) (held (goal.at.returns-in-Some-clause-held c).After-add_holder)

pub invariant_of-self-in-None : goal.invariant_of-self-in-None
invariant_of-self-in-None c =
    let p = (goal.at.invariant_of-self-in-None c).After-add_holder in
    begun _ _ _ c.self.invariant _ _ _ (table p) c.take.ensures.pooled c.args.m (held p) (stays p)
    (rw c.inbound_key.ensures at c.insert_inbound.ensures.values) (rw c.pool_key.ensures at c.take.ensures.taken)

pub returns-in-None-clause-held : goal.returns-in-None-clause-held
returns-in-None-clause-held c = rw (← c.self.view_is) (held (goal.at.returns-in-None-clause-held c).After-add_holder)

pub take-requires-clause-free : goal.take-requires-clause-free
take-requires-clause-free c bitmap = grind (arith, c.pool_key.ensures, port_free, c.self.invariant, c.in-None.is)
