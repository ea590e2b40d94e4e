use Rattle.nat_mapping.proofs.Names.{Contains, HoldsSame, IfSome, IfSome_at, IsSome, IsTable, MappedPort, None, Some, SourceKey, ap, arith, cond, get}
use Rattle.nat_mapping.proofs.Names.{held_by, nat_tests, none-some, one_fewer, option_map, refl, same_Some, same_source, some_of_map, source_key_of, subst}
use Rattle.nat_mapping.proofs.Names.{sym, ◌<◌, ◌∙◌, ◌∷◌, ◌≡◌, ◌≤◌}
use Rattle.nat_mapping.proofs.Equal.{source_test}
use Rattle.nat_mapping.proofs.Sets.{set_at, sets_all}
use Rattle.nat_mapping.proofs.Represented.{ended, fewer_live, grown, has_fewer, held_more, port_at, port_taken, table_finds}
use Rattle.nat_mapping.proofs.mappings.Mappings.release.Goals.{After-remove_holder-before}
use Rattle.nat_mapping.proofs.mappings.Mappings.release.Goals as goal

module _ (c : After-remove_holder-before) where
  -- what the table said of it
  was : get same_source c.self.inside.sources (source_key_of c.args.m) ≡ Some c.remove_holder-before.result
  was = rw c.source_key.ensures at c.remove_holder-before.ensures.before

  port : c.remove_holder-before.result.port ≡ c.args.m.external.port
  port = same_Some _ _ (ap (option_map (λ (h : MappedPort). h.port)) (sym was)
      ∙ (table_finds _ c.self.invariant.table).all (source_key_of c.args.m) c.args.m.external.port (rw (← c.self.view_is) at c.requires))

  sets : (q : SourceKey) → get same_source c.remove_holder-before.new.sources q
      ≡ cond (same_source (source_key_of c.args.m) q) (one_fewer c.remove_holder-before.result) (get same_source c.self.inside.sources q)
  sets = rw c.source_key.ensures at c.remove_holder-before.ensures.values

  table : IsTable c.remove_holder-before.new.sources
  table = record {
    unique = c.remove_holder-before.ensures.unique;
    live = sets_all same_source source_test _ _ _ _ sets (λ q o. IfSome o (λ (h : MappedPort). 0 < h.holders))
        (λ q apart. c.self.invariant.table.live q) (fewer_live c.remove_holder-before.result);
  }

  held : HoldsSame (held_by c.self.inside.sources.entries) (c.args.m ∷ held_by c.remove_holder-before.new.sources.entries)
  held q = sym (held_more c.args.m _ _ (has_fewer c.args.m _ _ c.remove_holder-before.result sets was port
      (IfSome_at _ (λ (h : MappedPort). 0 < h.holders) _ was (c.self.invariant.table.live (source_key_of c.args.m)))) table c.self.invariant.table q)

pub remove_holder-before-requires : goal.remove_holder-before-requires
remove_holder-before-requires c =
    let found = some_of_map (λ (h : MappedPort). h.port) _ _ ((table_finds _ c.self.invariant.table).all (source_key_of c.args.m)
    c.args.m.external.port (rw (← c.self.view_is) at c.requires)) in
    subst (λ (k : SourceKey). IsSome (get same_source c.self.inside.sources k)) (sym c.source_key.ensures) (subst IsSome (sym found.1) refl)

kept_port : (h : MappedPort) → 1 < h.holders → option_map (λ (x : MappedPort). x.port) (one_fewer h) ≡ Some h.port
kept_port h more = grind (arith, nat_tests)

last_gone : (h : MappedPort) → h.holders ≤ 1 → one_fewer h ≡ None
last_gone h last = grind (arith, nat_tests)

pub invariant_of-self : goal.invariant_of-self
invariant_of-self c =
    let p = (goal.at.invariant_of-self c).After-remove_holder-before in
    grown _ _ _ c.self.invariant _ _ _ (table p) c.self.invariant.pooled (sets_all same_source source_test _ _ _ _ (sets p)
    (λ k o. option_map (λ (h : MappedPort). h.port) o ≡ port_at c.self.inside.sources k) (λ k apart. refl)
    (kept_port c.remove_holder-before.result (omega (arith, c.if-before-gt1.true)) ∙ ap (option_map (λ (h : MappedPort). h.port)) (sym (was p))))
    (λ q. refl) (λ q p. refl)

pub invariant_of-self-2 : goal.invariant_of-self-2
invariant_of-self-2 c =
    let p = (goal.at.invariant_of-self-2 c).After-remove_holder-before in
    let gone = set_at same_source source_test _ _ _ _ (sets p) ∙ last_gone c.remove_holder-before.result (omega (arith, c.if-before-gt1.false)) in
    let absent = λ (among : Contains (held_by c.remove_holder-before.new.sources.entries) c.args.m).
    none-some c.args.m.external.port (sym (ap (option_map (λ (h : MappedPort). h.port)) gone)
    ∙ (table_finds _ (table p)).all (source_key_of c.args.m) c.args.m.external.port among) in
    ended _ _ _ c.self.invariant _ _ _ (table p) c.give.ensures.pooled c.args.m (held p) absent
    (rw c.inbound_key.ensures at c.remove.ensures.values) (rw c.pool_key.ensures at c.give.ensures.taken)

pub returns-then-before-gt1-clause-held : goal.returns-then-before-gt1-clause-held
returns-then-before-gt1-clause-held c =
    rw (← c.self.view_is) (held (goal.at.returns-then-before-gt1-clause-held c).After-remove_holder-before)

pub returns-clause-held : goal.returns-clause-held
returns-clause-held c = rw (← c.self.view_is) (held (goal.at.returns-clause-held c).After-remove_holder-before)

pub give-requires-clause-taken : goal.give-requires-clause-taken
give-requires-clause-taken c bitmap = rw c.pool_key.ensures
    (port_taken _ _ _ c.self.invariant c.args.m (rw (← c.self.view_is) at c.requires) (rw c.pool_key.ensures at bitmap))
