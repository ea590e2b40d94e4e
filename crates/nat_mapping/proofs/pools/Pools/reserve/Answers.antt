use Rattle.nat_mapping.proofs.Names.{IfSome, IsInUse, ap, is_taken_by, subst, sym}
use Rattle.nat_mapping.proofs.pools.Pools.reserve.Goals as goal

pub returns-clause-taken : goal.returns-clause-taken
returns-clause-taken c q p = ap (λ o. is_taken_by o p) (c.reserve.ensures.entries.2 q)

pub returns-clause-pooled : goal.returns-clause-pooled
returns-clause-pooled c = record {
  unique = c.reserve.ensures.unique;
  used = λ key. subst (λ o. IfSome o (IsInUse key)) (sym (c.reserve.ensures.entries.2 key)) (c.requires.pooled.used key);
  spares = c.fill_spares.ensures.spares;
  few = c.fill_spares.ensures.few;
}
