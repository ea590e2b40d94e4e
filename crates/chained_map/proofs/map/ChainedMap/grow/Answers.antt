use Rattle.std.proofs.Common.{sym, ap, subst, ◌∙◌}
use Rattle.std.specs.List.{IsDistinct}
use Rattle.std.specs.Map.{keys_of}
use Rattle.chained_map.proofs.GrowthLaws.{grown_table}
use Rattle.chained_map.proofs.map.ChainedMap.grow.Goals as goal

pub make_room-requires : goal.make_room-requires
make_room-requires g c =
    let table = c.self.invariant in
    record { chained = table.chained; few = (table.room, table.few); reserved = table.reserved }

pub invariant_of-self : goal.invariant_of-self
invariant_of-self g c = grown_table _ _ _ _ _ _ _ _ c.make_room.ensures.kept c.self.invariant

pub returns-clause-entries : goal.returns-clause-entries
returns-clause-entries g c = c.make_room.ensures.kept.entries ∙ ap (λ m. m.entries) c.self.view_is

pub returns-clause-unique : goal.returns-clause-unique
returns-clause-unique g c =
    subst (λ es. IsDistinct g.K.PartialEq.eq (keys_of es)) (sym c.make_room.ensures.kept.entries)
    c.self.invariant.hashed.0
