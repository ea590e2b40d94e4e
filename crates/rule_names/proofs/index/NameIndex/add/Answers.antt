use Rattle.std.proofs.Common.{arith}
use Rattle.rule_names.proofs.Names.{refl}
use Rattle.rule_names.proofs.Duplicates.{key-added}
use Rattle.rule_names.proofs.index.NameIndex.add.Goals as goal

pub invariant_of-self-2 : goal.invariant_of-self-2
invariant_of-self-2 c =
    (key-added c.self.inside.names.keys c.insert.new.self.keys c.in_ok-owned.owned _ _ refl c.in_ok-insert.ensures.added
    c.in_ok-insert.ensures.keys c.self.invariant).1

pub returns : goal.returns
returns c = grind (arith, c.in_ok-insert.field-0, c.self.view_is, key-added, c.in_ok-insert.ensures.added, c.in_ok-insert.ensures.keys, c.self.invariant)
