use Rattle.std.proofs.Common.{arith, drop-cons}
use Rattle.box_file.proofs.Names.{Bool, List, cond, drop, get_or, interface_tree, is_named, length, list_any, map, nat_eq, pointwise, true, ℕ, ◌+◌, ◌<◌, ◌||◌}
use Rattle.box_file.proofs.Names.{◌∙◌, ◌≡◌}
use Rattle.box_file.specs.declared.line.InterfaceLine.{InterfaceLine}
use Rattle.box_file.proofs.NumberLaws.{same_text-pointwise}
use Rattle.box_file.proofs.checks.names.Goals as goal

name_more : (n : List ℕ) (is : List InterfaceLine) (i : ℕ) (e : InterfaceLine) (old new : Bool) → i < length is
    → new ≡ cond (pointwise nat_eq (get_or is i e).name.now n) true old
    → (new || list_any (is_named n) (map interface_tree (drop (i + 1) is))) ≡ (old || list_any (is_named n) (map interface_tree (drop i is)))
name_more n is i e old new lt now = grind (arith, drop-cons is i e, same_text-pointwise, now)

pub loop-interface-preserved : goal.loop-interface-preserved
loop-interface-preserved c = λ n. name_more n.now c.args.interfaces.now c.loop-interface.interface-index _ _ _ c.loop-interface-test.true
    (c.in_ok-insert.ensures.updates.0 n) ∙ c.loop-interface.invariant n
