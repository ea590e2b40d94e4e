use Rattle.std.proofs.Common.{arith}
use Rattle.box_file.proofs.Names.{inl, inr, line_tree, map, refl, sym}
use Rattle.box_file.proofs.LineLaws.{lines_found}
use Rattle.box_file.proofs.BoxLaws.{none_read}
use Rattle.box_file.proofs.network.Plant.read.Goals as goal

pub returns-in_default-clause-refused : goal.returns-in_default-clause-refused
returns-in_default-clause-refused c = inl (λ ls r. none_read c.args.text.now ls (sym (rw c.in_default.is at c.in_ok-lines.ensures)) r, refl)

pub returns-in-Some-2-clause-refused : goal.returns-in-Some-2-clause-refused
returns-in-Some-2-clause-refused c = inr (
  map line_tree c.in-Some.lines.items,
  lines_found c.args.text.now _ (sym (rw c.in-Some.is at c.in_ok-lines.ensures)),
  sym (rw (c.deref.ensures.value, c.in-Some-2.is) at c.in_ok-fault.ensures),
)

pub plant_of-requires-clause-lines : goal.plant_of-requires-clause-lines
plant_of-requires-clause-lines c = rw c.deref-2.ensures.value
    (lines_found c.args.text.now (map line_tree c.in-Some.lines.items) (sym (rw c.in-Some.is at c.in_ok-lines.ensures))).each

pub plant_of-requires-clause-range : goal.plant_of-requires-clause-range
plant_of-requires-clause-range c = grind arith

pub returns-clause-ok : goal.returns-clause-ok
returns-clause-ok c = record {
  lines = map line_tree c.in-Some.lines.items;
  read = lines_found c.args.text.now _ (sym (rw c.in-Some.is at c.in_ok-lines.ensures));
  faultless = sym (rw (c.deref.ensures.value, c.in_default-2.is) at c.in_ok-fault.ensures);
  limits = rw c.deref-2.ensures.value at c.in_ok-plant_of.ensures.limits;
  meant = rw c.deref-2.ensures.value at c.in_ok-plant_of.ensures.value;
}
