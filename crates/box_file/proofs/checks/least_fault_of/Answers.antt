use Rattle.std.proofs.Common.{arith}
use Rattle.box_file.proofs.Names.{Bor, List, false, is_malformed, length, length-map, map, nat_tests, refl, sym, ℕ, ◌∙◌, ◌≡◌}
use Rattle.box_file.proofs.checks.least_fault_of.Goals as goal

one_default : (names : List (Bor (List ℕ))) (n : ℕ) → n ≡ length names → n ≡ 1 → is_malformed (map (λ name. name.now) names) ≡ false
one_default names n is one = grind (arith, nat_tests, length-map names (λ name. name.now))

pub returns-then-branch : goal.returns-then-branch
returns-then-branch c = rw (
  one_default c.args.lines.now.defaults.items _ (c.len.ensures ∙ c.args.lines.now.defaults.ok.0) c.if-len-ne1.false,
  sym (rw (c.deref.ensures.value, c.deref-2.ensures.value, c.deref-3.ensures.value) at c.in_ok-is_repeated.ensures) ∙ c.if-branch.true,
) refl

pub returns-then-branch-2 : goal.returns-then-branch-2
returns-then-branch-2 c = rw (
  one_default c.args.lines.now.defaults.items _ (c.len.ensures ∙ c.args.lines.now.defaults.ok.0) c.if-len-ne1.false,
  sym (rw (c.deref.ensures.value, c.deref-2.ensures.value, c.deref-3.ensures.value) at c.in_ok-is_repeated.ensures) ∙ c.if-branch.false,
  sym (rw (c.deref-4.ensures.value, c.deref-5.ensures.value, c.deref-6.ensures.value) at c.in_ok-names_unknown_interface.ensures)
      ∙ c.if-branch-2.true,
) refl

pub returns-then-is_too_large : goal.returns-then-is_too_large
returns-then-is_too_large c = rw (
  one_default c.args.lines.now.defaults.items _ (c.len.ensures ∙ c.args.lines.now.defaults.ok.0) c.if-len-ne1.false,
  sym (rw (c.deref.ensures.value, c.deref-2.ensures.value, c.deref-3.ensures.value) at c.in_ok-is_repeated.ensures) ∙ c.if-branch.false,
  sym (rw (c.deref-4.ensures.value, c.deref-5.ensures.value, c.deref-6.ensures.value) at c.in_ok-names_unknown_interface.ensures)
      ∙ c.if-branch-2.false,
  sym (rw (c.deref-7.ensures.value, c.deref-8.ensures.value) at c.is_too_large.ensures) ∙ c.if-is_too_large.true,
) refl
