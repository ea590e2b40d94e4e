-- Priorities are integers, so any two base chains compare.
use Rattle.std.proofs.Common.{◌≡◌, int_lt, sym, ◌∙◌}
use Rattle.std.specs.Ordering.{int_cmp, is_lt}
use Rattle.std.specs.Cmp.{IsStrictWeakOrder}
use Rattle.std.proofs.lemmas.Cmp.{int_cmp_total}
use Rattle.std.proofs.lemmas.List.Sorted.{ranks_by}
use Rattle.list_laws.specs.Tests.{less_by}
use Rattle.rule_meaning.specs.Hooks.{BaseChain, priority, runs_before}

by_number : (x y : BaseChain) → is_lt (int_cmp (priority x) (priority y)) ≡ runs_before x y
by_number x y = less_by (int_lt (priority x) (priority y)) (int_lt (priority y) (priority x))

pub priorities : IsStrictWeakOrder runs_before
priorities =
    let r : IsStrictWeakOrder (λ (x y : BaseChain). is_lt (int_cmp (priority x) (priority y))) = ranks_by int_cmp_total priority in
    record {
      one_way = λ x y e. sym (by_number y x) ∙ r.one_way x y (by_number x y ∙ e);
      chain = λ x y z e e'. sym (by_number x z) ∙ r.chain x y z (by_number x y ∙ e) (by_number y z ∙ e');
    }
