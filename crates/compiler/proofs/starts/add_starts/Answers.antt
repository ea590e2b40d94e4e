use Rattle.compiler.proofs.Names.{CompiledChain, List, [], ap, hook_starts, refl, rules, sym, ◌++◌, ◌∙◌, ◌∷◌, ◌≡◌}
use Rattle.std.proofs.lemmas.Fn.{always_returns_same}
use Rattle.std.proofs.lemmas.List.{take_all}
use Rattle.compiler.proofs.OrderLaws.{in-order, key, more_starts}
use Rattle.compiler.proofs.starts.add_starts.Goals as goal

pub loop-base-init : goal.loop-base-init
loop-base-init c = record { tables = refl; starts = c.requires.none }

pub loop-base-preserved : goal.loop-base-preserved
loop-base-preserved c = record {
  tables = c.in_ok-add_start.ensures.tables ∙ c.loop-base.invariant.tables;
  starts = λ hook. c.in_ok-add_start.ensures.starts hook
      ∙ ap (λ xs. xs ++ hook_starts hook (c.base-item.result ∷ [])) (c.loop-base.invariant.starts hook)
      ∙ sym (more_starts hook c.deref-base-items.result.now c.loop-base.base-index c.base-item.result c.loop-base-test.true c.base-item.is);
}

pub returns-in_err-add_start-clause-tables : goal.returns-in_err-add_start-clause-tables
returns-in_err-add_start-clause-tables c = c.add_start.ensures.tables ∙ c.loop-base.invariant.tables

pub returns-clause-tables : goal.returns-clause-tables
returns-clause-tables c = c.loop-base.invariant.tables

pub returns-clause-starts : goal.returns-clause-starts
returns-clause-starts c =
    let order : List CompiledChain = c.sort_by_key.new.self.items in
    let sorted = c.in_ok-sort_by_key.ensures in
    record {
      order = order;
      moved = sorted.permutation;
      in_order = in-order c.args.bases.items order sorted.permutation
          (sorted.sorted key (always_returns_same _ (λ a r. r ≡ key a.0.now) _ (λ a r f' called. search rules)))
          (sorted.stable key (always_returns_same _ (λ a r. r ≡ key a.0.now) _ (λ a r f' called. search rules)));
      starts = λ hook. c.loop-base.invariant.starts hook
          ∙ ap (hook_starts hook) (take_all c.loop-base.base-index c.deref-base-items.result.now c.loop-base-test.false ∙ c.deref-base-items.ensures.value);
    }
