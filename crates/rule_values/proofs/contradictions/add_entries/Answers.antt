use Rattle.std.proofs.Common.{[], ◌++◌, sym, ap, ◌∙◌}
use Rattle.std.specs.List.{cons_option}
use Rattle.std.proofs.lemmas.List.{append-nil}
use Rattle.nft_tree.specs.TreeViews.{pair_tree}
use Rattle.rule_values.specs.Faults.{map_entry_of}
use Rattle.rule_values.specs.steps.Views.{elements_tree}
use Rattle.rule_values.proofs.Entries.{gathered, gathered-all}
use Rattle.rule_values.proofs.contradictions.add_entries.Goals as goal
use Rattle.rule_values.proofs.contradictions.add_entries.Goals.{in-Some+in_ok-push, in_default}

pub loop-pair-preserved : goal.loop-pair-preserved
loop-pair-preserved c =
    let more = gathered (map_entry_of c.args.network.now (elements_tree c.args.elements.now)) pair_tree c.args.elements.now.pairs.now
    c.loop-pair.pair-index c.pair-item.result c.loop-pair.names.keys c.entry.new.names.keys c.loop-pair.pairs.items
    c.match-branch-2.pairs.items c.in_ok-entry.field-0 c.loop-pair-test.true c.pair-item.is c.loop-pair.invariant
    c.in_ok-entry.ensures.keeps c.in_ok-entry.ensures.entry in
    elim c.match-branch-2.branch [
      | in-Some+in_ok-push w ↦ more (ap (λ v. v.items) w.pairs-is ∙ w.in_ok-push.ensures.items
          ∙ ap (λ o. c.loop-pair.pairs.items ++ cons_option o []) (sym w.in-Some.is))
      | in_default w ↦ more (ap (λ v. v.items) w.pairs-is ∙ sym (append-nil c.loop-pair.pairs.items)
          ∙ ap (λ o. c.loop-pair.pairs.items ++ cons_option o []) (sym w.in_default.is))
    ]

pub returns : goal.returns
returns c = gathered-all (map_entry_of c.args.network.now (elements_tree c.args.elements.now)) pair_tree
    c.args.elements.now.pairs.now c.loop-pair.pair-index c.loop-pair.names.keys c.loop-pair.pairs.items
    c.loop-pair-test.false c.loop-pair.invariant
