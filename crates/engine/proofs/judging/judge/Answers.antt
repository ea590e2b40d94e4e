use Rattle.engine.proofs.Names.{ap, arith, chain_count, length, min, rule_count, sym, table_tree, ◌-◌, ◌^◌, ◌∙◌, ◌≡◌}
use Rattle.std.proofs.lemmas.List.{length-map}
use Rattle.engine.proofs.judging.judge.Goals as goal

pub returns-clause-accepted : goal.returns-clause-accepted
returns-clause-accepted c =
    let fine = c.in_ok-checked.ensures.fine in
    let same = c.tree-tree.ensures in
    let many : c.len.result ≡ length c.tree-tree.result.now.tables.items = omega arith in
    record {
      texts = record {
        tables = c.in_ok-checked.checked.rules;
        spelled = fine.spelled;
        network = c.in_ok-checked.checked.network;
        read = fine.read;
      };
      well_formed = fine.well_formed;
      all_tables = many ∙ sym (length-map c.tree-tree.result.now.tables.items table_tree) ∙ ap length same;
      all_chains = c.chain_count.ensures ∙ ap (λ ts. min (chain_count ts) (2 ^ 64 - 1)) same;
      all_rules = c.rule_count.ensures ∙ ap (λ ts. min (rule_count ts) (2 ^ 64 - 1)) same;
    }
