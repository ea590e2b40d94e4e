use Rattle.rule_names.proofs.Names.{ap, bytes_eq, list_any, table_tree, ◌∙◌}
use Rattle.std.specs.Prelude.{is_some}
use Rattle.nft_tree.specs.TableItems.{chains_of}
use Rattle.rule_names.specs.Names.{chain_named}
use Rattle.rule_names.proofs.IndexLookup.{any-found}
use Rattle.rule_names.proofs.table.TableNames.has_chain.Goals as goal

pub returns : goal.returns
returns c =
    c.contains.ensures
    ∙ ap (λ n. list_any (bytes_eq c.args.name.now) n.chains) c.self.invariant.named
    ∙ any-found (λ x. x.name) c.args.name.now (chains_of (table_tree c.self.inside.table.now))
    ∙ ap (λ t. is_some (chain_named t c.args.name.now)) c.self.view_is
