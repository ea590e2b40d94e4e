use Rattle.std.proofs.Common.{arith}
use Rattle.rule_names.proofs.Names.{ap, sym, ◌∙◌}
use Rattle.nft_tree.specs.TableItems.{chains_of}
use Rattle.rule_names.proofs.Bases.{any-base, is-some-map, is_base}
use Rattle.rule_names.proofs.table.TableNames.has_base_chain.Goals as goal

pub returns-in-None : goal.returns-in-None
returns-in-None c = ap is_base c.in-None.ensures.found ∙ sym (any-base (chains_of c.args.self.now) c.args.name.now c.chain.ensures.apart)

pub returns-in-Some : goal.returns-in-Some
returns-in-Some c = grind (arith, c.is_some.ensures, is-some-map, c.in-Some.chain.now.head, is_base, c.in-Some.ensures.found, any-base, c.chain.ensures.apart)
