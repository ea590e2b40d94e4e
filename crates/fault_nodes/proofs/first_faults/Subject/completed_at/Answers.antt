use Rattle.std.proofs.Common.{◌≡◌, suc, arith}
use Rattle.nft_tree.specs.TreeViews.{tables_of}
use Rattle.fault_nodes.proofs.Ends.{has_at_end, none_at_start, some_to_read}
use Rattle.fault_nodes.proofs.first_faults.Subject.completed_at.Goals as goal

pub loop-with-init : goal.loop-with-init
loop-with-init c =
    let subject = c.args.self.now in
    let tables = tables_of subject.tree.now in
    let network = subject.network.now in (
      omega (arith, some_to_read subject.fault tables network c.requires.has, c.requires.total),
      omega arith,
      has_at_end subject.fault tables network c.args.total c.requires.total c.requires.has,
      none_at_start subject.fault tables network,
    )

pub returns-clause-with_it : goal.returns-clause-with_it
returns-clause-with_it c =
    let next : c.loop-with.with ≡ suc c.loop-with.without = omega (arith, c.loop-with.invariant.0) in
    rw next at c.loop-with.invariant.2
