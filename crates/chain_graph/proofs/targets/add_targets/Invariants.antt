use Rattle.chain_graph.proofs.Names.{call_of, map, take, ◌++◌, ◌≡◌}
use Rattle.chain_graph.proofs.targets.add_targets.Given as goal

abbrev pub invariant-loop-call : goal.invariant-loop-call
invariant-loop-call l = l.targets.items ≡ l.initial.targets.items ++ map (λ e. e.to) (map call_of (take l.call-index l.calls))
