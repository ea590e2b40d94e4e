use Rattle.std.proofs.Common.{◌≡◌, take}
use Rattle.chain_sets.proofs.Exits.{states_in}
use Rattle.chain_sets.proofs.outcomes.next.Given as goal

abbrev pub invariant-loop-exit : goal.invariant-loop-exit
invariant-loop-exit l = l.states.items ≡ states_in (take l.exit-index l.exits)
