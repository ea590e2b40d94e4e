use Rattle.std.proofs.Common.{◌-◌}
use Rattle.fault_location.proofs.node_search.NodeSearch.+search.Given as goal

abbrev pub decreases-search : goal.decreases-search
decreases-search l = l.end - l.start
