use Rattle.std.proofs.Common.{subst, sym}
use Rattle.packet_sets.specs.steps.Operations.{AreRight}
use Rattle.packet_sets.proofs.Results.{begun}
use Rattle.packet_sets.proofs.memo.Memo.new.Goals as goal

pub returns : goal.returns
returns c = λ nodes are. subst (λ xs. AreRight nodes xs) (sym (c.in_ok-vec.ensures.items_if_clones_equal (λ y e. e))) (begun nodes 4096 are)
