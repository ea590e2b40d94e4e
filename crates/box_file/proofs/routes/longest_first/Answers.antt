use Rattle.box_file.proofs.Names.{rules, tests}
use Rattle.std.proofs.lemmas.Fn.{always_returns_same}
use Rattle.box_file.proofs.BestLaws.{is_longer, longer_ranks, longest_first}
use Rattle.box_file.proofs.routes.longest_first.Goals as goal

pub returns : goal.returns
returns c = longest_first c.args.routes.now c.sort_by.new.self.items
    (c.in_ok-sort_by.ensures.sorted is_longer longer_ranks (always_returns_same _ _ _ (λ a r g h. search (rules, tests))))
    (rw c.in_ok-sorted.ensures.items at (c.sort_by.ensures.stable is_longer longer_ranks
    (always_returns_same _ _ _ (λ a r g h. search (rules, tests)))))
