use Rattle.std.proofs.Common.{◌-◌, take, drop, ltb, arith, rules}
use Rattle.std.proofs.lemmas.List.Sorted.{IsPartitionPoint-from_clause}
use Rattle.search_levels.proofs.PartLaws.{searched}
use Rattle.set_intervals.proofs.PieceLaws.{highs_rise}
use Rattle.set_intervals.proofs.table.lower_bound.Goals as goal

pub returns : goal.returns
returns g c =
    let xs = c.args.pieces.now in
    let key = c.args.key in
    let part = c.partition_point in
    let parted = searched (λ p. p.0.high) xs key key c.args.from c.args.to part.result (highs_rise xs c.requires.table.separate)
    c.requires.parts (omega arith) (omega arith) (omega arith)
    (λ by. IsPartitionPoint-from_clause (λ p. ltb p.0.high key) (take (c.args.to - c.args.from) (drop c.args.from xs)) part.result
    part.ensures.partitioned by (λ a r q k. search rules)) in
    λ i d lt. (λ before. parted.before i d lt before, λ behind. parted.from_on i d lt behind)
