use Rattle.std.proofs.Common.{◌-◌, take, drop, ltb, sym, subst, arith, rules}
use Rattle.std.proofs.lemmas.List.Sorted.{IsPartitionPoint-from_clause}
use Rattle.search_levels.specs.Levels.{Parts}
use Rattle.search_levels.proofs.PartLaws.{searched}
use Rattle.set_intervals.specs.steps.Pieces.{low_half}
use Rattle.set_intervals.proofs.ShortLaws.{halves, halves_rise, short_half}
use Rattle.set_intervals.proofs.table.short_lower_bound.Goals as goal

pub returns : goal.returns
returns g c =
    let xs = c.args.pieces.now in
    let key = c.args.key in
    let part = c.partition_point in
    let short = c.requires.short in
    let parts = subst (λ ns. Parts ns key c.args.from c.args.to) (sym (halves xs short)) c.requires.parts in
    let parted = searched (λ p. low_half p.0.high) xs key key c.args.from c.args.to part.result
    (halves_rise xs c.requires.table.separate short) parts (omega arith) (omega arith) (omega arith)
    (λ by. IsPartitionPoint-from_clause (λ p. ltb (low_half p.0.high) key)
    (take (c.args.to - c.args.from) (drop c.args.from xs)) part.result
    part.ensures.partitioned by (λ a r q k. search rules)) in
    λ i d lt. (
      λ before. omega (arith, parted.before i d lt before, short_half _ (short i d lt)),
      λ behind. omega (arith, parted.from_on i d lt behind, short_half _ (short i d lt)),
    )
