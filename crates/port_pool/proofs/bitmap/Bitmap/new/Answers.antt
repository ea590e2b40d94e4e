use Rattle.std.proofs.Common.{ℕ}
use Rattle.std.proofs.lemmas.List.{length-replicate}
use Rattle.port_pool.proofs.Bitmaps.{bit-zeros, counted_none}
use Rattle.port_pool.proofs.bitmap.Bitmap.new.Goals as goal

pub invariant_of-result : goal.invariant_of-result
invariant_of-result c = rw (c.in_ok-words.ensures.items_if_clones_equal (λ y e. e))
    (counted_none _ (length-replicate {A = ℕ} 1024 0) (λ q. bit-zeros 1024 q))

pub returns : goal.returns
returns c q = rw (c.in_ok-words.ensures.items_if_clones_equal (λ y e. e)) (bit-zeros 1024 q)
