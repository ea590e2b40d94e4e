use Rattle.std.proofs.Common.{[], ◌+◌, ◌∷◌, ◌++◌, ◌-◌, ◌∙◌, length, take, drop, subst, sym, ap, append_assoc}
use Rattle.list_laws.specs.Lists.{head_and_rest}
use Rattle.set_intervals.specs.Pairs.{first_value}
use Rattle.set_intervals.specs.steps.Layers.{Follows}
use Rattle.set_intervals.proofs.LayerLaws.{follows, same_front}
use Rattle.set_intervals.proofs.overlay.append_all.Goals as goal

pub loop-left-preserved : goal.loop-left-preserved
loop-left-preserved g c =
    let pieces = c.loop-left.pieces.items in
    let new = c.append.new.pieces.items in
    let left = c.loop-left.left.now in
    let first = c.first-item.result in
    let others = take (length left - 1) (drop 1 left) in
    let parts = head_and_rest left first c.in-len1-up.len_at_least c.first-item.is in
    let past = subst (Follows pieces) parts c.loop-left.invariant.follows in
    record {
      table = c.in_ok-append.ensures.table;
      follows = follows new (first.0.high + 1) others c.in_ok-append.ensures.ends past.1;
      first_values = λ key.
          same_front new (pieces ++ first ∷ []) others c.in_ok-append.ensures.first_values key
          ∙ ap (λ l. first_value l key) (append_assoc pieces (first ∷ []) others)
          ∙ ap (λ l. first_value (pieces ++ l) key) (sym parts)
          ∙ c.loop-left.invariant.first_values key;
    }
