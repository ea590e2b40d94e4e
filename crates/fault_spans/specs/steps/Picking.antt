-- The range of a part, of the ranges that were found.
use Rattle.std.specs.Prelude.{ℕ, List, slice_get, Option, Some, None}
use Rattle.node_spans.specs.declared.token_range.TokenRange.{TokenRange}

abbrev pub picked : {V : Type 0} → (V → List TokenRange) → Option V → ℕ → Option TokenRange
picked view None i = None
picked view (Some v) i = slice_get (view v) i
