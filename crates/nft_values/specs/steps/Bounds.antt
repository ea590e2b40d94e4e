-- The code's bounds as a span.
use Rattle.nft_values.specs.declared.bounds.Bounds.{Bounds}
use Rattle.nft_values.specs.Values.{Span}

abbrev pub bounds_span : Bounds → Span
bounds_span b = record { low = b.low; high = b.high }
