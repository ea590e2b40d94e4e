use Rattle.std.proofs.Common.{◌≡◌, map, take, string_bytes}
use Rattle.program.proofs.performing.slices_of.Given as goal

abbrev pub invariant-loop-word : goal.invariant-loop-word
invariant-loop-word l = map (λ slice. slice.now) l.slices.items ≡ map string_bytes (take l.word-index l.words)
