use Rattle.std.proofs.Common.{◌≡◌, map, drop}
use Rattle.std.specs.List.{list_any}
use Rattle.std.specs.Str.{bytes_eq}
use Rattle.nft_rulesets.specs.UnsupportedWords.{word_in}
use Rattle.nft_rulesets.proofs.unsupported_words.find.Given as goal

-- The rows before this one have other words.
abbrev pub invariant-loop-row : goal.invariant-loop-row
invariant-loop-row l = list_any (bytes_eq l.word) (map word_in (drop l.row-index l.rows))
    ≡ list_any (bytes_eq l.word) (map word_in l.rows)
