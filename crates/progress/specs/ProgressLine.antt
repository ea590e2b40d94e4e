-- The line of progress (own).
use Rattle.std.specs.Prelude.{◌++◌, ◌/◌, ◌%◌, ℕ, List, Option, Some, None, codes, decimal}

-- a number of bytes in megabytes (10^6 bytes), with one decimal
abbrev pub megabytes : ℕ → List ℕ
megabytes n = decimal (n / 1000000) ++ codes "." ++ decimal (n / 100000 % 10) ++ codes " MB"

-- so many bytes of IN are read, of how many where its size is known
abbrev pub progress_line : ℕ → Option ℕ → List ℕ
progress_line count (Some size) =
    codes "nftrun: " ++ megabytes count ++ codes " of " ++ megabytes size ++ codes " read"
progress_line count None = codes "nftrun: " ++ megabytes count ++ codes " read"
