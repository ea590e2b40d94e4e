use Rattle.std.proofs.Common.{◌≡◌, map, drop}
use Rattle.nft_tree.specs.ValueTypes.{entry_in, entry_of}
use Rattle.nft_tree.proofs.value_types.find.Given as goal

-- No entry before this one has the name.
abbrev pub invariant-loop-entry : goal.invariant-loop-entry
invariant-loop-entry g l = entry_in (map entry_of (drop l.entry-index l.entries)) l.name
    ≡ entry_in (map entry_of l.entries) l.name
