use Rattle.std.proofs.Common.{◌≡◌, ◌∙◌, sym, true, false}
use Rattle.std.specs.Str.{bytes_eq}
use Rattle.nft_tree.proofs.Entries.{from_one_on}
use Rattle.nft_tree.proofs.value_types.find.Goals as goal

pub returns-then-eq : goal.returns-then-eq
returns-then-eq g c =
    let named : bytes_eq c.entry-item.result.0.now c.args.name.now ≡ true = cc in
    let found = from_one_on c.args.entries.now c.loop-entry.entry-index c.entry-item.result c.args.name.now
    c.loop-entry-test.true c.entry-item.is in
    sym (rw named at found) ∙ c.loop-entry.invariant

pub loop-entry-preserved : goal.loop-entry-preserved
loop-entry-preserved g c =
    let other : bytes_eq c.entry-item.result.0.now c.args.name.now ≡ false = cc in
    let rest = from_one_on c.args.entries.now c.loop-entry.entry-index c.entry-item.result c.args.name.now
    c.loop-entry-test.true c.entry-item.is in
    sym (rw other at rest) ∙ c.loop-entry.invariant
