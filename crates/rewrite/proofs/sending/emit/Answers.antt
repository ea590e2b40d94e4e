use Rattle.std.proofs.Common.{◌≡◌, ℕ, ◌-◌, List, [], ◌++◌, length, take, drop, ap, ◌∙◌, arith}
use Rattle.std.proofs.lemmas.Grind.{common_steps}
use Rattle.std.proofs.lemmas.List.{take_at}
use borrow.Rule.Slice.PartMut.{post_of}
use Rattle.rewrite.specs.Rewritten.{rewritten}
use Rattle.rewrite.proofs.Rewritten.{length_rewritten}
use Rattle.rewrite.proofs.sending.emit.Goals.{After-deref_mut}
use Rattle.rewrite.proofs.sending.emit.Goals as goal

patched : (old packet d new items : List ℕ) (n s k : ℕ) → d ≡ old ++ packet → s ≡ length old
    → length new ≡ length packet → n ≡ length d
    → take n (take s d ++ (new ++ post_of s (length d - s) d) ++ drop k items) ≡ old ++ new
patched old packet d new items n s k is start same len =
    let front : take s d ≡ old = grind (arith, common_steps) in
    let back : post_of s (length d - s) d ≡ [] = grind (arith, common_steps) in
    let whole : length (old ++ new) ≡ n = grind (arith, common_steps) in
    rw (front, back) (grind (arith, common_steps, take_at (old ++ new) (drop k items) n whole))

-- the vector with the packet appended, of which the slice behind the old length is passed on
extended : (c : After-deref_mut) → c.deref_mut.result.now ≡ c.args.out.now.items ++ c.args.view.now.packet.now
extended c = grind (arith, common_steps)

pub rewrite_packet-requires : goal.rewrite_packet-requires
rewrite_packet-requires c = grind (arith, extended, common_steps)

pub returns-clause-ok : goal.returns-clause-ok
returns-clause-ok c =
    let old = c.args.out.now.items in
    let packet = c.args.view.now.packet.now in
    let d = c.deref_mut.result.now in
    let s = c.len-before.result in
    let is = extended (goal.at.returns-clause-ok c).After-deref_mut in
    let start : s ≡ length old = omega arith in
    let part : take (length d - s) (drop s d) ≡ packet = grind (arith, common_steps, is) in
    let sent : c.rewrite_packet.new.packet ≡ rewritten packet c.args.change.now =
    c.rewrite_packet.ensures ∙ ap (λ l. rewritten l c.args.change.now) part in
    let same : length c.rewrite_packet.new.packet ≡ length packet = ap (λ l. length l) sent ∙ length_rewritten packet c.args.change.now in
    patched old packet d c.rewrite_packet.new.packet c.extend_from_slice.new.self.items _ s _ is start same
    (omega (arith, c.deref_mut.ensures.len)) ∙ ap (λ l. old ++ l) sent
