use Rattle.std.proofs.Common.{◌+◌, ◌*◌, ◌/◌, ◌≡◌, subst, arith}
use Rattle.port_pool.specs.steps.First.{NoneWithin, is_open}
use Rattle.port_pool.proofs.Bitmaps.{missed, met, shows_first, shows_later, first_word, later_word}
use Rattle.port_pool.proofs.bitmap.first_free.Goals as goal

pub returns-then-word-ne0 : goal.returns-then-word-ne0
returns-then-word-ne0 c =
    let matches_parity = c.ranges.mask in
    rw c.lowest_bit_before.ensures (met (is_open c.args.words.now c.args.mask) c.args.from (c.args.from / 64)
    (first_word c.args.words.now c.args.mask c.args.from) c.args.to
    (shows_first c.args.words.now c.args.mask c.args.from (omega arith))
    (λ k low high. absurd (omega arith))
    (omega arith))

pub words-init : goal.words-init
words-init c =
    let e : c.args.from / 64 * 64 + 64 ≡ (c.args.from / 64 + 1) * 64 = omega arith in
    record {
      after = omega arith;
      none = subst (λ to. NoneWithin (is_open c.args.words.now c.args.mask) c.args.from to) e
          (missed (is_open c.args.words.now c.args.mask) c.args.from (c.args.from / 64)
          (first_word c.args.words.now c.args.mask c.args.from)
          (shows_first c.args.words.now c.args.mask c.args.from (omega arith))
          (λ k low high. absurd (omega arith))
          c.if-word-ne0.false);
    }

pub words-preserved : goal.words-preserved
words-preserved c =
    let after = c.words.invariant.after in
    let e : c.words.i * 64 + 64 ≡ (c.words.i + 1) * 64 = omega arith in
    record {
      after = omega arith;
      none = subst (λ to. NoneWithin (is_open c.args.words.now c.args.mask) c.args.from to) e
          (missed (is_open c.args.words.now c.args.mask) c.args.from c.words.i (later_word c.args.words.now c.args.mask c.words.i)
          (shows_later c.args.words.now c.args.mask c.args.from c.words.i (omega arith) after)
          c.words.invariant.none
          c.if-word-ne0-2.false);
    }

pub returns-then-word-ne0-2 : goal.returns-then-word-ne0-2
returns-then-word-ne0-2 c =
    let after = c.words.invariant.after in
    rw c.lowest_bit_before-then-word-ne0-2.ensures
    (met (is_open c.args.words.now c.args.mask) c.args.from c.words.i
    (later_word c.args.words.now c.args.mask c.words.i) c.args.to
    (shows_later c.args.words.now c.args.mask c.args.from c.words.i (omega arith) after)
    c.words.invariant.none
    (omega arith))
