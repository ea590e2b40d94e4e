use Rattle.std.proofs.Common.{◌≡◌, ◌<◌, ◌≤◌, ℕ, ◌+◌, ◌-◌, ◌∙◌, List, ◌++◌, append-nil, length, vec_len, ap, refl, sym, inl, inr, arith, rules, take}
use Rattle.std.specs.Prelude.{slice_range}
use Rattle.std.proofs.lemmas.List.{with_items_is, places}
use borrow.Rule.Slice.PartMut.{post_of}
use Rattle.pcap_io.specs.ReadAhead.{READ_AHEAD}
use Rattle.pcap_io.specs.steps.ReadAhead.{BufferState}
use Rattle.pcap_io.proofs.Buffers.{held_more, at_front}
use Rattle.pcap_io.proofs.read_buffer.ReadBuffer.fill.Goals as goal

at_most : {xs ys : List ℕ} → xs ≡ ys → length ys < READ_AHEAD → length xs ≤ READ_AHEAD
at_most same less = rw same (omega (arith, less))

pub returns-in-Ok-clause-ok : goal.returns-in-Ok-clause-ok
returns-in-Ok-clause-ok g c =
    let inside = c.self.inside in
    let is = c.self.view_is ∙ c.compact.ensures in
    let bytes = c.deref_mut.result.now in
    let buf = c.read_front.new.buf in
    let count = c.in-Ok.count in
    let same : length bytes ≡ length inside.bytes.items = ap length c.deref_mut.ensures.value in
    let held : slice_range bytes inside.start inside.end ≡ c.args.self.now.held =
    ap (λ (xs : List ℕ). slice_range xs inside.start inside.end) c.deref_mut.ensures.value
    ∙ ap (λ (a : BufferState). a.held) is in
    let room = at_front inside.bytes.items inside.start inside.end c.self.invariant.0 c.self.invariant.1
    (ap (λ (a : BufferState). a.taken) is) (ap (λ (a : BufferState). length a.held) is) in
    let all : List ℕ = take inside.end bytes ++ (buf ++ post_of inside.end (length bytes - inside.end) bytes) in
    let more = held_more bytes buf (post_of inside.end (length bytes - inside.end) bytes) inside.start inside.end count
    (inside.end + count) refl c.self.invariant.0
    (omega (arith, same, c.self.invariant.1)) c.in-Ok.ensures.bound.0 in
    rw (with_items_is inside.bytes all (search (rules, places))) record {
      more = take count buf;
      held = more ∙ ap (λ ys. ys ++ take count buf) held;
      consumed = c.in-Ok.ensures.bytes.0;
      progress = inl (
        ap (λ (a : BufferState). a.ended) is ∙ c.requires.going,
        omega (arith, c.in-Ok.count-test.1, c.in-Ok.ensures.bound.1),
      );
    }

pub returns-in-Ok-eq0-clause-ok : goal.returns-in-Ok-eq0-clause-ok
returns-in-Ok-eq0-clause-ok g c =
    let inside = c.self.inside in
    let is = c.self.view_is ∙ c.compact.ensures in
    let bytes = c.deref_mut.result.now in
    let buf = c.read_front.new.buf in
    let count = c.in-Ok-eq0.field-0 in
    let same : length bytes ≡ length inside.bytes.items = ap length c.deref_mut.ensures.value in
    let held : slice_range bytes inside.start inside.end ≡ c.args.self.now.held =
    ap (λ (xs : List ℕ). slice_range xs inside.start inside.end) c.deref_mut.ensures.value
    ∙ ap (λ (a : BufferState). a.held) is in
    let room = at_front inside.bytes.items inside.start inside.end c.self.invariant.0 c.self.invariant.1
    (ap (λ (a : BufferState). a.taken) is) (ap (λ (a : BufferState). length a.held) is) in
    let all : List ℕ = take inside.end bytes ++ (buf ++ post_of inside.end (length bytes - inside.end) bytes) in
    let more = held_more bytes buf (post_of inside.end (length bytes - inside.end) bytes) inside.start inside.end count
    inside.end (omega (arith, c.in-Ok-eq0.field-0-test)) c.self.invariant.0
    (omega (arith, same, c.self.invariant.1)) c.in-Ok-eq0.ensures.bound.0 in
    rw (with_items_is inside.bytes all (search (rules, places))) record {
      more = take count buf;
      held = more ∙ ap (λ ys. ys ++ take count buf) held;
      consumed = c.in-Ok-eq0.ensures.bytes.0;
      progress = inr (
        refl,
        ap (λ n. take n buf) c.in-Ok-eq0.field-0-test,
        c.in-Ok-eq0.ensures.bytes.1 c.in-Ok-eq0.field-0-test (let filled = c.read_front.auto.buf in
            let whole = c.self.invariant.2 in let few = c.requires.room in
            grind (arith, places, filled, whole, few, room, same)),
      );
    }

pub invariant_of-self-in-Err : goal.invariant_of-self-in-Err
invariant_of-self-in-Err g c =
    let inside = c.self.inside in
    let bytes = c.deref_mut.result.now in
    let all : List ℕ = take inside.end bytes ++ (c.read_front.new.buf ++ post_of inside.end (length bytes - inside.end) bytes) in
    let size : length all ≡ vec_len inside.bytes = search (rules, places) in
    let whole : length all ≡ READ_AHEAD = size ∙ sym c.deref_mut.ensures.len ∙ ap length c.deref_mut.ensures.value ∙ c.self.invariant.2 in
    rw (with_items_is inside.bytes all size, whole) (c.self.invariant.0, rw c.self.invariant.2 at c.self.invariant.1, refl, c.self.invariant.3)

-- a read that failed left the buffered bytes
pub returns-in-Err-clause-err : goal.returns-in-Err-clause-err
returns-in-Err-clause-err g c =
    let inside = c.self.inside in
    let is = c.self.view_is ∙ c.compact.ensures in
    let bytes = c.deref_mut.result.now in
    let same : length bytes ≡ length inside.bytes.items = ap length c.deref_mut.ensures.value in
    let post = post_of inside.end (length bytes - inside.end) bytes in
    let all : List ℕ = take inside.end bytes ++ (c.read_front.new.buf ++ post) in
    let held : slice_range bytes inside.start inside.end ≡ c.args.self.now.held =
    ap (λ (xs : List ℕ). slice_range xs inside.start inside.end) c.deref_mut.ensures.value
    ∙ ap (λ (a : BufferState). a.held) is in
    rw (with_items_is inside.bytes all (search (rules, places))) (
      held_more bytes c.read_front.new.buf post inside.start inside.end 0 inside.end (omega arith) c.self.invariant.0
          (omega (arith, same, c.self.invariant.1)) (omega arith) ∙ append-nil _ ∙ held,
      ap (λ (a : BufferState). a.ended) is ∙ c.requires.going,
      c.in-Err.ensures.bytes,
    )

pub returns-in-Err-clause-short : goal.returns-in-Err-clause-short
returns-in-Err-clause-short g c = at_most (returns-in-Err-clause-err g c).0 c.requires.room
