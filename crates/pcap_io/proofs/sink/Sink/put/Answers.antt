use Rattle.std.proofs.Common.{◌≡◌, ℕ, List, [], ◌++◌, Option, ap, append_assoc, append-nil, arith, subst, ◌∙◌}
use Rattle.std.proofs.lemmas.Result.{err_from_is_err_and}
use Rattle.std.specs.Io.KnownBytes.{Appends}
use Rattle.std.proofs.KnownBytes.{Appends-nil}
use Rattle.devices.specs.steps.Written.{part_first}
use Rattle.devices.specs.Counting.{AppendsBuffered, AppendsPrefix}
use Rattle.pcap_io.specs.Sll2.{sll2_record, sent}
use Rattle.pcap_io.proofs.sink.Sink.put.Goals as goal
use Rattle.pcap_io.proofs.sink.Sink.put.Goals.{then-room-leaving+in_ok-write_whole, else-room-leaving}

-- the buffered bytes are written, and none are left
drained : (a b : Option (List ℕ)) (old wrote mid : List ℕ) → Appends a b wrote → wrote ≡ old → mid ≡ []
    → AppendsBuffered old a b mid []
drained a b old wrote mid w is none = (old, grind arith, rw (← is) w)

-- nothing is written, and the same is buffered
left_buffered : (a : Option (List ℕ)) (old mid : List ℕ) → mid ≡ old → AppendsBuffered old a a mid []
left_buffered a old mid is = ([], rw is (append-nil old), Appends-nil a)

-- more is buffered behind
buffers_more : (a b : Option (List ℕ)) (old mid waits bytes : List ℕ) → AppendsBuffered old a b mid []
    → waits ≡ mid ++ bytes → AppendsBuffered old a b waits bytes
buffers_more a b old mid waits bytes (part, e, w) is = (part, grind (arith, append-nil, append_assoc), w)

pub returns-in_err-write_whole-clause-part : goal.returns-in_err-write_whole-clause-part
returns-in_err-write_whole-clause-part g c =
    let p = err_from_is_err_and c.from_residual.result c.from_residual.ensures.1 in
    let is = c.as_slice.ensures ∙ ap (λ v. v.buffered) c.self.view_is in
    rw p.1 (part_first _ _ c.args.self.now.buffered (sll2_record (sent c.args.leaving.now)) (subst (AppendsPrefix _ _)
    is c.in_err-write_whole.ensures.part))

pub returns-clause-ok : goal.returns-clause-ok
returns-clause-ok g c =
    let a = g.W.Write.contents c.args.writer.now.inner in
    let b = g.W.Write.contents c.if-room-leaving.writer.inner in
    let old = c.args.self.now.buffered in
    let mid = c.if-room-leaving.self-inside.buffered in
    let so_far : AppendsBuffered old a b mid [] = elim c.if-room-leaving.branch [
      | then-room-leaving+in_ok-write_whole w ↦ rw (w.writer-is, w.self-inside-is) (drained _ _ old w.as_slice.result.now _
          w.in_ok-write_whole.ensures.ok (w.as_slice.ensures ∙ ap (λ v. v.buffered) c.self.view_is) w.clear.ensures)
      | else-room-leaving w ↦ rw (w.writer-is, w.self-inside-is) (left_buffered _ old _ (ap (λ v. v.buffered)
          c.self.view_is))
    ] in
    buffers_more a b old mid c.append_record.new.self (sll2_record (sent c.args.leaving.now)) so_far
    c.append_record.ensures
