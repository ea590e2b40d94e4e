use Rattle.engine.proofs.Names.{[], append-nil, err_from_is_err_and, inl, part_none, refl, sll2_header, subst, sym, List, ℕ, ◌≡◌, Err, Result}
use Rattle.engine.proofs.Results.{no_error, same_error}
use Rattle.devices.specs.Counting.{AppendsBuffered}
use Rattle.pcap_io.specs.declared.sink.SinkError.{SinkError}
use Rattle.pcap_io.specs.declared.sink.SinkError.TheVariants as sinks
use Rattle.std.proofs.KnownBytes.{Appends-nil}
use Rattle.engine.proofs.replay.Replay.new.Goals as goal

no_device : {T : Type 0} {result : Result T SinkError} → result ≡ Err sinks.Memory → result ≡ Err sinks.Device → ⊥
no_device memory device = cc

pub returns-in_default : goal.returns-in_default
returns-in_default g c = record {
  same = tt;
  begun = tt;
  part = part_none _ sll2_header;
  no_failure = tt;
  device = λ is. absurd (no_device refl is);
  memory = λ is. refl;
}

pub returns-in_err-sink : goal.returns-in_err-sink
returns-in_err-sink g c =
    let q = err_from_is_err_and c.from_residual.result c.from_residual.ensures.1 in
    rw (q.1, q.2) (record {
      same = tt;
      begun = tt;
      part = c.in_err-sink.ensures.part;
      no_failure = tt;
      device = λ is. c.in_err-sink.ensures.device (same_error refl refl is);
      memory = λ is. c.in_err-sink.ensures.memory (same_error refl refl is);
    })

pub returns : goal.returns
returns g c = record {
  same = (refl, refl, c.in-Ok.ensures.fresh.records, c.in-Ok.ensures.empty);
  begun = λ report. record {
    same = refl;
    represents = c.requires.represents;
    gets = subst (λ (text : List ℕ). AppendsBuffered [] (g.W.Write.contents c.args.sent.now.inner)
        (g.W.Write.contents c.open.new.writer.inner) c.in_ok-sink.sink.buffered text)
        (sym (append-nil sll2_header)) c.in_ok-sink.ensures.ok;
    lines = [];
    reports = rw c.rules.ensures at c.in-Ok.ensures.fresh;
    appends_report = Appends-nil report;
    not_ahead = inl (Appends-nil report);
  };
  part = tt;
  no_failure = c.in_ok-sink.ensures.no_failure;
  device = λ is. absurd (no_error is);
  memory = λ is. absurd (no_error is);
}
