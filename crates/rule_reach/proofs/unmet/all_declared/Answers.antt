use Rattle.std.proofs.Common.{length, refl, take}
use Rattle.std.proofs.lemmas.Option.{slice_get_read}
use Rattle.std.proofs.lemmas.Slice.Zip.{all_zipped_more}
use Rattle.lowering.specs.Lowered.{HasDeclared}
use Rattle.rule_reach.proofs.Bases.{taken_next, types_at}
use Rattle.rule_reach.proofs.unmet.all_declared.Goals as goal

pub declared-requires : goal.declared-requires
declared-requires c =
    let list = c.args.tables.now in
    record {
      types = types_at c.args.network.now list c.loop-names.names-index c.names-item.result c.requires
          (slice_get_read list (length list) c.loop-names.names-index c.names-item.result refl c.loop-names-test.true c.names-item.is);
    }

pub loop-names-preserved : goal.loop-names-preserved
loop-names-preserved c =
    let list = c.args.tables.now in
    let i = c.loop-names.names-index in
    let t = c.names-item.result in
    let at = slice_get_read list (length list) i t refl c.loop-names-test.true c.names-item.is in
    rw (taken_next list i t at, c.in_ok-push.ensures.items)
    (all_zipped_more (HasDeclared c.args.network.now) (take i list) c.loop-names.all.items t c.in_ok-declared.field-0 c.loop-names.invariant
    c.in_ok-declared.ensures)
