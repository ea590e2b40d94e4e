use Rattle.std.proofs.Common.{◌≡◌, slice_index_or, ap, arith, ◌∙◌}
use Rattle.nft_values.proofs.NameLaws.{padded-all, padded-next, padded-none, padded_to, room}
use Rattle.nft_values.proofs.names.padded.Goals as goal

pub loop-at-init : goal.loop-at-init
loop-at-init c = record { value = padded-none c.args.fill c.args.name.now; room = omega arith }

pub overflow_mul-number : goal.overflow_mul-number
overflow_mul-number c = let fits = room c.loop-at.number 0 c.loop-at.at c.loop-at.invariant.room (omega arith) c.loop-at-test.true in omega (arith, fits.1)

pub overflow_add-number : goal.overflow_add-number
overflow_add-number c = let fits = room c.loop-at.number c.from.result c.loop-at.at c.loop-at.invariant.room
    (omega arith) c.loop-at-test.true in omega (arith, fits.1)

pub loop-at-preserved : goal.loop-at-preserved
loop-at-preserved c =
    let byte : c.from.result ≡ slice_index_or c.args.name.now c.loop-at.at c.args.fill = c.from.ensures ∙ c.byte_at.ensures in
    record {
      value = rw (byte, c.loop-at.invariant.value) (padded-next c.loop-at.at c.args.fill c.args.name.now c.loop-at-test.true);
      room = (room c.loop-at.number c.from.result c.loop-at.at c.loop-at.invariant.room (omega arith) c.loop-at-test.true).0;
    }

pub returns : goal.returns
returns c = let done : c.loop-at.at ≡ 16 = omega arith in c.loop-at.invariant.value
    ∙ ap (λ n. padded_to n c.args.fill c.args.name.now) done ∙ padded-all c.args.fill c.args.name.now
