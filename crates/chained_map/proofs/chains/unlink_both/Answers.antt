use Rattle.std.proofs.Common.{◌∙◌, arith}
use Rattle.chained_map.proofs.chains.unlink_both.Goals as goal

pub unlink-requires : goal.unlink-requires
unlink-requires g c = record { chained = c.requires.chained; index = c.requires.index; few = c.requires.few }

pub unlink_last-requires : goal.unlink_last-requires
unlink_last-requires g c =
    let long = c.unlink.ensures.long in
    record {
      chained = c.unlink.ensures.chained;
      out = omega (arith, c.requires.index, long.1);
      few = (omega (arith, c.requires.few.0, long.0, long.1), omega (arith, c.requires.few.1, long.0));
    }

pub returns : goal.returns
returns g c = record {
  chained = c.unlink_last.ensures.chained;
  long = (c.unlink_last.ensures.long ∙ c.unlink.ensures.long.0, c.unlink.ensures.long.1);
  hashes = c.unlink.ensures.hashes;
  entries = c.unlink.ensures.entries;
}
