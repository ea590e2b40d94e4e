use Rattle.packet_sets.proofs.Results.{kept}
use Rattle.packet_sets.proofs.memo.Memo.keep.Goals as goal

pub returns : goal.returns
returns c = λ nodes are is. kept nodes c.args.self.now.entries.items c.place_of-place.result c.args.entry are is
