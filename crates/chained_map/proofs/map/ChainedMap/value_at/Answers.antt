use Rattle.std.proofs.Common.{sym, ap, ◌∙◌, arith}
use Rattle.std.specs.Prelude.{slice_get}
use Rattle.std.specs.HashMap.{values}
use Rattle.std.specs.HashMap as map
use Rattle.chained_map.proofs.NodeLaws.{value_at}
use Rattle.chained_map.proofs.MapLaws.{length_of}
use Rattle.chained_map.proofs.map.ChainedMap.value_at.Goals as goal

pub returns : goal.returns
returns g c =
    let nodes = c.self.inside.nodes.items in
    ap (λ m. slice_get (values m) c.args.index) (sym c.self.view_is)
    ∙ value_at nodes c.args.index c.index.result.now
    (omega (arith, c.requires, ap map.hash_map_len c.self.view_is, length_of nodes)) c.index.ensures
