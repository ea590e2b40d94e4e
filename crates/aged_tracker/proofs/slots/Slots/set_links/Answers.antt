use Rattle.std.proofs.Common.{set}
use Rattle.std.proofs.lemmas.List.{length-set}
use Rattle.slab.proofs.SlabLemmas.{Updates-with_value}
use Rattle.aged_tracker.proofs.SlotLists.{get_used, placed, size_written, stored_key, written_link}
use Rattle.aged_tracker.proofs.slots.Slots.set_links.Goals as goal

pub index_mut-requires : goal.index_mut-requires
index_mut-requires c = stored_key _ _ _ _ c.self.view_is c.args.key c.requires

pub returns-clause-placed : goal.returns-clause-placed
returns-clause-placed c =
    let used = stored_key _ _ _ _ c.self.view_is c.args.key c.requires in
    placed _ _ c.args.key _ c.args.links
    (get_used _ _ _ _ c.self.view_is c.args.key _ c.index_mut.ensures.value)
    (written_link _ _ _ _ _ c.self.view_is c.args.key _ (Updates-with_value c.self.inside.slab c.args.key _ used)
    c.args.links.link (c.self.invariant.linked c.args.key used))

pub returns-clause-size : goal.returns-clause-size
returns-clause-size c =
    let links = c.self.inside.links.items in
    let link = c.args.links.link in
    rw (← c.self.view_is) (size_written c.self.inside.slab links (set links c.args.key link) c.self.inside.cold.items
    (length-set links c.args.key link) c.args.key (record c.index_mut.result.now { list = c.args.links.list })
    (stored_key _ _ _ _ c.self.view_is c.args.key c.requires))
