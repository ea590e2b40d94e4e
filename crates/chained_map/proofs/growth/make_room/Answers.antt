use Rattle.std.proofs.Common.{◌≡◌, ◌+◌, ◌≤◌, length, refl, sym, ap, subst, ◌∙◌, arith}
use Rattle.std.proofs.lemmas.List.{length-replicate}
use Rattle.std.proofs.lemmas.Result.{IfOk-from_err}
use Rattle.chained_map.specs.steps.Nodes.{entries_of, hashes_of}
use Rattle.chained_map.proofs.NodeLaws.{given_back}
use Rattle.chained_map.proofs.GrowthLaws.{all_empty, still_has_room, has_more_room}
use Rattle.chained_map.proofs.growth.make_room.Goals as goal

pub returns-in_err-count : goal.returns-in_err-count
returns-in_err-count g c = record {
  kept = still_has_room _ _ _ _ _ refl (omega arith) c.requires.chained c.requires.few.1 c.requires.reserved;
  room = IfOk-from_err c.from_residual.result _ c.from_residual.ensures.0;
}

pub returns-in_err-reserve_exact : goal.returns-in_err-reserve_exact
returns-in_err-reserve_exact g c = record {
  kept = still_has_room _ _ _ _ _ c.reserve_exact.ensures.items c.reserve_exact.ensures.capacity
      c.requires.chained c.requires.few.1 c.requires.reserved;
  room = IfOk-from_err c.from_residual-in_err-reserve_exact.result _ c.from_residual-in_err-reserve_exact.ensures.0;
}

pub returns-in_err-heads : goal.returns-in_err-heads
returns-in_err-heads g c = record {
  kept = still_has_room _ _ _ _ _ c.reserve_exact.ensures.items c.reserve_exact.ensures.capacity
      c.requires.chained c.requires.few.1 c.requires.reserved;
  room = IfOk-from_err c.from_residual-in_err-heads.result _ c.from_residual-in_err-heads.ensures.0;
}

pub link_all-requires : goal.link_all-requires
link_all-requires g c =
    let count = c.in_ok-count.count in
    let is = c.deref_mut.ensures.value ∙ c.in_ok-heads.ensures in
    let long = ap length is ∙ length-replicate count 0 in
    let as_many = ap length (c.deref_mut-2.ensures.value ∙ c.reserve_exact.ensures.items) in
    record {
      empty = all_empty c.deref_mut.result.now count is;
      few = (
        omega (arith, long, as_many, c.requires.few.0, c.in_ok-count.ensures.more),
        omega (arith, long, c.in_ok-count.ensures.few),
      );
    }

pub returns : goal.returns
returns g c =
    let count = c.in_ok-count.count in
    let fresh = c.in_ok-heads.field-0 in
    let reserved = c.reserve_exact.new.self in
    let heads = c.link_all.new.heads in
    let nodes = c.link_all.new.nodes in
    let same = c.deref_mut-2.ensures.value ∙ c.reserve_exact.ensures.items in
    let long : length heads ≡ count
    = c.link_all.ensures.long ∙ ap length (c.deref_mut.ensures.value ∙ c.in_ok-heads.ensures)
    ∙ length-replicate count 0 in
    let as_many = c.link_all.auto.nodes ∙ ap length same in
    let heads_back = given_back fresh.len fresh.items heads
    (sym (c.link_all.ensures.long ∙ c.deref_mut.ensures.len)) in
    let nodes_back = given_back reserved.len reserved.items nodes
    (sym (c.link_all.auto.nodes ∙ c.deref_mut-2.ensures.len)) in
    record {
      kept = has_more_room _ heads _ _ nodes _ count _ heads_back nodes_back c.link_all.ensures.chained
          (c.link_all.ensures.hashes ∙ ap hashes_of same) (c.link_all.ensures.entries ∙ ap entries_of same) as_many
          long (omega (arith, c.in_ok-count.ensures.more)) c.in_ok-count.ensures.few
          (omega (arith, c.in_ok-reserve_exact.ensures.ok));
      room = subst (λ hs. length c.args.nodes.now.items + c.args.additional ≤ length hs) (sym heads_back)
          (omega (arith, long, c.in_ok-count.ensures.room));
    }
