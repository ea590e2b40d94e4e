use Rattle.std.proofs.Common.{◌≡◌, ◌+◌, ◌<◌, ◌≤◌, length, get_or, sym, ap, subst, ◌∙◌, arith}
use Rattle.std.specs.Prelude.{slice_get}
use Rattle.std.specs.Map.{values_of}
use Rattle.chained_map.specs.steps.Chains.{IsChained}
use Rattle.chained_map.specs.steps.Nodes.{entries_of, hashes_of}
use Rattle.chained_map.proofs.NodeLaws.{moves, value_at, removed_of, given_back}
use Rattle.chained_map.proofs.chains.remove_node.Goals as goal

pub unlink_both-requires : goal.unlink_both-requires
unlink_both-requires g c =
    let is = sym c.deref_mut.ensures.value in
    record {
      chained = subst (IsChained c.args.heads.now) is c.requires.chained;
      index = subst (λ ns. c.args.index < length ns) is c.requires.index;
      few = (subst (λ ns. length ns ≤ length c.args.heads.now) is c.requires.few.0, c.requires.few.1);
    }

pub relink-requires : goal.relink-requires
relink-requires g c =
    let old = c.args.nodes.now in
    let kept = c.unlink_both.new.nodes in
    let moved = c.swap_remove-removed.new.self in
    let long : old.len ≡ length kept = sym (c.unlink_both.auto.nodes ∙ c.deref_mut.ensures.len) in
    let shorter : length moved.items + 1 ≡ old.len = omega (arith, c.swap_remove-removed.ensures.len, moved.ok.0) in
    let given = c.deref_mut-2.ensures.value in
    let as_many = ap length given in
    record {
      chained = moves c.unlink_both.new.heads kept _ moved.items c.deref_mut-2.result.now
          c.swap_remove-removed.result c.args.index old.len
          (given_back old.len old.items kept long) long shorter c.swap_remove-removed.ensures.by_index.1 given
          c.unlink_both.ensures.chained;
      index = omega (arith, as_many, shorter);
      few = (
        omega (arith, as_many, shorter, c.unlink_both.ensures.long.0),
        omega (arith, c.unlink_both.ensures.long.0),
      );
    }

pub returns : goal.returns
returns g c =
    let old = c.args.nodes.now in
    let kept = c.unlink_both.new.nodes in
    let moved = c.swap_remove-removed.new.self in
    let again = c.relink.new.nodes in
    let x = c.swap_remove-removed.result in
    let i = c.args.index in
    let long : old.len ≡ length kept = sym (c.unlink_both.auto.nodes ∙ c.deref_mut.ensures.len) in
    let within : i < length kept = omega (arith, long, old.ok.0) in
    let lent = given_back old.len old.items kept long in
    let final = given_back moved.len moved.items again (sym (c.relink.auto.nodes ∙ c.deref_mut-2.ensures.len)) in
    let entries = c.unlink_both.ensures.entries ∙ ap entries_of c.deref_mut.ensures.value in
    record {
      chained = subst (IsChained c.relink.new.heads) (sym final) c.relink.ensures.chained;
      long = c.relink.ensures.long.0 ∙ c.unlink_both.ensures.long.0;
      hashes = removed_of (λ n. n.hash) 0 old.items kept _ moved.items again _ i x within
          (c.unlink_both.ensures.hashes ∙ ap hashes_of c.deref_mut.ensures.value) lent
          c.swap_remove-removed.ensures.items
          (c.relink.ensures.hashes ∙ ap hashes_of c.deref_mut-2.ensures.value) final;
      entries = λ entry. removed_of (λ n. (n.key, n.value)) entry old.items kept _ moved.items again _ i x within
          entries lent c.swap_remove-removed.ensures.items
          (c.relink.ensures.entries ∙ ap entries_of c.deref_mut-2.ensures.value) final;
      one_fewer = subst (λ ns. length ns + 1 ≡ length old.items) (sym final)
          (omega (arith, c.relink.auto.nodes, c.deref_mut-2.ensures.len, c.swap_remove-removed.ensures.len, old.ok.0));
      value = ap (λ es. slice_get (values_of es) i) (sym entries)
          ∙ value_at kept i x within (subst (λ ns. x ≡ get_or ns i x) lent c.swap_remove-removed.ensures.value);
      capacity = c.swap_remove-removed.ensures.capacity;
    }
