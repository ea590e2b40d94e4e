-- A node that was read, as a set by its bit.
use Rattle.std.proofs.Common.{◌≡◌, ◌≤◌, ap, arith, refl, subst, sym}
use Rattle.packet_sets.specs.declared.branch.Branch.{Branch}
use Rattle.packet_sets.specs.declared.packet_set.PacketSet.{PacketSet}
use Rattle.packet_sets.specs.Sets.{DiagramsView, IsSet, IsSplit, branch_at}
use Rattle.packet_sets.specs.steps.Nodes.{AreNodes}
use Rattle.packet_sets.proofs.Walks.{meaning_at}

pub split_read : (d : DiagramsView) (set : PacketSet) (b : Branch) → AreNodes d.nodes → 2 ≤ set.node → IsSet d set → b ≡ branch_at d.nodes set.node
    → IsSplit d set (record { bit = b.bit; low = record { node = b.low }; high = record { node = b.high } })
split_read d set b are two below read =
    let n = set.node in
    let i = are.branches n two below in
    let lb = i.low_before in
    let hb = i.high_before in
    let P : Branch → Type 0 = λ x. IsSplit d set (record { bit = x.bit; low = record { node = x.low }; high = record { node = x.high } }) in
    subst P (sym read) (record {
      bit = i.bit;
      low = omega arith;
      high = omega arith;
      differ = λ same. i.differ (ap (λ x. x.node) same);
      same = λ f. meaning_at d.nodes n _ _ _ f are below refl;
    })
