-- What operations on nodes make of sets.
use Rattle.std.proofs.Common.{◌≡◌, ◌∙◌, ◌-◌, ◌^◌, ◌&&◌, not, ℕ, ◌<◌, List, length, Bool, true, false, cond, min, refl, ap, arith, inl, inr}
use Rattle.std.proofs.lemmas.Bool.{cases_lt}
use Rattle.packet_sets.specs.declared.branch.Branch.{Branch}
use Rattle.packet_sets.specs.declared.fields.Comparison.{Comparison}
use Rattle.packet_sets.specs.declared.fields.Field.{Field}
use Rattle.packet_sets.specs.declared.operation.Operation.{Operation}
use Rattle.packet_sets.specs.declared.packet_set.PacketSet.{PacketSet}
use Rattle.packet_sets.specs.Sets.{DiagramsView, IsSet, Keeps, Means, field_value, holds, meaning}
use Rattle.packet_sets.specs.steps.Comparisons.{IsComparison, compared}
use Rattle.packet_sets.specs.steps.Nodes.{AreNodes, Grows, IsJoined, IsPart, bit_of}
use Rattle.packet_sets.specs.steps.Operations.{IsResult, IsStep, combined}
use Rattle.packet_sets.proofs.Walks.{meaning_all, meaning_none}
use Rattle.packet_sets.proofs.Results.{result_after}

pub none_means : (d : DiagramsView) → AreNodes d.nodes → Means d (record { node = 0 }) (λ packet. false)
none_means d are = let two = are.ends in record { is_set = omega arith; same = λ f. meaning_none d.nodes f }

pub all_means : (d : DiagramsView) → AreNodes d.nodes → Means d (record { node = 1 }) (λ packet. true)
all_means d are = let two = are.ends in record { is_set = omega arith; same = λ f. meaning_all d.nodes f are }

pub grows_keeps : (old new : DiagramsView) → Grows old new → Keeps old new
grows_keeps old new g = let l = g.longer in record {
  limit = g.limit;
  sets = λ set h. omega (arith, l, h);
  same = λ set f h. g.same set.node f h;
}

pub result_means : (old new : DiagramsView) (operation : Operation) (left right : PacketSet) (n : ℕ) → Grows old new → IsSet old left → IsSet old right
    → IsResult new.nodes operation left.node right.node n → Means new (record { node = n }) (λ packet. combined operation (holds old left packet) (holds
    old right packet))
result_means old new operation left right n g hl hr is = record {
  is_set = is.below;
  same = λ f. is.meaning f ∙ ap (λ x. combined operation x (meaning new.nodes right.node f)) (g.same left.node f hl)
      ∙ ap (λ x. combined operation (meaning old.nodes left.node f) x) (g.same right.node f hr);
}

pub not_means : (old new : DiagramsView) (other set : PacketSet) → Means old (record { node = 1 }) (λ packet. true)
    → Means new other (λ packet. holds old (record { node = 1 }) packet && not (holds old set packet)) → Means new other (λ packet. not (holds old set packet))
not_means old new other set all is = record {
  is_set = is.is_set;
  same = λ f. is.same f ∙ ap (λ v. v && not (holds old set f)) (all.same f);
}

pub made_step : (nodes : List Branch) (l r bl br bit : ℕ) (pl pr : Branch) → bl ≡ bit_of nodes l → br ≡ bit_of nodes r → bit ≡ min bl br → bit < 2 ^ 32 - 1
    → IsPart nodes l bit pl → IsPart nodes r bit pr → IsStep nodes l r (record { bit = bit; left = pl; right = pr })
made_step nodes l r bl br bit pl pr el er em early hl hr =
    let ll = hl.low_most in
    let lh = hl.high_most in
    let rl = hr.low_most in
    let rh = hr.high_most in
    elim (cases_lt bl br) [
      | inl h ↦
          let own : bit_of nodes l ≡ bit = omega arith in
          let a = hl.low_less own in
          let b = hl.high_less own in
          record { bit = early; least = λ x p q. omega arith; left_part = hl; right_part = hr; low_less = omega arith; high_less = omega arith }
      | inr h ↦
          let own : bit_of nodes r ≡ bit = omega arith in
          let a = hr.low_less own in
          let b = hr.high_less own in
          record { bit = early; least = λ x p q. omega arith; left_part = hl; right_part = hr; low_less = omega arith; high_less = omega arith }
    ]

-- the bit of a result, where there are more nodes
pub later : (d a b : DiagramsView) (operation : Operation) (bit l r n : ℕ) → Grows d a → Grows a b → l < length d.nodes → r < length d.nodes
    → bit < bit_of d.nodes l → bit < bit_of d.nodes r
    → IsResult a.nodes operation l r n → bit < bit_of b.nodes n
later d a b operation bit l r n da ab hl hr bl br is =
    let e = ab.bits n is.below in
    let m = result_after d a operation bit l r n da hl hr bl br is in omega (arith, e, m)

pub bit_means : (old new : DiagramsView) (bit n : ℕ) → AreNodes old.nodes → Grows old new → IsJoined new.nodes bit 0 1 n
    → Means new (record { node = n }) (λ packet. packet bit)
bit_means old new bit n are g is =
    let two = are.ends in
    record {
      is_set = is.below;
      same = λ f.
          is.meaning f ∙ ap (λ x. cond (f bit) x (meaning new.nodes 0 f)) (g.same 1 f (omega arith) ∙ meaning_all old.nodes f are)
          ∙ ap (λ x. cond (f bit) true x) (meaning_none new.nodes f) ∙ elim (f bit) as (λ v. cond v true false ≡ v) [ true ↦ refl | false ↦ refl ];
    }

pub comparison_means : (d : DiagramsView) (comparison : Comparison) (field : Field) (number n : ℕ) → IsComparison d.nodes comparison field number n
    → Means d (record { node = n }) (λ packet. compared comparison (field_value field.first field.width packet) number)
comparison_means d comparison field number n is = record { is_set = is.below; same = is.meaning }

pub within_means : (a b new : DiagramsView) (least most set : PacketSet) (p q : (ℕ → Bool) → Bool) → Keeps a b → Means a least p → Means b most q
    → Means new set (λ packet. holds b least packet && holds b most packet) → Means new set (λ packet. p packet && q packet)
within_means a b new least most set p q k hl hm is = record {
  is_set = is.is_set;
  same = λ f. is.same f ∙ ap (λ x. x && holds b most f) (k.same least f hl.is_set ∙ hl.same f) ∙ ap (λ x. p f && x) (hm.same f);
}

pub keeps_trans : (a b c : DiagramsView) → Keeps a b → Keeps b c → Keeps a c
keeps_trans a b c ab bc = record {
  limit = bc.limit ∙ ab.limit;
  sets = λ set h. bc.sets set (ab.sets set h);
  same = λ set f h. bc.same set f (ab.sets set h) ∙ ab.same set f h;
}

pub ruleset set_rules = (grows_keeps, comparison_means, within_means, keeps_trans)
