-- Sets that operations on sets make, and sets of grown diagrams.
use Rattle.std.proofs.Common.{◌≡◌, ◌∙◌, ◌&&◌, ◌||◌, not, ℕ, Bool, ap, refl, Result, IfOk}
use Rattle.std.proofs.lemmas.Result.{IfOk-weaker}
use Rattle.packet_sets.specs.declared.fault.SetError.{SetError}
use Rattle.packet_sets.specs.declared.packet_set.PacketSet.{PacketSet}
use Rattle.packet_sets.specs.Sets.{DiagramsView, Keeps, Means, holds}

pub keeps_same : (d : DiagramsView) → Keeps d d
keeps_same d = record { limit = refl; sets = λ set h. h; same = λ set f h. refl }

pub keeps_trans : (a b c : DiagramsView) → Keeps a b → Keeps b c → Keeps a c
keeps_trans a b c ab bc = record {
  limit = bc.limit ∙ ab.limit;
  sets = λ set h. bc.sets set (ab.sets set h);
  same = λ set f h. bc.same set f (ab.sets set h) ∙ ab.same set f h;
}

pub means_kept : (a b : DiagramsView) (set : PacketSet) (p : (ℕ → Bool) → Bool) → Keeps a b → Means a set p → Means b set p
means_kept a b set p k is = record { is_set = k.sets set is.is_set; same = λ f. k.same set f is.is_set ∙ is.same f }

pub means_as : (d : DiagramsView) (set : PacketSet) (p q : (ℕ → Bool) → Bool) → Means d set p → ((f : ℕ → Bool) → p f ≡ q f) → Means d set q
means_as d set p q is e = record { is_set = is.is_set; same = λ f. is.same f ∙ e f }

pub and_means : (b new : DiagramsView) (left right set : PacketSet) (p q : (ℕ → Bool) → Bool) → Means b left p → Means b right q
    → Means new set (λ f. holds b left f && holds b right f) → Means new set (λ f. p f && q f)
and_means b new left right set p q hl hr is = record {
  is_set = is.is_set;
  same = λ f. is.same f ∙ ap (λ x. x && holds b right f) (hl.same f) ∙ ap (λ x. p f && x) (hr.same f);
}

pub or_means : (b new : DiagramsView) (left right set : PacketSet) (p q : (ℕ → Bool) → Bool) → Means b left p → Means b right q
    → Means new set (λ f. holds b left f || holds b right f) → Means new set (λ f. p f || q f)
or_means b new left right set p q hl hr is = record {
  is_set = is.is_set;
  same = λ f. is.same f ∙ ap (λ x. x || holds b right f) (hl.same f) ∙ ap (λ x. p f || x) (hr.same f);
}

pub without_means : (b new : DiagramsView) (left right set : PacketSet) (p q : (ℕ → Bool) → Bool) → Means b left p → Means b right q
    → Means new set (λ f. holds b left f && not (holds b right f)) → Means new set (λ f. p f && not (q f))
without_means b new left right set p q hl hr is = record {
  is_set = is.is_set;
  same = λ f. is.same f ∙ ap (λ x. x && not (holds b right f)) (hl.same f) ∙ ap (λ x. p f && not x) (hr.same f);
}

-- ---- the same of a call that may fail

pub and_ok : (b new : DiagramsView) (left right : PacketSet) (p q : (ℕ → Bool) → Bool) (r : Result PacketSet SetError) → Means b left p → Means b right q
    → IfOk r (λ set. Means new set (λ f. holds b left f && holds b right f)) → IfOk r (λ set. Means new set (λ f. p f && q f))
and_ok b new left right p q r hl hr is = IfOk-weaker r _ _ (λ set h. and_means b new left right set p q hl hr h) is

pub or_ok : (b new : DiagramsView) (left right : PacketSet) (p q : (ℕ → Bool) → Bool) (r : Result PacketSet SetError) → Means b left p → Means b right q
    → IfOk r (λ set. Means new set (λ f. holds b left f || holds b right f)) → IfOk r (λ set. Means new set (λ f. p f || q f))
or_ok b new left right p q r hl hr is = IfOk-weaker r _ _ (λ set h. or_means b new left right set p q hl hr h) is

pub without_ok : (b new : DiagramsView) (left right : PacketSet) (p q : (ℕ → Bool) → Bool) (r : Result PacketSet SetError) → Means b left p
    → Means b right q → IfOk r (λ set. Means new set (λ f. holds b left f && not (holds b right f))) → IfOk r (λ set. Means new set (λ f. p f && not (q f)))
without_ok b new left right p q r hl hr is = IfOk-weaker r _ _ (λ set h. without_means b new left right set p q hl hr h) is

pub ok_as : (new : DiagramsView) (p q : (ℕ → Bool) → Bool) (r : Result PacketSet SetError) → ((f : ℕ → Bool) → p f ≡ q f)
    → IfOk r (λ set. Means new set p) → IfOk r (λ set. Means new set q)
ok_as new p q r e is = IfOk-weaker r _ _ (λ set h. means_as new set p q h e) is

-- after two calls, and after three
pub keeps_twice : (a b c d : DiagramsView) → Keeps a b → Keeps b c → Keeps c d → Keeps a d
keeps_twice a b c d ab bc cd = keeps_trans a c d (keeps_trans a b c ab bc) cd

pub keeps_thrice : (a b c d e : DiagramsView) → Keeps a b → Keeps b c → Keeps c d → Keeps d e → Keeps a e
keeps_thrice a b c d e ab bc cd de = keeps_trans a d e (keeps_twice a b c d ab bc cd) de
