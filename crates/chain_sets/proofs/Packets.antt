-- Cases that each have a packet.
use Rattle.std.proofs.Common.{◌≡◌, ◌∙◌, ◌&&◌, ◌||◌, ◌++◌, ℕ, zero, suc, List, [], ◌∷◌, Bool, true, false, Contains, refl}
use Rattle.std.proofs.Common.{ap, ap₂, sym, subst, inl, inr}
use Rattle.std.proofs.Math.ListN.{set}
use Rattle.list_laws.specs.Decisions.{Contains-cases, Contains-none}
use Rattle.packet_sets.specs.declared.packet_set.PacketSet.{PacketSet}
use Rattle.packet_sets.specs.Sets.{DiagramsView, Keeps, Means, holds}
use Rattle.fact_sets.specs.declared.cases.Case.{Case}
use Rattle.fact_sets.specs.Cases.{AreCases}
use Rattle.chain_sets.specs.steps.Merging.{HavePackets, some_outcome}
use Rattle.chain_sets.proofs.Cases.{some-first}

or-true : (a : Bool) → (a || true) ≡ true
or-true true = refl
or-true false = refl

module _ {V : Type 0} where
  pub packets-kept : (a b : DiagramsView) (cs : List (Case V)) → Keeps a b → AreCases a cs → HavePackets a cs → HavePackets b cs
  packets-kept a b [] k are have = tt
  packets-kept a b (c ∷ cs) k are have =
      ((have.0.0, k.same c.set have.0.0 are.0 ∙ have.0.1), packets-kept a b cs k are.1 have.1)

  -- one more case
  pub packets-more : (d : DiagramsView) (cs after : List (Case V)) (c : Case V) (f : ℕ → Bool) → holds d c.set f ≡ true → after ≡ cs ++ c ∷ []
      → HavePackets d cs → HavePackets d after
  packets-more d cs after c f in_c items have = subst (HavePackets d) (sym items) (at_end cs have)
    where
      at_end : (l : List (Case V)) → HavePackets d l → HavePackets d (l ++ c ∷ [])
      at_end [] have = ((f, in_c), tt)
      at_end (x ∷ xs) have = (have.0, at_end xs have.1)

  -- a case has more packets
  packets-put : (d : DiagramsView) (cs : List (Case V)) (i : ℕ) (c : Case V) (f : ℕ → Bool) → holds d c.set f ≡ true → HavePackets d cs
      → HavePackets d (set cs i c)
  packets-put d [] i c f in_c have = tt
  packets-put d (x ∷ xs) zero c f in_c have = ((f, in_c), have.1)
  packets-put d (x ∷ xs) (suc i) c f in_c have = (have.0, packets-put d xs i c f in_c have.1)

  pub packets-to : (a b : DiagramsView) (cs after : List (Case V)) (i : ℕ) (x : Case V) (s : PacketSet) (c : Case V) (f : ℕ → Bool)
      → Keeps a b → AreCases a cs → holds a s f ≡ true → Means b c.set (λ g. holds a x.set g || holds a s g) → after ≡ set cs i c
      → HavePackets a cs → HavePackets b after
  packets-to a b cs after i x s c f k are in_s means items have =
      subst (HavePackets b) (sym items) (packets-put b cs i c f
      (means.same f ∙ ap (λ h. holds a x.set f || h) in_s ∙ or-true (holds a x.set f)) (packets-kept a b cs k are have))

  -- ---- one of the cases

  pub packet-of : (d : DiagramsView) (cs : List (Case V)) (c : Case V) → HavePackets d cs → Contains cs c
      → (f : ℕ → Bool) × (holds d c.set f ≡ true)
  packet-of d [] c have among = absurd (Contains-none c among)
  packet-of d (x ∷ xs) c have among =
      elim (Contains-cases x c xs among) [
        | inl same ↦ (have.0.0, ap (λ y. holds d y.set have.0.0) (sym same) ∙ have.0.1)
        | inr later ↦ packet-of d xs c have.1 later
      ]

  pub some-among : (d : DiagramsView) (cs : List (Case V)) (c : Case V) (f : ℕ → Bool) (test : V → Bool) → Contains cs c
      → holds d c.set f ≡ true → test c.outcome ≡ true → some_outcome d cs f test ≡ true
  some-among d [] c f test among in_c passes = absurd (Contains-none c among)
  some-among d (x ∷ xs) c f test among in_c passes =
      elim (Contains-cases x c xs among) [
        | inl same ↦ some-first d x xs f test
            ∙ ap (λ y. (holds d y.set f && test y.outcome) || some_outcome d xs f test) same
            ∙ ap₂ (λ h t. (h && t) || some_outcome d xs f test) in_c passes
        | inr later ↦ some-first d x xs f test
            ∙ ap (λ b. (holds d x.set f && test x.outcome) || b) (some-among d xs c f test later in_c passes)
            ∙ or-true (holds d x.set f && test x.outcome)
      ]
