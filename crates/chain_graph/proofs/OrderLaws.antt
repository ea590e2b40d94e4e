-- The initial state of the search, and its result.
use Rattle.chain_graph.proofs.Names.{Contains, HasEdge, List, New, [], arith, cases_lt, get_or, get_or_default, inl, inr, length, map, refl, subst, suc, sym}
use Rattle.chain_graph.proofs.Names.{zero, ℕ, ⊎_elim, ◌<◌, ◌∙◌, ◌∷◌, ◌≡◌, ◌≢◌}
use Rattle.std.proofs.Common.{le_of_eq, replicate, ◌⊎◌}
use Rattle.std.proofs.lemmas.List.{get_or_past, length-map, length-replicate}
use Rattle.chain_graph.specs.declared.search.Mark.{Mark}
use Rattle.chain_graph.specs.declared.search.Mark.TheVariants.{Done, Open}
use Rattle.chain_graph.specs.Order.{IsTopologicalOrder}
use Rattle.chain_graph.specs.steps.Search.{IsSound}
use Rattle.chain_graph.specs.steps.Targets.{HasTargetCycle, IsTargetPath}
use Rattle.list_laws.specs.Elements.{none-in-empty, take-index}
use Rattle.std.proofs.Math.ListN.{get_or-map}
use Rattle.std.proofs.lemmas.List.Elements.{Contains-get_or}
use Rattle.chain_graph.proofs.StepLaws.{marked_below}

pub all-new : (n c : ℕ) → get_or (replicate n New) c New ≡ New
all-new zero c = refl
all-new (suc n) zero = refl
all-new (suc n) (suc c) = all-new n c

pub fresh : (g : List (List ℕ)) → IsSound g (replicate (length g) New) (map length g) [] []
fresh g = record {
  marks_long = length-replicate (length g) New;
  left_long = length-map g length;
  scanned = λ c. let n = get_or-map length g c [] in (le_of_eq n, λ k h j. absurd (omega arith));
  done = λ c. (λ h. absurd (none-in-empty c h), λ e. let q : New ≡ Done = sym (all-new (length g) c) ∙ e in cc);
  opened = λ c. (λ h. absurd (none-in-empty c h), λ e. let q : New ≡ Open = sym (all-new (length g) c) ∙ e in cc);
  order_once = λ i h. absurd (omega (arith, h));
  path_once = λ i h. absurd (omega (arith, h));
  chained = λ i h. absurd (omega (arith, h));
  after = λ i h. absurd (omega (arith, h));
}

pub mark-cases : (m : Mark) → (m ≡ New) ⊎ ((m ≡ Open) ⊎ (m ≡ Done))
mark-cases New = inl refl
mark-cases Open = inr (inl refl)
mark-cases Done = inr (inr refl)

pub all-done : (g : List (List ℕ)) (marks : List Mark) (left path order : List ℕ) → IsSound g marks left path order
    → path ≡ [] → ((c : ℕ) → c < length g → get_or marks c New ≢ New) → IsTopologicalOrder g order
all-done g marks left path order s none visited = record {
  below = λ k d h.
      let done : get_or marks (get_or order k d) New ≡ Done = (s.done (get_or order k d)).0 (Contains-get_or order k d h) in
      let l = marked_below marks (get_or order k d) (λ e. let q : Done ≡ New = sym done ∙ e in cc) in
      let long = s.marks_long in
      omega arith;
  all = λ c h. ⊎_elim (λ e. absurd (visited c h e))
      (λ r. ⊎_elim (λ e. absurd (none-in-empty c (subst (λ p. Contains p c) none ((s.opened c).1 e)))) (s.done c).1 r)
      (mark-cases (get_or marks c New));
  once = s.order_once;
  after = λ i t h e. s.after i h t e;
}

pub reaching-before : (g : List (List ℕ)) (order : List ℕ) → IsTopologicalOrder g order → (i c b : ℕ) (cs : List ℕ)
    → i < length order → IsTargetPath g (get_or order i 0) (c ∷ cs) b → (j : ℕ) × (j < i) × (get_or order j 0 ≡ b)
reaching-before g order o i c b [] h p = grind (arith, take-index, o.after, p.0, p.1)
reaching-before g order o i c b (d ∷ cs) h p =
    let at = take-index order i c (omega arith) (o.after i c h p.0) in
    let l = at.1 in
    let more = reaching-before g order o at.0 d b cs (omega arith) (subst (λ x. IsTargetPath g x (d ∷ cs) b) (sym at.2) p.1) in
    let m = more.1 in
    (more.0, omega arith, more.2)

pub never-back : (g : List (List ℕ)) (order : List ℕ) → IsTopologicalOrder g order → (a c : ℕ) (cs : List ℕ)
    → IsTargetPath g a (c ∷ cs) a → (n i : ℕ) → i < n → i < length order → get_or order i 0 ≡ a → ⊥
never-back g order o a c cs p zero i h l e = omega (arith, h)
never-back g order o a c cs p (suc n) i h l e =
    let at = reaching-before g order o i c a cs l (subst (λ x. IsTargetPath g x (c ∷ cs) a) (sym e) p) in
    let m = at.1 in
    never-back g order o a c cs p n at.0 (omega arith) (omega arith) at.2

pub edge-within : (g : List (List ℕ)) (a b : ℕ) → HasEdge g a b → a < length g
edge-within g a b e = ⊎_elim (λ h. h) (λ h. absurd (none-in-empty b (subst (λ xs. Contains xs b) (get_or_past g a [] h) e))) (cases_lt a (length g))

pub no-cycle : (g : List (List ℕ)) (order : List ℕ) → IsTopologicalOrder g order → HasTargetCycle g → ⊥
no-cycle g order o k =
    let at = o.all k.node (edge-within g k.node k.first k.path.0) in
    never-back g order o k.node k.first k.rest k.path (length order) at.0 at.1 at.1 (get_or_default order at.0 0 k.node at.1 ∙ at.2)
