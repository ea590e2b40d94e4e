-- Each step preserves the search's invariant.
use Rattle.chain_graph.proofs.Names.{Contains, HasEdge, List, New, [], ap, arith, cases_lt, get_or, get_or_default, inl, inr, length, length-set, length_push}
use Rattle.chain_graph.proofs.Names.{refl, subst, suc, sym, take, zero, ℕ, ◌++◌, ◌+◌, ◌-◌, ◌<◌, ◌↔◌, ◌∙◌, ◌∷◌, ◌≡◌, ◌≢◌}
use Rattle.std.proofs.Common.{get_or-set_other, get_or-set_same, set}
use Rattle.std.proofs.lemmas.Bool.{cases_eq}
use Rattle.std.proofs.lemmas.List.{get_or_past, get_or_push, take_more}
use Rattle.std.proofs.lemmas.List.Elements.{Contains-append_left, Contains-push, Contains-push_cases}
use Rattle.chain_graph.specs.declared.search.Mark.{Mark}
use Rattle.chain_graph.specs.declared.search.Mark.TheVariants.{Done, Open}
use Rattle.chain_graph.specs.steps.Search.{AreMarked, EachAfter, Follows, HasLeft, HasTargetsIn, IsSound, KeepsVisited}
use Rattle.chain_graph.specs.steps.Targets.{HasTargetCycle, IsTargetPath}
use Rattle.chain_graph.proofs.EachLaws.{each-front, each-last, each-push}

-- what holds of each entry still does after one is set
set-each : {X : Type 0} (P : ℕ → X → Type 0) (xs : List X) (c : ℕ) (v e : X) → c < length xs → P c v
    → ((d : ℕ) → d ≢ c → P d (get_or xs d e)) → (d : ℕ) → P d (get_or (set xs c v) d e)
set-each P xs c v e at here others d = grind (arith, cases_eq, get_or, get_or-set_same, get_or-set_other)

pub keeps_visited : (marks : List Mark) (c : ℕ) (m : Mark) → c < length marks → m ≢ New → KeepsVisited marks (set marks c m)
keeps_visited marks c m at ne =
    record { keeps = set-each (λ d n. get_or marks d New ≢ New → n ≢ New) marks c m New at (λ _. ne) (λ d _ visited. visited) }

-- a node with a mark is in range
pub marked_below : (marks : List Mark) (c : ℕ) → get_or marks c New ≢ New → c < length marks
marked_below marks c ne = elim (cases_lt c (length marks)) [ inl h ↦ h | inr h ↦ absurd (ne (get_or_past marks c New h)) ]

module _ (marks : List Mark) (c : ℕ) (m : Mark) (at : c < length marks) where
  pub marked-push : (xs : List ℕ) → AreMarked marks m xs → AreMarked (set marks c m) m (xs ++ c ∷ [])
  marked-push xs s = set-each (λ d n. Contains (xs ++ c ∷ []) d ↔ (n ≡ m)) marks c m New at (λ _. refl, λ _. Contains-push xs c)
      (λ d ne. (
        λ h. (s d).0 (elim (Contains-push_cases xs c d h) [ inl r ↦ r | inr r ↦ absurd (ne (sym r)) ]),
        λ e. Contains-append_left xs (c ∷ []) d ((s d).1 e),
      ))

  pub marked-others : (n : Mark) (xs : List ℕ) → n ≢ m → (Contains xs c → ⊥)
      → ((d : ℕ) → d ≢ c → Contains xs d ↔ (get_or marks d New ≡ n)) → AreMarked (set marks c m) n xs
  marked-others n xs ne out s =
      set-each (λ d k. Contains xs d ↔ (k ≡ n)) marks c m New at (λ h. absurd (out h), λ e. absurd (ne (sym e))) s

-- a node on the path is in range
pub path_below : {g : List (List ℕ)} {marks : List Mark} {left path order : List ℕ} {c : ℕ} → IsSound g marks left path order
    → Contains path c → c < length g
path_below {marks = marks} {c = c} s at =
    let is_open : get_or marks c New ≡ Open = (s.opened c).0 at in
    let below = marked_below marks c (λ e. let q : Open ≡ New = sym is_open ∙ e in cc) in
    let long = s.marks_long in
    omega arith

abbrev IsNew : List ℕ → ℕ → Type 0
IsNew before x = Contains before x → ⊥

module _ (g : List (List ℕ)) (marks : List Mark) (left rest order : List ℕ) (c : ℕ) where
  -- the path's last node has no target left
  pub finished : IsSound g marks left (rest ++ c ∷ []) order → get_or left c 0 ≡ 0 → IsSound g (set marks c Done) left rest (order ++ c ∷ [])
  finished s none =
      let is_open : get_or marks c New ≡ Open = (s.opened c).0 (Contains-push rest c) in
      let at = marked_below marks c (λ e. let q : Open ≡ New = sym is_open ∙ e in cc) in
      record {
        marks_long = length-set marks c Done ∙ s.marks_long;
        left_long = s.left_long;
        scanned = λ d. ((s.scanned d).0, λ k h l. Contains-append_left order (c ∷ []) (get_or (get_or g d []) k 0) ((s.scanned d).1 k h l));
        done = marked-push marks c Done at order s.done;
        opened = marked-others marks c Done at Open rest (λ e. (cc)) (each-last IsNew rest c s.path_once)
            (λ d ne. (
              λ h. (s.opened d).0 (Contains-append_left rest (c ∷ []) d h),
              λ e. elim (Contains-push_cases rest c d ((s.opened d).1 e)) [ inl r ↦ r | inr r ↦ absurd (ne (sym r)) ],
            ));
        order_once = each-push IsNew order c s.order_once (λ h. let q : Done ≡ Open = sym ((s.done c).0 h) ∙ is_open in cc);
        path_once = each-front IsNew rest c s.path_once;
        chained = each-front (Follows g) rest c s.chained;
        after = each-push (HasTargetsIn g) order c s.after
            (λ t e. subst (Contains order) (get_or_default (get_or g c []) e.0 0 t e.1 ∙ e.2) ((s.scanned c).1 e.0 (omega arith) e.1));
      }

  -- the target looked at is done
  pub scanned_on : (k : ℕ) → IsSound g marks left (rest ++ c ∷ []) order → c < length left → get_or left c 0 ≡ k + 1
      → get_or marks (get_or (get_or g c []) k 0) New ≡ Done → IsSound g marks (set left c k) (rest ++ c ∷ []) order
  scanned_on k s at here is =
      let least = (s.scanned c).0 in
      record {
        marks_long = s.marks_long;
        left_long = length-set left c k ∙ s.left_long;
        scanned = set-each (HasLeft g order) left c k 0 at (
          omega arith,
          λ j h l. elim (cases_eq j k) [
            | inl e ↦ subst (λ x. Contains order (get_or (get_or g c []) x 0)) (sym e) ((s.done (get_or (get_or g c []) k 0)).1 is)
            | inr ne ↦ (s.scanned c).1 j (omega arith) l
          ],
        ) (λ d ne. s.scanned d);
        done = s.done;
        opened = s.opened;
        order_once = s.order_once;
        path_once = s.path_once;
        chained = s.chained;
        after = s.after;
      }

-- a new node at the end of the path
pub entered : (g : List (List ℕ)) (marks : List Mark) (left path order : List ℕ) (t : ℕ) → IsSound g marks left path order
    → get_or marks t New ≡ New → t < length g → Follows g path t → IsSound g (set marks t Open) left (path ++ t ∷ []) order
entered g marks left path order t s new here last =
    let long = s.marks_long in
    let at : t < length marks = omega arith in
    record {
      marks_long = length-set marks t Open ∙ s.marks_long;
      left_long = s.left_long;
      scanned = s.scanned;
      done = marked-others marks t Open at Done order (λ e. (cc))
          (λ h. let q : New ≡ Done = sym new ∙ (s.done t).0 h in cc) (λ d ne. s.done d);
      opened = marked-push marks t Open at path s.opened;
      order_once = s.order_once;
      path_once = each-push IsNew path t s.path_once (λ h. let q : New ≡ Open = sym new ∙ (s.opened t).0 h in cc);
      chained = each-push (Follows g) path t s.chained last;
      after = s.after;
    }

pub IsTargetPath-more : (g : List (List ℕ)) (a : ℕ) (cs : List ℕ) (b c : ℕ) → IsTargetPath g a cs b → HasEdge g b c → IsTargetPath g a (cs ++ c ∷ []) c
IsTargetPath-more g a [] b c p e = (subst (λ x. HasEdge g x c) (sym p) e, refl)
IsTargetPath-more g a (d ∷ cs) b c p e = (p.0, IsTargetPath-more g d cs b c p.1 e)

-- along the path from index j on
pub along : (g : List (List ℕ)) (path : List ℕ) → EachAfter (Follows g) path → (j m : ℕ) → j + m < length path
    → (cs : List ℕ) × IsTargetPath g (get_or path j 0) cs (get_or path (j + m) 0)
along g path chained j zero h = ([], ap (λ k. get_or path k 0) (let e : j ≡ j + 0 = omega arith in e))
along g path chained j (suc m) h =
    let before = along g path chained j m (omega arith) in
    let e : j + suc m ≡ j + m + 1 = omega arith in
    let edge = chained (j + suc m) h (take (j + m) path) (get_or path (j + m) 0)
    (ap (λ k. take k path) e ∙ take_more path (j + m) 0 (omega arith)) in
    let end : ℕ = get_or path (j + suc m) 0 in
    (before.0 ++ end ∷ [], IsTargetPath-more g (get_or path j 0) before.0 (get_or path (j + m) 0) end before.1 edge)

-- a path that ends with an edge isn't empty
pub closed : (g : List (List ℕ)) (a : ℕ) (cs : List ℕ) (b : ℕ) → IsTargetPath g a cs b → HasEdge g b a → HasTargetCycle g
closed g a [] b p e = record { node = a; first = a; rest = []; path = (subst (λ x. HasEdge g x a) (sym p) e, refl) }
closed g a (c ∷ cs) b p e = record { node = a; first = c; rest = cs ++ a ∷ []; path = (p.0, IsTargetPath-more g c cs b a p.1 e) }

-- the last node has an edge to one on the path
pub visited_again : (g : List (List ℕ)) (marks : List Mark) (left rest order : List ℕ) (c t : ℕ)
    → IsSound g marks left (rest ++ c ∷ []) order → HasEdge g c t → get_or marks t New ≡ Open → HasTargetCycle g
visited_again g marks left rest order c t s e is =
    let found = (s.opened t).1 is in
    let n = length_push rest c in
    let inside = found.1 in
    let start : get_or (rest ++ c ∷ []) found.0 0 ≡ t = get_or_default (rest ++ c ∷ []) found.0 0 t found.1 ∙ found.2 in
    let path = along g (rest ++ c ∷ []) s.chained found.0 (length rest - found.0) (omega arith) in
    let same : length rest ≡ found.0 + (length rest - found.0) = omega arith in
    let end : get_or (rest ++ c ∷ []) (found.0 + (length rest - found.0)) 0 ≡ c = get_or_push rest c 0 (found.0 + (length rest - found.0)) same in
    closed g t path.0 c (subst (λ x. IsTargetPath g x path.0 c) start (subst (IsTargetPath g (get_or (rest ++ c ∷ []) found.0 0) path.0) end path.1)) e
