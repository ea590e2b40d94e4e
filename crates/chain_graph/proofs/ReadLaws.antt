-- What a step of the search reads.
use Rattle.chain_graph.proofs.Names.{Contains, Global, HasEdge, List, New, Vec, [], ap, arith, get_or, length, length_push, refl, rows_of, subst, sym, take, ℕ}
use Rattle.chain_graph.proofs.Names.{◌++◌, ◌+◌, ◌-◌, ◌<◌, ◌∙◌, ◌∷◌, ◌≡◌}
use Rattle.std.proofs.lemmas.List.{get_or-map, get_or_push, get_or_read, length-map, take_at}
use Rattle.chain_graph.specs.declared.search.Mark.{Mark}
use Rattle.chain_graph.specs.steps.Search.{Follows, IsSound}
use Rattle.chain_graph.specs.steps.Targets.{TargetsInRange}
use Rattle.list_laws.specs.Elements.{Contains-at}

pub rows-long : (t : List (Vec ℕ Global)) → length (rows_of t) ≡ length t
rows-long t = length-map t (λ r. r.items)

-- the targets of a node, as the code reads them
row-of : (t : List (Vec ℕ Global)) (i : ℕ) (v : Vec ℕ Global) → i < length t → v ≡ get_or t i v → get_or (rows_of t) i [] ≡ v.items
row-of t i v h e = get_or-map (λ w. w.items) t i v [] h ∙ ap (λ w. w.items) (sym e)

pub record ReadsTarget (g : List (List ℕ)) (left : List ℕ) (c l x : ℕ) : Type 0 where
  pub left_is : get_or left c 0 ≡ l - 1 + 1
  pub edge : HasEdge g c x
  pub is : get_or (get_or g c []) (l - 1) 0 ≡ x
  pub within : x < length g

module _ (t : List (Vec ℕ Global)) {marks : List Mark} {left path order : List ℕ} {c l : ℕ}
    (s : IsSound (rows_of t) marks left path order) (below : c < length t) (left-is : l ≡ get_or left c l) where
  pub left-read : get_or left c 0 ≡ l
  left-read = let n = s.left_long in let m = rows-long t in sym (get_or_read left c l (omega arith) left-is 0)

  pub inside-row : {row : Vec ℕ Global} → (l ≡ 0 → ⊥) → row ≡ get_or t c row → l - 1 < length row.items
  inside-row {row = row} some row-is = grind (arith, row-of, left-read)

  pub reads_target : {x : ℕ} {row : Vec ℕ Global} → (l ≡ 0 → ⊥) → row ≡ get_or t c row → TargetsInRange (rows_of t)
      → x ≡ get_or row.items (l - 1) x → ReadsTarget (rows_of t) left c l x
  reads_target {x = x} {row = row} some row-is range x-is =
      let m = left-read in
      let is = row-of t c row below row-is in
      let inside = inside-row some row-is in
      let edge = subst (λ xs. Contains xs x) (sym is) (Contains-at row.items (l - 1) x x inside (sym x-is)) in
      record {
        left_is = omega arith;
        edge = edge;
        is = ap (λ xs. get_or xs (l - 1) 0) is ∙ sym (get_or_read row.items (l - 1) x inside x-is 0);
        within = range c x edge;
      }

pub mark-read : (marks : List Mark) (t : ℕ) {m n : Mark} → t < length marks → m ≡ get_or marks t m → m ≡ n → get_or marks t New ≡ n
mark-read marks t {m = m} h e is = sym (get_or_read marks t m h e New) ∙ is

pub popped : (path rest after : List ℕ) (c n : ℕ) → path ≡ rest ++ c ∷ [] → n ≡ length path → after ≡ take (n - 1) path → after ≡ rest
popped path rest after c n e long is = grind (arith, length_push, take_at)

pub last-follows : (g : List (List ℕ)) (path rest : List ℕ) (c t : ℕ) → path ≡ rest ++ c ∷ [] → HasEdge g c t → Follows g path t
last-follows g path rest c t e edge front d f =
    let same = ap length (sym e ∙ f) in
    let n = length_push rest c in
    let m = length_push front d in
    let last = ap (λ p. get_or p (length rest) 0) (sym e ∙ f) in
    subst (λ x. HasEdge g x t) (sym (get_or_push rest c 0 (length rest) refl) ∙ last ∙ get_or_push front d 0 (length rest) (omega arith)) edge
