-- The checks on keys agree with the checks on lines.
use Rattle.box_file.proofs.Names.{Bool, Bor, List, [], any_of_map, any_pair, ap, interface_tree, list_any, map, nat_eq, not, pointwise, refl}
use Rattle.box_file.proofs.Names.{two_indexes, two_names, two_values, ℕ, ◌&&◌, ◌==◌, ◌∷◌, ◌≡◌}
use Rattle.box_file.specs.declared.line.InterfaceLine.{InterfaceLine}
use Rattle.box_file.proofs.NumberLaws.{same_text-pointwise}

-- ---- repeats

-- a test of lines as a test of what they mean
pub any-mapped : {L T : Type 0} (h : L → T) (u : L → Bool) (t : T → Bool) → ((l : L) → u l ≡ t (h l)) → (ls : List L)
    → list_any u ls ≡ list_any t (map h ls)
any-mapped h u t same [] = refl
any-mapped h u t same (l ∷ ls) = rw (same l, any-mapped h u t same ls) refl

-- a test of lines as a test of their keys
pub pair-keys : {L K T : Type 0} (f : L → K) (h : L → T) (u : K → K → Bool) (t : T → T → Bool)
    → ((l m : L) → u (f l) (f m) ≡ t (h l) (h m)) → (ls : List L) → any_pair u (map f ls) ≡ any_pair t (map h ls)
pair-keys f h u t same [] = refl
pair-keys f h u t same (l ∷ ls) =
    rw (← any_of_map (u (f l)) f ls, any-mapped h (λ m. u (f l) (f m)) (t (h l)) (same l) ls, pair-keys f h u t same ls) refl

pub names_differ : (l m : InterfaceLine) → two_values nat_eq (λ (x y : Bor (List ℕ)). pointwise nat_eq x.now y.now) (l.index, l.name) (m.index, m.name)
    ≡ two_names (interface_tree l) (interface_tree m)
names_differ l m = ap (λ v. (l.index == m.index) && not v) (same_text-pointwise l.name.now m.name.now)

pub indexes_differ : (l m : InterfaceLine) → two_values (λ (x y : Bor (List ℕ)). pointwise nat_eq x.now y.now) nat_eq (l.name, l.index) (m.name, m.index)
    ≡ two_indexes (interface_tree l) (interface_tree m)
indexes_differ l m = ap (λ v. v && not (l.index == m.index)) (same_text-pointwise l.name.now m.name.now)
