-- Looking up a base chain.
use Rattle.rule_names.proofs.Names.{Bool, Contains, HasDuplicate, List, None, Option, Some, Text, [], ap, bytes_eq, cond, false, list_any, map, option_map}
use Rattle.rule_names.proofs.Names.{refl, subst, sym, true, ◌||◌, ◌∙◌, ◌∷◌, ◌≡◌}
use Rattle.std.proofs.Common.{◌&&◌}
use Rattle.std.specs.Prelude.{is_some}
use Rattle.std.proofs.lemmas.List.Folds.{Any-from_list_any}
use Rattle.list_laws.specs.Elements.{Contains-map}
use Rattle.std.specs.Cmp.Lexicographic.{same_text}
use Rattle.std.proofs.lemmas.Bool.{false_from_ne_true}
use Rattle.std.proofs.Math.Bool.{or-false}
use Rattle.nft_tree.specs.Tree.{ChainTree}
use Rattle.rule_names.proofs.Duplicates.{repeats-here, repeats-more}
use Rattle.rule_names.proofs.IndexLookup.{first_named}

-- the chain is a base chain
abbrev pub is_base : Option ChainTree → Bool
is_base None = false
is_base (Some c) = is_some c.head

-- the chain has this name and is a base chain
abbrev pub base_named : Text → ChainTree → Bool
base_named name c = bytes_eq c.name name && is_some c.head

and-left : (a b : Bool) → a && b ≡ true → a ≡ true
and-left true b h = refl
and-left false b h = h

abbrev pub names : List ChainTree → List Text
names cs = map (λ c. c.name) cs

pub base-among : (cs : List ChainTree) (name : Text) → list_any (base_named name) cs ≡ true → Contains (names cs) name
base-among cs name t =
    let a = Any-from_list_any (base_named name) cs t in
    subst (Contains (names cs)) (same_text a.1.name name (sym (and-left (bytes_eq a.1.name name) (is_some a.1.head) a.4)))
    (Contains-map (λ c. c.name) cs a.1 (a.0, a.2, a.3))

pub base-step : (b : Bool) (c : ChainTree) (rest : Bool) (o : Option ChainTree) → rest ≡ is_base o
    → (b ≡ true → rest ≡ false) → (b && is_some c.head) || rest ≡ is_base (cond b (Some c) o)
base-step true c rest o e f = ap (λ r. is_some c.head || r) (f refl) ∙ or-false (is_some c.head)
base-step false c rest o e f = e

-- without duplicate names, a base chain has the name exactly if the chain with that name is one
pub any-base : (cs : List ChainTree) (name : Text) → (HasDuplicate (names cs) → ⊥) → list_any (base_named name) cs ≡ is_base (first_named (λ c. c.name) name cs)
any-base [] name apart = refl
any-base (c ∷ cs) name apart =
    base-step (bytes_eq c.name name) c (list_any (base_named name) cs) (first_named (λ c. c.name) name cs)
    (any-base cs name (λ r. apart (repeats-more c.name (names cs) r)))
    (λ t. false_from_ne_true (list_any (base_named name) cs) (λ u.
    apart (repeats-here c.name (names cs) (subst (Contains (names cs)) (sym (same_text c.name name (sym t))) (base-among cs name u)))))

pub is-some-map : {A B : Type 0} (f : A → B) (o : Option A) → is_some o ≡ is_some (option_map f o)
is-some-map f None = refl
is-some-map f (Some x) = refl
