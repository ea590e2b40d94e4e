use Rattle.std.proofs.Common.{◌≡◌, ◌∙◌, ap, map, List, [], ◌∷◌, refl}
use Rattle.rule_sets.specs.Interfaces.{interface_facts}
use Rattle.rule_sets.proofs.interfaces.box_interfaces.Goals as goal

twice : {A B C : Type 0} (g : B → C) (f : A → B) (xs : List A) → map g (map f xs) ≡ map (λ x. g (f x)) xs
twice g f [] = refl
twice g f (x ∷ xs) = ap (λ ys. g (f x) ∷ ys) (twice g f xs)

pub returns : goal.returns
returns c =
    c.new.ensures ∙ c.in_ok-interfaces.ensures ∙ ap (map (interface_facts c.args.network.now)) (c.deref.ensures.value ∙ c.in_ok-indexes.ensures)
    ∙ twice (interface_facts c.args.network.now) (λ i. i.index) c.args.network.now.interfaces
