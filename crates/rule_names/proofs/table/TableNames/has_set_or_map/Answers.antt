use Rattle.rule_names.proofs.Names.{Bool, TableTree, Text, ap, bytes_eq, false, list_any, sym, table_tree, true, ◌||◌, ◌∙◌, ◌≡◌}
use Rattle.rule_names.specs.declared.ruleset_names.ItemNames.{ItemNames}
use Rattle.rule_names.specs.Indexed.{names_in}
use Rattle.rule_names.specs.Names.{is_set_or_map}
use Rattle.rule_names.proofs.Items.{any-both}
use Rattle.rule_names.proofs.table.TableNames.has_set_or_map.Goals as goal

either : (t : TableTree) (names : ItemNames) (name : Text) → names ≡ names_in t
    → list_any (bytes_eq name) names.sets || list_any (bytes_eq name) names.maps ≡ is_set_or_map t name
either t names name is = ap (λ n. list_any (bytes_eq name) n.sets || list_any (bytes_eq name) n.maps) is ∙ sym (any-both (bytes_eq name) t.items)

first : (a b : Bool) → a ≡ true → a ≡ a || b
first a b is = is ∙ sym (ap (λ x. x || b) is)

second : (a b : Bool) → a ≡ false → b ≡ a || b
second a b is = sym (ap (λ x. x || b) is)

pub returns-then-contains : goal.returns-then-contains
returns-then-contains c =
    let names = c.self.inside.names.now in
    let name = c.args.name.now in
    first c.contains.result (list_any (bytes_eq name) names.maps) c.if-contains.true
    ∙ ap (λ b. b || list_any (bytes_eq name) names.maps) c.contains.ensures
    ∙ either (table_tree c.self.inside.table.now) names name c.self.invariant.named ∙ ap (λ t. is_set_or_map t name) c.self.view_is

pub returns-else-contains : goal.returns-else-contains
returns-else-contains c =
    let names = c.self.inside.names.now in
    let name = c.args.name.now in
    c.contains-else-contains.ensures
    ∙ second (list_any (bytes_eq name) names.sets) (list_any (bytes_eq name) names.maps) (sym c.contains.ensures ∙ c.if-contains.false)
    ∙ either (table_tree c.self.inside.table.now) names name c.self.invariant.named ∙ ap (λ t. is_set_or_map t name) c.self.view_is
