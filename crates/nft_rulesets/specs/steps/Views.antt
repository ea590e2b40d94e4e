-- The models of fields.
use Rattle.std.specs.Prelude.{option_map}
use Rattle.nft_rulesets.specs.declared.fields.Field.TheVariants as fields
use Rattle.nft_rulesets.specs.declared.fields.Field.{Field}
use Rattle.nft_rulesets.specs.declared.fields.Fields.{Fields}
use Rattle.nft_rulesets.specs.Sets as trees
use Rattle.nft_rulesets.specs.Sets.{FieldValues}

abbrev pub field_tree : {K E T U : Type 0} → (K → T) → (E → U) → Field K E → trees.Field T U
field_tree key elements (fields.Key k) = trees.key (key k)
field_tree key elements (fields.Flags fs) = trees.flags fs.items
field_tree key elements (fields.Size n) = trees.size n
field_tree key elements fields.AutoMerge = trees.auto_merge
field_tree key elements (fields.Comment text) = trees.comment text.items
field_tree key elements (fields.Elements es) = trees.elements (elements es)

abbrev pub fields_tree : {K E T U : Type 0} → (K → T) → (E → U) → Fields K E → FieldValues T U
fields_tree key elements c = (
  option_map key c.key,
  option_map (λ f. f.items) c.flags,
  c.size,
  c.auto_merge,
  option_map (λ t. t.items) c.comment,
  option_map elements c.elements,
)
