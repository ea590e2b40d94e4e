-- The first declarations of a list of tables, step by step.
use Rattle.std.proofs.Common.{◌≡◌, ℕ, zero, suc, ◌+◌, ◌-◌, ◌<◌, List, [], ◌∷◌, ◌++◌, length, get_or, drop, map}
use Rattle.std.proofs.Common.{refl, sym, ap, ◌∙◌, arith}
use Rattle.std.proofs.lemmas.List.{append_assoc}
use Rattle.nft_tree.specs.Tree.{TableTree}
use Rattle.fault_nodes.specs.Parts.{table_declarations}
use Rattle.fault_nodes.specs.ReadParts.{first_declarations, table_declared}
use Rattle.fault_nodes.proofs.PartLists.{from_one_on}

-- no tables have no declarations
pub first_of_none : (n : ℕ) → first_declarations n [] ≡ []
first_of_none zero = refl
first_of_none (suc n) = refl

-- one table, and then those after it
pub first_step : (n : ℕ) (t : TableTree) (ts : List TableTree) → 0 < n
    → first_declarations n (t ∷ ts) ≡ table_declared (n - 1) t ∷ first_declarations (n - table_declarations t) ts
first_step zero t ts some = absurd (omega (arith, some))
first_step (suc n) t ts some =
    let before : n ≡ suc n - 1 = omega arith in
    ap (λ k. table_declared k t ∷ first_declarations (suc n - table_declarations t) ts) before

-- one more table is copied
pub first_more : {B : Type 0} (model : B → TableTree) (n : ℕ) (tables : List B) (i : ℕ) (table : B)
    (done all : List TableTree) → i < length tables → table ≡ get_or tables i table → 0 < n
    → done ++ first_declarations n (map model (drop i tables)) ≡ all
    → (done ++ table_declared (n - 1) (model table) ∷ [])
    ++ first_declarations (n - table_declarations (model table)) (map model (drop (i + 1) tables)) ≡ all
first_more model n tables i table done all within is some before =
    append_assoc done (table_declared (n - 1) (model table) ∷ [])
    (first_declarations (n - table_declarations (model table)) (map model (drop (i + 1) tables)))
    ∙ ap (λ xs. done ++ xs) (sym (first_step n (model table) (map model (drop (i + 1) tables)) some))
    ∙ ap (λ xs. done ++ first_declarations n (map model xs)) (sym (from_one_on tables i table within is))
    ∙ before
