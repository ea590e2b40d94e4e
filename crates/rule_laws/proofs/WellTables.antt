-- Consequences of well-formedness for each table.
use Rattle.std.proofs.Common.{◌≡◌, ℕ, zero, suc, Bool, true, ◌||◌, List, [], ◌∷◌, slice_get, Contains, Some, unwrap_or, ap, ◌∙◌, arith}
use Rattle.std.specs.List.{list_any}
use Rattle.std.proofs.lemmas.Bool.{false_from_ne_true}
use Rattle.nft_tree.specs.Tree.{TableTree}
use Rattle.box_file.specs.Box.{PlantTree}
use Rattle.rule_names.specs.Names as names
use Rattle.rule_names.specs.Names.{HasDuplicate, chain_names, targets_of, jumps_to_unknown_chain}
use Rattle.rule_paths.specs.Paths.{HasDeepPath}
use Rattle.rule_check.specs.declared.fault.CheckFault.TheVariants as faults
use Rattle.rule_check.specs.WellFormed.{WellFormed}
use Rattle.rule_laws.proofs.Tables.{There, there}

got_contained : {A : Type 0} (xs : List A) (i : ℕ) (x : A) → slice_get xs i ≡ Some x → Contains xs x
got_contained [] i x e = absurd cc
got_contained (y ∷ ys) zero x e = (0, omega arith, ap (λ o. unwrap_or o y) e)
got_contained (y ∷ ys) (suc i) x e = let q = got_contained ys i x e in (suc q.0, omega (arith, q.1), q.2)

got_passes : {A : Type 0} (test : A → Bool) (xs : List A) (i : ℕ) (x : A) → slice_get xs i ≡ Some x → test x ≡ true → list_any test xs ≡ true
got_passes test [] i x e passed = absurd cc
got_passes test (y ∷ ys) zero x e passed = let same : test y ≡ true = ap (λ o. test (unwrap_or o y)) e ∙ passed in ap (λ b. b || list_any test ys) same
got_passes test (y ∷ ys) (suc i) x e passed = grind (arith, got_passes test ys i x e passed)

module _ (tables : List TableTree) (network : PlantTree) (well : WellFormed tables network) (number : ℕ) (t : TableTree)
    (at : slice_get tables number ≡ Some t) where
  pub contained : Contains tables t
  contained = got_contained tables number t at

  -- all chains that it names exist
  pub whole : There t (targets_of t)
  whole = there t (targets_of t) (false_from_ne_true (jumps_to_unknown_chain t)
      (λ bad. well faults.NoSuchChain (got_passes jumps_to_unknown_chain tables number t at bad)))

  -- its chains have distinct names
  pub once : HasDuplicate (chain_names t) → ⊥
  once r = well faults.DuplicateName (names.two_chains t contained r)

  pub shallow : HasDeepPath t → ⊥
  shallow deep = well faults.TooDeep (record { table = t; member = contained; deep = deep })
