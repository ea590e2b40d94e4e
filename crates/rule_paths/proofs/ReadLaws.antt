-- Lists that loops read and fill element by element.
use Rattle.std.proofs.Common.{◌≡◌, ℕ, ◌+◌, ◌<◌, List, [], ◌∷◌, ◌++◌, Option, Some, None, length, get_or, map, take, sym, ap, ap₂, ◌∙◌, arith}
use Rattle.std.specs.Prelude.{sum_by}
use Rattle.std.specs.Borrow.{Bor}
use Rattle.std.proofs.lemmas.List.{length-map, take_more}
use Rattle.std.proofs.lemmas.List.Sums.{sum_by_push}
use Rattle.nft_tree.specs.declared.chain.Chain.{Chain}
use Rattle.nft_tree.specs.Tree.{Text, HeadTree, ChainTree, TableTree}
use Rattle.nft_tree.specs.TreeViews.{chain_tree}
use Rattle.nft_tree.specs.TableItems.{chains_of}
use Rattle.chain_graph.specs.Measures.{saturated}
use Rattle.rule_paths.specs.Paths.{Caller, a_chain, AreCosts, base_cost}
use Rattle.rule_paths.specs.Findings.{AreChainCosts}
use Rattle.rule_paths.specs.steps.Index.{with_base}
use Rattle.rule_paths.proofs.Callers.{read}

-- a chain that a loop reads
pub chain-is : (cs : List (Bor Chain)) (i : ℕ) (b : Bor Chain) → i < length cs → b ≡ get_or cs i b → (c : ChainTree)
    → get_or (map (λ c. chain_tree c.now) cs) i c ≡ chain_tree b.now
chain-is cs i b h is c = read (λ (c : Bor Chain). chain_tree c.now) cs c i b h (sym is)

-- ---- base chains

pub costs-long : (t : TableTree) (costs : List ℕ) → AreChainCosts t costs → length costs ≡ length (chains_of t)
costs-long t costs s = let cost = s.has_costs in ap length (s.are cost.0 cost.1) ∙ length-map (chains_of t) (λ c. saturated (cost.0 (a_chain c.name)))

pub with-base-is : (cost : Caller → ℕ) (name : Text) (sum : ℕ) (o : Option HeadTree)
    → with_base (saturated sum) (saturated (cost (a_chain name))) o ≡ saturated (sum + base_cost cost name o)
with-base-is cost name sum None = omega arith
with-base-is cost name sum (Some head) = omega arith

module _ (t : TableTree) (costs : List ℕ) (s : AreChainCosts t costs) (cost : Caller → ℕ) (are : AreCosts t cost) where
  abbrev pub base_of : ChainTree → ℕ
  base_of c = base_cost cost c.name c.head

  pub cost-at : (i : ℕ) (c : ChainTree) → i < length (chains_of t) → c ≡ get_or (chains_of t) i c → get_or costs i 0 ≡ saturated (cost (a_chain c.name))
  cost-at i c h e = ap (λ xs. get_or xs i 0) (s.are cost are)
      ∙ read (λ (c : ChainTree). saturated (cost (a_chain c.name))) (chains_of t) 0 i c h (sym e)

  pub base-more : (i sum : ℕ) (c : ChainTree) → i < length (chains_of t) → get_or (chains_of t) i c ≡ c
      → sum ≡ saturated (sum_by base_of (take i (chains_of t)))
      → with_base sum (get_or costs i 0) c.head ≡ saturated (sum_by base_of (take (i + 1) (chains_of t)))
  base-more i sum c h e before =
      ap₂ (λ x y. with_base x y c.head) before (cost-at i c h (sym e))
      ∙ with-base-is cost c.name (sum_by base_of (take i (chains_of t))) c.head
      ∙ ap saturated (sym (ap (sum_by base_of)
      (take_more (chains_of t) i c h ∙ ap (λ x. take i (chains_of t) ++ x ∷ []) e)
      ∙ sum_by_push base_of (take i (chains_of t)) c))
