-- The call graph of chains and verdict maps: paths, jumps and costs. K is the type of their keys: names or
-- indices. Jumps, gotos and verdict maps: nft(8), "Verdict statement", "Vmap statement". Costs: (own)
use Rattle.std.specs.Prelude.{◌≡◌, ℕ, ◌+◌, ◌≤◌, max, List, [], ◌∷◌, flat_map, Bool, if◌then◌else◌}

-- a jump or goto to a chain, or a lookup in a verdict map. A jump stores the current position, to return to
-- it after the chain; a goto doesn't (nft(8), "Verdict statement"), nor does a lookup
pub record Call (K : Type 0) : Type 0 where
  pub to : K
  pub is_jump : Bool

-- a chain has the calls of each of its statements, a verdict map those of its elements
pub data NodeTree (K : Type 0) : Type 0 where
  chain : List (List (Call K)) → NodeTree K
  verdict_map : List (Call K) → NodeTree K

abbrev pub identity : {A : Type 0} → A → A
identity x = x

module _ {K : Type 0} where
  -- all calls of a node
  abbrev pub calls_in : NodeTree K → List (Call K)
  calls_in (chain ss) = flat_map identity ss
  calls_in (verdict_map es) = es

  -- a path from a to b along these calls, where `calls a e` means that node a has the call e
  abbrev pub IsPath : (K → Call K → Type 0) → K → List (Call K) → K → Type 0
  IsPath calls a [] b = a ≡ b
  IsPath calls a (e ∷ es) b = calls a e × IsPath calls e.to es b

  -- the number of jumps on a path; gotos and lookups don't count
  abbrev pub jumps : List (Call K) → ℕ
  jumps [] = 0
  jumps (e ∷ es) = (if e.is_jump then 1 else 0) + jumps es

  -- a path of one call or more from a node to itself
  pub record HasCycle (calls : K → Call K → Type 0) : Type 0 where
    pub chain : K
    pub first : Call K
    pub rest : List (Call K)
    pub path : IsPath calls chain (first ∷ rest) chain

  -- a path with more than `most` jumps
  pub record HasPathOver (most : ℕ) (calls : K → Call K → Type 0) : Type 0 where
    pub from : K
    pub to : K
    pub along : List (Call K)
    pub path : IsPath calls from along to
    pub over : most + 1 ≤ jumps along

  -- the greatest cost among the calls' targets, where node k costs `cost k`; 0 without calls
  abbrev pub greatest : (K → ℕ) → List (Call K) → ℕ
  greatest cost [] = 0
  greatest cost (e ∷ es) = max (cost e.to) (greatest cost es)

  -- a chain costs, for each statement, 1 and the greatest cost among its targets
  abbrev pub chain_cost : (K → ℕ) → List (List (Call K)) → ℕ
  chain_cost cost [] = 0
  chain_cost cost (s ∷ ss) = 1 + greatest cost s + chain_cost cost ss

  -- a map costs the greatest cost among its targets
  abbrev pub node_cost : (K → ℕ) → NodeTree K → ℕ
  node_cost cost (chain ss) = chain_cost cost ss
  node_cost cost (verdict_map es) = greatest cost es

  -- a path, of any length, from `from` to a node that fits
  pub record Reaches (calls : K → Call K → Type 0) (fits : K → Type 0) (from : K) : Type 0 where
    pub to : K
    pub along : List (Call K)
    pub path : IsPath calls from along to
    pub good : fits to
