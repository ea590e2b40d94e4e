-- Rulesets whose NAT statements and maps have IPv4 addresses, which are of 32 bits (RFC 791, section 3.1): those of
-- texts do, since an address is a token.
use Rattle.std.specs.Prelude.{◌<◌, ◌^◌, List, [], ◌∷◌}
use Rattle.nft_tree.specs.Tree as tree
use Rattle.nft_tree.specs.Tree.{DataTree, ItemTree, MapRefTree, NatTree, PairTree, RuleTree, Statement, TableTree}
use Rattle.rule_names.specs.Names.{some_of}

-- each element has the property
abbrev pub Every : {X : Type 0} → (X → Type 0) → List X → Type 0
Every P [] = Unit {0}
Every P (x ∷ xs) = P x × Every P xs

-- the data of a map's element, if it is an address
abbrev pub DataFits : DataTree → Type 0
DataFits (tree.to_value (tree.address a)) = a < 2 ^ 32
DataFits _ = Unit {0}

-- the elements of a map
abbrev pub PairsFit : List PairTree → Type 0
PairsFit ps = Every (λ p. DataFits p.value) ps

-- a map within a rule; a named one is an item of the table
abbrev pub RefFits : MapRefTree → Type 0
RefFits (tree.pairs ps) = PairsFit ps
RefFits (tree.named_map name) = Unit {0}

-- a NAT statement's address, or those of its own map
abbrev pub NatFits : NatTree → Type 0
NatFits (tree.source (tree.source_address a ports)) = a < 2 ^ 32
NatFits (tree.source (tree.source_lookup l)) = RefFits l.map
NatFits (tree.destination (tree.destination_address a port)) = a < 2 ^ 32
NatFits (tree.destination (tree.destination_lookup l)) = RefFits l.map
NatFits _ = Unit {0}

abbrev pub StatementFits : Statement → Type 0
StatementFits (tree.nat n) = NatFits n
StatementFits _ = Unit {0}

abbrev pub ItemFits : ItemTree → Type 0
ItemFits (tree.chain c) = Every (λ r. Every StatementFits r.statements) c.rules
ItemFits (tree.map_item m) = PairsFit (some_of m.elements)
ItemFits _ = Unit {0}

-- each address of the ruleset has 32 bits
abbrev pub AddressesFit : List TableTree → Type 0
AddressesFit tables = Every (λ t. Every ItemFits t.items) tables
