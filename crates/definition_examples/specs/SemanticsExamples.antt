-- The rulesets and matches of the examples. (own)
use Rattle.std.specs.Prelude.{ℕ, List, [], ◌∷◌, map, None, codes}
use Rattle.nft_tree.specs.declared.chain.ChainKind.TheVariants as kinds
use Rattle.nft_tree.specs.declared.chain.Hook.{Hook}
use Rattle.nft_tree.specs.declared.chain.Hook.TheVariants as hooks
use Rattle.nft_tree.specs.declared.chain.Priority.{Priority}
use Rattle.nft_tree.specs.declared.chain.Policy.TheVariants as policies
use Rattle.nft_tree.specs.declared.selector.Selector.{Selector}
use Rattle.nft_tree.specs.declared.selector.Selector.TheVariants as selectors
use Rattle.nft_tree.specs.declared.statement.Operator.{Operator}
use Rattle.nft_tree.specs.declared.statement.Operator.TheVariants as operators
use Rattle.nft_tree.specs.declared.statement.MarkField.{MarkField}
use Rattle.nft_tree.specs.declared.statement.BitField.TheVariants as bit_fields
use Rattle.nft_tree.specs.declared.statement.BitTest.{BitTest}
use Rattle.nft_tree.specs.declared.statement.BitTest.TheVariants as bit_tests
use Rattle.nft_tree.specs.Tree as tree
use Rattle.nft_tree.specs.Tree.{Text, RangeTree, VerdictTree, SetRefTree, MapLookupTree, OperandTree, NatTree, FlagTree}
use Rattle.nft_tree.specs.Tree.{MatchTree, Statement, TableTree}
use Rattle.definition_examples.specs.Fixtures.{ip, translates, port_map, number, numbers, addresses, element, pair, accept}
use Rattle.definition_examples.specs.Fixtures.{counter, drop, chain, base, forwards, table, one_table}

-- ---- verdicts

-- chain a { counter goto b; counter } chain b { counter } chain fwd { type filter hook forward priority 0;
-- policy drop; VERDICT; counter accept }
abbrev pub two_chains : VerdictTree → List TableTree
two_chains v =
    one_table (chain (codes "a") ((counter ∷ tree.verdict (tree.goto (codes "b")) ∷ []) ∷
    (counter ∷ []) ∷ []) ∷
    chain (codes "b") ((counter ∷ []) ∷ []) ∷ forwards policies.Drop
    ((tree.verdict v ∷ []) ∷ (counter ∷ accept ∷ []) ∷ []) ∷ [])

-- chain a { VERDICT; drop } chain fwd { type filter hook forward priority 0; policy drop; jump a; continue;
-- accept }
abbrev pub called : VerdictTree → List TableTree
called v =
    one_table (chain (codes "a") ((tree.verdict v ∷ []) ∷ (drop ∷ []) ∷ []) ∷
    forwards policies.Drop ((tree.verdict (tree.jump (codes "a")) ∷ []) ∷ (tree.verdict tree.continue ∷ []) ∷
    (accept ∷ []) ∷ []) ∷ [])

-- two filter chains on forward with these priorities: the first accepts, the second drops
abbrev pub accept_and_drop : Priority → Priority → List TableTree
accept_and_drop first second =
    one_table (base (codes "one") kinds.Filter hooks.Forward first None ((accept ∷ []) ∷ []) ∷
    base (codes "other") kinds.Filter hooks.Forward second None ((drop ∷ []) ∷ []) ∷ [])

-- the same in two tables, both of priority 0
abbrev pub two_tables : List TableTree
two_tables =
    table (codes "t") (forwards policies.Accept ((accept ∷ []) ∷ []) ∷ []) ∷
    table (codes "u") (forwards policies.Accept ((drop ∷ []) ∷ []) ∷ []) ∷ []

-- chain fwd { type filter hook forward priority 0; policy accept; VMAP; drop } chain b { accept }
abbrev pub chosen : Statement → List TableTree
chosen s =
    one_table (forwards policies.Accept ((s ∷ []) ∷ (drop ∷ []) ∷ []) ∷
    chain (codes "b") ((accept ∷ []) ∷ []) ∷ [])

-- udp dport vmap { PORT : VERDICT }
abbrev pub by_port : ℕ → VerdictTree → Statement
by_port n v =
    tree.verdict_map selectors.UdpDestination (tree.pairs (pair (number n) (tree.to_verdict v) ∷ []))

-- chain fwd { type filter hook forward priority 0; policy accept; FIELD mark set OPERAND counter; meta mark 7
-- drop }
abbrev pub marking : MarkField → OperandTree → List TableTree
marking field o =
    one_table (forwards policies.Accept ((tree.set_mark field o ∷ counter ∷ []) ∷
    (tree.matching (tree.compare selectors.MetaMark operators.Equal (number 7)) ∷ drop ∷ []) ∷ []) ∷ [])

-- chain fwd { type filter hook forward priority 0; policy accept; notrack counter; notrack }
abbrev pub untracking : List TableTree
untracking =
    one_table (forwards policies.Accept ((tree.notrack ∷ counter ∷ []) ∷ (tree.notrack ∷ []) ∷ []) ∷ [])

-- udp dport map { PORT : 7 }
abbrev pub seven_at : ℕ → OperandTree
seven_at n =
    tree.looked_up (record {
      selector = selectors.UdpDestination;
      map = tree.pairs (pair (number n) (tree.to_value (tree.number 7)) ∷ []);
    })

-- ---- chains of type nat

-- chain one { type nat hook HOOK priority 100; counter NAT }
abbrev pub translating : Hook → NatTree → List TableTree
translating hook n = one_table (translates (codes "one") hook 100 ((counter ∷ tree.nat n ∷ []) ∷ []) ∷ [])

-- the same without the counter, after a chain of priority 50 with one statement
abbrev pub translating_behind : Hook → Statement → NatTree → List TableTree
translating_behind hook s n =
    one_table (translates (codes "one") hook 100 ((tree.nat n ∷ []) ∷ []) ∷
    translates (codes "other") hook 50 ((s ∷ []) ∷ []) ∷ [])

-- udp dport map { PORT : 192.168.1.11 }
abbrev pub neighbour_at : ℕ → MapLookupTree
neighbour_at n =
    record {
      selector = selectors.UdpDestination;
      map = tree.pairs (pair (number n) (tree.to_value (tree.address (ip 192 168 1 11))) ∷ []);
    }

-- ---- base chains at a priority

-- chain c { type filter hook HOOK priority PRIORITY; drop }
abbrev pub dropping : Hook → Priority → List TableTree
dropping hook priority = one_table (base (codes "c") kinds.Filter hook priority None ((drop ∷ []) ∷ []) ∷ [])

-- the same with `udp dport vmap @m`, where map m { type inet_service : verdict; elements = { 50-60 : jump b }
-- }
abbrev pub chosen_by_name : List TableTree
chosen_by_name =
    one_table (forwards policies.Accept
    ((tree.verdict_map selectors.UdpDestination (tree.named_map (codes "m")) ∷ [])
    ∷ (drop ∷ []) ∷ []) ∷ chain (codes "b") ((accept ∷ []) ∷ []) ∷
    port_map (codes "m") (pair (numbers 50 60) (tree.to_verdict (tree.jump (codes "b"))) ∷ []) ∷ [])

-- ---- matches

-- udp dport OPERATOR RANGE
abbrev pub port : Operator → RangeTree → MatchTree
port o r = tree.compare selectors.UdpDestination o r

-- ip saddr { 10.0.0.0/8, 192.168.1.5-192.168.1.10 }
abbrev pub some_sources : List RangeTree
some_sources = tree.prefix (ip 10 0 0 0) 8 ∷ addresses (ip 192 168 1 5) (ip 192 168 1 10) ∷ []

-- ip daddr . udp dport, and an address with a port
abbrev pub server : List Selector
server = selectors.IpDestination ∷ selectors.UdpDestination ∷ []

abbrev pub name_server : ℕ → SetRefTree
name_server n =
    tree.elements
    (record { key = tree.joined (tree.address (ip 198 51 100 7) ∷ tree.number n ∷ []); comment = None }
    ∷ [])

-- one of these addresses, and none of them
abbrev pub among : MatchTree
among = tree.is_in (selectors.IpSource ∷ []) (tree.elements (map element some_sources))

abbrev pub not_among : MatchTree
not_among = tree.not_in (selectors.IpSource ∷ []) (tree.elements (map element some_sources))

-- tcp dport != { 22 }
abbrev pub other_port : MatchTree
other_port = tree.not_in (selectors.TcpDestination ∷ []) (tree.elements (element (number 22) ∷ []))

-- SELECTOR RANGE
abbrev pub is : Selector → RangeTree → MatchTree
is s r = tree.compare s operators.Equal r

abbrev pub state : BitTest → List Text → MatchTree
state test words = tree.bits bit_fields.State test words

abbrev pub status : List Text → MatchTree
status words = tree.bits bit_fields.Status bit_tests.Any words

abbrev pub syn : List FlagTree
syn = tree.flag_word (codes "syn") ∷ []

abbrev pub syn_ack : List FlagTree
syn_ack = tree.flag_word (codes "syn") ∷ tree.flag_word (codes "ack") ∷ []
