-- The box, the packets and the parts of rulesets of the examples. (own)
use Rattle.std.specs.Prelude.{ℕ, ◌+◌, ◌*◌, ◌^◌, false, List, [], ◌∷◌, map, Option, Some, None, codes}
use Rattle.nft_tree.specs.declared.ruleset.Family.TheVariants.{Ip}
use Rattle.nft_tree.specs.declared.chain.ChainKind.{ChainKind}
use Rattle.nft_tree.specs.declared.chain.ChainKind.TheVariants as kinds
use Rattle.nft_tree.specs.declared.chain.Hook.{Hook}
use Rattle.nft_tree.specs.declared.chain.Hook.TheVariants as hooks
use Rattle.nft_tree.specs.declared.chain.Priority.{Priority}
use Rattle.nft_tree.specs.declared.chain.Priority.TheVariants as priorities
use Rattle.nft_tree.specs.declared.chain.OffsetSign.TheVariants as signs
use Rattle.nft_tree.specs.declared.chain.Policy.{Policy}
use Rattle.nft_tree.specs.declared.set.MapType.TheVariants as map_types
use Rattle.nft_tree.specs.declared.set.TypeOrVerdict.TheVariants as verdicts
use Rattle.nft_tree.specs.declared.selector.ValueType.TheVariants as types
use Rattle.nft_tree.specs.Tree as tree
use Rattle.nft_tree.specs.Tree.{Text, RangeTree, ElementTree, DataTree, PairTree, Statement, RuleTree}
use Rattle.nft_tree.specs.Tree.{ItemTree, TableTree}
use Rattle.box_file.specs.Box.{PlantTree}
use Rattle.ip_headers.specs.declared.transport.Transport.{Transport}
use Rattle.ip_headers.specs.declared.transport.Transport.TheVariants as transports
use Rattle.rule_meaning.specs.declared.facts.Facts.{Facts}
use Rattle.rule_meaning.specs.declared.facts.Interface.{Interface}
use Rattle.rule_meaning.specs.declared.facts.CtFacts.{CtFacts}
use Rattle.rule_meaning.specs.declared.facts.CtFacts.TheVariants as ct
use Rattle.box_file.specs.Idle.{usual_limits}
use Rattle.rule_meaning.specs.declared.facts.ConnectionFacts.{ConnectionFacts}
use Rattle.rule_meaning.specs.declared.facts.CtState.{CtState}
use Rattle.rule_meaning.specs.declared.facts.CtState.TheVariants as states
use Rattle.ip_headers.specs.declared.tuple.Direction.TheVariants as directions

-- an address by its octets
abbrev pub ip : ℕ → ℕ → ℕ → ℕ → ℕ
ip a b c d = ((a * 256 + b) * 256 + c) * 256 + d

-- interface 2 lan 192.168.1.1/24, interface 3 wan 203.0.113.1/24, route 0.0.0.0/0 wan, default lan
abbrev pub box : PlantTree
box = record {
  interfaces =
      record { index = 2; name = codes "lan"; address = ip 192 168 1 1; prefix = 24 } ∷
      record { index = 3; name = codes "wan"; address = ip 203 0 113 1; prefix = 24 } ∷ [];
  routes = record { address = 0; prefix = 0; interface = 3 } ∷ [];
  entering = 2;
  idle = usual_limits;
}

-- ---- packets

-- the names "lan" (6c 61 6e) and "wan" (77 61 6e), padded with 13 zeros
abbrev pub lan : Interface
lan = record { index = 2; name = 7102830 * 2 ^ 104 }

abbrev pub wan : Interface
wan = record { index = 3; name = 7823726 * 2 ^ 104 }

abbrev pub new_connection : ConnectionFacts
new_connection = record {
  state = states.New;
  direction = directions.Original;
  mark = 0;
  seen_reply = false;
  source_translated = false;
  destination_translated = false;
}

-- UDP without payload, 28 bytes, from 192.168.1.10:5000 (input lan) to 198.51.100.7:53 (output wan)
abbrev pub plain : Facts
plain = record {
  packet =
      record {
        source = ip 192 168 1 10;
        destination = ip 198 51 100 7;
        protocol = 17;
        ttl = 63;
        length = 28;
        transport = transports.Udp 5000 53;
      };
  input = lan;
  output = Some wan;
  mark = 0;
  ct = ct.Known new_connection;
}

-- the same with another protocol
abbrev pub carrying : ℕ → Transport → Facts
carrying protocol transport =
    record plain { packet = record plain.packet { protocol = protocol; transport = transport } }

abbrev pub tcp : ℕ → ℕ → Facts
tcp port flags = carrying 6 (transports.Tcp 40000 port flags)

abbrev pub icmp : ℕ → Facts
icmp type = carrying 1 (transports.Icmp type)

abbrev pub tracked : CtFacts → Facts
tracked t = record plain { ct = t }

abbrev pub known : ConnectionFacts → Facts
known c = tracked (ct.Known c)

abbrev pub in_state : CtState → Facts
in_state s = known (record new_connection { state = s })

abbrev pub from : ℕ → Facts
from a = record plain { packet = record plain.packet { source = a } }

abbrev pub marked : ℕ → Facts
marked n = record plain { mark = n }

-- the same before routing
abbrev pub arriving : Facts
arriving = record plain { output = None }

-- ---- values

abbrev pub number : ℕ → RangeTree
number n = tree.one (tree.number n)

abbrev pub numbers : ℕ → ℕ → RangeTree
numbers low high = tree.between (tree.number low) (tree.number high)

abbrev pub word : Text → RangeTree
word w = tree.one (tree.word w)

abbrev pub address : ℕ → RangeTree
address a = tree.one (tree.address a)

abbrev pub addresses : ℕ → ℕ → RangeTree
addresses low high = tree.between (tree.address low) (tree.address high)

abbrev pub element : RangeTree → ElementTree
element r = record { key = tree.single r; comment = None }

abbrev pub pair : RangeTree → DataTree → PairTree
pair r d = record { key = r; comment = None; value = d }

-- ---- rulesets

abbrev pub drop : Statement
drop = tree.verdict tree.drop

abbrev pub accept : Statement
accept = tree.verdict tree.accept

abbrev pub counter : Statement
counter = tree.counter None

abbrev pub rules_of : List (List Statement) → List RuleTree
rules_of = map (λ ss. record { statements = ss; comment = None })

abbrev pub chain : Text → List (List Statement) → ItemTree
chain name rules = tree.chain (record { name = name; notes = []; head = None; rules = rules_of rules })

abbrev pub base : Text → ChainKind → Hook → Priority → Option Policy → List (List Statement) → ItemTree
base name kind hook priority policy rules =
    tree.chain (record {
      name = name;
      notes = [];
      head = Some (record { kind = kind; hook = hook; priority = priority; policy = policy; notes = [] });
      rules =
          rules_of rules;
    })

abbrev pub at : ℕ → Priority
at n = priorities.Number signs.Plus n

abbrev pub below_zero : ℕ → Priority
below_zero n = priorities.Number signs.Minus n

-- a filter chain on forward with priority 0
abbrev pub forwards : Policy → List (List Statement) → ItemTree
forwards policy = base (codes "fwd") kinds.Filter hooks.Forward (at 0) (Some policy)

-- a chain of type nat
abbrev pub translates : Text → Hook → ℕ → List (List Statement) → ItemTree
translates name hook n = base name kinds.Nat hook (at n) None

abbrev pub addresses_set : Text → List RangeTree → ItemTree
addresses_set name ranges =
    tree.set (record {
      name = name;
      key = tree.types (types.Address ∷ []);
      flags = None;
      size = None;
      auto_merge = false;
      comment = None;
      elements = Some (map element ranges);
    })

-- type inet_service : verdict
abbrev pub port_map : Text → List PairTree → ItemTree
port_map name pairs =
    tree.map_item (record {
      name = name;
      types = map_types.Types types.Service verdicts.Verdict;
      flags = None;
      size = None;
      auto_merge = false;
      comment = None;
      elements = Some pairs;
    })

abbrev pub table : Text → List ItemTree → TableTree
table name items = record { family = Ip; name = name; items = items }

-- a ruleset of one table
abbrev pub one_table : List ItemTree → List TableTree
one_table items = table (codes "t") items ∷ []
