-- Examples of the grammar: texts as their tokens, and their trees (own).
use Rattle.std.specs.Prelude.{List, [], ◌∷◌, Some, None, codes, true, false}
use Rattle.nft_lexer.specs.declared.token.Punctuator.TheVariants.{OpenBrace, CloseBrace, OpenParenthesis, CloseParenthesis}
use Rattle.nft_lexer.specs.declared.token.Punctuator.TheVariants.{Comma, Semicolon, Colon, Dot, Slash, Minus, Plus, Equals}
use Rattle.nft_lexer.specs.declared.token.Punctuator.TheVariants.{At, Ampersand, Bar, EqualTo, NotEqualTo, AtLeast}
use Rattle.nft_lexer.specs.Terminal.{Terminal, newline, punctuator, word, number, address, string}
use Rattle.nft_tree.specs.declared.chain.Hook.{Hook}
use Rattle.nft_tree.specs.declared.chain.Policy.{Policy}
use Rattle.nft_tree.specs.declared.selector.Selector.{Selector}
use Rattle.nft_tree.specs.declared.ruleset.Family.TheVariants as families
use Rattle.nft_tree.specs.declared.chain.ChainKind.TheVariants as chain_kinds
use Rattle.nft_tree.specs.declared.chain.Hook.TheVariants as hooks
use Rattle.nft_tree.specs.declared.chain.Priority.TheVariants as priorities
use Rattle.nft_tree.specs.declared.chain.PriorityName.TheVariants as priority_names
use Rattle.nft_tree.specs.declared.chain.Policy.TheVariants as policies
use Rattle.nft_tree.specs.declared.chain.OffsetSign.TheVariants as offset_signs
use Rattle.nft_tree.specs.declared.selector.Selector.TheVariants as selectors
use Rattle.nft_tree.specs.declared.selector.ValueType.TheVariants as value_types
use Rattle.nft_tree.specs.declared.set.SetFlag.TheVariants as set_flags
use Rattle.nft_tree.specs.declared.set.MapType.TheVariants as map_types
use Rattle.nft_tree.specs.declared.set.TypeOrVerdict.TheVariants as types_or_verdicts
use Rattle.nft_tree.specs.declared.set.SelectorOrVerdict.TheVariants as selectors_or_verdicts
use Rattle.nft_tree.specs.declared.nat.PortRange.TheVariants as port_ranges
use Rattle.nft_tree.specs.declared.statement.MarkField.TheVariants as mark_fields
use Rattle.nft_tree.specs.declared.statement.Operator.TheVariants as operators
use Rattle.nft_tree.specs.declared.statement.BitField.TheVariants as bit_fields
use Rattle.nft_tree.specs.declared.statement.BitTest.TheVariants as bit_tests
use Rattle.nft_tree.specs.Tree as tree
use Rattle.nft_tree.specs.Tree.{Text, ValueTree, RangeTree, VerdictTree, ElementTree, PairTree, SetRefTree, Statement}
use Rattle.nft_tree.specs.Tree.{RuleTree, SetTree, MapTree, HeadTree, ChainTree, TableTree}

-- A rule without a comment.
abbrev pub uncommented : List Statement → RuleTree
uncommented ss = record { statements = ss; comment = None }

-- A comparison of equality with one value.
abbrev pub equals : Selector → ValueTree → Statement
equals s v = tree.matching (tree.compare s operators.Equal (tree.one v))

-- A lookup of one selector in a set.
abbrev pub is_in : Selector → SetRefTree → Statement
is_in s set = tree.matching (tree.is_in (s ∷ []) set)

-- An element without a comment: a value, a range or a prefix.
abbrev pub element : RangeTree → ElementTree
element r = record { key = tree.single r; comment = None }

-- A pair of a word and a verdict, without a comment.
abbrev pub verdict_pair : Text → VerdictTree → PairTree
verdict_pair w v = record { key = tree.one (tree.word w); comment = None; value = tree.to_verdict v }

-- tcp dport 22 accept
abbrev pub port_is_22_tokens : List Terminal → List Terminal
port_is_22_tokens rest = word (codes "tcp") ∷ word (codes "dport") ∷ number 22 ∷ word (codes "accept") ∷ rest

abbrev pub port_is_22 : RuleTree
port_is_22 = uncommented (equals selectors.TcpDestination (tree.number 22) ∷ tree.verdict tree.accept ∷ [])

-- tcp dport != 22 drop
abbrev pub port_is_not_22_tokens : List Terminal → List Terminal
port_is_not_22_tokens rest =
    word (codes "tcp") ∷ word (codes "dport") ∷ punctuator NotEqualTo ∷ number 22 ∷ word (codes "drop") ∷ rest

abbrev pub port_is_not_22 : RuleTree
port_is_not_22 = uncommented (
    tree.matching (tree.compare selectors.TcpDestination operators.Unequal (tree.one (tree.number 22)))
    ∷ tree.verdict tree.drop
    ∷ [])

-- meta l4proto { icmp, ipv6-icmp } accept
abbrev pub either_icmp_tokens : List Terminal → List Terminal
either_icmp_tokens rest =
    word (codes "meta") ∷ word (codes "l4proto") ∷ punctuator OpenBrace ∷ word (codes "icmp")
    ∷ punctuator Comma
    ∷ word (codes "ipv6-icmp") ∷ punctuator CloseBrace ∷ word (codes "accept") ∷ rest

abbrev pub either_icmp : RuleTree
either_icmp = uncommented (
    is_in selectors.MetaProtocol (tree.elements (
    element (tree.one (tree.word (codes "icmp")))
    ∷ element (tree.one (tree.word (codes "ipv6-icmp")))
    ∷ []))
    ∷ tree.verdict tree.accept
    ∷ [])

-- iifname "lo" accept
abbrev pub from_loopback_tokens : List Terminal → List Terminal
from_loopback_tokens rest = word (codes "iifname") ∷ string (codes "lo") ∷ word (codes "accept") ∷ rest

abbrev pub from_loopback : RuleTree
from_loopback = uncommented (equals selectors.InputName (tree.string (codes "lo")) ∷ tree.verdict tree.accept
    ∷ [])

-- iifname accept accept
abbrev pub from_accept_tokens : List Terminal → List Terminal
from_accept_tokens rest = word (codes "iifname") ∷ word (codes "accept") ∷ word (codes "accept") ∷ rest

abbrev pub from_accept : RuleTree
from_accept = uncommented (equals selectors.InputName (tree.word (codes "accept")) ∷ tree.verdict tree.accept
    ∷ [])

-- ct state established,related accept
abbrev pub known_connection_tokens : List Terminal → List Terminal
known_connection_tokens rest =
    word (codes "ct") ∷ word (codes "state") ∷ word (codes "established") ∷ punctuator Comma
    ∷ word (codes "related")
    ∷ word (codes "accept") ∷ rest

abbrev pub known_connection : RuleTree
known_connection = uncommented (
    tree.matching (tree.bits bit_fields.State bit_tests.Any (codes "established" ∷ codes "related" ∷ []))
    ∷ tree.verdict tree.accept
    ∷ [])

-- goto b
abbrev pub goto_b_tokens : List Terminal → List Terminal
goto_b_tokens rest = word (codes "goto") ∷ word (codes "b") ∷ rest

abbrev pub goto_b : RuleTree
goto_b = uncommented (tree.verdict (tree.goto (codes "b")) ∷ [])

-- ip saddr vmap @m
abbrev pub verdict_by_source_tokens : List Terminal → List Terminal
verdict_by_source_tokens rest =
    word (codes "ip") ∷ word (codes "saddr") ∷ word (codes "vmap") ∷ punctuator At ∷ word (codes "m") ∷ rest

abbrev pub verdict_by_source : RuleTree
verdict_by_source = uncommented (tree.verdict_map selectors.IpSource (tree.named_map (codes "m")) ∷ [])

-- ip saddr @lan4 tcp dport { 22, 80-443 } counter packets 12 bytes 840 accept comment "in"
abbrev pub web_from_lan_tokens : List Terminal → List Terminal
web_from_lan_tokens rest =
    word (codes "ip") ∷ word (codes "saddr") ∷ punctuator At ∷ word (codes "lan4") ∷ word (codes "tcp")
    ∷ word (codes "dport") ∷ punctuator OpenBrace ∷ number 22 ∷ punctuator Comma ∷ number 80
    ∷ punctuator Minus ∷ number 443
    ∷ punctuator CloseBrace ∷ word (codes "counter") ∷ word (codes "packets") ∷ number 12
    ∷ word (codes "bytes")
    ∷ number 840 ∷ word (codes "accept") ∷ word (codes "comment") ∷ string (codes "in") ∷ rest

abbrev pub web_from_lan : RuleTree
web_from_lan = record {
  statements =
      is_in selectors.IpSource (tree.named_set (codes "lan4"))
      ∷ is_in selectors.TcpDestination (tree.elements (
      element (tree.one (tree.number 22))
      ∷ element (tree.between (tree.number 80) (tree.number 443))
      ∷ []))
      ∷ tree.counter (Some (record { packets = 12; bytes = 840 }))
      ∷ tree.verdict tree.accept
      ∷ [];
  comment = Some (codes "in");
}

-- ct state vmap { invalid : drop, established : accept, related : accept }
abbrev pub verdict_by_state_tokens : List Terminal → List Terminal
verdict_by_state_tokens rest =
    word (codes "ct") ∷ word (codes "state") ∷ word (codes "vmap") ∷ punctuator OpenBrace
    ∷ word (codes "invalid")
    ∷ punctuator Colon ∷ word (codes "drop") ∷ punctuator Comma ∷ word (codes "established")
    ∷ punctuator Colon ∷ word (codes "accept")
    ∷ punctuator Comma ∷ word (codes "related") ∷ punctuator Colon ∷ word (codes "accept")
    ∷ punctuator CloseBrace ∷ rest

abbrev pub verdict_by_state : RuleTree
verdict_by_state = uncommented (
    tree.verdict_map selectors.CtState (tree.pairs (
    verdict_pair (codes "invalid") tree.drop
    ∷ verdict_pair (codes "established") tree.accept
    ∷ verdict_pair (codes "related") tree.accept
    ∷ []))
    ∷ [])

-- tcp flags & (syn | ack) == syn drop
abbrev pub opening_by_mask_tokens : List Terminal → List Terminal
opening_by_mask_tokens rest =
    word (codes "tcp") ∷ word (codes "flags") ∷ punctuator Ampersand ∷ punctuator OpenParenthesis
    ∷ word (codes "syn")
    ∷ punctuator Bar ∷ word (codes "ack") ∷ punctuator CloseParenthesis ∷ punctuator EqualTo
    ∷ word (codes "syn") ∷ word (codes "drop")
    ∷ rest

-- tcp flags syn / syn,ack drop
abbrev pub opening_by_slash_tokens : List Terminal → List Terminal
opening_by_slash_tokens rest =
    word (codes "tcp") ∷ word (codes "flags") ∷ word (codes "syn") ∷ punctuator Slash ∷ word (codes "syn")
    ∷ punctuator Comma
    ∷ word (codes "ack") ∷ word (codes "drop") ∷ rest

abbrev pub opening : RuleTree
opening = uncommented (
    tree.matching (tree.masked_flags
    (tree.flag_word (codes "syn") ∷ [])
    (tree.flag_word (codes "syn") ∷ tree.flag_word (codes "ack") ∷ []))
    ∷ tree.verdict tree.drop
    ∷ [])

-- ip daddr . udp dport { 198.51.100.7 . 53 } accept
abbrev pub to_name_server_tokens : List Terminal → List Terminal
to_name_server_tokens rest =
    word (codes "ip") ∷ word (codes "daddr") ∷ punctuator Dot ∷ word (codes "udp") ∷ word (codes "dport")
    ∷ punctuator OpenBrace
    ∷ address 0xC6336407 ∷ punctuator Dot ∷ number 53 ∷ punctuator CloseBrace ∷ word (codes "accept") ∷ rest

abbrev pub to_name_server : RuleTree
to_name_server = uncommented (
    tree.matching (tree.is_in (selectors.IpDestination ∷ selectors.UdpDestination ∷ [])
    (tree.elements (record {
      key = tree.joined (tree.address 0xC6336407 ∷ tree.number 53 ∷ []);
      comment = None;
    } ∷
    [])))
    ∷ tree.verdict tree.accept ∷ [])

-- oifname "wan" masquerade
abbrev pub masqueraded_tokens : List Terminal → List Terminal
masqueraded_tokens rest = word (codes "oifname") ∷ string (codes "wan") ∷ word (codes "masquerade") ∷ rest

abbrev pub masqueraded : RuleTree
masqueraded =
    uncommented (equals selectors.OutputName (tree.string (codes "wan")) ∷ tree.nat (tree.masquerade None)
    ∷ [])

-- snat to 203.0.113.1:1024-1025
abbrev pub translated_source_tokens : List Terminal → List Terminal
translated_source_tokens rest =
    word (codes "snat") ∷ word (codes "to") ∷ address 0xCB007101 ∷ punctuator Colon ∷ number 1024
    ∷ punctuator Minus
    ∷ number 1025 ∷ rest

abbrev pub translated_source : RuleTree
translated_source =
    uncommented (tree.nat (tree.source (tree.source_address 0xCB007101
    (Some (port_ranges.Between 1024 1025)))) ∷ [])

-- meta mark set ct mark
abbrev pub mark_from_connection_tokens : List Terminal → List Terminal
mark_from_connection_tokens rest =
    word (codes "meta") ∷ word (codes "mark") ∷ word (codes "set") ∷ word (codes "ct") ∷ word (codes "mark")
    ∷ rest

abbrev pub mark_from_connection : RuleTree
mark_from_connection = uncommented (tree.set_mark mark_fields.Meta (tree.mark_of mark_fields.Ct) ∷ [])

-- ct mark set 7
abbrev pub connection_marked_tokens : List Terminal → List Terminal
connection_marked_tokens rest = word (codes "ct") ∷ word (codes "mark") ∷ word (codes "set") ∷ number 7 ∷ rest

abbrev pub connection_marked : RuleTree
connection_marked = uncommented (tree.set_mark mark_fields.Ct (tree.constant 7) ∷ [])

-- tcp flags & (fin | syn) != 0 continue
abbrev pub some_flag_tokens : List Terminal → List Terminal
some_flag_tokens rest =
    word (codes "tcp") ∷ word (codes "flags") ∷ punctuator Ampersand ∷ punctuator OpenParenthesis
    ∷ word (codes "fin")
    ∷ punctuator Bar ∷ word (codes "syn") ∷ punctuator CloseParenthesis ∷ punctuator NotEqualTo ∷ number 0
    ∷ word (codes "continue")
    ∷ rest

abbrev pub some_flag : RuleTree
some_flag = uncommented (
    tree.matching (tree.masked_flags_unequal
    (tree.flag_number 0 ∷ [])
    (tree.flag_word (codes "fin") ∷ tree.flag_word (codes "syn") ∷ []))
    ∷ tree.verdict tree.continue
    ∷ [])

-- tcp flags == syn,ack ct status != dnat drop
abbrev pub syn_ack_tokens : List Terminal → List Terminal
syn_ack_tokens rest =
    word (codes "tcp") ∷ word (codes "flags") ∷ punctuator EqualTo ∷ word (codes "syn") ∷ punctuator Comma
    ∷ word (codes "ack")
    ∷ word (codes "ct") ∷ word (codes "status") ∷ punctuator NotEqualTo ∷ word (codes "dnat")
    ∷ word (codes "drop") ∷ rest

abbrev pub syn_ack : RuleTree
syn_ack = uncommented (
    tree.matching (tree.exact_flags (tree.flag_word (codes "syn") ∷ tree.flag_word (codes "ack") ∷ []))
    ∷ tree.matching (tree.bits bit_fields.Status bit_tests.None (codes "dnat" ∷ []))
    ∷ tree.verdict tree.drop
    ∷ [])

-- meta mark set ip saddr map { 10.0.0.1 - 10.0.0.9 : 16 } counter
abbrev pub mark_by_source_tokens : List Terminal → List Terminal
mark_by_source_tokens rest =
    word (codes "meta") ∷ word (codes "mark") ∷ word (codes "set") ∷ word (codes "ip") ∷ word (codes "saddr")
    ∷ word (codes "map") ∷ punctuator OpenBrace ∷ address 0x0A000001 ∷ punctuator Minus ∷ address 0x0A000009
    ∷ punctuator Colon
    ∷ number 16 ∷ punctuator CloseBrace ∷ word (codes "counter") ∷ rest

abbrev pub mark_by_source : RuleTree
mark_by_source = uncommented (
    tree.set_mark mark_fields.Meta (tree.looked_up (record {
      selector = selectors.IpSource;
      map = tree.pairs (record {
        key = tree.between (tree.address 0x0A000001) (tree.address 0x0A000009);
        comment = None;
        value = tree.to_value (tree.number 16);
      } ∷ []);
    }))
    ∷ tree.counter None
    ∷ [])

-- udp dport 53 notrack
abbrev pub names_untracked_tokens : List Terminal → List Terminal
names_untracked_tokens rest = word (codes "udp") ∷ word (codes "dport") ∷ number 53 ∷ word (codes "notrack")
    ∷ rest

abbrev pub names_untracked : RuleTree
names_untracked = uncommented (equals selectors.UdpDestination (tree.number 53) ∷ tree.notrack ∷ [])

-- ip saddr != 10.0.0.0/8 tcp sport >= 1024 log prefix "high" redirect to :8080
abbrev pub outside_logged_tokens : List Terminal → List Terminal
outside_logged_tokens rest =
    word (codes "ip") ∷ word (codes "saddr") ∷ punctuator NotEqualTo ∷ address 0x0A000000 ∷ punctuator Slash
    ∷ number 8
    ∷ word (codes "tcp") ∷ word (codes "sport") ∷ punctuator AtLeast ∷ number 1024 ∷ word (codes "log")
    ∷ word (codes "prefix") ∷ string (codes "high") ∷ word (codes "redirect") ∷ word (codes "to")
    ∷ punctuator Colon
    ∷ number 8080 ∷ rest

abbrev pub outside_logged : RuleTree
outside_logged = uncommented (
    tree.matching (tree.compare selectors.IpSource operators.Unequal (tree.prefix 0x0A000000 8))
    ∷ tree.matching (tree.compare selectors.TcpSource operators.AtLeast (tree.one (tree.number 1024)))
    ∷ tree.log (Some (codes "high"))
    ∷ tree.nat (tree.redirect (Some 8080))
    ∷ [])

-- 10.0.0.0/8,
-- 192.168.0.0/16, }
abbrev pub private_networks_tokens : List Terminal → List Terminal
private_networks_tokens rest =
    address 0x0A000000 ∷ punctuator Slash ∷ number 8 ∷ punctuator Comma ∷ newline
    ∷ address 0xC0A80000 ∷ punctuator Slash ∷ number 16 ∷ punctuator Comma ∷ punctuator CloseBrace ∷ rest

abbrev pub private_networks : List ElementTree
private_networks = element (tree.prefix 0x0A000000 8) ∷ element (tree.prefix 0xC0A80000 16) ∷ []

-- set lan4 {
-- type ipv4_addr
-- flags interval
-- auto-merge
-- elements = { 10.0.0.0/8 }
-- }
abbrev pub local_network_tokens : List Terminal → List Terminal
local_network_tokens rest =
    word (codes "set") ∷ word (codes "lan4") ∷ punctuator OpenBrace ∷ newline
    ∷ word (codes "type") ∷ word (codes "ipv4_addr") ∷ newline
    ∷ word (codes "flags") ∷ word (codes "interval") ∷ newline
    ∷ word (codes "auto-merge") ∷ newline
    ∷ word (codes "elements") ∷ punctuator Equals ∷ punctuator OpenBrace ∷ address 0x0A000000
    ∷ punctuator Slash ∷ number 8
    ∷ punctuator CloseBrace ∷ newline
    ∷ punctuator CloseBrace ∷ rest

abbrev pub local_network : SetTree
local_network = record {
  name = codes "lan4";
  key = tree.types (value_types.Address ∷ []);
  flags = Some (set_flags.Interval ∷ []);
  size = None;
  auto_merge = true;
  comment = None;
  elements = Some (element (tree.prefix 0x0A000000 8) ∷ []);
}

-- 10.0.0.1 . 22 comment "first"
abbrev pub guest_elements : List ElementTree
guest_elements =
    record {
      key = tree.joined (tree.address 0x0A000001 ∷ tree.number 22 ∷ []);
      comment = Some (codes "first");
    } ∷ []

-- set guests { typeof ip saddr . tcp dport; flags constant, interval; size 10; comment "by port";
-- elements = { 10.0.0.1 . 22 comment "first", }; }
abbrev pub guests_tokens : List Terminal → List Terminal
guests_tokens rest =
    word (codes "set") ∷ word (codes "guests") ∷ punctuator OpenBrace ∷ word (codes "typeof")
    ∷ word (codes "ip")
    ∷ word (codes "saddr") ∷ punctuator Dot ∷ word (codes "tcp") ∷ word (codes "dport") ∷ punctuator Semicolon
    ∷ word (codes "flags") ∷ word (codes "constant") ∷ punctuator Comma ∷ word (codes "interval")
    ∷ punctuator Semicolon
    ∷ word (codes "size") ∷ number 10 ∷ punctuator Semicolon ∷ word (codes "comment")
    ∷ string (codes "by port")
    ∷ punctuator Semicolon ∷ word (codes "elements") ∷ punctuator Equals ∷ punctuator OpenBrace
    ∷ address 0x0A000001 ∷ punctuator Dot
    ∷ number 22 ∷ word (codes "comment") ∷ string (codes "first") ∷ punctuator Comma ∷ punctuator CloseBrace
    ∷ punctuator Semicolon
    ∷ punctuator CloseBrace ∷ rest

abbrev pub guests : SetTree
guests = record {
  name = codes "guests";
  key = tree.selectors (selectors.IpSource ∷ selectors.TcpDestination ∷ []);
  flags = Some (set_flags.Constant ∷ set_flags.Interval ∷ []);
  size = Some 10;
  auto_merge = false;
  comment = Some (codes "by port");
  elements = Some guest_elements;
}

-- "lo" : goto b, eth0 : drop
abbrev pub interface_pairs : List PairTree
interface_pairs =
    record {
      key = tree.one (tree.string (codes "lo"));
      comment = None;
      value = tree.to_verdict (tree.goto (codes "b"));
    }
    ∷ verdict_pair (codes "eth0") tree.drop
    ∷ []

-- map by_interface { elements = { "lo" : goto b, eth0 : drop }; typeof iifname : verdict }
abbrev pub by_interface_tokens : List Terminal → List Terminal
by_interface_tokens rest =
    word (codes "map") ∷ word (codes "by_interface") ∷ punctuator OpenBrace ∷ word (codes "elements")
    ∷ punctuator Equals
    ∷ punctuator OpenBrace ∷ string (codes "lo") ∷ punctuator Colon ∷ word (codes "goto") ∷ word (codes "b")
    ∷ punctuator Comma
    ∷ word (codes "eth0") ∷ punctuator Colon ∷ word (codes "drop") ∷ punctuator CloseBrace
    ∷ punctuator Semicolon
    ∷ word (codes "typeof") ∷ word (codes "iifname") ∷ punctuator Colon ∷ word (codes "verdict")
    ∷ punctuator CloseBrace ∷ rest

abbrev pub by_interface : MapTree
by_interface = record {
  name = codes "by_interface";
  types = map_types.Selectors selectors.InputName selectors_or_verdicts.Verdict;
  flags = None;
  size = None;
  auto_merge = false;
  comment = None;
  elements = Some interface_pairs;
}

-- chain watch { type filter hook forward priority -150; jump b; ip saddr 10.0.0.1 - 10.0.0.9 drop; }
abbrev pub watch_tokens : List Terminal → List Terminal
watch_tokens rest =
    word (codes "chain") ∷ word (codes "watch") ∷ punctuator OpenBrace ∷ word (codes "type")
    ∷ word (codes "filter")
    ∷ word (codes "hook") ∷ word (codes "forward") ∷ word (codes "priority") ∷ punctuator Minus ∷ number 150
    ∷ punctuator Semicolon ∷ word (codes "jump") ∷ word (codes "b") ∷ punctuator Semicolon ∷ word (codes "ip")
    ∷ word (codes "saddr") ∷ address 0x0A000001 ∷ punctuator Minus ∷ address 0x0A000009 ∷ word (codes "drop")
    ∷ punctuator Semicolon ∷ punctuator CloseBrace ∷ rest

abbrev pub watch : ChainTree
watch = record {
  name = codes "watch";
  notes = [];
  head = Some (record {
    kind = chain_kinds.Filter;
    hook = hooks.Forward;
    priority = priorities.Number offset_signs.Minus 150;
    policy = None;
    notes = [];
  });
  rules =
      uncommented (tree.verdict (tree.jump (codes "b")) ∷ [])
      ∷ uncommented (
      tree.matching (tree.compare selectors.IpSource operators.Equal
      (tree.between (tree.address 0x0A000001) (tree.address 0x0A000009)))
      ∷ tree.verdict tree.drop
      ∷ [])
      ∷ [];
}

-- A filter chain's hook specification at priority `filter`, with a policy.
abbrev pub filter_head : Hook → Policy → HeadTree
filter_head hook policy = record {
  kind = chain_kinds.Filter;
  hook = hook;
  priority = priorities.Named priority_names.Filter;
  policy = Some policy;
  notes = [];
}

-- table inet filter {
-- chain input {
-- type filter hook input priority filter; policy drop;
-- iifname "lo" accept
-- }
-- }
abbrev pub loopback_only_tokens : List Terminal
loopback_only_tokens =
    word (codes "table") ∷ word (codes "inet") ∷ word (codes "filter") ∷ punctuator OpenBrace ∷ newline
    ∷ word (codes "chain") ∷ word (codes "input") ∷ punctuator OpenBrace ∷ newline
    ∷ word (codes "type") ∷ word (codes "filter") ∷ word (codes "hook") ∷ word (codes "input")
    ∷ word (codes "priority") ∷ word (codes "filter") ∷ punctuator Semicolon ∷ word (codes "policy")
    ∷ word (codes "drop")
    ∷ punctuator Semicolon ∷ newline
    ∷ word (codes "iifname") ∷ string (codes "lo") ∷ word (codes "accept") ∷ newline
    ∷ punctuator CloseBrace ∷ newline
    ∷ punctuator CloseBrace ∷ []

abbrev pub loopback_only : List TableTree
loopback_only =
    record {
      family = families.Inet;
      name = codes "filter";
      items =
          tree.chain (record {
            name = codes "input";
            notes = [];
            head = Some (filter_head hooks.Input policies.Drop);
            rules = from_loopback ∷ [];
          })
          ∷ [];
    }
    ∷ []

-- table t { }
abbrev pub table_t_tokens : List Terminal
table_t_tokens = word (codes "table") ∷ word (codes "t") ∷ punctuator OpenBrace ∷ punctuator CloseBrace ∷ []

abbrev pub table_t : List TableTree
table_t = record { family = families.Ip; name = codes "t"; items = [] } ∷ []

-- table ip { }
abbrev pub table_ip_tokens : List Terminal
table_ip_tokens = word (codes "table") ∷ word (codes "ip") ∷ punctuator OpenBrace ∷ punctuator CloseBrace ∷ []

abbrev pub table_ip : List TableTree
table_ip = record { family = families.Ip; name = codes "ip"; items = [] } ∷ []

-- table inet filter {
--     set lan4 {
--         type ipv4_addr
--         flags interval
--         auto-merge
--         elements = { 10.0.0.0/8,
--                      192.168.0.0/16 }
--     }
--
--     chain input {
--         type filter hook input priority filter; policy drop;
--         ct state vmap { invalid : drop, established : accept, related : accept }
--         iifname "lo" accept
--         ip saddr @lan4 tcp dport { 22, 80-443 } counter packets 12 bytes 840 accept comment "in"
--         meta l4proto { icmp, ipv6-icmp } accept
--     }
-- }
abbrev pub filter_listing_tokens : List Terminal
filter_listing_tokens =
    word (codes "table") ∷ word (codes "inet") ∷ word (codes "filter") ∷ punctuator OpenBrace ∷ newline
    ∷ word (codes "set") ∷ word (codes "lan4") ∷ punctuator OpenBrace ∷ newline
    ∷ word (codes "type") ∷ word (codes "ipv4_addr") ∷ newline
    ∷ word (codes "flags") ∷ word (codes "interval") ∷ newline
    ∷ word (codes "auto-merge") ∷ newline
    ∷ word (codes "elements") ∷ punctuator Equals ∷ punctuator OpenBrace ∷ address 0x0A000000
    ∷ punctuator Slash ∷ number 8 ∷ punctuator Comma
    ∷ newline
    ∷ address 0xC0A80000 ∷ punctuator Slash ∷ number 16 ∷ punctuator CloseBrace ∷ newline
    ∷ punctuator CloseBrace ∷ newline
    ∷ newline
    ∷ word (codes "chain") ∷ word (codes "input") ∷ punctuator OpenBrace ∷ newline
    ∷ word (codes "type") ∷ word (codes "filter") ∷ word (codes "hook") ∷ word (codes "input")
    ∷ word (codes "priority") ∷ word (codes "filter") ∷ punctuator Semicolon ∷ word (codes "policy")
    ∷ word (codes "drop")
    ∷ punctuator Semicolon ∷ newline
    ∷ word (codes "ct") ∷ word (codes "state") ∷ word (codes "vmap") ∷ punctuator OpenBrace
    ∷ word (codes "invalid")
    ∷ punctuator Colon ∷ word (codes "drop") ∷ punctuator Comma ∷ word (codes "established")
    ∷ punctuator Colon ∷ word (codes "accept")
    ∷ punctuator Comma ∷ word (codes "related") ∷ punctuator Colon ∷ word (codes "accept")
    ∷ punctuator CloseBrace ∷ newline
    ∷ word (codes "iifname") ∷ string (codes "lo") ∷ word (codes "accept") ∷ newline
    ∷ word (codes "ip") ∷ word (codes "saddr") ∷ punctuator At ∷ word (codes "lan4") ∷ word (codes "tcp")
    ∷ word (codes "dport") ∷ punctuator OpenBrace ∷ number 22 ∷ punctuator Comma ∷ number 80
    ∷ punctuator Minus ∷ number 443
    ∷ punctuator CloseBrace ∷ word (codes "counter") ∷ word (codes "packets") ∷ number 12
    ∷ word (codes "bytes")
    ∷ number 840 ∷ word (codes "accept") ∷ word (codes "comment") ∷ string (codes "in") ∷ newline
    ∷ word (codes "meta") ∷ word (codes "l4proto") ∷ punctuator OpenBrace ∷ word (codes "icmp")
    ∷ punctuator Comma
    ∷ word (codes "ipv6-icmp") ∷ punctuator CloseBrace ∷ word (codes "accept") ∷ newline
    ∷ punctuator CloseBrace ∷ newline
    ∷ punctuator CloseBrace ∷ newline
    ∷ []

abbrev pub filter_listing : List TableTree
filter_listing =
    record {
      family = families.Inet;
      name = codes "filter";
      items =
          tree.set (record local_network { elements = Some private_networks })
          ∷ tree.chain (record {
            name = codes "input";
            notes = [];
            head = Some (filter_head hooks.Input policies.Drop);
            rules = verdict_by_state ∷ from_loopback ∷ web_from_lan ∷ either_icmp ∷ [];
          })
          ∷ [];
    }
    ∷ []

-- 80 comment "front" : 10.0.0.1, 443 : 10.0.0.2
abbrev pub web_servers : List PairTree
web_servers =
    record {
      key = tree.one (tree.number 80);
      comment = Some (codes "front");
      value = tree.to_value (tree.address 0x0A000001);
    }
    ∷ record {
      key = tree.one (tree.number 443);
      comment = None;
      value = tree.to_value (tree.address 0x0A000002);
    }
    ∷ []

-- flush ruleset
--
-- table ip nat {
--     comment "translation"
--     map web { type inet_service : ipv4_addr; elements = { 80 comment "front" : 10.0.0.1, 443 : 10.0.0.2 } }
--     chain in {
--         comment "from outside"
--         type nat hook prerouting priority dstnat + 10
--         comment "before routing"
--
--         meta iifname "wan" dnat ip to tcp dport map @web; return
--     }
-- }
abbrev pub translation_tokens : List Terminal
translation_tokens =
    word (codes "flush") ∷ word (codes "ruleset") ∷ newline
    ∷ newline
    ∷ word (codes "table") ∷ word (codes "ip") ∷ word (codes "nat") ∷ punctuator OpenBrace ∷ newline
    ∷ word (codes "comment") ∷ string (codes "translation") ∷ newline
    ∷ word (codes "map") ∷ word (codes "web") ∷ punctuator OpenBrace ∷ word (codes "type")
    ∷ word (codes "inet_service")
    ∷ punctuator Colon ∷ word (codes "ipv4_addr") ∷ punctuator Semicolon ∷ word (codes "elements")
    ∷ punctuator Equals ∷ punctuator OpenBrace
    ∷ number 80 ∷ word (codes "comment") ∷ string (codes "front") ∷ punctuator Colon ∷ address 0x0A000001
    ∷ punctuator Comma
    ∷ number 443 ∷ punctuator Colon ∷ address 0x0A000002 ∷ punctuator CloseBrace ∷ punctuator CloseBrace
    ∷ newline
    ∷ word (codes "chain") ∷ word (codes "in") ∷ punctuator OpenBrace ∷ newline
    ∷ word (codes "comment") ∷ string (codes "from outside") ∷ newline
    ∷ word (codes "type") ∷ word (codes "nat") ∷ word (codes "hook") ∷ word (codes "prerouting")
    ∷ word (codes "priority") ∷ word (codes "dstnat") ∷ punctuator Plus ∷ number 10 ∷ newline
    ∷ word (codes "comment") ∷ string (codes "before routing") ∷ newline
    ∷ newline
    ∷ word (codes "meta") ∷ word (codes "iifname") ∷ string (codes "wan") ∷ word (codes "dnat")
    ∷ word (codes "ip")
    ∷ word (codes "to") ∷ word (codes "tcp") ∷ word (codes "dport") ∷ word (codes "map") ∷ punctuator At
    ∷ word (codes "web") ∷ punctuator Semicolon ∷ word (codes "return") ∷ newline
    ∷ punctuator CloseBrace ∷ newline
    ∷ punctuator CloseBrace ∷ []

abbrev pub translation : List TableTree
translation =
    record {
      family = families.Ip;
      name = codes "nat";
      items =
          tree.comment (codes "translation")
          ∷ tree.map_item (record {
            name = codes "web";
            types = map_types.Types value_types.Service (types_or_verdicts.Type value_types.Address);
            flags = None;
            size = None;
            auto_merge = false;
            comment = None;
            elements = Some web_servers;
          })
          ∷ tree.chain (record {
            name = codes "in";
            notes = codes "from outside" ∷ [];
            head = Some (record {
              kind = chain_kinds.Nat;
              hook = hooks.Prerouting;
              priority = priorities.Offset priority_names.DstNat offset_signs.Plus 10;
              policy = None;
              notes = codes "before routing" ∷ [];
            });
            rules =
                uncommented (
                equals selectors.InputName (tree.string (codes "wan"))
                ∷ tree.nat (tree.destination (tree.destination_lookup (record {
                  selector = selectors.TcpDestination;
                  map = tree.named_map (codes "web");
                })))
                ∷ [])
                ∷ uncommented (tree.verdict tree.return ∷ [])
                ∷ [];
          })
          ∷ [];
    }
    ∷ []

-- chain fwd drop
abbrev pub unsupported_tokens : List Terminal → List Terminal
unsupported_tokens rest = word (codes "chain") ∷ word (codes "fwd") ∷ word (codes "drop") ∷ rest

-- tcp dport
abbrev pub none_unsupported_tokens : List Terminal → List Terminal
none_unsupported_tokens rest = word (codes "tcp") ∷ word (codes "dport") ∷ rest
