-- Selectors (nft(8), "Payload expressions", "Meta expressions", "Conntrack expressions").
use Rattle.std.specs.Prelude.{ℕ, List, [], ◌∷◌, codes, Bool, true, false, Option, Some, None, is_some}
use Rattle.nft_lexer.specs.declared.token.Punctuator.TheVariants.{Dot}
use Rattle.nft_lexer.specs.Terminal.{Terminal}
use Rattle.nft_tree.specs.declared.selector.Selector.{Selector}
use Rattle.nft_tree.specs.declared.selector.Selector.TheVariants as fields
use Rattle.nft_tree.specs.declared.selector.ValueType.{ValueType}
use Rattle.nft_tree.specs.declared.selector.ValueType.TheVariants.{InterfaceName, InterfaceIndex}
use Rattle.nft_tree.specs.ValueTypes.{entry_in, words_of, selector_type}
use Rattle.nft_expressions.specs.declared.selector_words.Header.{Header}
use Rattle.nft_expressions.specs.declared.selector_words.Header.TheVariants as headers
use Rattle.token_reader.specs.Grammar.{Grammar, keyword, punctuation, one_of, separated, ◌▹◌, ◌∣◌}

-- The keywords after `ip`, and so on, each with its selector.
abbrev pub in_ip : List (List ℕ × Selector)
in_ip =
    (codes "saddr", fields.IpSource) ∷ (codes "daddr", fields.IpDestination)
    ∷ (codes "protocol", fields.IpProtocol) ∷
    (codes "ttl", fields.IpTtl)
    ∷ (codes "length", fields.IpLength) ∷ []

abbrev pub in_meta : List (List ℕ × Selector)
in_meta =
    (codes "l4proto", fields.MetaProtocol) ∷ (codes "length", fields.MetaLength)
    ∷ (codes "mark", fields.MetaMark) ∷
    (codes "nfproto", fields.MetaFamily)
    ∷ (codes "iifname", fields.InputName) ∷ (codes "oifname", fields.OutputName)
    ∷ (codes "iif", fields.InputIndex) ∷
    (codes "oif", fields.OutputIndex) ∷ []

abbrev pub in_tcp : List (List ℕ × Selector)
in_tcp =
    (codes "sport", fields.TcpSource) ∷ (codes "dport", fields.TcpDestination)
    ∷ (codes "flags", fields.TcpFlags) ∷ []

abbrev pub in_udp : List (List ℕ × Selector)
in_udp = (codes "sport", fields.UdpSource) ∷ (codes "dport", fields.UdpDestination) ∷ []

abbrev pub in_th : List (List ℕ × Selector)
in_th = (codes "sport", fields.TransportSource) ∷ (codes "dport", fields.TransportDestination) ∷ []

abbrev pub in_icmp : List (List ℕ × Selector)
in_icmp = (codes "type", fields.IcmpType) ∷ []

abbrev pub in_ct : List (List ℕ × Selector)
in_ct = (codes "mark", fields.CtMark) ∷ (codes "state", fields.CtState)
    ∷ (codes "direction", fields.CtDirection) ∷
    (codes "status", fields.CtStatus) ∷ []

-- The selectors that may be written without `meta`.
abbrev pub without_meta : List (List ℕ × Selector)
without_meta = (codes "iifname", fields.InputName) ∷ (codes "oifname", fields.OutputName)
    ∷ (codes "iif", fields.InputIndex) ∷
    (codes "oif", fields.OutputIndex) ∷ []

-- The words that selectors of two words begin with.
abbrev pub named_headers : List (List ℕ × Header)
named_headers =
    (codes "ip", headers.Ip) ∷ (codes "meta", headers.Meta) ∷ (codes "tcp", headers.Tcp)
    ∷ (codes "udp", headers.Udp) ∷ (codes "th", headers.Transport) ∷ (codes "icmp", headers.Icmp)
    ∷ (codes "ct", headers.Ct) ∷ []

-- The keywords after each.
abbrev pub keywords_after : Header → List (List ℕ × Selector)
keywords_after headers.Ip = in_ip
keywords_after headers.Meta = in_meta
keywords_after headers.Tcp = in_tcp
keywords_after headers.Udp = in_udp
keywords_after headers.Transport = in_th
keywords_after headers.Icmp = in_icmp
keywords_after headers.Ct = in_ct

-- anysel
unfoldable pub selector : Grammar Selector
selector =
    keyword (codes "ip") ▹ one_of in_ip
    ∣ keyword (codes "meta") ▹ one_of in_meta
    ∣ keyword (codes "tcp") ▹ one_of in_tcp
    ∣ keyword (codes "udp") ▹ one_of in_udp
    ∣ keyword (codes "th") ▹ one_of in_th
    ∣ keyword (codes "icmp") ▹ one_of in_icmp
    ∣ keyword (codes "ct") ▹ one_of in_ct
    ∣ one_of without_meta

abbrev pub SpellsSelector : Selector → List Terminal → List Terminal → Type 0
SpellsSelector = selector.spells

-- keys = anysel {"." anysel}
unfoldable pub selectors : Grammar (List Selector)
selectors = separated (punctuation Dot) selector

-- No further selector of a concatenation is here.
abbrev pub EndsSelectors : List Terminal → Type 0
EndsSelectors ts = (s : Selector) (to : List Terminal) → (punctuation Dot ▹ selector).spells s ts to → ⊥

-- The word is a symbolic constant of the data type; any word is an interface's name.
abbrev pub is_word_of : Option ValueType → List ℕ → Bool
is_word_of None w = false
is_word_of (Some InterfaceName) w = true
is_word_of (Some InterfaceIndex) w = true
is_word_of (Some t) w = is_some (entry_in (words_of t) w)

-- The word is a symbolic constant of what the selector reads.
abbrev pub is_word_for : Selector → List ℕ → Bool
is_word_for s w = is_word_of (selector_type s) w
