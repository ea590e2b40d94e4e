-- Words of nft(8) that this profile doesn't support (own): they decide between E05 and E06.
use Rattle.std.specs.Prelude.{List, [], ◌∷◌, Bool, false, codes}
use Rattle.std.specs.Borrow.{Bor}
use Rattle.std.specs.List.{list_any}
use Rattle.std.specs.Str.{bytes_eq}
use Rattle.nft_lexer.specs.Terminal as terminals
use Rattle.nft_lexer.specs.Terminal.{Terminal}
use Rattle.nft_tree.specs.Tree.{Text}

-- The unsupported words.
abbrev pub unsupported : List Text
unsupported =
    codes "define" ∷ codes "undefine" ∷ codes "redefine" ∷ codes "include" ∷ codes "add" ∷ codes "create" ∷
    codes "insert" ∷ codes "replace" ∷ codes "delete"
    ∷ codes "destroy" ∷ codes "list" ∷ codes "reset" ∷ codes "rename" ∷ codes "monitor" ∷ codes "ip6" ∷
    codes "icmpv6" ∷ codes "arp" ∷ codes "bridge" ∷ codes "netdev"
    ∷ codes "ether" ∷ codes "vlan" ∷ codes "reject" ∷ codes "limit" ∷ codes "quota" ∷ codes "queue"
    ∷ codes "dup" ∷
    codes "fwd" ∷ codes "tproxy" ∷ codes "synproxy"
    ∷ codes "flowtable" ∷ codes "flow" ∷ codes "helper" ∷ codes "expectation" ∷ codes "timeout"
    ∷ codes "expires" ∷
    codes "dynamic" ∷ codes "gc-interval" ∷ codes "numgen"
    ∷ codes "jhash" ∷ codes "symhash" ∷ codes "fib" ∷ codes "rt" ∷ codes "socket" ∷ codes "osf"
    ∷ codes "random" ∷
    codes "fully-random" ∷ codes "persistent" ∷ codes "dscp" ∷ []

-- The word of a row of a static table, without what stands beside it.
abbrev pub word_in : {A : Type 0} → Bor Text × A → Text
word_in row = row.0.now

abbrev pub is_unsupported : Terminal → Bool
is_unsupported (terminals.word w) = list_any (bytes_eq w) unsupported
is_unsupported _ = false

-- Some token is an unsupported word.
abbrev pub has_unsupported : List Terminal → Bool
has_unsupported ts = list_any is_unsupported ts
