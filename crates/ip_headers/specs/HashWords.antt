-- The words by which tables hash tuples and mappings (own).
use Rattle.std.specs.Prelude.{ℕ, ◌+◌, ◌*◌, List, ◌++◌}
use Rattle.std.specs.Hash as fed
use Rattle.ip_headers.specs.declared.tuple.Kind.{Kind}
use Rattle.ip_headers.specs.declared.tuple.Kind.TheVariants.{Tcp, Udp, EchoRequest, EchoReply, Other}
use Rattle.ip_headers.specs.declared.tuple.Endpoint.{Endpoint}
use Rattle.ip_headers.specs.declared.tuple.Tuple.{Tuple}

-- other protocols by their number, which has eight bits, and the rest by numbers past these
abbrev pub kind_number : Kind → ℕ
kind_number Tcp = 256
kind_number Udp = 257
kind_number EchoRequest = 258
kind_number EchoReply = 259
kind_number (Other number) = number

-- an endpoint in 48 bits, and its kind above them
abbrev pub hash_word : Kind → Endpoint → ℕ
hash_word kind endpoint =
    kind_number kind * 281474976710656 + endpoint.port * 4294967296 + endpoint.address

-- the writes of a tuple's hash: a word for each endpoint
abbrev pub hash_words : Tuple → List (List ℕ)
hash_words t = fed.u64 (hash_word t.kind t.source) ++ fed.u64 (hash_word t.kind t.destination)
