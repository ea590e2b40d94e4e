-- Facts of a box from bits.
use Rattle.std.proofs.Common.{◌≡◌, ◌^◌, ℕ, ◌<◌, ◌+◌, List, [], ◌∷◌, Bool, true, false, cond, refl, ap, sym, arith, lit<, Option, Some, None, IfSome}
use Rattle.packet_sets.specs.Sets.{field_value}
use Rattle.ip_headers.specs.declared.transport.Transport.{Transport}
use Rattle.ip_headers.specs.declared.transport.Transport.TheVariants.{Tcp, Udp, Icmp, Other}
use Rattle.rule_meaning.specs.declared.facts.Facts.{Facts}
use Rattle.rule_meaning.specs.declared.facts.Interface.{Interface}
use Rattle.rule_meaning.specs.declared.facts.CtFacts.{CtFacts}
use Rattle.rule_meaning.specs.declared.facts.CtFacts.TheVariants as ct
use Rattle.rule_meaning.specs.declared.facts.ConnectionFacts.{ConnectionFacts}
use Rattle.rule_meaning.specs.declared.facts.CtState.{CtState}
use Rattle.rule_meaning.specs.declared.facts.CtState.TheVariants as states
use Rattle.ip_headers.specs.declared.tuple.Direction.{Direction}
use Rattle.ip_headers.specs.declared.tuple.Direction.TheVariants as directions
use Rattle.fact_sets.specs.declared.written.Written.{Written}
use Rattle.fact_sets.specs.Boxes.{HasBits, IsCt, IsInterface, IsOfBox, IsTransport, NOTHING}
use Rattle.fact_sets.specs.Facts.{CT_MARK, DESTINATION_PORT, FLAGS, ICMP_TYPE, SOURCE_PORT}
use Rattle.fact_sets.specs.Facts.{ct_at, facts_of, interface_at, mark_number, number_in, transport_at}
use Rattle.fact_sets.proofs.BitLaws.{FitAll, HasAll, bits_of, has_all}

-- ---- the numbers that facts write

code : Bool → ℕ
code b = cond b 1 0

transport-code : Transport → ℕ
transport-code (Tcp source destination flags) = 1
transport-code (Udp source destination) = 2
transport-code (Icmp message) = 3
transport-code Other = 0

source-port : Transport → ℕ
source-port (Tcp source destination flags) = source
source-port (Udp source destination) = source
source-port _ = 0

destination-port : Transport → ℕ
destination-port (Tcp source destination flags) = destination
destination-port (Udp source destination) = destination
destination-port _ = 0

flags-of : Transport → ℕ
flags-of (Tcp source destination flags) = flags
flags-of _ = 0

message-of : Transport → ℕ
message-of (Icmp message) = message
message-of _ = 0

state-code : CtState → ℕ
state-code states.Established = 4
state-code states.Related = 5
state-code states.New = 6

is-reply : Direction → Bool
is-reply directions.Original = false
is-reply directions.Reply = true

ct-code : CtFacts → ℕ
ct-code ct.NotLookedUp = 0
ct-code ct.Notrack = 1
ct-code ct.Untracked = 2
ct-code ct.Invalid = 3
ct-code (ct.Known c) = state-code c.state

-- the connection's facts, or any
connection : CtFacts → ConnectionFacts
connection (ct.Known c) = c
connection _ = record {
  state = states.New;
  direction = directions.Original;
  mark = 0;
  seen_reply = false;
  source_translated = false;
  destination_translated = false;
}

-- ---- and what they are read as

same-bits : (a b : Bool) → cond a 1 0 + 0 ≡ cond b 1 0 → a ≡ b
same-bits true true h = refl
same-bits false false h = refl
same-bits true false h = absurd (omega arith)
same-bits false true h = absurd (omega arith)

bit-is : (k : ℕ) (b : Bool) (f : ℕ → Bool) → field_value k 1 f ≡ code b → f k ≡ b
unfolding field_value code
bit-is k b f h = same-bits (f k) b h

transport-read : (t : Transport) (f : ℕ → Bool) (n : ℕ) → n ≡ transport-code t → number_in SOURCE_PORT f ≡ source-port t
    → number_in DESTINATION_PORT f ≡ destination-port t → number_in FLAGS f ≡ flags-of t → number_in ICMP_TYPE f ≡ message-of t → transport_at n f ≡ t
unfolding transport-code source-port destination-port flags-of message-of
transport-read (Tcp source destination flags) f n hn hs hd hf hm = rw (hn, hs, hd, hf) refl
transport-read (Udp source destination) f n hn hs hd hf hm = rw (hn, hs, hd) refl
transport-read (Icmp message) f n hn hs hd hf hm = rw (hn, hm) refl
transport-read Other f n hn hs hd hf hm = rw hn refl

known-at : (s : CtState) (w : Written) (f : ℕ → Bool) → ct_at w (state-code s) f ≡ ct.Known (record {
  state = s;
  direction = cond (f 26) directions.Reply directions.Original;
  mark = mark_number w.connection f;
  seen_reply = f 29;
  source_translated = f 28;
  destination_translated = f 27;
})
unfolding state-code
known-at states.Established w f = refl
known-at states.Related w f = refl
known-at states.New w f = refl

direction-read : (d : Direction) → cond (is-reply d) directions.Reply directions.Original ≡ d
unfolding is-reply
direction-read directions.Original = refl
direction-read directions.Reply = refl

ct-read : (x : CtFacts) (f : ℕ → Bool) (n : ℕ) → n ≡ ct-code x → f 26 ≡ is-reply (connection x).direction → f 27 ≡ (connection x).destination_translated
    → f 28 ≡ (connection x).source_translated → f 29 ≡ (connection x).seen_reply → number_in CT_MARK f ≡ (connection x).mark → ct_at NOTHING n f ≡ x
unfolding ct-code connection
ct-read ct.NotLookedUp f n hn hd ht hs hr hm = rw hn refl
ct-read ct.Notrack f n hn hd ht hs hr hm = rw hn refl
ct-read ct.Untracked f n hn hd ht hs hr hm = rw hn refl
ct-read ct.Invalid f n hn hd ht hs hr hm = rw hn refl
ct-read (ct.Known c) f n hn hd ht hs hr hm = rw (hn, known-at c.state NOTHING f, hd, ht, hs, hr, hm, direction-read c.direction) refl

-- ---- they fit their fields

code-fits : (b : Bool) → code b < 2 ^ 1
unfolding code
code-fits true = lit< tt
code-fits false = lit< tt

transport-fits : (t : Transport) → transport-code t < 2 ^ 2
unfolding transport-code
transport-fits (Tcp source destination flags) = lit< tt
transport-fits (Udp source destination) = lit< tt
transport-fits (Icmp message) = lit< tt
transport-fits Other = lit< tt

source-fits : (t : Transport) → IsTransport t → source-port t < 2 ^ 16
unfolding source-port
source-fits (Tcp source destination flags) h = h.0
source-fits (Udp source destination) h = h.0
source-fits (Icmp message) h = lit< tt
source-fits Other h = lit< tt

destination-fits : (t : Transport) → IsTransport t → destination-port t < 2 ^ 16
unfolding destination-port
destination-fits (Tcp source destination flags) h = h.1
destination-fits (Udp source destination) h = h.1
destination-fits (Icmp message) h = lit< tt
destination-fits Other h = lit< tt

flags-fit : (t : Transport) → IsTransport t → flags-of t < 2 ^ 8
unfolding flags-of
flags-fit (Tcp source destination flags) h = h.2
flags-fit (Udp source destination) h = lit< tt
flags-fit (Icmp message) h = lit< tt
flags-fit Other h = lit< tt

message-fits : (t : Transport) → IsTransport t → message-of t < 2 ^ 8
unfolding message-of
message-fits (Tcp source destination flags) h = lit< tt
message-fits (Udp source destination) h = lit< tt
message-fits (Icmp message) h = h
message-fits Other h = lit< tt

state-fits : (s : CtState) → state-code s < 2 ^ 3
unfolding state-code
state-fits states.Established = lit< tt
state-fits states.Related = lit< tt
state-fits states.New = lit< tt

ct-fits : (x : CtFacts) → ct-code x < 2 ^ 3
unfolding ct-code
ct-fits ct.NotLookedUp = lit< tt
ct-fits ct.Notrack = lit< tt
ct-fits ct.Untracked = lit< tt
ct-fits ct.Invalid = lit< tt
ct-fits (ct.Known c) = state-fits c.state

ct-mark-fits : (x : CtFacts) → IsCt x → (connection x).mark < 2 ^ 32
unfolding connection
ct-mark-fits ct.NotLookedUp h = lit< tt
ct-mark-fits ct.Notrack h = lit< tt
ct-mark-fits ct.Untracked h = lit< tt
ct-mark-fits ct.Invalid h = lit< tt
ct-mark-fits (ct.Known c) h = h

-- ---- all fields

fields : Facts → (input output : ℕ) → Bool → List (ℕ × ℕ)
fields f input output leaves =
    (8, f.packet.protocol)
    ∷ (2, transport-code f.packet.transport)
    ∷ (6, input)
    ∷ (1, code leaves)
    ∷ (6, output)
    ∷ (3, ct-code f.ct)
    ∷ (1, code (is-reply (connection f.ct).direction))
    ∷ (1, code (connection f.ct).destination_translated)
    ∷ (1, code (connection f.ct).source_translated)
    ∷ (1, code (connection f.ct).seen_reply)
    ∷ (32, f.packet.destination)
    ∷ (32, f.packet.source)
    ∷ (16, destination-port f.packet.transport)
    ∷ (16, source-port f.packet.transport)
    ∷ (8, flags-of f.packet.transport)
    ∷ (8, message-of f.packet.transport)
    ∷ (16, f.packet.length)
    ∷ (8, f.packet.ttl)
    ∷ (32, f.mark)
    ∷ (32, (connection f.ct).mark)
    ∷ []

fields-fit : (interfaces : List Interface) (f : Facts) (input output : ℕ) (leaves : Bool) → IsOfBox interfaces f → input < 64 → output < 64
    → FitAll (fields f input output leaves)
unfolding fields
fields-fit interfaces f input output leaves h hi ho = (
  h.packet.protocol,
  (
    transport-fits f.packet.transport,
    (
      hi,
      (
        code-fits leaves,
        (
          ho,
          (
            ct-fits f.ct,
            (
              code-fits (is-reply (connection f.ct).direction),
              (
                code-fits (connection f.ct).destination_translated,
                (
                  code-fits (connection f.ct).source_translated,
                  (
                    code-fits (connection f.ct).seen_reply,
                    (
                      h.packet.destination,
                      (
                        h.packet.source,
                        (
                          destination-fits f.packet.transport h.packet.transport,
                          (
                            source-fits f.packet.transport h.packet.transport,
                            (
                              flags-fit f.packet.transport h.packet.transport,
                              (
                                message-fits f.packet.transport h.packet.transport,
                                (
                                  h.packet.length,
                                  (
                                    h.packet.ttl,
                                    (
                                      h.mark,
                                      (
                                        ct-mark-fits f.ct h.ct,
                                        tt,
                                      ),
                                    ),
                                  ),
                                ),
                              ),
                            ),
                          ),
                        ),
                      ),
                    ),
                  ),
                ),
              ),
            ),
          ),
        ),
      ),
    ),
  ),
)

-- the bits of these numbers write the facts
written-by : (interfaces : List Interface) (f : Facts) (input output : ℕ) (leaves : Bool) (p : ℕ → Bool) → HasAll 0 (fields f input output leaves) p
    → f.input ≡ interface_at interfaces input → cond leaves (Some (interface_at interfaces output)) None ≡ f.output → facts_of interfaces NOTHING p ≡ f
unfolding fields facts_of
written-by interfaces f input output leaves p (
  protocol,
  (
    transport,
    (
      input-is,
      (
        has-output,
        (
          output-is,
          (
            tracking,
            (
              reply,
              (
                translated,
                (
                  masked,
                  (
                    answered,
                    (
                      destination,
                      (
                        source,
                        (
                          to,
                          (
                            from,
                            (flags, (message, (length, (ttl, (mark, (ct-mark, end)))))),
                          ),
                        ),
                      ),
                    ),
                  ),
                ),
              ),
            ),
          ),
        ),
      ),
    ),
  ),
) hi ho =
    let has = bit-is 16 leaves p has-output in
    let t = transport-read f.packet.transport p _ transport from to flags message in
    let c = ct-read f.ct p _ tracking (bit-is 26 _ p reply) (bit-is 27 _ p translated) (bit-is 28 _ p masked) (bit-is 29 _ p answered) ct-mark in
    rw (t, c, protocol, input-is, has, output-is, destination, source, length, ttl, mark, sym hi, ho) refl

some-output : (interfaces : List Interface) (o : Option Interface) → IfSome o (IsInterface interfaces)
    → (n : ℕ) × (leaves : Bool) × (n < 64) × (cond leaves (Some (interface_at interfaces n)) None ≡ o)
some-output interfaces None h = (0, false, lit< tt, refl)
some-output interfaces (Some i) h = (h.0, true, h.1, ap Some (sym h.2))

pub have_bits : (interfaces : List Interface) (f : Facts) → IsOfBox interfaces f → HasBits interfaces f
have_bits interfaces f h =
    let i = h.input in
    let o = some-output interfaces f.output h.output in
    let xs = fields f i.0 o.0 o.1 in
    (bits_of xs, written-by interfaces f i.0 o.0 o.1 (bits_of xs) (has_all xs (fields-fit interfaces f i.0 o.0 o.1 h i.1 o.2)) i.2 o.3)
