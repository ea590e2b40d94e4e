-- What lookups by key find in a list of mappings, and after one more or one fewer.
use Rattle.nat_mapping.proofs.Names.{Bool, CandidateRange, Contains, Contains-cases, Contains-head, Contains-there, Endpoint, Finds, HoldsSame, InboundKey}
use Rattle.nat_mapping.proofs.Names.{IsOneToOne, Kind, List, Mapping, None, Option, Some, SourceKey, ap, arith, candidates, cond, find, from_external}
use Rattle.nat_mapping.proofs.Names.{from_internal, inbound_key_of, inbound_of, inl, inr, is_port_held, is_some, none-some, not, option_cases, option_map}
use Rattle.nat_mapping.proofs.Names.{or_else, order_of, port_of, refl, same_Some, some_of_map, source_key_of, source_of, subst, sym, true, ℕ, ◌↔◌, ◌∙◌, ◌∷◌}
use Rattle.nat_mapping.proofs.Names.{◌≡◌}
use Rattle.nat_mapping.proofs.Equal.{IsTest, here_true, inbound_parts_test, source_parts_test}
use Rattle.nat_mapping.proofs.Lists.{SameMembers, contains_alike, found_among, members_alike, more_alike, none_such, one_to_one-within, one_to_one_alike}
use Rattle.nat_mapping.proofs.Sets.{sets_all}

same_options : {Y : Type 0} (o p : Option Y) → ((y : Y) → o ≡ Some y → p ≡ Some y) → ((y : Y) → p ≡ Some y → o ≡ Some y) → o ≡ p
same_options o p to from = grind (arith, to, from)

module _ {K Y : Type 0} (make : K → Y → Mapping) where
  -- in a list with the same mappings, a lookup with the same results
  pub finds_as : (one other : List Mapping) (f g : K → Option Y) → SameMembers one other → ((k : K) → g k ≡ f k)
      → Finds make one f → Finds make other g
  finds_as one other f g members same finds = record {
    some = λ k y e. members.there _ (finds.some k y (sym (same k) ∙ e));
    all = λ k y among. same k ∙ finds.all k y (members.back _ among);
  }

  pub finds_alike : (held : List Mapping) (f g : K → Option Y) → Finds make held f → Finds make held g → (k : K) → f k ≡ g k
  finds_alike held f g one other k =
      same_options (f k) (g k) (λ y e. other.all k y (one.some k y e)) (λ y e. one.all k y (other.some k y e))

  pub one_value : (held : List Mapping) (look : K → Option Y) → Finds make held look → (k q : K) → k ≡ q → (y z : Y)
      → Contains held (make k y) → Contains held (make q z) → y ≡ z
  one_value held look finds k q same y z at also = same_Some y z (sym (finds.all k y at) ∙ ap look same ∙ finds.all q z also)

-- a mapping consists of a key and a value
pub record Keying {K Y : Type 0} (make : K → Y → Mapping) : Type 0 where
  pub key : Mapping → K
  pub value : Mapping → Y
  pub is_key : (k : K) (y : Y) → key (make k y) ≡ k
  pub is_value : (k : K) (y : Y) → value (make k y) ≡ y
  pub made : (m : Mapping) → make (key m) (value m) ≡ m

module _ {K Y : Type 0} (make : K → Y → Mapping) (by : Keying make) (e : K → K → Bool) (test : IsTest e) where
  abbrev pub look : List Mapping → K → Option Y
  look held k = option_map by.value (find (λ m. e (by.key m) k) held)

  pub found : (held : List Mapping) (k : K) (y : Y) → look held k ≡ Some y → Contains held (make k y)
  found held k y is = grind (arith, some_of_map, by.key, found_among, by.made, test.exact)

  pub listed : (held : List Mapping) → ((k : K) (y z : Y) → Contains held (make k y) → Contains held (make k z) → y ≡ z)
      → Finds make held (look held)
  listed held one = record {
    some = found held;
    all = λ k y among. elim (option_cases (find (λ m. e (by.key m) k) held)) [
      | inl none ↦ absurd (none_such (λ m. e (by.key m) k) held (make k y) none among (here_true e test _ _ (by.is_key k y)))
      | inr some ↦
          let is : look held k ≡ Some (by.value some.0) = ap (option_map by.value) some.1 in
          is ∙ ap Some (one k (by.value some.0) y (found held k _ is) among)
    ];
  }

  -- one more, the only one under its key
  pub finds_more : (held : List Mapping) (f g : K → Option Y) (k : K) (y : Y) → Finds make held f
      → ((q : K) → g q ≡ cond (e k q) (Some y) (f q)) → ((z : Y) → Contains held (make k z) → z ≡ y) → Finds make (make k y ∷ held) g
  finds_more held f g k y old sets one =
      let each = sets_all e test f g k (Some y) sets (λ q o. (z : Y) → (o ≡ Some z) ↔ Contains (make k y ∷ held) (make q z))
      (λ q apart z. (
        λ is. Contains-there _ _ held (old.some q z is),
        λ among. grind (arith, Contains-cases (make k y) (make q z) held among, apart, by.is_key, old.all q z),
      ))
      (λ z. (
        λ is. grind (arith, is, Contains-head (make k y) held),
        λ among. grind (arith, Contains-cases (make k y) (make k z) held among, by.is_value, one z),
      )) in
      record { some = λ q z. (each q z).0; all = λ q z. (each q z).1 }

-- ---- the two lookups

abbrev pub by_external : Keying from_external
by_external = record {
  key = inbound_key_of;
  value = λ m. m.internal;
  is_key = λ k y. refl;
  is_value = λ k y. refl;
  made = λ m. refl;
}

abbrev pub by_internal : Keying from_internal
by_internal = record {
  key = source_key_of;
  value = λ m. m.external.port;
  is_key = λ k y. refl;
  is_value = λ k y. refl;
  made = λ m. refl;
}

abbrev pub inbound_in : List Mapping → InboundKey → Option Endpoint
inbound_in held k = inbound_of k.kind k.external held

abbrev pub port_in : List Mapping → SourceKey → Option ℕ
port_in held k = port_of k.kind k.internal k.address held

pub inbound_finds : (held : List Mapping) → IsOneToOne held → Finds from_external held (inbound_in held)
unfolding inbound_of
inbound_finds held one =
    listed from_external by_external _ inbound_parts_test held (λ k y z at also. one.one_internal (from_external k y) (from_external k z) at also refl refl)

pub port_finds : (held : List Mapping) → IsOneToOne held → Finds from_internal held (port_in held)
unfolding port_of
port_finds held one =
    listed from_internal by_internal _ source_parts_test held (λ k y z at also. one.one_port (from_internal k y) (from_internal k z) at also refl refl refl)

-- a list with both lookups is one to one
pub one_to_one_by : (held : List Mapping) (f : InboundKey → Option Endpoint) (g : SourceKey → Option ℕ) → Finds from_external held f
    → Finds from_internal held g → IsOneToOne held
one_to_one_by held f g inbound port = record {
  one_internal = λ m n at also k e. one_value from_external held f inbound (inbound_key_of m) (inbound_key_of n)
      (λ i. record { kind = k i; external = e i }) m.internal n.internal at also;
  one_port = λ m n at also k e a. one_value from_internal held g port (source_key_of m) (source_key_of n)
      (λ i. record { kind = k i; internal = e i; address = a i }) m.external.port n.external.port at also;
}

not_some : {X : Type 0} (o : Option X) → not (is_some o) ≡ true → o ≡ None
not_some o h = grind arith

-- the mapping to the port that `source` gives
pub source_one_to_one : (held : List Mapping) (kind : Kind) (internal : Endpoint) (address : ℕ) (range : Option CandidateRange) (port : ℕ)
    → IsOneToOne held → source_of kind internal address range held ≡ Some port
    → IsOneToOne (record { kind = kind; internal = internal; external = record { address = address; port = port } } ∷ held)
source_one_to_one held kind internal address range port one is =
    let key : SourceKey = record { kind = kind; internal = internal; address = address } in
    let ports = port_finds held one in
    let inbounds = inbound_finds held one in
    elim (option_cases (port_in held key)) [
      | inl none ↦
          let free = found_among (λ p. not (is_port_held key.kind key.address held p)) (candidates (order_of key.kind) key.internal.port range) port
          (rw none at is) in
          one_to_one_by (from_internal key port ∷ held) _ _
          (finds_more from_external by_external _ inbound_parts_test held _ _ (inbound_key_of (from_internal key port)) key.internal inbounds
          (λ q. refl) (λ z there. absurd (none-some z (sym (not_some _ free.1) ∙ inbounds.all _ z there))))
          (finds_more from_internal by_internal _ source_parts_test held _ _ key port ports (λ q. refl)
          (λ z there. absurd (none-some z (sym none ∙ ports.all key z there))))
      | inr some ↦
          let there = ports.some key port (some.1 ∙ (rw some.1 at is)) in
          one_to_one-within (from_internal key port ∷ held) held (λ n among. elim (Contains-cases _ n held among) [
            | inl same ↦ subst (Contains held) same there
            | inr behind ↦ behind
          ]) one
    ]

-- ---- lists with the same mappings have the same lookups, where they are one to one

module _ (one other : List Mapping) (same : HoldsSame one other) (unique : IsOneToOne other) where
  pub inbound_alike : (kind : Kind) (external : Endpoint) → inbound_of kind external one ≡ inbound_of kind external other
  inbound_alike kind external = finds_alike from_external other _ _ (finds_as from_external one other _ _ (members_alike one other same)
      (λ k. refl) (inbound_finds one (one_to_one_alike one other same unique))) (inbound_finds other unique)
      (record { kind = kind; external = external })

  pub port_alike : (kind : Kind) (internal : Endpoint) (address : ℕ) → port_of kind internal address one ≡ port_of kind internal address other
  port_alike kind internal address = finds_alike from_internal other _ _ (finds_as from_internal one other _ _ (members_alike one other same)
      (λ k. refl) (port_finds one (one_to_one_alike one other same unique))) (port_finds other unique)
      (record { kind = kind; internal = internal; address = address })

  pub source_alike : (kind : Kind) (internal : Endpoint) (address : ℕ) (range : Option CandidateRange)
      → source_of kind internal address range one ≡ source_of kind internal address range other
  source_alike kind internal address range = λ i. or_else (port_alike kind internal address i)
      (find (λ p. not (is_some (inbound_alike kind (record { address = address; port = p }) i))) (candidates (order_of kind) internal.port range))

pub ruleset alike_rules = (more_alike, contains_alike, one_to_one_alike, inbound_alike, port_alike, source_alike)

pub ruleset one_to_one_rules = (source_one_to_one, one_to_one-within)
