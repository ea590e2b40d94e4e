-- The tables represent the mappings held: what they say of one, and what a change of its holders leaves.
use Rattle.nat_mapping.proofs.Names.{ArePorts, Bool, CandidateRange, Contains, Contains-cases, Contains-head, Contains-there, Endpoint, Finds, HoldsSame}
use Rattle.nat_mapping.proofs.Names.{IfSome, InboundKey, Inbounds, IsConsistent, IsOneToOne, IsPooled, IsTable, Kind, List, MappedPort, Mapping, None, Option}
use Rattle.nat_mapping.proofs.Names.{PoolKey, Pools, Some, SourceKey, Sources, ap, arith, candidates, cond, false, find, from_external, from_internal, get}
use Rattle.nat_mapping.proofs.Names.{has_pool, held_by, holders_at, holders_cons, holders_of, if◌then◌else◌, inbound_at, inbound_key_of, inl, inr, is_some}
use Rattle.nat_mapping.proofs.Names.{nat_tests, none-some, not, one_fewer, one_more, option_cases, option_map, or_else, order_of, pool_key_of, refl}
use Rattle.nat_mapping.proofs.Names.{same_inbound, same_source, some_of_map, source_key_of, source_of, subst, sym, taken_in, true, ℕ, ◌&&◌, ◌+◌, ◌<◌, ◌==◌, ◌↔◌}
use Rattle.nat_mapping.proofs.Names.{◌∙◌, ◌∷◌, ◌≡◌}
use Rattle.nat_mapping.proofs.Equal.{apart_false, inbound_test, source_test}
use Rattle.nat_mapping.proofs.Sets.{set_at, sets_all, sets_back}
use Rattle.nat_mapping.proofs.Lists.{has_holder, is_among, members_alike, one_to_one_alike}
use Rattle.nat_mapping.proofs.Lookups.{by_external, finds_alike, finds_as, finds_more, inbound_finds, inbound_in, one_to_one_by, port_finds, source_alike}
use Rattle.nat_mapping.proofs.Entries.{counts_of, same_by}

-- ---- entries and mappings

-- where a mapping has holders, its port is found
holds_port : (o : Option MappedPort) (port : ℕ) → 0 < holders_at o port → option_map (λ h. h.port) o ≡ Some port
holds_port o port some = grind (arith, nat_tests)

holders_by : (o : Option MappedPort) (port : ℕ) (h : MappedPort) → o ≡ Some h → h.port ≡ port → holders_at o port ≡ h.holders
holders_by o port h is here = grind (arith, nat_tests)

-- the port under a key
abbrev pub port_at : Sources → SourceKey → Option ℕ
port_at sources key = option_map (λ h. h.port) (get same_source sources key)

module _ (sources : Sources) (table : IsTable sources) where
  pub table_finds : Finds from_internal (held_by sources.entries) (port_at sources)
  table_finds = record {
    some = λ k p is. grind (arith, is_among, counts_of sources table.unique (from_internal k p), holders_by, some_of_map, table.live k);
    all = λ k p among. let some = has_holder (from_internal k p) (held_by sources.entries) among in
        grind (arith, holds_port, counts_of sources table.unique (from_internal k p), some);
  }

  module _ (m : Mapping) (one : IsOneToOne (m ∷ held_by sources.entries)) where
    -- if one more holder keeps the list one to one, the mapping is in the table with its own port, or not at all
    pub own_port : (h : MappedPort) → get same_source sources (source_key_of m) ≡ Some h → h.port ≡ m.external.port
    own_port h is =
        let among = table_finds.some (source_key_of m) h.port (ap (option_map (λ x. x.port)) is) in
        one.one_port (from_internal (source_key_of m) h.port) m (Contains-there m _ (held_by sources.entries) among)
        (Contains-head m (held_by sources.entries)) refl refl refl

    pub few_holders : (limit : ℕ) → holders_of m (held_by sources.entries) < limit
        → (o : Option MappedPort) → get same_source sources (source_key_of m) ≡ o → IfSome o (λ h. h.holders < limit)
    few_holders limit few o is = grind (arith, counts_of sources table.unique m, holders_by, own_port)

pub held_same : (one other : Sources) → IsTable one → IsTable other
    → ((q : SourceKey) → get same_source other q ≡ get same_source one q) → HoldsSame (held_by one.entries) (held_by other.entries)
held_same one other here there same m = grind (arith, counts_of, here.unique, m.external.port, there.unique)

-- ---- one holder more

-- the table `more` has one more holder of the mapping
pub record HasMore (m : Mapping) (less more : Sources) : Type 0 where
  pub fits : (h : MappedPort) → get same_source less (source_key_of m) ≡ Some h → h.port ≡ m.external.port
  pub sets : (q : SourceKey) → get same_source more q
      ≡ cond (same_source (source_key_of m) q) (Some (one_more m.external.port (get same_source less (source_key_of m)))) (get same_source less q)

more_at : (o : Option MappedPort) (port p : ℕ) → ((h : MappedPort) → o ≡ Some h → h.port ≡ port)
    → holders_at (Some (one_more port o)) p ≡ cond (p == port) 1 0 + holders_at o p
more_at o port p fits = grind (arith, nat_tests, fits)

whole : (h : MappedPort) → 0 < h.holders → one_more h.port (one_fewer h) ≡ h
whole h some = grind (arith, nat_tests)

pub fewer_live : (h : MappedPort) → IfSome (one_fewer h) (λ x. 0 < x.holders)
fewer_live h = grind (arith, nat_tests)

-- so has the table before a holder was removed
pub has_fewer : (m : Mapping) (old new : Sources) (before : MappedPort)
    → ((q : SourceKey) → get same_source new q ≡ cond (same_source (source_key_of m) q) (one_fewer before) (get same_source old q))
    → get same_source old (source_key_of m) ≡ Some before → before.port ≡ m.external.port → 0 < before.holders → HasMore m new old
has_fewer m old new before sets was port some =
    grind (arith, set_at same_source source_test _ _ _ _ sets, sets_back same_source source_test _ _ _ _ sets, whole)

pub more_live : (port : ℕ) (o : Option MappedPort) → 0 < (one_more port o).holders
more_live port o = grind arith

-- how many holders a table says a mapping has, with one more of `m`
abbrev count_with : Mapping → Sources → SourceKey → ℕ → ℕ
count_with m less k p = cond (same_source k (source_key_of m) && p == m.external.port) 1 0 + holders_at (get same_source less k) p

module _ (m : Mapping) (less more : Sources) (has : HasMore m less more) where
  by_key : (k : SourceKey) (p : ℕ) → holders_at (get same_source more k) p ≡ count_with m less k p
  by_key = sets_all same_source source_test _ _ (source_key_of m) _ has.sets (λ k o. (p : ℕ) → holders_at o p ≡ count_with m less k p)
      (λ k apart p. grind (arith, apart_false same_source source_test k (source_key_of m)))
      (λ p. grind (arith, more_at (get same_source less (source_key_of m)) m.external.port p has.fits, source_test.same (source_key_of m)))

  pub held_more : IsTable less → IsTable more → HoldsSame (m ∷ held_by less.entries) (held_by more.entries)
  held_more old new q = grind (arith, by_key, same_by q, holders_cons, counts_of, old.unique, new.unique)

-- ---- what a change of the tables and the pools leaves

-- a port of a pool is taken or given, and no other
abbrev pub PortSet : (old new : Pools) (key : PoolKey) (port : ℕ) (b : Bool) → Type 0
PortSet old new key port b = (q : PoolKey) (p : ℕ) → has_pool q.kind ≡ true
    → taken_in new q p ≡ (if same_inbound (inbound_at key port) (inbound_at q p) then b else taken_in old q p)

-- an external endpoint is mapped to this internal one, or to none
abbrev pub InboundSet : Inbounds → Inbounds → InboundKey → Option Endpoint → Type 0
InboundSet old new key w = (q : InboundKey) → get same_inbound new q ≡ cond (same_inbound key q) w (get same_inbound old q)

-- the taken ports are again those that are mapped
ports_set : (inbounds inbounds' : Inbounds) (pools pools' : Pools) (key : PoolKey) (port : ℕ) (w : Option Endpoint)
    → ArePorts (get same_inbound inbounds) (taken_in pools) → InboundSet inbounds inbounds' (inbound_at key port) w
    → PortSet pools pools' key port (is_some w) → ArePorts (get same_inbound inbounds') (taken_in pools')
ports_set inbounds inbounds' pools pools' key port w ports set set_port q p some = grind arith

-- the port by the tables: the one found, else the first free candidate
abbrev pub source_by : Inbounds → Kind → Endpoint → ℕ → Option CandidateRange → Option MappedPort → Option ℕ
source_by inbounds kind internal address range found = or_else (option_map (λ h. h.port) found)
    (find (λ p. not (is_some (get same_inbound inbounds (inbound_at (record { kind = kind; address = address }) p))))
    (candidates (order_of kind) internal.port range))

module _ (sources : Sources) (inbounds : Inbounds) (pools : Pools) (kept : IsConsistent sources inbounds pools) where
  pub one_to_one : IsOneToOne (held_by sources.entries)
  one_to_one = one_to_one_by (held_by sources.entries) _ _ kept.inbound (table_finds sources kept.table)

  -- the lookups of the list
  pub inbound_is : (k : InboundKey) → get same_inbound inbounds k ≡ inbound_in (held_by sources.entries) k
  inbound_is = finds_alike from_external _ _ _ kept.inbound (inbound_finds (held_by sources.entries) one_to_one)

  pub source_is : (held : List Mapping) (kind : Kind) (internal : Endpoint) (address : ℕ) (range : Option CandidateRange)
      (found : Option MappedPort) → HoldsSame held (held_by sources.entries)
      → get same_source sources (record { kind = kind; internal = internal; address = address }) ≡ found
      → source_of kind internal address range held ≡ source_by inbounds kind internal address range found
  source_is held kind internal address range found same is =
      let port_is = finds_alike from_internal _ _ _ (port_finds (held_by sources.entries) one_to_one) (table_finds sources kept.table) in
      source_alike held _ same one_to_one kind internal address range
      ∙ (λ i. or_else (port_is (record { kind = kind; internal = internal; address = address }) i)
      (find (λ p. not (is_some (sym (inbound_is (record { kind = kind; external = record { address = address; port = p } })) i)))
      (candidates (order_of kind) internal.port range)))
      ∙ ap (source_by inbounds kind internal address range) is

  pub port_taken : (m : Mapping) → Contains (held_by sources.entries) m → has_pool m.kind ≡ true
      → taken_in pools (pool_key_of m) m.external.port ≡ true
  port_taken m among bitmap =
      kept.ports (pool_key_of m) m.external.port bitmap ∙ ap is_some (kept.inbound.all (inbound_key_of m) m.internal among)

  -- a mapping that is new has a free port
  pub port_free : (m : Mapping) → IsOneToOne (m ∷ held_by sources.entries) → get same_source sources (source_key_of m) ≡ None
      → has_pool m.kind ≡ true → taken_in pools (pool_key_of m) m.external.port ≡ false
  port_free m one none bitmap =
      kept.ports (pool_key_of m) m.external.port bitmap ∙ elim (option_cases (get same_inbound inbounds (inbound_key_of m))) [
        | inl free ↦ ap is_some free
        | inr some ↦
            let among = kept.inbound.some (inbound_key_of m) some.0 some.1 in
            let same = one.one_internal (from_external (inbound_key_of m) some.0) m (Contains-there m _ (held_by sources.entries) among)
            (Contains-head m (held_by sources.entries)) refl refl in
            let is = (table_finds sources kept.table).all (source_key_of m) m.external.port
            (subst (λ i. Contains (held_by sources.entries) (from_external (inbound_key_of m) i)) same among) in
            absurd (none-some m.external.port (sym (ap (option_map (λ h. h.port)) none) ∙ is))
      ]

  module _ (sources' : Sources) (inbounds' : Inbounds) (pools' : Pools) (table : IsTable sources') (pooled : IsPooled pools') where
    -- the same mappings are held
    pub grown : ((k : SourceKey) → port_at sources' k ≡ port_at sources k)
        → ((q : InboundKey) → get same_inbound inbounds' q ≡ get same_inbound inbounds q)
        → ((q : PoolKey) (p : ℕ) → taken_in pools' q p ≡ taken_in pools q p) → IsConsistent sources' inbounds' pools'
    grown same_port same_inbounds same_ports =
        let old = table_finds sources kept.table in
        let new = table_finds sources' table in
        record {
          table = table;
          inbound = finds_as from_external (held_by sources.entries) (held_by sources'.entries) _ _ (record {
            there = λ m x. grind (arith, new.some (source_key_of m), same_port, old.all (source_key_of m) m.external.port x);
            back = λ m x. grind (arith, old.some (source_key_of m), same_port, new.all (source_key_of m) m.external.port x);
          }) same_inbounds kept.inbound;
          ports = λ key port some. same_ports key port ∙ kept.ports key port some ∙ ap is_some (sym (same_inbounds (inbound_at key port)));
          pooled = pooled;
        }

    module _ (m : Mapping) where
      -- a new mapping
      pub begun : HoldsSame (m ∷ held_by sources.entries) (held_by sources'.entries) → IsOneToOne (m ∷ held_by sources.entries)
          → InboundSet inbounds inbounds' (inbound_key_of m) (Some m.internal)
          → PortSet pools pools' (pool_key_of m) m.external.port true → IsConsistent sources' inbounds' pools'
      begun same one set set_port = record {
        table = table;
        inbound = finds_as from_external (m ∷ held_by sources.entries) (held_by sources'.entries) _ _ (members_alike _ _ same) (λ q. refl)
            (finds_more from_external by_external same_inbound inbound_test (held_by sources.entries) _ _ (inbound_key_of m) m.internal
            kept.inbound set (λ z among. one.one_internal (from_external (inbound_key_of m) z) m
            (Contains-there m _ (held_by sources.entries) among) (Contains-head m (held_by sources.entries)) refl refl));
        ports = ports_set inbounds inbounds' pools pools' (pool_key_of m) m.external.port (Some m.internal) kept.ports set set_port;
        pooled = pooled;
      }

      -- the last holder is gone
      pub ended : HoldsSame (held_by sources.entries) (m ∷ held_by sources'.entries) → (Contains (held_by sources'.entries) m → ⊥)
          → InboundSet inbounds inbounds' (inbound_key_of m) None
          → PortSet pools pools' (pool_key_of m) m.external.port false → IsConsistent sources' inbounds' pools'
      ended same absent set set_port =
          let left = held_by sources'.entries in
          let all = one_to_one_alike (m ∷ left) (held_by sources.entries) (λ q. sym (same q)) one_to_one in
          let both = members_alike (held_by sources.entries) (m ∷ left) same in
          let each = sets_all same_inbound inbound_test _ _ (inbound_key_of m) None set
          (λ k o. (y : Endpoint) → (o ≡ Some y) ↔ Contains left (from_external k y))
          (λ k apart y. (
            λ is. grind (arith, Contains-cases m (from_external k y) left (both.there _ (kept.inbound.some k y is)), apart),
            λ among. kept.inbound.all k y (both.back _ (Contains-there m _ left among)),
          ))
          (λ y. (
            λ none. absurd (none-some y none),
            λ among. absurd (absent (subst (λ i. Contains left (from_external (inbound_key_of m) i))
                (all.one_internal (from_external (inbound_key_of m) y) m (Contains-there m _ left among) (Contains-head m left) refl refl) among)),
          )) in
          record {
            table = table;
            inbound = record { some = λ k y. (each k y).0; all = λ k y. (each k y).1 };
            ports = ports_set inbounds inbounds' pools pools' (pool_key_of m) m.external.port None kept.ports set set_port;
            pooled = pooled;
          }
