-- Equal keys and mappings.
use Rattle.nat_mapping.proofs.Names.{Bool, InboundKey, IsEquivalence, PoolKey, SourceKey, ap, arith, eqb, false, false_from_ne_true, nat_tests, rules}
use Rattle.nat_mapping.proofs.Names.{same_endpoint, same_inbound, same_kind, same_mapping, same_pool, same_source, subst, sym, true, ◌&&◌, ◌∙◌, ◌≡◌}

-- a test passes where the two are equal, and only there
pub record IsTest {K : Type 0} (e : K → K → Bool) : Type 0 where
  pub same : (x : K) → e x x ≡ true
  pub exact : (x y : K) → e x y ≡ true → x ≡ y

pub here_true : {K : Type 0} (e : K → K → Bool) → IsTest e → (x y : K) → x ≡ y → e x y ≡ true
here_true e test x y same = ap (e x) (sym same) ∙ test.same x

pub apart_false : {K : Type 0} (e : K → K → Bool) → IsTest e → (x y : K) → ¬ (x ≡ y) → e x y ≡ false
apart_false e test x y apart = false_from_ne_true (e x y) (λ t. apart (test.exact x y t))

pub equivalence : {K : Type 0} (e : K → K → Bool) → IsTest e → IsEquivalence e
equivalence e test = grind arith

-- ---- the tests that the keys' types derive

pub source_parts : (a b : SourceKey) → same_source a b ≡ (same_kind a.kind b.kind && (same_endpoint a.internal b.internal && eqb a.address b.address))
source_parts a b = search (rules, nat_tests)

pub inbound_parts : (a b : InboundKey) → same_inbound a b ≡ (same_kind a.kind b.kind && same_endpoint a.external b.external)
inbound_parts a b = search (rules, nat_tests)

pub pool_parts : (a b : PoolKey) → same_pool a b ≡ (same_kind a.kind b.kind && eqb a.address b.address)
pool_parts a b = search (rules, nat_tests)

pub source_parts_test : IsTest {K = SourceKey} (λ a b. same_kind a.kind b.kind && (same_endpoint a.internal b.internal && eqb a.address b.address))
source_parts_test = grind arith

pub source_test : IsTest same_source
source_test = subst IsTest (λ i. λ a b. sym (source_parts a b) i) source_parts_test

pub inbound_parts_test : IsTest {K = InboundKey} (λ a b. same_kind a.kind b.kind && same_endpoint a.external b.external)
inbound_parts_test = grind arith

pub inbound_test : IsTest same_inbound
inbound_test = subst IsTest (λ i. λ a b. sym (inbound_parts a b) i) inbound_parts_test

pub pool_test : IsTest same_pool
pool_test = grind arith

pub mapping_test : IsTest same_mapping
mapping_test = grind arith
