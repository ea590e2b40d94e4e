use Rattle.std.proofs.Common.{◌≡◌, true, length, get_or, sym, ap, subst, ◌∙◌, arith}
use Rattle.std.specs.Prelude.{slice_index}
use Rattle.std.specs.HashMap.{hasher_of, IsUnique}
use Rattle.std.specs.Map.{keys_of}
use Rattle.std.proofs.lemmas.List.{length-map}
use Rattle.std_collections.proofs.HashLookup.{probe_found, probe_absent}
use Rattle.chained_map.specs.Values.{position}
use Rattle.chained_map.specs.steps.Buckets.{hash_of}
use Rattle.chained_map.specs.steps.Nodes.{entries_of, hashes_of}
use Rattle.chained_map.proofs.LookupLaws.{by_result}
use Rattle.chained_map.proofs.map.ChainedMap.index_of.Goals as goal

pub returns-clause-place : goal.returns-clause-place
returns-clause-place g c =
    let inside = c.self.inside in
    let nodes = inside.nodes.items in
    let eq = g.K.PartialEq.eq in
    let hash = λ (k : g.row.K.Denot). hash_of inside.keys (g.K.Hash.hash_input k) in
    let test = eq c.args.key in
    let laws = g.met.K.Eq.laws in
    let keys = ap hasher_of c.self.view_is in
    let agrees = λ (k : g.row.K.Denot) (same : test k ≡ true). c.requires
    ∙ (λ i. hash_of (sym keys i) (g.met.K.Hash.respects_eq c.args.key k same i)) in
    let seen = ap (λ m. position test m.entries) (sym c.self.view_is) in
    let items = c.deref-2.ensures.value in
    let long : length (hashes_of nodes) ≡ length nodes = length-map nodes (λ n. n.hash) in
    by_result c.find.result _ _ _ c.find.ensures.found c.find.ensures.absent
    (λ i f. seen ∙ probe_found eq hash laws test c.args.hash (hashes_of nodes) (entries_of nodes) c.self.invariant.hashed (laws.congr c.args.key) i
    (omega (arith, f.0, long, ap length items)) (λ d. f.1 d ∙ ap (λ ns. test (get_or (keys_of (entries_of ns)) i d)) items))
    (λ a. seen ∙ probe_absent eq hash laws test c.args.hash (hashes_of nodes) (entries_of nodes) c.self.invariant.hashed agrees
    (λ i p e d. a i (omega (arith, p, long, ap length items)) (ap (λ ns. slice_index (hashes_of ns) i) items ∙ e) d
    ∙ ap (λ ns. test (get_or (keys_of (entries_of ns)) i d)) items))

pub returns-clause-unique : goal.returns-clause-unique
returns-clause-unique g c = subst (IsUnique g.K.PartialEq.eq) c.self.view_is c.self.invariant.hashed.0
