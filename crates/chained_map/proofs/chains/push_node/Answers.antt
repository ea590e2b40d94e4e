use Rattle.std.proofs.Common.{◌≡◌, ◌+◌, length, set, subst, sym, refl, arith, ap, ◌∙◌}
use Rattle.std.proofs.lemmas.List.{length-set, map_push}
use Rattle.chained_map.specs.steps.Chains.{IsChained}
use Rattle.chained_map.specs.steps.Nodes.{entries_of, hashes_of}
use Rattle.chained_map.proofs.NodeLaws.{pushes}
use Rattle.chained_map.proofs.chains.push_node.Goals as goal

pub returns-clause-chained : goal.returns-clause-chained
returns-clause-chained g c =
    let heads = c.args.heads.now in
    let nodes = c.args.nodes.now.items in
    let bucket = c.bucket_of-bucket in
    let at : length nodes + 1 ≡ c.len-index.result + 1 = omega (arith, c.args.nodes.now.ok.0) in
    subst (λ n. IsChained (set heads bucket.result n) c.push_reserved.new.self.items) at
    (subst (IsChained (set heads bucket.result (length nodes + 1))) (sym c.push_reserved.ensures.items)
    (pushes heads nodes _ bucket.result (omega arith) bucket.ensures.within bucket.ensures.value refl c.requires.chained))

pub bucket_of-bucket-requires : goal.bucket_of-bucket-requires
bucket_of-bucket-requires g c = (omega (arith, c.requires.few.0), c.requires.few.1)

pub returns-clause-long : goal.returns-clause-long
returns-clause-long g c = length-set c.args.heads.now c.bucket_of-bucket.result _

pub returns-clause-hashes : goal.returns-clause-hashes
returns-clause-hashes g c = ap hashes_of c.push_reserved.ensures.items
    ∙ map_push (λ n. n.hash) c.args.nodes.now.items _

pub returns-clause-entries : goal.returns-clause-entries
returns-clause-entries g c =
    ap entries_of c.push_reserved.ensures.items ∙ map_push (λ n. (n.key, n.value)) c.args.nodes.now.items _
