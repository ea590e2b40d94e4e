use Rattle.compiler.proofs.Names.{Bor, Chain, Some, add-one, ap, append-nil, append_assoc, arith, chain_out_of_range, chain_tree, chains_of, drop_all}
use Rattle.compiler.proofs.Names.{item_out_of_range, length, length-map, map-append, ◌<◌, refl, slice_get, slice_get_within, ◌≡◌}
use Rattle.compiler.proofs.StartLaws.{rest_from}
use Rattle.compiler.proofs.TableLaws.{chain_at, chain_free}
use Rattle.compiler.proofs.starts.add_bases.Goals.{In_ok-to_u32}
use Rattle.compiler.proofs.starts.add_bases.Goals as goal

at : (c : In_ok-to_u32) → slice_get (chains_of c.args.names.now) c.loop-place.place ≡ Some (chain_tree c.chain-item.result.now)
at c = chain_at c.chains-chain-items.result.now c.args.names.now c.loop-place.place c.chain-item.result
    c.chains-chain-items.ensures.all c.loop-place-test.true c.chain-item.is

inside : (c : In_ok-to_u32) → c.loop-place.place < length c.args.costs.now
inside c =
    let within = slice_get_within (chains_of c.args.names.now) c.loop-place.place (chain_tree c.chain-item.result.now) (at c) in
    omega (arith, c.requires.long)

pub loop-place-init : goal.loop-place-init
loop-place-init c = λ price prices. refl

pub bounds-costs-place : goal.bounds-costs-place
bounds-costs-place c = inside (goal.at.bounds-costs-place c).In_ok-to_u32

pub add_base-requires-clause-bounds : goal.add_base-requires-clause-bounds
add_base-requires-clause-bounds c = chain_free item_out_of_range chain_out_of_range (λ x h. h) c.args.names.now.items c.loop-place.place
    (chain_tree c.chain-item.result.now) c.requires.bounds (at (goal.at.add_base-requires-clause-bounds c).In_ok-to_u32)

pub add_base-requires-clause-small : goal.add_base-requires-clause-small
add_base-requires-clause-small c = λ head is_base.
    c.requires.small c.loop-place.place (chain_tree c.chain-item.result.now) head (at (goal.at.add_base-requires-clause-small c).In_ok-to_u32) is_base

pub loop-place-preserved : goal.loop-place-preserved
loop-place-preserved c = λ price prices.
    let is = at (goal.at.loop-place-preserved c).In_ok-to_u32 in
    let price_is = prices c.loop-place.place (inside (goal.at.loop-place-preserved c).In_ok-to_u32) in
    rw ((rw c.in_ok-to_u32.ensures at c.in_ok-add_base.ensures) price price_is, append_assoc, add-one)
    (rw (rest_from (chains_of c.args.names.now) c.loop-place.place (chain_tree c.chain-item.result.now) is, add-one, map-append)
    at (c.loop-place.invariant price prices))

pub returns : goal.returns
returns c = λ price prices.
    let long = ap length c.chains-chain-items.ensures.all in
    let same = length-map c.chains-chain-items.result.now (λ (b : Bor Chain). chain_tree b.now) in
    rw (drop_all c.loop-place.place (chains_of c.args.names.now) (omega arith), append-nil) at (c.loop-place.invariant price prices)
