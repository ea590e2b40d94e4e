use Rattle.compiler.proofs.Names.{Bor, Chain, Some, [], ap, arith, chain_tree, chains_of, declared_kept, item_mismatches, item_out_of_range, length, length-map}
use Rattle.compiler.proofs.Names.{list_any, or_parts, rule_mismatches, rule_out_of_range, slice_get, ◌++◌, ◌∙◌, ◌∷◌, ◌≡◌, ◌≤◌}
use Rattle.compiler.proofs.TableLaws.{chain_at, chain_free, chains_all, chains_more, chains_none}
use Rattle.compiler.proofs.tables.add_chains.Goals.{In_ok-to_u32}
use Rattle.compiler.proofs.tables.add_chains.Goals as goal

at : (c : In_ok-to_u32) → slice_get (chains_of c.args.names.now) c.loop-place.place ≡ Some (chain_tree c.chain-item.result.now)
at c = chain_at c.chains-chain-items.result.now c.args.names.now c.loop-place.place c.chain-item.result
    c.chains-chain-items.ensures.all c.loop-place-test.true c.chain-item.is

pub loop-place-init : goal.loop-place-init
loop-place-init c =
    let none = c.requires in
    record {
      placed = chains_none c.args.network.now c.args.table c.args.names.now c.args.code.now none.no_steps none.no_chains
          none.no_tables none.none_merged none.none_dropped;
      declared = none.declared;
    }

pub add_chain-requires-clause-types : goal.add_chain-requires-clause-types
add_chain-requires-clause-types c =
    chain_free (item_mismatches c.args.names.now) (λ x. list_any (rule_mismatches c.args.names.now) x.rules) (λ x h. h)
    c.args.names.now.items c.loop-place.place (chain_tree c.chain-item.result.now) c.requires.types
    (at (goal.at.add_chain-requires-clause-types c).In_ok-to_u32)

pub add_chain-requires-clause-bounds : goal.add_chain-requires-clause-bounds
add_chain-requires-clause-bounds c = chain_free item_out_of_range (λ x. list_any rule_out_of_range x.rules)
    (λ x h. (or_parts _ _ h).1) c.args.names.now.items c.loop-place.place (chain_tree c.chain-item.result.now) c.requires.bounds
    (at (goal.at.add_chain-requires-clause-bounds c).In_ok-to_u32)

pub loop-place-preserved : goal.loop-place-preserved
loop-place-preserved c =
    let here : length c.list.result.now ≡ length c.loop-place.code.steps.items = ap length c.list.ensures.items in
    let added = rw c.in_ok-to_u32.ensures at c.in_ok-add_chain.ensures in
    record {
      placed = chains_more c.args.network.now c.args.table c.args.names.now c.loop-place.place (chain_tree c.chain-item.result.now)
          c.push.new.self c.loop-place.code c.add_chain.new.code (at (goal.at.loop-place-preserved c).In_ok-to_u32)
          (c.in_ok-push.ensures.items ∙ ap (λ n. c.loop-place.code.chain_offsets.items ++ n ∷ []) here)
          added c.loop-place.invariant.placed;
      declared = declared_kept _ _ _ _ added.adds.extends_code.lookups c.loop-place.invariant.declared;
    }

pub returns : goal.returns
returns c =
    let long = ap length c.chains-chain-items.ensures.all in
    let same = length-map c.chains-chain-items.result.now (λ (b : Bor Chain). chain_tree b.now) in
    let past : length (chains_of c.args.names.now) ≤ c.loop-place.place = omega arith in
    chains_all c.args.network.now c.args.table c.args.names.now c.loop-place.place c.loop-place.code past
    c.loop-place.invariant.placed
