use Rattle.rule_names.proofs.Names.{[], ap, map, map-append, ◌++◌, ◌∙◌, ◌∷◌}
use Rattle.std.proofs.lemmas.List.{append-nil}
use Rattle.std.proofs.lemmas.List.Elements.{filter_map-append}
use Rattle.nft_tree.specs.TreeViews.{chain_tree, map_tree, set_tree}
use Rattle.rule_names.proofs.table.Listed.add.Goals as goal

pub returns-in-Comment : goal.returns-in-Comment
returns-in-Comment c = λ items known. rw c.in-Comment.is (simp (filter_map-append, append-nil) known)

pub returns-in_ok-push-in-Chain : goal.returns-in_ok-push-in-Chain
returns-in_ok-push-in-Chain c = λ items known. rw c.in-Chain.is (simp (filter_map-append, append-nil) (record {
  chains = ap (map (λ x. chain_tree x.now)) c.in_ok-push-in-Chain.ensures.items ∙ map-append (λ x. chain_tree x.now) c.args.self.now.chains.items _
      ∙ ap (λ xs. xs ++ chain_tree c.in-Chain.chain ∷ []) known.chains;
  sets = known.sets;
  maps = known.maps;
}))

pub returns-in_ok-push-in-Set : goal.returns-in_ok-push-in-Set
returns-in_ok-push-in-Set c = λ items known. rw c.in-Set.is (simp (filter_map-append, append-nil) (record {
  chains = known.chains;
  sets = ap (map (λ x. set_tree x.now)) c.in_ok-push-in-Set.ensures.items ∙ map-append (λ x. set_tree x.now) c.args.self.now.sets.items _
      ∙ ap (λ xs. xs ++ set_tree c.in-Set.set ∷ []) known.sets;
  maps = known.maps;
}))

pub returns-in_ok-push-in-Map : goal.returns-in_ok-push-in-Map
returns-in_ok-push-in-Map c = λ items known. rw c.in-Map.is (simp (filter_map-append, append-nil) (record {
  chains = known.chains;
  sets = known.sets;
  maps = ap (map (λ x. map_tree x.now)) c.in_ok-push-in-Map.ensures.items ∙ map-append (λ x. map_tree x.now) c.args.self.now.maps.items _
      ∙ ap (λ xs. xs ++ map_tree c.in-Map.map ∷ []) known.maps;
}))
