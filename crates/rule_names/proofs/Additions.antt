-- One more item of a table.
use Rattle.std.proofs.Common.{arith, drop, inl}
use Rattle.rule_names.proofs.Names.{Bool, HasDuplicate, IsAdded, List, Text, [], ap, ap₂, bytes_eq, false, get_or, inr, item_tree, length, list_any, map}
use Rattle.rule_names.proofs.Names.{map-append, map-more, refl, subst, sym, take, true, ℕ, ⊎_elim, ◌++◌, ◌+◌, ◌<◌, ◌||◌, ◌∙◌, ◌∷◌, ◌≡◌}
use Rattle.std.specs.List.{filter_map}
use Rattle.std.proofs.lemmas.List.{append-nil}
use Rattle.std.proofs.lemmas.List.Elements.{filter_map-append}
use Rattle.nft_tree.specs.declared.chain.Chain.{Chain}
use Rattle.nft_tree.specs.declared.set.SetDecl.{SetDecl}
use Rattle.nft_tree.specs.declared.set.MapDecl.{MapDecl}
use Rattle.nft_tree.specs.declared.ruleset.Item.{Item}
use Rattle.nft_tree.specs.Tree as tree
use Rattle.nft_tree.specs.Tree.{ChainTree, ItemTree, MapTree, SetTree}
use Rattle.nft_tree.specs.TreeViews.{chain_tree, map_tree, set_tree}
use Rattle.nft_tree.specs.TableItems.{chain_in, map_in, set_in}
use Rattle.rule_names.specs.declared.ruleset_names.ItemNames.{ItemNames}
use Rattle.rule_names.specs.steps.Index.{IsAddedApart}
use Rattle.rule_names.specs.steps.Table.{HasDuplicateIn, IsIndexOf, IsIndexOrDuplicate}
use Rattle.rule_names.proofs.Items.{any-both, maps-among, maps-repeat, of_both, of_maps, of_sets, sets-among, sets-repeat}
use Rattle.rule_names.proofs.Lists.{map-around}
use Rattle.rule_names.proofs.Duplicates.{among-front, any-named, apart-more, repeats-on}

-- a list with a duplicate has one when it is longer
pub repeats-in-on : (items more : List ItemTree) → HasDuplicateIn items → HasDuplicateIn (items ++ more)
repeats-in-on items more = grind (arith, ⊎_elim, filter_map-append, map-append, repeats-on)

-- a name that may be added to distinct ones is none of them
fresh : (names : List Text) (name : Text) (stands : Bool) → list_any (bytes_eq name) names ≡ stands
    → (HasDuplicate (names ++ name ∷ []) → ⊥) → stands ≡ false
fresh names name true is apart = absurd (apart (among-front names name [] (any-named names name is)))
fresh names name false is apart = sym (sym is ∙ is)

module _ (items : List ItemTree) (old : ItemNames) (known : IsIndexOf items old) where
  pub comment-added : (text : Text) → IsIndexOf (items ++ tree.comment text ∷ []) old
  comment-added text = simp (filter_map-append, append-nil) known

  pub chain-more : (c : ChainTree) (new : List Text) (fresh : Bool) → IsAdded old.chains c.name new fresh
      → IsIndexOrDuplicate (items ++ tree.chain c ∷ []) (record old { chains = new }) fresh
  chain-more c new true added =
      let more : new ≡ map (λ c. c.name) (filter_map chain_in items ++ c ∷ []) =
      added.0 ∙ ap (λ ns. ns ++ c.name ∷ []) known.chains ∙ sym (map-append (λ c. c.name) (filter_map chain_in items) (c ∷ [])) in
      simp (filter_map-append, append-nil) (record {
        chains = more;
        sets = known.sets;
        maps = known.maps;
        chains_apart = λ r. added.1 (subst HasDuplicate (sym more) r);
        both_apart = known.both_apart;
      })
  chain-more c new false twice = inl (simp filter_map-append (subst HasDuplicate (ap (λ ns. ns ++ c.name ∷ []) known.chains
      ∙ sym (map-append (λ c. c.name) (filter_map chain_in items) (c ∷ []))) twice))

  -- a name that is none of those of sets, and none of those of maps, is none of both
  apart-both : (name : Text) → (HasDuplicate (of_sets items ++ name ∷ []) → ⊥) → (HasDuplicate (of_maps items ++ name ∷ []) → ⊥)
      → HasDuplicate (of_both items ++ name ∷ []) → ⊥
  apart-both name sets maps = apart-more (of_both items) name known.both_apart (any-both (bytes_eq name) items
      ∙ ap₂ ◌||◌ (fresh (of_sets items) name (list_any (bytes_eq name) (of_sets items)) refl sets)
      (fresh (of_maps items) name (list_any (bytes_eq name) (of_maps items)) refl maps))

  pub set-more : (s : SetTree) (new : List Text) (fresh : Bool) → IsAddedApart old.sets s.name old.maps new fresh
      → IsIndexOrDuplicate (items ++ tree.set s ∷ []) (record old { sets = new }) fresh
  set-more s new true added =
      let more : new ≡ map (λ s. s.name) (filter_map set_in items ++ s ∷ []) =
      added.0.0 ∙ ap (λ ns. ns ++ s.name ∷ []) known.sets ∙ sym (map-append (λ s. s.name) (filter_map set_in items) (s ∷ [])) in
      let alone : HasDuplicate (of_sets items ++ s.name ∷ []) → ⊥ =
      λ r. added.0.1 (subst HasDuplicate (sym (added.0.0 ∙ ap (λ ns. ns ++ s.name ∷ []) known.sets)) r) in
      simp (filter_map-append, append-nil) (record {
        chains = known.chains;
        sets = more;
        maps = known.maps;
        chains_apart = known.chains_apart;
        both_apart = apart-both s.name alone (apart-more (of_maps items) s.name
            (λ r. known.both_apart (maps-repeat items r)) (ap (list_any (bytes_eq s.name)) (sym known.maps) ∙ added.1));
      })
  set-more s new false (inl shared) = inr (simp filter_map-append (among-front (of_both items) s.name [] (maps-among items s.name
      (any-named (of_maps items) s.name (ap (list_any (bytes_eq s.name)) (sym known.maps) ∙ shared)))))
  set-more s new false (inr twice) = inr (sets-repeat (items ++ tree.set s ∷ []) (simp filter_map-append
      (subst HasDuplicate (ap (λ ns. ns ++ s.name ∷ []) known.sets ∙ sym (map-append (λ s. s.name) (filter_map set_in items) (s ∷ []))) twice)))

  pub map-more-item : (m : MapTree) (new : List Text) (fresh : Bool) → IsAddedApart old.maps m.name old.sets new fresh
      → IsIndexOrDuplicate (items ++ tree.map_item m ∷ []) (record old { maps = new }) fresh
  map-more-item m new true added =
      let more : new ≡ map (λ m. m.name) (filter_map map_in items ++ m ∷ []) =
      added.0.0 ∙ ap (λ ns. ns ++ m.name ∷ []) known.maps ∙ sym (map-append (λ m. m.name) (filter_map map_in items) (m ∷ [])) in
      let alone : HasDuplicate (of_maps items ++ m.name ∷ []) → ⊥ =
      λ r. added.0.1 (subst HasDuplicate (sym (added.0.0 ∙ ap (λ ns. ns ++ m.name ∷ []) known.maps)) r) in
      simp (filter_map-append, append-nil) (record {
        chains = known.chains;
        sets = known.sets;
        maps = more;
        chains_apart = known.chains_apart;
        both_apart = apart-both m.name (apart-more (of_sets items) m.name
            (λ r. known.both_apart (sets-repeat items r)) (ap (list_any (bytes_eq m.name)) (sym known.sets) ∙ added.1)) alone;
      })
  map-more-item m new false (inl shared) = inr (simp filter_map-append (among-front (of_both items) m.name [] (sets-among items m.name
      (any-named (of_sets items) m.name (ap (list_any (bytes_eq m.name)) (sym known.sets) ∙ shared)))))
  map-more-item m new false (inr twice) = inr (maps-repeat (items ++ tree.map_item m ∷ []) (simp filter_map-append
      (subst HasDuplicate (ap (λ ns. ns ++ m.name ∷ []) known.maps ∙ sym (map-append (λ m. m.name) (filter_map map_in items) (m ∷ []))) twice)))

-- the same, with the names as they were read
module _ (items : List ItemTree) (old : ItemNames) (known : IsIndexOf items old) (name : Text) (new : List Text) (fresh : Bool) where
  pub chain-added : (c : Chain) → name ≡ c.name.items → IsAdded old.chains name new fresh
      → IsIndexOrDuplicate (items ++ tree.chain (chain_tree c) ∷ []) (record old { chains = new }) fresh
  chain-added c is added = chain-more items old known (chain_tree c) new fresh (subst (λ n. IsAdded old.chains n new fresh) is added)

  pub set-added : (s : SetDecl) → name ≡ s.name.items → IsAddedApart old.sets name old.maps new fresh
      → IsIndexOrDuplicate (items ++ tree.set (set_tree s) ∷ []) (record old { sets = new }) fresh
  set-added s is added = set-more items old known (set_tree s) new fresh (subst (λ n. IsAddedApart old.sets n old.maps new fresh) is added)

  pub map-added : (m : MapDecl) → name ≡ m.name.items → IsAddedApart old.maps name old.sets new fresh
      → IsIndexOrDuplicate (items ++ tree.map_item (map_tree m) ∷ []) (record old { maps = new }) fresh
  map-added m is added = map-more-item items old known (map_tree m) new fresh (subst (λ n. IsAddedApart old.maps n old.sets new fresh) is added)

-- items in text order
module _ (items : List Item) (i : ℕ) (x : Item) (inside : i < length items) (is : x ≡ get_or items i x) (names : ItemNames) where
  pub item-more : IsIndexOf (map item_tree (take i items) ++ item_tree x ∷ []) names → IsIndexOf (map item_tree (take (i + 1) items)) names
  item-more h = subst (λ xs. IsIndexOf xs names) (sym (map-more item_tree items i x inside is)) h

  pub item-duplicate : HasDuplicateIn (map item_tree (take i items) ++ item_tree x ∷ []) → HasDuplicateIn (map item_tree items)
  item-duplicate h =
      subst HasDuplicateIn (map-around item_tree items i x inside is)
      (repeats-in-on (map item_tree (take i items) ++ item_tree x ∷ []) (map item_tree (drop (i + 1) items)) h)

-- ---- the names of a table

-- the index of its items is that of their names
pub indexed : (items : List ItemTree) (names : ItemNames) → IsIndexOf items names → names ≡ record {
  chains = map (λ c. c.name) (filter_map chain_in items);
  sets = map (λ s. s.name) (filter_map set_in items);
  maps = map (λ m. m.name) (filter_map map_in items);
}
indexed items names known = ap (λ ns. record names { chains = ns }) known.chains
    ∙ ap (λ ns. record names { chains = map (λ c. c.name) (filter_map chain_in items); sets = ns }) known.sets
    ∙ ap (λ ns. record names { chains = map (λ c. c.name) (filter_map chain_in items); sets = map (λ s. s.name) (filter_map set_in items); maps = ns }) known.maps
