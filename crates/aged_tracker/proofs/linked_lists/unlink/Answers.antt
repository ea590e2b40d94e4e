use Rattle.aged_tracker.proofs.Names.{IsNode, IsOn, Link, Next, Previous, Some, ap, arith, link_at, neighbour, next_on, owner_of, prev_on, refl}
use Rattle.aged_tracker.proofs.Names.{sym, ℕ, ◌+◌, ◌∙◌, ◌≡◌}
use Rattle.aged_tracker.proofs.Lists.{Skipped, aside_place, joined, relists_left, unmoved}
use Rattle.aged_tracker.proofs.linked_lists.unlink.Goals.{After-set_neighbour-2, After-take_links-links}
use Rattle.aged_tracker.proofs.linked_lists.unlink.Goals as goal

-- a neighbour exists
place : (c : After-take_links-links) (p : ℕ) → IsOn 5 c.requires.owned.0 (c.requires.rings.0 c.requires.owned.0) p
    → IsNode c.take_links-links.new.self p
place c p on = grind arith

pub set_neighbour-requires : goal.set_neighbour-requires
set_neighbour-requires c =
    let ring = c.requires.rings.1 c.requires.owned.0 c.requires.owned.1.0 in
    place (goal.at.set_neighbour-requires c).After-take_links-links _
    (rw (c.take_links-links.ensures.link c.args.heads.now)
    (prev_on _ _ 5 c.requires.owned.0 _ c.requires.owned.0 c.args.key ring.chained (ring.listed c.args.key c.requires.owned.1.1)))

pub set_neighbour-requires-2 : goal.set_neighbour-requires-2
set_neighbour-requires-2 c =
    let ring = c.requires.rings.1 c.requires.owned.0 c.requires.owned.1.0 in
    aside_place c.take_links-links.new.self c.set_neighbour.new.slots c.set_neighbour.ensures.except_links _
    (place (goal.at.set_neighbour-requires-2 c).After-take_links-links _
    (rw (c.take_links-links.ensures.link c.args.heads.now)
    (next_on _ _ 5 c.requires.owned.0 _ c.requires.owned.0 c.args.key ring.chained (ring.listed c.args.key c.requires.owned.1.1))))

skipped : (c : After-set_neighbour-2) → Skipped c.args.slots.now c.set_neighbour-2.new.slots c.args.heads.now
    c.set_neighbour-2.new.heads c.args.key
skipped c =
    let old = c.args.slots.now in
    let heads = c.args.heads.now in
    let taken = c.take_links-links.new.self in
    let link = c.take_links-links.result.link in
    let l = c.take_links-links.ensures.placed in
    let here = c.take_links-links.ensures.link heads in
    let same : (part : Link → ℕ) (p : ℕ) → part (link_at taken heads p) ≡ part (link_at old heads p) =
    λ part. unmoved part (link_at old heads) (link_at taken heads) (5 + c.args.key) link (l.link heads) (ap part here) in
    let first = c.set_neighbour.ensures.links in
    let second = c.set_neighbour-2.ensures.links in
    let new = link_at c.set_neighbour-2.new.slots c.set_neighbour-2.new.heads in
    let owners : (k : ℕ) → owner_of c.set_neighbour-2.new.slots k ≡ owner_of taken k =
    λ k. c.set_neighbour-2.ensures.owners k ∙ c.set_neighbour.ensures.owners k in
    record {
      next = rw here at (joined (neighbour Next) (link_at old heads) new _ _ _ _ first (same (neighbour Next))
          (unmoved (neighbour Next) _ _ _ _ second refl));
      prev = rw here at (joined (neighbour Previous) (link_at old heads) new _ _ _ _ second
          (λ p. unmoved (neighbour Previous) _ _ _ _ first refl p ∙ same (neighbour Previous) p) (λ p. refl));
      left = owners c.args.key ∙ l.owner;
      others = λ k d. owners k ∙ l.others k d;
    }

pub returns-clause-owner : goal.returns-clause-owner
returns-clause-owner c = sym c.take_links-links.ensures.list ∙ c.unwrap.ensures ∙ ap Some (sym c.from.ensures)

pub returns-clause-range : goal.returns-clause-range
returns-clause-range c = grind arith

pub returns-clause-relists : goal.returns-clause-relists
returns-clause-relists c =
    relists_left _ _ _ _ c.args.key (skipped (goal.at.returns-clause-relists c).After-set_neighbour-2) c.from.result (returns-clause-range c)
    (returns-clause-owner c)
