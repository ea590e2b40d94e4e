use Rattle.aged_tracker.proofs.Names.{Next, Previous, ap, arith, free_not_on, link_at, neighbour, next_of, number, owner_of, prev_end_on, prev_of, refl, ℕ}
use Rattle.aged_tracker.proofs.Names.{◌+◌, ◌∙◌, ◌≡◌, ◌≢◌}
use Rattle.aged_tracker.proofs.Lists.{Spliced, aside_place, joined, on_place, relists_pushed, unmoved}
use Rattle.aged_tracker.proofs.linked_lists.push_back.Goals.{After-set_neighbour-2}
use Rattle.aged_tracker.proofs.linked_lists.push_back.Goals as goal

pub set_neighbour-requires : goal.set_neighbour-requires
set_neighbour-requires c =
    let keys = c.requires.rings.0 c.args.list in
    let ring = c.requires.rings.1 c.args.list c.requires.range in
    let b = ap (neighbour Previous) (c.head_link.ensures c.args.slots.now) in
    aside_place c.args.slots.now c.set_links.new.self c.set_links.ensures.placed.same
    (number c.head_link.result.prev)
    (on_place c.args.slots.now c.args.heads.now c.args.list keys (number c.head_link.result.prev) c.requires.range ring
    (rw b (prev_end_on _ _ 5 c.args.list keys c.args.list ring.chained)))

spliced : (c : After-set_neighbour-2) → Spliced c.args.slots.now c.set_neighbour-2.new.slots c.args.heads.now
    c.set_neighbour-2.new.heads c.args.key c.args.list
spliced c =
    let keys = c.requires.rings.0 c.args.list in
    let ring = c.requires.rings.1 c.args.list c.requires.range in
    let linked = c.set_links.ensures.placed.link c.args.heads.now in
    let b = ap (neighbour Previous) (c.head_link.ensures c.args.slots.now) in
    let head : number c.head-head.result ≡ c.args.list = c.head-head.ensures in
    let here : number c.slot-slot.result ≡ 5 + c.args.key = c.slot-slot.ensures in
    let first = c.set_neighbour.ensures.links in
    let second = c.set_neighbour-2.ensures.links in
    let set = link_at c.set_links.new.self c.args.heads.now in
    let new = link_at c.set_neighbour-2.new.slots c.set_neighbour-2.new.heads in
    let next = rw (b, here) at (joined (neighbour Next) set new _ _ _ _ first (λ p. refl)
    (unmoved (neighbour Next) _ _ _ _ second refl)) in
    let prev = rw (here, head) at (joined (neighbour Previous) set new _ _ _ _ second
    (unmoved (neighbour Previous) _ _ _ _ first refl) (λ p. refl)) in
    let apart : 5 + c.args.key ≢ prev_of c.args.slots.now c.args.heads.now c.args.list = λ e.
    free_not_on (next_of c.args.slots.now c.args.heads.now)
    (prev_of c.args.slots.now c.args.heads.now) 5 (owner_of c.args.slots.now)
    c.args.list keys c.args.key c.requires.range ring c.requires.free
    (rw e (prev_end_on _ _ 5 c.args.list keys c.args.list ring.chained)) in
    let not_head : 5 + c.args.key ≢ c.args.list = λ e. omega (arith, c.requires.range, e) in
    let owners : (k : ℕ) → owner_of c.set_neighbour-2.new.slots k ≡ owner_of c.set_links.new.self k =
    λ k. c.set_neighbour-2.ensures.owners k ∙ c.set_neighbour.ensures.owners k in
    record {
      links = record {
        into = next.here;
        out = next.others (5 + c.args.key) apart ∙ ap (neighbour Next) linked.here ∙ head;
        back_into = prev.here;
        back_out = prev.others (5 + c.args.key) not_head ∙ ap (neighbour Previous) linked.here ∙ b;
        nexts = λ p d e. next.others p d ∙ ap (neighbour Next) (linked.others p e);
        prevs = λ p d e. prev.others p d ∙ ap (neighbour Previous) (linked.others p e);
      };
      joined = owners c.args.key ∙ c.set_links.ensures.placed.owner;
      others = λ k d. owners k ∙ c.set_links.ensures.placed.others k d;
    }

pub returns-clause-relists : goal.returns-clause-relists
returns-clause-relists c =
    relists_pushed _ _ _ _ c.args.key c.args.list (spliced (goal.at.returns-clause-relists c).After-set_neighbour-2) c.requires.range
    c.requires.free
