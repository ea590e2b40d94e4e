use Rattle.chain_graph.proofs.Names.{Contains, List, New, [], ap, arith, length, length_push, subst, sym, take, ℕ, ◌++◌, ◌-◌, ◌<◌, ◌∙◌, ◌∷◌, ◌≡◌}
use Rattle.std.proofs.Common.{get_or, get_or-set_same, ltb-true, rules, take_all}
use Rattle.std.proofs.lemmas.List.{get_or_read, take_more}
use denote.Enum.Bare.{differs_false, differs_true}
use Rattle.chain_graph.specs.contracts.search.Mark.{the_type}
use Rattle.chain_graph.specs.declared.search.Mark.TheVariants.{Open}
use Rattle.chain_graph.proofs.ReadLaws.{mark-read, rows-long}
use Rattle.chain_graph.proofs.StepLaws.{entered, keeps_visited, path_below}
use Rattle.chain_graph.proofs.search.visit.Goals as goal

pub step-requires-clause-below : goal.step-requires-clause-below
step-requires-clause-below c =
    let some = ltb-true _ _ (sym c.in-Some.ensures.item.0) in
    let last : Contains c.deref.result.now c.in-Some.field-0.now = (length c.deref.result.now - 1, omega arith, sym c.in-Some.ensures.item.1) in
    let below = path_below c.loop-last.invariant.search (subst (λ xs. Contains xs c.in-Some.field-0.now) c.deref.ensures.value last) in
    let rows = rows-long c.args.targets.now in
    omega arith

front-last : (path seen : List ℕ) (x : ℕ) → seen ≡ path → 0 < length seen → x ≡ get_or seen (length seen - 1) x → path ≡ take (length seen - 1) path ++ x ∷ []
front-last path seen x same some is = grind (arith, take_more, take_all)

pub step-requires-clause-last : goal.step-requires-clause-last
step-requires-clause-last c =
    let some = ltb-true _ _ (sym c.in-Some.ensures.item.0) in
    (take (length c.deref.result.now - 1) _, front-last c.loop-last.search.path.items _ _ c.deref.ensures.value some c.in-Some.ensures.item.1)

pub loop-last-init : goal.loop-last-init
loop-last-init c =
    let rows = rows-long c.args.targets.now in
    let long = c.requires.search.marks_long in
    let at : c.args.root < length c.args.search.now.marks.items = omega arith in
    let new = mark-read c.args.search.now.marks.items c.args.root at c.index.ensures (differs_false the_type (search rules) _ _ (sym c.if-ne.ensures)) in
    let next = entered _ _ _ _ _ c.args.root c.requires.search new (omega arith)
    (λ rest d e. let n = length_push rest d in let l = ap length (sym c.requires.path ∙ e) in absurd (omega arith)) in
    record {
      search = rw c.in_ok-push.ensures.items next;
      root_visited = rw (get_or-set_same c.args.search.now.marks.items c.args.root Open New at) (λ e. (cc));
      visited = keeps_visited c.args.search.now.marks.items c.args.root Open at (λ e. (cc));
    }

pub loop-last-preserved : goal.loop-last-preserved
loop-last-preserved c =
    let next = rw c.if-not-branch.false at c.in_ok-step.ensures.steps in
    let before = c.loop-last.invariant in
    record {
      search = next.search;
      root_visited = next.visited.keeps c.args.root before.root_visited;
      visited = record { keeps = λ d h. next.visited.keeps d (before.visited.keeps d h) };
    }

pub returns : goal.returns
returns c =
    let before = c.loop-last.invariant in
    let none = ap length c.deref.ensures.value in
    let least = c.in_default.ensures.item.3 in
    let path = sym (take_all 0 c.loop-last.search.path.items (omega arith)) in
    record { visits = record { search = before.search; path = path; root_visited = before.root_visited; visited = before.visited } }

pub returns-then-ne : goal.returns-then-ne
returns-then-ne c =
    let rows = rows-long c.args.targets.now in
    let long = c.requires.search.marks_long in
    let is = get_or_read c.args.search.now.marks.items c.args.root c.index.result.now (omega arith) c.index.ensures New in
    let other = differs_true the_type c.index.result.now New (sym c.if-ne.ensures) in
    record {
      visits = record { search = c.requires.search; path = c.requires.path; root_visited = λ e. other (is ∙ e); visited = record { keeps = λ d h. h } };
    }
