use Rattle.std.proofs.Common.{◌≡◌, length, map, refl, subst, sym, arith}
use Rattle.std.proofs.lemmas.Bool.{ltb-false, ltb-true}
use Rattle.std.proofs.lemmas.Option.{slice_get_read}
use Rattle.list_laws.specs.Options.{IfSome_at}
use Rattle.nft_lexer.specs.TokenViews.{spelled, terminals}
use Rattle.nft_tree.specs.TreeViews.{tables_of}
use Rattle.nft_rulesets.specs.Rulesets.{SpellsRuleset}
use Rattle.rule_check.specs.WellFormed.{WellFormed}
use Rattle.fault_nodes.specs.Nodes.{CompletesFault, position}
use Rattle.fault_spans.specs.Standing.{NodeStands}
use Rattle.fault_spans.proofs.Stands.{node_has}
use Rattle.fault_spans.proofs.Texts.{ends_within, reads}
use Rattle.fault_spans.proofs.spans.fault_span.Goals as goal

pub returns-in-Err-Refused-clause-none : goal.returns-in-Err-Refused-clause-none
returns-in-Err-Refused-clause-none c tables s none fault wrong = absurd (cc (
  c.in-Err-Refused.ensures.only s.0 s.1,
  c.in-Err-Refused.is,
  c.in-Err-Refused.field-0-is,
))

pub returns-in_default-clause-none : goal.returns-in_default-clause-none
returns-in_default-clause-none c tables s none fault wrong =
    let lexed : map spelled c.deref.result.now ≡ s.0 = rw c.deref.ensures.value (c.in-Ok.ensures.only s.0 s.1) in
    absurd (rw c.in_default.is at
    (c.in_ok-tree.ensures.only tables (reads c.deref.result.now s.0 tables lexed s.2)))

pub returns-in_default-2-clause-none : goal.returns-in_default-2-clause-none
returns-in_default-2-clause-none c tables s none fault wrong =
    let lexed : map spelled c.deref.result.now ≡ s.0 = rw c.deref.ensures.value (c.in-Ok.ensures.only s.0 s.1) in
    let same : tables_of c.in-Some.tree ≡ tables = rw c.in-Some.is at
    (c.in_ok-tree.ensures.only tables (reads c.deref.result.now s.0 tables lexed s.2)) in
    subst (λ t. WellFormed t c.args.network.now) same (c.in_ok-found.ensures.fine c.in_default-2.is) fault wrong

pub returns-in_default-get-clause-none : goal.returns-in_default-get-clause-none
returns-in_default-get-clause-none c given s none fault wrong =
    let tokens = c.in-Ok.tokens.items in
    let tables = tables_of c.in-Some.tree in
    let node = c.in-Some-2.found.node in
    let range = c.in-Some-3.range in
    let read : SpellsRuleset tables (terminals tokens) = rw c.deref.ensures.value at
    (IfSome_at c.in_ok-tree.field-0 (λ t. SpellsRuleset (tables_of t) (terminals c.deref.result.now)) c.in-Some.tree
    c.in-Some.is c.in_ok-tree.ensures.found) in
    let done : CompletesFault c.in-Some-2.found.fault node tables c.args.network.now =
    IfSome_at c.in_ok-found.field-0 (λ f. CompletesFault f.fault f.node tables c.args.network.now) c.in-Some-2.found
    c.in-Some-2.is c.in_ok-found.ensures.node in
    let here : SpellsRuleset tables (terminals c.deref-2.result.now) = rw c.deref-2.ensures.value read in
    let stands : NodeStands tokens tables node range = rw c.deref-2.ensures.value at
    (rw c.in-Some-3.is at (c.in_ok-range.ensures tables here done.there)) in
    let has = node_has tokens tables node range stands in
    let past = rw c.deref-3.ensures.value at (ltb-false _ _ (sym c.in_default-get.ensures.lookup.0)) in
    absurd (omega (arith, has.0, has.1, past))

pub returns-in_default-get-2-clause-none : goal.returns-in_default-get-2-clause-none
returns-in_default-get-2-clause-none c given s none fault wrong =
    let tokens = c.in-Ok.tokens.items in
    let tables = tables_of c.in-Some.tree in
    let node = c.in-Some-2.found.node in
    let range = c.in-Some-3.range in
    let read : SpellsRuleset tables (terminals tokens) = rw c.deref.ensures.value at
    (IfSome_at c.in_ok-tree.field-0 (λ t. SpellsRuleset (tables_of t) (terminals c.deref.result.now)) c.in-Some.tree
    c.in-Some.is c.in_ok-tree.ensures.found) in
    let done : CompletesFault c.in-Some-2.found.fault node tables c.args.network.now =
    IfSome_at c.in_ok-found.field-0 (λ f. CompletesFault f.fault f.node tables c.args.network.now) c.in-Some-2.found
    c.in-Some-2.is c.in_ok-found.ensures.node in
    let here : SpellsRuleset tables (terminals c.deref-2.result.now) = rw c.deref-2.ensures.value read in
    let stands : NodeStands tokens tables node range = rw c.deref-2.ensures.value at
    (rw c.in-Some-3.is at (c.in_ok-range.ensures tables here done.there)) in
    let has = node_has tokens tables node range stands in
    let past = rw c.deref-4.ensures.value at (ltb-false _ _ (sym c.in_default-get-2.ensures.lookup.0)) in
    absurd (omega (arith, has.0, has.1, past, c.saturating_sub.ensures))

pub overflow_add-end : goal.overflow_add-end
overflow_add-end c =
    let tokens = c.in-Ok.tokens.items in
    let last = c.in-Some-get-2.last.now in
    let lt = rw c.deref-4.ensures.value at (ltb-true _ _ (sym c.in-Some-get-2.ensures.lookup.0)) in
    let is = rw c.deref-4.ensures.value at c.in-Some-get-2.ensures.lookup.1 in
    let there = slice_get_read tokens (length tokens) c.saturating_sub.result last refl lt is in
    let within = ends_within c.args.text.now tokens c.saturating_sub.result last c.in-Ok.ensures.places there in
    omega (arith, within, c.in-Ok.ensures.found.fits)

pub returns-clause-found : goal.returns-clause-found
returns-clause-found c =
    let tokens = c.in-Ok.tokens.items in
    let tables = tables_of c.in-Some.tree in
    let node = c.in-Some-2.found.node in
    let range = c.in-Some-3.range in
    let read : SpellsRuleset tables (terminals tokens) = rw c.deref.ensures.value at
    (IfSome_at c.in_ok-tree.field-0 (λ t. SpellsRuleset (tables_of t) (terminals c.deref.result.now)) c.in-Some.tree
    c.in-Some.is c.in_ok-tree.ensures.found) in
    let done : CompletesFault c.in-Some-2.found.fault node tables c.args.network.now =
    IfSome_at c.in_ok-found.field-0 (λ f. CompletesFault f.fault f.node tables c.args.network.now) c.in-Some-2.found
    c.in-Some-2.is c.in_ok-found.ensures.node in
    let here : SpellsRuleset tables (terminals c.deref-2.result.now) = rw c.deref-2.ensures.value read in
    let stands : NodeStands tokens tables node range = rw c.deref-2.ensures.value at
    (rw c.in-Some-3.is at (c.in_ok-range.ensures tables here done.there)) in
    let has = node_has tokens tables node range stands in
    let lt = rw c.deref-3.ensures.value at (ltb-true _ _ (sym c.in-Some-get.ensures.lookup.0)) in
    let is = rw c.deref-3.ensures.value at c.in-Some-get.ensures.lookup.1 in
    let lt-2 = rw c.deref-4.ensures.value at (ltb-true _ _ (sym c.in-Some-get-2.ensures.lookup.0)) in
    let is-2 = rw c.deref-4.ensures.value at c.in-Some-get-2.ensures.lookup.1 in
    record {
      tokenized = c.in-Ok.ensures.found;
      stand = c.in-Ok.ensures.places;
      reads = read;
      completes = done;
      read_before = IfSome_at c.in_ok-found.field-0 (λ f. f.position ≡ position tables f.node) c.in-Some-2.found
          c.in-Some-2.is c.in_ok-found.ensures.position;
      range = range;
      stands = stands;
      bytes = record {
        first = c.in-Some-get.first.now;
        first_there = slice_get_read tokens (length tokens) range.first c.in-Some-get.first.now refl lt is;
        begins = refl;
        last = c.in-Some-get-2.last.now;
        last_there = rw (sym c.saturating_sub.ensures) (slice_get_read tokens (length tokens) c.saturating_sub.result
            c.in-Some-get-2.last.now refl lt-2 is-2);
        ends = refl;
      };
    }
