use Rattle.std.proofs.Common.{List, Option, Some, None, sym, arith}
use Rattle.std.proofs.lemmas.Result.{IfOk-weaker}
use Rattle.std.specs.Option.{option_map}
use Rattle.std.specs.Prelude.{IsSomeAnd}
use Rattle.token_reader.specs.Readers.{remaining}
use Rattle.node_spans.specs.declared.token_range.TokenRange.{TokenRange}
use Rattle.node_spans.proofs.AnonymousBraces.{map_found, set_found, some_brace_map, some_brace_set}
use Rattle.node_spans.proofs.anonymous.anonymous_elements.Goals as goal

some_items : {X : Type 0} (items : X → List TokenRange) (P : List TokenRange → Type 0) (o : Option X)
    → IsSomeAnd (option_map items o) P → IsSomeAnd o (λ x. P (items x))
some_items items P None h = h
some_items items P (Some x) h = h

pub returns-in_default-clause-of_set : goal.returns-in_default-clause-of_set
returns-in_default-clause-of_set c = λ s es spelled has.
    some_brace_set s es (remaining c.args.tokens.now c.args.range.first)
    (remaining c.args.tokens.now c.args.range.end) spelled has
    (sym (rw c.in_default.is at c.first_brace.ensures.read))

pub returns-then-range-start-clause-of_set : goal.returns-then-range-start-clause-of_set
returns-then-range-start-clause-of_set c = λ s es spelled has.
    let known = set_found c.args.tokens.now c.args.range.first c.args.range.end c.in-Some.start s es
    c.in-Some.after_map spelled has (rw c.in-Some.is at c.first_brace.ensures.read) in
    absurd (omega (arith, known.1, c.if-range-start.true))

pub returns-in_default-clause-of_map : goal.returns-in_default-clause-of_map
returns-in_default-clause-of_map c = λ s ps spelled has.
    some_brace_map s ps (remaining c.args.tokens.now c.args.range.first)
    (remaining c.args.tokens.now c.args.range.end) spelled has
    (sym (rw c.in_default.is at c.first_brace.ensures.read))

pub returns-then-range-start-clause-of_map : goal.returns-then-range-start-clause-of_map
returns-then-range-start-clause-of_map c = λ s ps spelled has.
    let known = map_found c.args.tokens.now c.args.range.first c.args.range.end c.in-Some.start s ps
    c.in-Some.after_map spelled has (rw c.in-Some.is at c.first_brace.ensures.read) in
    absurd (omega (arith, known.1, c.if-range-start.true))

pub returns-then-after_map-clause-of_set : goal.returns-then-after_map-clause-of_set
returns-then-after_map-clause-of_set c = λ s es spelled has.
    let known = set_found c.args.tokens.now c.args.range.first c.args.range.end c.in-Some.start s es
    c.in-Some.after_map spelled has (rw c.in-Some.is at c.first_brace.ensures.read) in
    absurd (cc (known.0, c.if-after_map.true))

pub returns-then-after_map-clause-of_map : goal.returns-then-after_map-clause-of_map
returns-then-after_map-clause-of_map c = λ s ps spelled has.
    let known = map_found c.args.tokens.now c.args.range.first c.args.range.end c.in-Some.start s ps
    c.in-Some.after_map spelled has (rw c.in-Some.is at c.first_brace.ensures.read) in
    let within = rw c.in-Some.is at c.first_brace.ensures.within in
    IfOk-weaker c.in_braces.result _ _ (λ o read. some_items (λ x. x.items) _ o
    (known.2 (option_map (λ x. x.items) o) (omega (arith, within.0)) read)) c.in_braces.ensures

pub returns-else-after_map-clause-of_set : goal.returns-else-after_map-clause-of_set
returns-else-after_map-clause-of_set c = λ s es spelled has.
    let known = set_found c.args.tokens.now c.args.range.first c.args.range.end c.in-Some.start s es
    c.in-Some.after_map spelled has (rw c.in-Some.is at c.first_brace.ensures.read) in
    let within = rw c.in-Some.is at c.first_brace.ensures.within in
    IfOk-weaker c.in_braces-else-after_map.result _ _ (λ o read. some_items (λ x. x.items) _ o
    (known.2 (option_map (λ x. x.items) o) (omega (arith, within.0)) read)) c.in_braces-else-after_map.ensures

pub returns-else-after_map-clause-of_map : goal.returns-else-after_map-clause-of_map
returns-else-after_map-clause-of_map c = λ s ps spelled has.
    let known = map_found c.args.tokens.now c.args.range.first c.args.range.end c.in-Some.start s ps
    c.in-Some.after_map spelled has (rw c.in-Some.is at c.first_brace.ensures.read) in
    absurd (cc (known.0, c.if-after_map.false))
