use Rattle.std.proofs.Common.{List, Option, Some, None}
use Rattle.std.proofs.lemmas.Result.{IfOk-weaker}
use Rattle.std.specs.Option.{option_map}
use Rattle.std.specs.Prelude.{IsSomeAnd}
use Rattle.token_reader.specs.Readers.{remaining}
use Rattle.node_spans.specs.declared.token_range.TokenRange.{TokenRange}
use Rattle.node_spans.proofs.SetElements.{map_spelled, no_set, set_spelled}
use Rattle.node_spans.proofs.set_elements.elements.Goals as goal

some_items : {X : Type 0} (items : X → List TokenRange) (P : List TokenRange → Type 0) (o : Option X)
    → IsSomeAnd (option_map items o) P → IsSomeAnd o (λ x. P (items x))
some_items items P None h = h
some_items items P (Some x) h = h

pub returns-in-Some-clause-of_set : goal.returns-in-Some-clause-of_set
returns-in-Some-clause-of_set c = λ s spelled.
    let all = rw c.in-Some.is at (set_spelled (λ x. x.now) c.args.tokens.now c.args.range.first c.args.range.end s
    c.block_start.result spelled c.block_start.ensures) in
    IfOk-weaker c.block_elements.result _ _
    (λ o read. some_items (λ x. x.items) _ o (all (option_map (λ x. x.items) o) read)) c.block_elements.ensures

pub returns-in-Some-clause-of_map : goal.returns-in-Some-clause-of_map
returns-in-Some-clause-of_map c = λ m spelled.
    let none = no_set m (remaining c.args.tokens.now c.args.range.first)
    (remaining c.args.tokens.now c.args.range.end) spelled in
    let some = rw c.in-Some.is at c.block_start.ensures in
    absurd (cc (none, some.0))

pub returns-in-Some-block_start-clause-of_set : goal.returns-in-Some-block_start-clause-of_set
returns-in-Some-block_start-clause-of_set c = λ s spelled.
    absurd (rw c.in_default.is at (set_spelled (λ x. x.now) c.args.tokens.now c.args.range.first c.args.range.end s
    c.block_start.result spelled c.block_start.ensures))

pub returns-in-Some-block_start-clause-of_map : goal.returns-in-Some-block_start-clause-of_map
returns-in-Some-block_start-clause-of_map c = λ m spelled.
    let all = rw c.in-Some-block_start.is at (map_spelled (λ x. x.now) c.args.tokens.now c.args.range.first
    c.args.range.end m c.block_start-2.result spelled c.block_start-2.ensures) in
    IfOk-weaker c.block_elements-in-Some-block_start.result _ _
    (λ o read. some_items (λ x. x.items) _ o (all (option_map (λ x. x.items) o) read))
    c.block_elements-in-Some-block_start.ensures

pub returns-clause-of_set : goal.returns-clause-of_set
returns-clause-of_set c = λ s spelled.
    rw c.in_default.is at (set_spelled (λ x. x.now) c.args.tokens.now c.args.range.first c.args.range.end s
    c.block_start.result spelled c.block_start.ensures)

pub returns-clause-of_map : goal.returns-clause-of_map
returns-clause-of_map c = λ m spelled.
    rw c.in_default-block_start.is at (map_spelled (λ x. x.now) c.args.tokens.now c.args.range.first
    c.args.range.end m c.block_start-2.result spelled c.block_start-2.ensures)
