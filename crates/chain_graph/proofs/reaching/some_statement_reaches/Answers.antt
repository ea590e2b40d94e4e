use Rattle.chain_graph.proofs.Names.{Call, List, ap, arith, call_of, drop, false, flat_map, get_or, identity, map, some_call, statements_of, sym, ℕ, ◌+◌, ◌∙◌}
use Rattle.chain_graph.proofs.Names.{◌≡◌}
use Rattle.std.proofs.Common.{Bool, ◌||◌}
use Rattle.std.specs.List.{list_any}
use Rattle.std.proofs.lemmas.List.Folds.{list_any-append}
use Rattle.chain_graph.proofs.NodeLaws.{calls-rest}
use Rattle.chain_graph.proofs.reaching.some_statement_reaches.Goals.{After-some_call_reaches}
use Rattle.chain_graph.proofs.reaching.some_statement_reaches.Goals as goal

abbrev reaches : After-some_call_reaches → Call ℕ → Bool
reaches c e = get_or c.args.reaching.now e.to false

-- the answer is that of this statement, or of those after it
more : (c : After-some_call_reaches) → c.some_call_reaches.result
    || some_call (λ k. get_or c.args.reaching.now k false) (flat_map identity (statements_of (drop (c.loop-calls.calls-index + 1) c.args.statements.now)))
    ≡ some_call (λ k. get_or c.args.reaching.now k false) (flat_map identity (statements_of c.args.statements.now))
more c =
    let rest : List (Call ℕ) = flat_map identity (statements_of (drop (c.loop-calls.calls-index + 1) c.args.statements.now)) in
    let split = ap (list_any (reaches c))
    (calls-rest c.args.statements.now c.loop-calls.calls-index c.calls-item.result (omega arith) c.calls-item.is)
    ∙ list_any-append (reaches c) (map call_of c.calls-item.result.items) rest in
    let here = c.some_call_reaches.ensures ∙ ap (λ xs. list_any (reaches c) (map call_of xs)) c.deref.ensures.value in
    ap (λ b. b || list_any (reaches c) rest) here ∙ sym split ∙ c.loop-calls.invariant

pub returns-then-some_call_reaches : goal.returns-then-some_call_reaches
returns-then-some_call_reaches c = rw c.if-some_call_reaches.true at (more (goal.at.returns-then-some_call_reaches c).After-some_call_reaches)

pub loop-calls-preserved : goal.loop-calls-preserved
loop-calls-preserved c = rw c.if-some_call_reaches.false at (more (goal.at.loop-calls-preserved c).After-some_call_reaches)
