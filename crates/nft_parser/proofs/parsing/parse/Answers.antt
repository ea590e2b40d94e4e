use Rattle.std.proofs.Common.{◌≡◌, ◌⊎◌, ◌∙◌, ap, Some, None, inl, map, sym, subst}
use Rattle.nft_lexer.specs.Terminal.{terminals_of}
use Rattle.nft_lexer.specs.TokenViews.{spelled}
use Rattle.nft_tree.specs.TreeViews.{tables_of}
use Rattle.token_reader.specs.steps.TokenLaws.{terminals_of-spelled}
use Rattle.nft_parser.specs.declared.fault.ParseError.{ParseError}
use Rattle.nft_parser.specs.declared.fault.ParseError.TheVariants.{Refused, Memory}
use Rattle.nft_rulesets.specs.UnsupportedWords.{has_unsupported}
use Rattle.nft_parser.specs.Spells.{HasTextFault}
use Rattle.nft_parser.specs.steps.Faults.{of_lex_error, refusal}
use Rattle.nft_rulesets.specs.steps.Laws.{ruleset_at}
use Rattle.nft_parser.proofs.TextLaws.{spells_read, fault_unread, not_lexed_only, at_error}
use Rattle.nft_parser.proofs.parsing.parse.Goals as goal

pub returns-in_err-tokens-clause-only : goal.returns-in_err-tokens-clause-only
returns-in_err-tokens-clause-only c = λ tree s.
    at_error c.from_residual.result _ _ _ c.from_residual.ensures.1
    (λ e is. is ∙ ap of_lex_error (c.in_err-tokens.ensures.only s.0 s.1))

pub returns-in_err-tokens-clause-only_fault : goal.returns-in_err-tokens-clause-only_fault
returns-in_err-tokens-clause-only_fault c = λ fault h.
    at_error c.from_residual.result _ _ _ c.from_residual.ensures.1 (λ e is.
    subst (λ (answer : ParseError). (answer ≡ Refused fault) ⊎ (answer ≡ Memory)) (sym is)
    (not_lexed_only c.args.text.now c.in_err-tokens.field-0.0 c.in_err-tokens.ensures.only
    c.in_err-tokens.ensures.only_fault fault h))

pub returns-in-Some-clause-found : goal.returns-in-Some-clause-found
returns-in-Some-clause-found c =
    let tokens = c.in_ok-tokens.tokens.items in
    let tree = tables_of c.in-Some.ruleset in
    let read : ruleset_at (terminals_of (map spelled tokens)) ≡ Some tree =
    rw (terminals_of-spelled tokens, sym c.deref.ensures.value)
    (sym (rw c.in-Some.is at c.in_ok-ruleset.ensures.read)) in
    spells_read c.args.text.now (map spelled tokens) tree c.in_ok-tokens.ensures.found read

pub returns-in-Some-clause-only : goal.returns-in-Some-clause-only
returns-in-Some-clause-only c = λ tree s.
    c.one_tree.ensures.one c.args.text.now (tables_of c.in-Some.ruleset) tree (returns-in-Some-clause-found c)
    s

pub returns-in-Some-clause-only_fault : goal.returns-in-Some-clause-only_fault
returns-in-Some-clause-only_fault c = λ fault h.
    c.one_tree.ensures.faultless c.args.text.now (tables_of c.in-Some.ruleset) fault
    (returns-in-Some-clause-found c) h

-- Where the parser gives none, the reported fault is the text's.
reported : (c : goal.After-drop-tokens-2) → HasTextFault c.args.text.now c.refusal.result
reported c =
    let tokens = c.in_ok-tokens.tokens.items in
    let none : ruleset_at (terminals_of (map spelled tokens)) ≡ None =
    rw (terminals_of-spelled tokens, sym c.deref.ensures.value)
    (sym (rw c.in-None.is at c.in_ok-ruleset.ensures.read)) in
    let same : c.refusal.result ≡ refusal (has_unsupported (terminals_of (map spelled tokens))) =
    rw (terminals_of-spelled tokens, sym c.deref-in-None.ensures.value) c.refusal.ensures in
    rw same (fault_unread c.args.text.now (map spelled tokens) c.in_ok-tokens.ensures.found none)

pub returns-clause-only : goal.returns-clause-only
returns-clause-only c = λ tree s. absurd
    (c.one_tree.ensures.faultless c.args.text.now tree c.refusal.result s (reported c))

pub returns-clause-fault : goal.returns-clause-fault
returns-clause-fault c = λ fault e. let same : c.refusal.result ≡ fault = cc in rw same at (reported c)

pub returns-clause-only_fault : goal.returns-clause-only_fault
returns-clause-only_fault c = λ fault h.
    inl (ap Refused (c.one_fault.ensures c.args.text.now c.refusal.result fault (reported c) h))
