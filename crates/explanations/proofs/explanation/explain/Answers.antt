use Rattle.std.proofs.Common.{◌≡◌, ◌∙◌, ◌||◌, ap, ap₂, sym, subst, is_some, Option}
use Rattle.std.specs.Option.{option_or}
use Rattle.explanations.specs.declared.explanation.Explanation.{Explanation}
use Rattle.explanations.proofs.Finding.{Own, either_own, either_some, or_moved}
use Rattle.explanations.proofs.explanation.explain.Goals as goal

pub returns-clause-own : goal.returns-clause-own
returns-clause-own c =
    let a = c.in_table.result in
    let b = c.in_table-2.result in
    let d = c.in_table-3.result in
    let e = c.in_table-4.result in
    let is : c.or-3.result ≡ option_or (option_or (option_or a b) d) e =
    c.or-3.ensures ∙ ap (λ o. option_or o e) (c.or-2.ensures ∙ ap (λ o. option_or o d) c.or.ensures) in
    subst (Own c.args.code.now) (sym is)
    (either_own (option_or (option_or a b) d) e _ (either_own (option_or a b) d _
    (either_own a b _ c.in_table.ensures.own c.in_table-2.ensures.own)
    c.in_table-3.ensures.own) c.in_table-4.ensures.own)

pub returns-clause-known : goal.returns-clause-known
returns-clause-known c =
    let a = c.in_table.result in
    let b = c.in_table-2.result in
    let d = c.in_table-3.result in
    let e = c.in_table-4.result in
    let is : c.or-3.result ≡ option_or (option_or (option_or a b) d) e =
    c.or-3.ensures ∙ ap (λ o. option_or o e) (c.or-2.ensures ∙ ap (λ o. option_or o d) c.or.ensures) in
    ap (λ (o : Option Explanation). is_some o) is
    ∙ either_some (option_or (option_or a b) d) e ∙ ap (λ v. v || is_some e)
    (either_some (option_or a b) d ∙ ap (λ v. v || is_some d) (either_some a b))
    ∙ or_moved (is_some a) (is_some b) (is_some d) (is_some e)
    ∙ ap₂ (λ v w. v || w) c.in_table.ensures.known (ap₂ (λ v w. v || w) c.in_table-2.ensures.known
    (ap₂ (λ v w. v || w) c.in_table-3.ensures.known c.in_table-4.ensures.known))
