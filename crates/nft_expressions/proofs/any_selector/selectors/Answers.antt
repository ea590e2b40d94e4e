use Rattle.std.proofs.Common.{List, Option, Some, None}
use Rattle.std.proofs.lemmas.List.{map-id}
use Rattle.std.proofs.lemmas.Result.{IfOk-weaker}
use Rattle.std.specs.Prelude.{ℕ, map}
use Rattle.nft_lexer.specs.declared.token.Token.{Token}
use Rattle.nft_tree.specs.declared.selector.Selector.{Selector}
use Rattle.token_reader.specs.Readers.{IsRead, remaining}
use Rattle.token_reader.specs.steps.Laws.{reader_found, reader_only}
use Rattle.nft_expressions.specs.Selectors.{selectors}
use Rattle.nft_expressions.specs.steps.SelectorLaws.{lawful_selectors, selectors_only}
use Rattle.nft_expressions.proofs.any_selector.selectors.Goals as goal

-- A selector is its own model.
same : {X : Type 0} (items : X → List Selector) (tokens : List Token) (at : ℕ) (o : Option (X × ℕ))
    → IsRead (λ x. map (λ s. s) (items x)) selectors.read tokens at o
    → IsRead items selectors.read tokens at o
same items tokens at None e = e
same items tokens at (Some x) e = rw (map-id (items x.0)) at e

pub returns-clause-found : goal.returns-clause-found
unfolding selectors
returns-clause-found c =
    let tokens = c.args.tokens.now in
    IfOk-weaker c.separated.result _ _ (λ o e.
    reader_found selectors.spells (λ found. found.items) (remaining tokens) selectors.read
    (remaining tokens c.args.at) o (same (λ found. found.items) tokens c.args.at o e).0
    lawful_selectors.found) c.separated.ensures

pub returns-clause-only : goal.returns-clause-only
unfolding selectors
returns-clause-only c = λ ss to spelled ends.
    let tokens = c.args.tokens.now in
    IfOk-weaker c.separated.result _ _ (λ o e.
    reader_only (λ found. found.items) (remaining tokens) selectors.read (remaining tokens c.args.at) o
    (same (λ found. found.items) tokens c.args.at o e).0 ss to
    (selectors_only ss (remaining tokens c.args.at) to spelled ends)) c.separated.ensures
