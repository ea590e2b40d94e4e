-- From the text to its tokens and back.
use Rattle.std.proofs.Common.{◌≡◌, ℕ, zero, suc, ◌+◌, ◌-◌, ◌≤◌, List, [], ◌∷◌, ◌++◌, drop, length, map, refl, sym, ap, subst, arith}
use Rattle.std.specs.Prelude.{Some, slice_get}
use Rattle.std.proofs.lemmas.List.{length-drop, length-take}
use Rattle.std.proofs.lemmas.Option.{same_Some}
use Rattle.nft_lexer.specs.declared.token.Token.{Token}
use Rattle.nft_lexer.specs.Places.{AllStand, StandsAt}
use Rattle.nft_lexer.specs.Terminal.{LexedToken, terminals_of}
use Rattle.nft_lexer.specs.TokenViews.{spelled, terminals}
use Rattle.nft_tree.specs.Tree.{TableTree}
use Rattle.nft_rulesets.specs.Rulesets.{SpellsRuleset}

pub same_terminals : (ts : List Token) → terminals_of (map spelled ts) ≡ terminals ts
same_terminals [] = refl
same_terminals (t ∷ ts) = ap (λ rest. (spelled t).terminal ∷ rest) (same_terminals ts)

pub reads : (tokens : List Token) (lexed : List LexedToken) (tables : List TableTree)
    → map spelled tokens ≡ lexed → SpellsRuleset tables (terminals_of lexed)
    → SpellsRuleset tables (terminals tokens)
reads tokens lexed tables e s = subst (SpellsRuleset tables) (same_terminals tokens)
    (subst (λ x. SpellsRuleset tables (terminals_of x)) (sym e) s)

-- ---- where a token ends

stands_at : (text : List ℕ) (before : List LexedToken) (ts : List Token) (i : ℕ) (t : Token)
    → AllStand text before ts → slice_get ts i ≡ Some t → (b : List LexedToken) × StandsAt text b t
stands_at text before [] i t all e = absurd (cc e)
stands_at text before (u ∷ us) zero t all e = (before, subst (StandsAt text before) (same_Some u t e) all.0)
stands_at text before (u ∷ us) (suc i) t all e = stands_at text (before ++ spelled u ∷ []) us i t all.1 e

pub ends_within : (text : List ℕ) (ts : List Token) (i : ℕ) (t : Token) → AllStand text [] ts
    → slice_get ts i ≡ Some t → t.start + length t.text.now ≤ length text
ends_within text ts i t all e =
    let s = (stands_at text [] ts i t all e).1 in
    grind (arith, s.within, ap length s.bytes, length-take (length t.text.now) (drop t.start text), length-drop t.start text)
