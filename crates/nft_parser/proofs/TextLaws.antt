-- Whole texts: their tokens spell a ruleset, or decide its fault.
use Rattle.std.proofs.Common.{◌≡◌, ℕ, List, Bool, true, false, Some, None, ◌⊎◌, inl, inr, refl, sym, ap, ◌∙◌}
use Rattle.std.specs.Prelude.{Result, Ok, Err, IsErrAnd, MatchResult}
use Rattle.list_laws.specs.Options.{option_cases, IfSome_at}
use Rattle.nft_lexer.specs.Terminal.{LexedToken, terminals_of}
use Rattle.nft_lexer.specs.Lexing.{TokenizesTo, HasLexFault}
use Rattle.nft_lexer.specs.declared.fault.LexFault.{LexFault}
use Rattle.nft_lexer.specs.declared.fault.LexError.{LexError}
use Rattle.nft_lexer.specs.declared.fault.LexError.TheVariants as lexical
use Rattle.nft_tree.specs.Tree.{TableTree}
use Rattle.nft_parser.specs.declared.fault.TextFault.{TextFault}
use Rattle.nft_parser.specs.declared.fault.TextFault.TheVariants.{Lexical, Syntax, Unsupported}
use Rattle.nft_parser.specs.declared.fault.ParseError.TheVariants.{Refused, Memory}
use Rattle.nft_rulesets.specs.Rulesets.{SpellsRuleset}
use Rattle.nft_rulesets.specs.UnsupportedWords.{has_unsupported}
use Rattle.nft_parser.specs.Spells.{Spells, SpellsNone, HasTextFault}
use Rattle.nft_parser.specs.steps.Faults.{of_lex_error, refusal}
use Rattle.nft_rulesets.specs.steps.Laws.{ruleset_at, ruleset_found, ruleset_only}

-- The fault is lexical, or the tokens spell no ruleset.
abbrev pub FaultCases : List ℕ → TextFault → Type 0
FaultCases text fault = ((f : LexFault) × (fault ≡ Lexical f) × HasLexFault text f)
    ⊎ ((b : Bool) × (fault ≡ refusal b) × SpellsNone b text)

pub fault_cases : (text : List ℕ) (fault : TextFault) → HasTextFault text fault → FaultCases text fault
fault_cases text (Lexical f) h = inl (f, refl, h)
fault_cases text Syntax h = inr (false, refl, h)
fault_cases text Unsupported h = inr (true, refl, h)

fault_of_none : (text : List ℕ) (b : Bool) → SpellsNone b text → HasTextFault text (refusal b)
fault_of_none text true h = h
fault_of_none text false h = h

-- The parser's result for the tokens is spelled by the text; without one, this is the text's fault.
pub spells_read : (text : List ℕ) (tokens : List LexedToken) (tree : List TableTree) → TokenizesTo text tokens
    → ruleset_at (terminals_of tokens) ≡ Some tree → Spells tree text
spells_read text tokens tree cut e = (
  tokens,
  cut,
  IfSome_at (ruleset_at (terminals_of tokens)) (λ t. SpellsRuleset t (terminals_of tokens)) tree e
      (ruleset_found (terminals_of tokens)),
)

pub fault_unread : (text : List ℕ) (tokens : List LexedToken) → TokenizesTo text tokens
    → ruleset_at (terminals_of tokens) ≡ None
    → HasTextFault text (refusal (has_unsupported (terminals_of tokens)))
fault_unread text tokens cut none =
    let no_tree : (tree : List TableTree) → SpellsRuleset tree (terminals_of tokens) → ⊥ =
    λ tree s. absurd (cc (none, ruleset_only tree (terminals_of tokens) s)) in
    fault_of_none text (has_unsupported (terminals_of tokens)) (tokens, cut, no_tree, refl)

pub each_answer : ((text : List ℕ) → ((tokens : List LexedToken) × TokenizesTo text tokens)
    ⊎ ((f : LexFault) × HasLexFault text f))
    → (text : List ℕ) → ((tree : List TableTree) × Spells tree text)
    ⊎ ((fault : TextFault) × HasTextFault text fault)
each_answer lexing text =
    elim (lexing text) [
      | inl cut ↦
          elim (option_cases (ruleset_at (terminals_of cut.0))) [
            | inl none ↦ inr (_, fault_unread text cut.0 cut.1 none)
            | inr tree ↦ inl (tree.0, spells_read text cut.0 tree.0 cut.1 tree.1)
          ]
      | inr f ↦ inr (Lexical f.0, f.1)
    ]

-- For a text without a tokenization, the fault of the lexer is the only one.
pub not_lexed_only : (text : List ℕ) (answer : LexError)
    → ((tokens : List LexedToken) → TokenizesTo text tokens → answer ≡ lexical.Memory)
    → ((f : LexFault) → HasLexFault text f → (answer ≡ lexical.Refused f) ⊎ (answer ≡ lexical.Memory))
    → (fault : TextFault) → HasTextFault text fault
    → (of_lex_error answer ≡ Refused fault) ⊎ (of_lex_error answer ≡ Memory)
not_lexed_only text answer uncut only fault h =
    elim (fault_cases text fault h) [
      | inl l ↦
          elim (only l.0 l.2) [
            | inl e ↦ inl (ap of_lex_error e ∙ ap Refused (sym l.1))
            | inr e ↦ inr (ap of_lex_error e)
          ]
      | inr n ↦ inr (ap of_lex_error (uncut n.2.0 n.2.1))
    ]

-- A result that is an error with this property.
pub at_error : {A E : Type 0} (r : Result A E) (P : A → Type 0) (Q S : E → Type 0) → IsErrAnd r Q
    → ((e : E) → Q e → S e) → MatchResult r P S
at_error (Ok x) P Q S h k = absurd h
at_error (Err e) P Q S h k = k e h
