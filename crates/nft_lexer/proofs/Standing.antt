-- Tokens stand where they begin.
use Rattle.std.proofs.Common.{◌≡◌, ℕ, ◌-◌, List, [], ◌∷◌, ◌++◌, drop, length, map, take, sym, append_assoc, subst, inr, arith}
use Rattle.std.specs.Prelude.{Option, Some, None, IfSome, option_to_list}
use Rattle.std.proofs.lemmas.List.{append-nil, length-append, length-take, map-append, take_min}
use Rattle.std.proofs.Math.Seq.{drop-append_seam}
use Rattle.nft_lexer.specs.declared.token.Token.{Token}
use Rattle.nft_lexer.specs.Terminal.{LexedToken}
use Rattle.nft_lexer.specs.TokenViews.{spelled}
use Rattle.nft_lexer.specs.Places.{AllStand, FaultStandsAt, StandsAt}
use Rattle.nft_lexer.specs.steps.Reading.{ScansOne, listed}
use Rattle.nft_lexer.specs.declared.fault.LexFault.{LexFault}
use Rattle.nft_lexer.specs.Lexing.{FirstFault, IsFaultAt, line_after}
use Rattle.nft_lexer.proofs.Lexemes.{before}
use Rattle.nft_lexer.proofs.Tokenizations.{ScannedUpTo, faultless, one_fault, reached, reached_all, reached_push}

-- What comes behind the bytes before a suffix of the text.
pub behind_done : (text done rest : List ℕ) → text ≡ done ++ rest
    → drop (length text - length rest) text ≡ rest
behind_done text done rest e =
    let long : length text - length rest ≡ length done = grind (arith, e, length-append) in
    rw long (rw e (drop-append_seam done rest))

-- One more token stands behind those before it.
stand_push : (text : List ℕ) (before : List LexedToken) (ts : List Token) (t : Token)
    → AllStand text before ts → StandsAt text (before ++ map spelled ts) t
    → AllStand text before (ts ++ t ∷ [])
stand_push text before [] t all here = (rw (append-nil before) at here, tt)
stand_push text before (u ∷ us) t all here = (
  all.0,
  stand_push text (before ++ spelled u ∷ []) us t all.1
      (rw (sym (append_assoc before (spelled u ∷ []) (map spelled us))) at here),
)

-- The tokens so far: the scan up to here has them, and each stands at its start.
pub record Lexed (text rest : List ℕ) (ts : List Token) : Type 0 where
  pub scanned : ScannedUpTo text rest (map spelled ts)
  pub stand : AllStand text [] ts

-- A token whose bytes come next, and which begins behind all before them.
abbrev pub IsNext : List ℕ → List ℕ → List ℕ → Token → Type 0
IsNext text rest after t = (t.start ≡ length text - length rest)
    × (t.text.now ≡ take (length rest - length after) rest)

stands_next : (text rest after : List ℕ) (before : List LexedToken) (t : Token) → ScannedUpTo text rest before
    → IsNext text rest after t → StandsAt text before t
stands_next text rest after others t r next =
    let all = reached text rest others r in
    let at_rest : drop t.start text ≡ rest = rw next.0 (behind_done text all.2.0 rest all.2.1) in
    record {
      within = grind (arith, next.0);
      lexemes = all.0;
      scan = rw at_rest all.1;
      bytes = rw at_rest (rw next.1 (rw (length-take (length rest - length after) rest) (take_min _ rest)));
    }

pub lexed_push : (text rest after : List ℕ) (ts : List Token) (o : Option Token) → Lexed text rest ts
    → ScansOne rest (listed spelled o) after → IfSome o (IsNext text rest after)
    → Lexed text after (ts ++ option_to_list o)
lexed_push text rest after ts None l one next = record {
  scanned = rw (append-nil ts) (rw (append-nil (map spelled ts)) at (reached_push text rest after (map spelled ts) [] l.scanned one));
  stand = rw (append-nil ts) l.stand;
}
lexed_push text rest after ts (Some t) l one next = record {
  scanned = rw (map-append spelled ts (t ∷ []))
      (reached_push text rest after (map spelled ts) (spelled t ∷ []) l.scanned one);
  stand = stand_push text [] ts t l.stand (stands_next text rest after (map spelled ts) t l.scanned next);
}

-- ---- faults

-- The fault behind a scan is the text's, and stands there.
pub fault_stands : (text rest : List ℕ) (tokens : List LexedToken) (found : ℕ → LexFault)
    → ScannedUpTo text rest tokens → ((line : ℕ) → IsFaultAt rest line (found line)) → (fault : LexFault)
    → FirstFault text fault → FaultStandsAt text (length text - length rest) fault
fault_stands text rest tokens found r is fault given =
    let all = reached text rest tokens r in
    let done = all.2.0 in
    let at_rest : drop (length text - length rest) text ≡ rest = behind_done text done rest all.2.1 in
    let its_line : take (length text - length rest) text ≡ done = before text done rest all.2.1 in
    let here : FirstFault text (found (line_after done)) = record {
      fits = given.fits;
      lexemes = all.0;
      done = done;
      rest = rest;
      tokens = tokens;
      joined = all.2.1;
      scan = all.1;
      faulty = is (line_after done);
    } in
    let same : found (line_after done) ≡ fault = one_fault text _ fault (inr here) (inr given) in
    record {
      within = grind arith;
      lexemes = all.0;
      tokens = tokens;
      scan = rw at_rest all.1;
      faulty = rw at_rest (rw its_line (subst (IsFaultAt rest (line_after done)) same (is (line_after done))));
    }

-- A text that is scanned to its end has no fault.
pub end_is_faultless : (text rest : List ℕ) (tokens : List LexedToken) → ScannedUpTo text rest tokens → rest ≡ []
    → (fault : LexFault) → FirstFault text fault → ⊥
end_is_faultless text rest tokens r end fault given =
    faultless text tokens fault (reached_all text rest tokens given.fits end r) (inr given)
