-- A text has one tokenization or one first fault.
use Rattle.std.proofs.Common.{◌≡◌, ℕ, zero, suc, ◌-◌, ◌<◌, ◌≤◌, List, [], ◌∷◌, ◌++◌, length, take, ◌⊎◌, inl, inr}
use Rattle.std.proofs.Common.{refl, sym, ap, subst, ◌∙◌, append_assoc, arith}
use Rattle.std.specs.Prelude.{Result, Ok, Err, IfOk, MatchResult}
use Rattle.std.proofs.lemmas.Bool.{cases_lt}
use Rattle.std.proofs.lemmas.List.{length-append, append-nil}
use Rattle.nft_lexer.specs.declared.fault.LexFault.{LexFault}
use Rattle.nft_lexer.specs.declared.fault.LexFault.TheVariants.{TooLong}
use Rattle.nft_lexer.specs.declared.fault.LexError.{LexError}
use Rattle.nft_lexer.specs.declared.fault.LexError.TheVariants.{Refused, Memory}
use Rattle.nft_lexer.specs.Terminal.{LexedToken}
use Rattle.nft_lexer.specs.Lexing.{Lexeme}
use Rattle.nft_lexer.specs.Lexing.{ScansInto, TokenizesTo}
use Rattle.nft_lexer.specs.Lexing.{IsFaultAt, FirstFault, HasLexFault, MOST_BYTES}
use Rattle.nft_lexer.specs.Lexing.{line_after}
use Rattle.nft_lexer.specs.steps.Reading.{ScansOne, lexeme_at, next_at}
use Rattle.nft_lexer.specs.declared.lexing.Fault.{Fault}
use Rattle.nft_lexer.specs.declared.lexing.Fault.TheVariants.{Byte}
use Rattle.nft_lexer.proofs.Lexemes.{before, fault_only, next_is, next_only, spelled_some}

-- ---- where a scan ends

-- The end of the text stops a scan, as a fault does.
end_stops : next_at [] ≡ Err Byte
unfolding next_at lexeme_at
end_stops = refl

-- Two scans that go as far as they can are equal.
one_scan : (ps qs : List Lexeme) (from to rest : List ℕ) (xs ys : List LexedToken) (f g : Fault)
    → ScansInto ps from to xs → ScansInto qs from rest ys → next_at to ≡ Err f → next_at rest ≡ Err g
    → (xs ≡ ys) × (to ≡ rest)
one_scan [] [] from to rest xs ys f g c d stop halt = grind arith
one_scan [] (q ∷ qs) from to rest xs ys f g c d stop halt =
    absurd (cc (next_only q d.0 from d.1 d.2 d.4 d.5, c.0, stop))
one_scan (p ∷ ps) [] from to rest xs ys f g c d stop halt =
    absurd (cc (next_only p c.0 from c.1 c.2 c.4 c.5, d.0, halt))
one_scan (p ∷ ps) (q ∷ qs) from to rest xs ys f g c d stop halt =
    let here = next_only p c.0 from c.1 c.2 c.4 c.5 in
    let there = next_only q d.0 from d.1 d.2 d.4 d.5 in
    let same : ◌≡◌ {A = List LexedToken × List ℕ} (d.2, d.1) (c.2, c.1) = cc (here, there) in
    let others = one_scan ps qs c.1 to rest c.3 d.3 f g c.7
    (subst (λ (t : List ℕ). ScansInto qs t rest d.3) (ap (λ x. x.1) same) d.7) stop halt in
    (cc (c.6, d.6, ap (λ x. x.0) same, others.0), others.1)

-- ---- the laws

pub one : (text : List ℕ) (xs ys : List LexedToken) → TokenizesTo text xs → TokenizesTo text ys → xs ≡ ys
one text xs ys c d =
    (one_scan c.lexemes d.lexemes text [] [] xs ys Byte Byte c.scan d.scan end_stops end_stops).0

pub faultless : (text : List ℕ) (xs : List LexedToken) (fault : LexFault) → TokenizesTo text xs
    → HasLexFault text fault → ⊥
faultless text xs fault c (inl f) = omega (arith, c.fits, f.0)
faultless text xs fault c (inr f) =
    let stop = fault_only f.rest (line_after f.done) fault f.faulty in
    let same = one_scan f.lexemes c.lexemes text f.rest [] f.tokens xs stop.0 Byte f.scan c.scan stop.1 end_stops in
    rw same.1 at f.faulty

pub one_fault : (text : List ℕ) (first second : LexFault) → HasLexFault text first → HasLexFault text second
    → first ≡ second
one_fault text first second (inl f) (inl g) = f.1 ∙ sym g.1
one_fault text first second (inl f) (inr g) = absurd (omega (arith, f.0, g.fits))
one_fault text first second (inr f) (inl g) = absurd (omega (arith, g.0, f.fits))
one_fault text first second (inr f) (inr g) =
    let x = fault_only f.rest (line_after f.done) first f.faulty in
    let y = fault_only g.rest (line_after g.done) second g.faulty in
    let same = one_scan f.lexemes g.lexemes text f.rest g.rest f.tokens g.tokens x.0 y.0 f.scan g.scan x.1 y.1 in
    cc (x.1, x.2, y.1, y.2, same.1, before text f.done f.rest f.joined, before text g.done g.rest g.joined)

-- ---- a scan in progress

-- However the scan of the rest goes on, the scan of the text does, with these tokens before.
abbrev pub ScannedUpTo : List ℕ → List ℕ → List LexedToken → Type 0
ScannedUpTo text rest tokens = (ps : List Lexeme) (to : List ℕ) (others : List LexedToken)
    → ScansInto ps rest to others → (qs : List Lexeme) × ScansInto qs text to (tokens ++ others)

pub reached_push : (text rest after : List ℕ) (tokens new : List LexedToken) → ScannedUpTo text rest tokens
    → ScansOne rest new after → ScannedUpTo text after (tokens ++ new)
reached_push text rest after tokens new r x ps to others s =
    rw (append_assoc tokens new others)
    (r (x.0 ∷ ps) to (new ++ others) (x.1, after, new, others, x.2, x.3, refl, s))

-- The bytes that a scan went over.
scan_done : (ps : List Lexeme) (from to : List ℕ) (tokens : List LexedToken) → ScansInto ps from to tokens
    → (done : List ℕ) × (from ≡ done ++ to)
scan_done [] from to tokens c = ([], c.0)
scan_done (p ∷ ps) from to tokens c =
    let others = scan_done ps c.1 to c.3 c.7 in
    (c.0 ++ others.0, cc (c.4.joined, others.1, append_assoc c.0 others.0 to))

pub passes_less : (from to : List ℕ) (tokens : List LexedToken) → ScansOne from tokens to
    → length to < length from
passes_less from to tokens x = omega
    (arith, spelled_some x.0 x.1 x.2.spelled, ap length x.2.joined, length-append x.1 to)

-- The scan so far, and the bytes that it went over.
pub reached : (text rest : List ℕ) (tokens : List LexedToken) → ScannedUpTo text rest tokens
    → (ps : List Lexeme) × ScansInto ps text rest tokens × ((done : List ℕ) × (text ≡ done ++ rest))
reached text rest tokens r =
    let all = rw (append-nil tokens) at (r [] rest [] (refl, refl)) in
    (all.0, all.1, scan_done all.0 text rest tokens all.1)

pub reached_all : (text rest : List ℕ) (tokens : List LexedToken) → length text ≤ MOST_BYTES → rest ≡ []
    → ScannedUpTo text rest tokens → TokenizesTo text tokens
reached_all text rest tokens fits end r =
    let all = reached text rest tokens r in
    record { fits = fits; lexemes = all.0; scan = subst (λ t. ScansInto all.0 text t tokens) end all.1 }

pub reached_fault : (text rest : List ℕ) (tokens : List LexedToken) (fault : LexFault)
    → length text ≤ MOST_BYTES → ScannedUpTo text rest tokens
    → IsFaultAt rest (line_after (take (length text - length rest) text)) fault → FirstFault text fault
reached_fault text rest tokens fault fits r f =
    let all = reached text rest tokens r in
    let faulty : IsFaultAt rest (line_after all.2.0) fault = rw (before text all.2.0 rest all.2.1) at f in
    grind (arith, all.0, all.1, all.2.0, all.2.1, faulty)

-- ---- a text has a tokenization or a fault

abbrev pub HasAnswer : List ℕ → Type 0
HasAnswer text = ((tokens : List LexedToken) × TokenizesTo text tokens)
    ⊎ ((fault : LexFault) × HasLexFault text fault)

outcome : {A E : Type 0} (P : A → Type 0) (Q : E → Type 0) (r : Result A E) → MatchResult r P Q
    → ((x : A) × P x) ⊎ ((e : E) × Q e)
outcome P Q (Ok x) m = inl (x, m)
outcome P Q (Err e) m = inr (e, m)

some_from : (n : ℕ) (text rest : List ℕ) (tokens : List LexedToken) → length text ≤ MOST_BYTES
    → length rest ≤ n → ScannedUpTo text rest tokens → HasAnswer text
some_from n text [] tokens fits le r = inl (tokens, reached_all text [] tokens fits refl r)
some_from zero text (b ∷ bs) tokens fits le r = absurd (omega arith)
some_from (suc n) text (b ∷ bs) tokens fits le r =
    elim (outcome _ _ (next_at (b ∷ bs)) (next_is (b ∷ bs) (omega arith))) [
      | inl x ↦
          let less : length x.0.1 < length (b ∷ bs) = passes_less (b ∷ bs) x.0.1 x.0.0 x.1 in
          some_from n text x.0.1 (tokens ++ x.0.0) fits (omega arith)
          (reached_push text (b ∷ bs) x.0.1 tokens x.0.0 r x.1)
      | inr f ↦ inr (_, inr (reached_fault text (b ∷ bs) tokens _ fits r (f.1 _)))
    ]

pub some_answer : (text : List ℕ) → HasAnswer text
some_answer text =
    elim (cases_lt MOST_BYTES (length text)) [
      | inl long ↦ inr (TooLong, inl (long, refl))
      | inr fits ↦ some_from (length text) text text [] fits (omega arith) (λ ps to others s. (ps, s))
    ]

-- ---- answers for a text that isn't too long

-- The text's tokenization or fault is the answer, unless memory runs out.
abbrev pub Answered : {V : Type 0} → (V → List LexedToken) → List ℕ → Result V LexError → Type 0
Answered view text r = ((tokens : List LexedToken) → TokenizesTo text tokens
    → MatchResult r (λ v. view v ≡ tokens) (λ e. e ≡ Memory))
    × ((fault : LexFault) → HasLexFault text fault
    → MatchResult r (λ _. ⊥) (λ e. (e ≡ Refused fault) ⊎ (e ≡ Memory)))

pub answers : {V : Type 0} (view : V → List LexedToken) (text : List ℕ) (r : Result V LexError)
    → IfOk r (λ v. TokenizesTo text (view v))
    → ((fault : LexFault) → r ≡ Err (Refused fault) → FirstFault text fault) → Answered view text r
answers view text (Ok v) found refused =
    (λ tokens. one text (view v) tokens found, λ fault. faultless text (view v) fault found)
answers view text (Err Memory) found refused = (λ tokens c. refl, λ fault h. inr refl)
answers view text (Err (Refused first)) found refused =
    let there : HasLexFault text first = inr (refused first refl) in (
      λ tokens c. absurd (faultless text tokens first c there),
      λ fault h. inl (ap Refused (one_fault text first fault there h)),
    )
