-- Histories, record by record.
use Rattle.engine.proofs.Names.{Captured, Entry, Format, IsHistoryOf, List, Next, Recorded, Setup, WellFormed, [], ap, append-nil, append_assoc, capture_text}
use Rattle.engine.proofs.Names.{decoded_after, decoded_records, flat_map, flat_map-append, max, own_moment, refl, sends, sll2_record, subst, sym, ℕ, ◌++◌, ◌∙◌}
use Rattle.engine.proofs.Names.{◌∷◌, ◌≡◌}

-- each record has an entry after a history, if the ruleset is well-formed
abbrev pub OneEntry : Type 0
OneEntry = (setup : Setup) (history : List Entry) (r : Recorded) (e other : Entry) → Next setup history r e
    → Next setup history r other → e ≡ other

abbrev pub SomeEntry : Type 0
SomeEntry = (setup : Setup) (history : List Entry) (r : Recorded) → WellFormed setup.rules setup.network → (e : Entry)
    × Next setup history r e

-- so records extend a history to at most one history
pub one_history : OneEntry → (setup : Setup) (before : List Entry) (rs : List Recorded) (after other : List Entry)
    → IsHistoryOf setup before rs after → IsHistoryOf setup before rs other → after ≡ other
one_history one setup before [] after other g h = g ∙ sym h
one_history one setup before (r ∷ rs) after other (e, n, g) (f, m, h) =
    one_history one setup (e ∷ before) rs after other g (subst (λ (x : Entry). IsHistoryOf setup (x ∷ before) rs other)
    (one setup before r f e m n) h)

-- and there is one
pub some_history : SomeEntry → (setup : Setup) → WellFormed setup.rules setup.network
    → (before : List Entry) (rs : List Recorded) → (after : List Entry) × IsHistoryOf setup before rs after
some_history some setup fine before [] = (before, refl)
some_history some setup fine before (r ∷ rs) =
    let e = some setup before r fine in
    let rest = some_history some setup fine (e.0 ∷ before) rs in
    (rest.0, (e.0, e.1, rest.1))

-- one record more
pub is_history_more : (setup : Setup) (before : List Entry) (rs : List Recorded) (r : Recorded) (mid : List Entry)
    (e : Entry) → IsHistoryOf setup before rs mid → Next setup mid r e
    → IsHistoryOf setup before (rs ++ r ∷ []) (e ∷ mid)
is_history_more setup before [] r mid e g n = (e, subst (λ (s : List Entry). Next setup s r e) g n, ap (λ s. e ∷ s) g)
is_history_more setup before (x ∷ xs) r mid e (f, m, g) n = (f, m, is_history_more setup (f ∷ before) xs r mid e g n)

-- what it sends with one entry more
pub captured_more : (history : List Entry) (e : Entry)
    → capture_text (e ∷ history) ≡ capture_text history ++ flat_map sll2_record (sends e)
captured_more history e = simp (flat_map-append, append-nil, append_assoc)

-- ---- the decoded records

-- the greatest of these records' times and an earlier one
abbrev pub latest_after : Format → ℕ → List Captured → ℕ
latest_after format latest [] = latest
latest_after format latest (r ∷ rs) = latest_after format (max latest (own_moment format r)) rs

pub latest_more : (format : Format) (latest : ℕ) (records : List Captured) (r : Captured)
    → latest_after format latest (records ++ r ∷ []) ≡ max (latest_after format latest records) (own_moment format r)
latest_more format latest [] r = refl
latest_more format latest (x ∷ xs) r = latest_more format (max latest (own_moment format x)) xs r

decoded_after_more : (format : Format) (latest : ℕ) (records : List Captured) (r : Captured)
    → decoded_after format latest (records ++ r ∷ [])
    ≡ decoded_after format latest records
    ++ record {
      moment = max (latest_after format latest records) (own_moment format r);
      link = format.link;
      bytes = r.bytes;
    } ∷ []
decoded_after_more format latest [] r = refl
decoded_after_more format latest (x ∷ xs) r =
    ap (λ ys. record { moment = max latest (own_moment format x); link = format.link; bytes = x.bytes } ∷ ys)
    (decoded_after_more format (max latest (own_moment format x)) xs r)

-- with one more record, decoded
pub decoded_more : (format : Format) (records : List Captured) (x : Captured) (r : Recorded) (latest : ℕ)
    → latest ≡ latest_after format 0 records
    → r ≡ record { moment = max latest (own_moment format x); link = format.link; bytes = x.bytes }
    → decoded_records format (records ++ x ∷ []) ≡ decoded_records format records ++ r ∷ []
decoded_more format records x r latest is decoded_is = rw (decoded_is, is) (decoded_after_more format 0 records x)
