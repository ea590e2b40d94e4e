-- What is put, one after another.
use Rattle.report.proofs.Imports.{Appends, AppendsPrefix, Bool, List, Option, PutsAllBut, Text, [], add-one, ap, append-nil, append_assoc, arith, drop}
use Rattle.report.proofs.Imports.{drop-cons, false, flat_map, get_or, length, refl, sym, true, ℕ, ◌++◌, ◌+◌, ◌<◌, ◌∙◌, ◌≡◌}
use Rattle.std.proofs.Common.{Err, Ok, OnErr, OnOk, Result, subst}
use Rattle.std.specs.Prelude.{is_err}
use Rattle.devices.specs.declared.counted.Counted.{Counted}
use Rattle.devices.specs.declared.failures.Failures.{Failures}
use Rattle.devices.specs.steps.Written.{gets_more, gets_none, gets_part, part_first, part_same}
use Rattle.devices.specs.Counting.{one_failure}
use Rattle.devices.specs.CountedCalls.{CountsFailure}
use Rattle.report.specs.declared.page.Page.{Page}
use Rattle.report.specs.steps.Paging.{Goes, IsSent, Puts, WroteText}

goes_none : (f : Bool) (u : Text) (a : Option Text) (k : Failures) → Goes f f u a u a k k []
goes_none false u a k = (gets_none u a, refl)
goes_none true u a k = (refl, refl, refl)

pub goes_on : (f g h : Bool) (u v w : Text) (a b c : Option Text) (k m n : Failures) (xs ys : Text) → Goes f g u a v b k m xs
    → Goes g h v b w c m n ys → Goes f h u a w c k n (xs ++ ys)
goes_on false false false u v w a b c k m n xs ys (x, l) (y, r) = (gets_more u v w a b c xs ys x y, r ∙ l)
goes_on false false true u v w a b c k m n xs ys (x, l) (y, r) = (gets_part u v a b c xs ys x y, r ∙ ap one_failure l)
goes_on false true false u v w a b c k m n xs ys x y = let q = y.0 in absurd cc
goes_on false true true u v w a b c k m n xs ys (x, l) (y, is, r) = (
  subst (λ o. AppendsPrefix a o (u ++ (xs ++ ys))) (sym is)
      (part_same a b ((u ++ xs) ++ ys) (u ++ (xs ++ ys)) (part_first a b (u ++ xs) ys x) (append_assoc u xs ys)),
  r ∙ l,
)
goes_on true false h u v w a b c k m n xs ys x y = let q = x.0 in absurd cc
goes_on true true h u v w a b c k m n xs ys (x, is, l) (y, js, r) = (y, js ∙ is, r ∙ l)

-- the buffered bytes and more are written by one call, or a prefix of them
pub called : {T E : Type 0} (r : Result T E) (u : Text) (a b : Option Text) (k m : Failures) (xs whole : Text) → whole ≡ u ++ xs
    → OnOk r (Appends a b whole) → OnErr r (AppendsPrefix a b whole) → OnOk r (m ≡ k) → OnErr r (m ≡ one_failure k)
    → Goes false (is_err r) u a [] b k m xs
called (Ok t) u a b k m xs whole is ok part same more = ((whole, sym is ∙ sym (append-nil whole), ok), same)
called (Err t) u a b k m xs whole is ok part same more = (part_same a b whole (u ++ xs) part is, more)

module _ {W : Type 0} {contents : W → Option Text} where
  pub puts_none : (p : Page) (w : Counted W) → Puts contents p w p w []
  puts_none p w = record { goes = goes_none p.failed p.text.items (contents w.inner) w.failures; flushes = refl }

  pub puts_on : {p q r : Page} {w x y : Counted W} {xs ys : Text} → Puts contents p w q x xs → Puts contents q x r y ys
      → Puts contents p w r y (xs ++ ys)
  puts_on {p} {q} {r} {w} {x} {y} {xs} {ys} s t = record {
    goes = goes_on p.failed q.failed r.failed p.text.items q.text.items r.text.items (contents w.inner) (contents x.inner) (contents y.inner)
        w.failures x.failures y.failures xs ys s.goes t.goes;
    flushes = t.flushes ∙ s.flushes;
  }

  pub puts_as : {p q : Page} {w x : Counted W} {xs ys : Text} → Puts contents p w q x xs → xs ≡ ys → Puts contents p w q x ys
  puts_as {p} {q} {w} {x} s e = subst (λ zs. Puts contents p w q x zs) e s

  -- ---- what is left of a whole

  pub left_start : (p : Page) (w : Counted W) (whole : Text) → PutsAllBut contents p w p w whole whole
  left_start p w whole = record { part = []; is = refl; puts = puts_none p w }

  pub left_as : {p q : Page} {w x : Counted W} {rest more whole : Text} → PutsAllBut contents p w q x rest whole → rest ≡ more
      → PutsAllBut contents p w q x more whole
  left_as {p} {q} {w} {x} {rest} {more} {whole} s e = subst (λ ys. PutsAllBut contents p w q x ys whole) e s

  -- the front of the rest is put
  pub left_more : {p q r : Page} {w x y : Counted W} {all front rest whole : Text} → PutsAllBut contents p w q x all whole
      → all ≡ front ++ rest → Puts contents q x r y front → PutsAllBut contents p w r y rest whole
  left_more {front = front} {rest = rest} s e t = record {
    part = s.part ++ front;
    is = append_assoc s.part front rest ∙ ap (λ ys. s.part ++ ys) (sym e) ∙ s.is;
    puts = puts_on s.puts t;
  }

  -- of the lines of a list those of one more item are put
  pub left_on : {A : Type 0} {p q r : Page} {w x y : Counted W} {whole : Text} (f : A → Text) (xs : List A) (i : ℕ) (d : A) → i < length xs
      → PutsAllBut contents p w q x (flat_map f (drop i xs)) whole → Puts contents q x r y (f (get_or xs i d))
      → PutsAllBut contents p w r y (flat_map f (drop (i + 1) xs)) whole
  left_on f xs i d h s t =
      let next : flat_map f (drop i xs) ≡ f (get_or xs i d) ++ flat_map f (drop (i + 1) xs) = grind (arith, get_or, drop-cons, add-one) in
      left_more s next t

-- ---- the last page

sent : {T E : Type 0} (r : Result T E) (a b : Option Text) (k m : Failures) (xs : Text) → Goes false (is_err r) [] a [] b k m (xs ++ [])
    → WroteText r a b xs × CountsFailure r k m
sent (Ok t) a b k m xs ((p, is, w), l) =
    (subst (λ zs. Appends a b zs) (sym (append-nil p) ∙ (sym is ∙ append-nil xs)) w, l)
sent (Err t) a b k m xs (w, l) = (part_same a b (xs ++ []) xs w (append-nil xs), l)

-- what was put on a page that was empty is written, or as much as a call wrote
pub sent_all : {W T E : Type 0} {contents : W → Option Text} {r : Result T E} {p q : Page} {w x y : Counted W} {xs : Text}
    → p.failed ≡ false → p.text.items ≡ [] → Puts contents p w q x xs → IsSent contents r q x y
    → WroteText r (contents w.inner) (contents y.inner) xs × CountsFailure r w.failures y.failures × (y.flushes ≡ w.flushes)
sent_all {contents = contents} {r} {p} {q} {w} {x} {y} {xs} e none s t =
    let all = goes_on p.failed q.failed (is_err r) p.text.items q.text.items [] (contents w.inner) (contents x.inner) (contents y.inner)
    w.failures x.failures y.failures xs [] s.goes t.sends in
    let done = sent r (contents w.inner) (contents y.inner) w.failures y.failures xs (rw (e, none) at all) in
    (done.0, done.1, t.flushes ∙ s.flushes)
