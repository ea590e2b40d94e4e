-- Exits, as packets at the next rule and at ends of the chain.
use Rattle.std.proofs.Common.{◌≡◌, ◌∙◌, ◌&&◌, ◌||◌, ◌<◌, ◌+◌, ℕ, List, [], ◌∷◌, ◌++◌, map, take, length, get_or, Option, Some, None, Bool, true}
use Rattle.std.proofs.Common.{false, refl, ap, sym}
use Rattle.std.proofs.lemmas.List.{take_more}
use Rattle.std.specs.List.{cons_option, filter_map}
use Rattle.packet_sets.specs.Sets.{DiagramsView, holds}
use Rattle.fact_sets.specs.declared.cases.Case.{Case}
use Rattle.fact_sets.specs.declared.written.Written.{Written}
use Rattle.fact_sets.specs.declared.written.MarkSource.TheVariants as sources
use Rattle.fact_sets.specs.Cases.{AreCases}
use Rattle.rule_sets.specs.declared.ends.End.{End}
use Rattle.chain_sets.specs.declared.outcomes.ChainEnd.{ChainEnd}
use Rattle.chain_sets.specs.declared.outcomes.Exit.{Exit}
use Rattle.chain_sets.specs.declared.outcomes.Exit.TheVariants.{Next, Ends}
use Rattle.chain_sets.specs.declared.outcomes.Turn.{Turn}
use Rattle.chain_sets.specs.steps.Merging.{some_outcome}
use Rattle.chain_sets.specs.steps.Outcomes.{case_if, end_in, written_next}
use Rattle.chain_sets.proofs.Cases.{or-more, some-first}

abbrev pub states_in : List (Case Exit) → List (Case Written)
states_in exits = filter_map (case_if written_next) exits

abbrev pub ends_in : List (Case Exit) → List (Case ChainEnd)
ends_in exits = filter_map (case_if end_in) exits

pub states-are : (d : DiagramsView) (xs : List (Case Exit)) → AreCases d xs → AreCases d (states_in xs)
states-are d [] are = tt
states-are d (c ∷ cs) are = by c.outcome (states-are d cs are.1)
  where
    by : (o : Exit) → AreCases d (states_in cs) → AreCases d (states_in (record { set = c.set; outcome = o } ∷ cs))
    by (Next w) rest = (are.0, rest)
    by (Ends e) rest = rest

pub ends-are : (d : DiagramsView) (xs : List (Case Exit)) → AreCases d xs → AreCases d (ends_in xs)
ends-are d [] are = tt
ends-are d (c ∷ cs) are = by c.outcome (ends-are d cs are.1)
  where
    by : (o : Exit) → AreCases d (ends_in cs) → AreCases d (ends_in (record { set = c.set; outcome = o } ∷ cs))
    by (Next w) rest = rest
    by (Ends e) rest = (are.0, rest)

behind : (a b c : Bool) → (a || (b || c)) ≡ (b || (a || c))
behind true true c = refl
behind true false c = refl
behind false b c = refl

-- each exit is at the next rule or at an end
pub some-split : (d : DiagramsView) (xs : List (Case Exit)) (f : ℕ → Bool) (test : Exit → Bool)
    → some_outcome d xs f test
    ≡ (some_outcome d (ends_in xs) f (λ e. test (Ends e)) || some_outcome d (states_in xs) f (λ w. test (Next w)))
some-split d [] f test = refl
some-split d (c ∷ cs) f test =
    by c.outcome (some_outcome d (ends_in cs) f (λ e. test (Ends e))) (some_outcome d (states_in cs) f (λ w. test (Next w))) refl refl (some-split d cs f test)
  where
    by : (o : Exit) (ends states : Bool) → some_outcome d (ends_in cs) f (λ e. test (Ends e)) ≡ ends
        → some_outcome d (states_in cs) f (λ w. test (Next w)) ≡ states → some_outcome d cs f test ≡ (ends || states)
        → some_outcome d (record { set = c.set; outcome = o } ∷ cs) f test
        ≡ (some_outcome d (ends_in (record { set = c.set; outcome = o } ∷ cs)) f (λ e. test (Ends e))
        || some_outcome d (states_in (record { set = c.set; outcome = o } ∷ cs)) f (λ w. test (Next w)))
    by (Next w) ends states e s rest =
        some-first d (record { set = c.set; outcome = Next w }) cs f test ∙ ap (λ r. (holds d c.set f && test (Next w)) || r) rest
        ∙ behind (holds d c.set f && test (Next w)) ends states
        ∙ ap (λ r. ends || ((holds d c.set f && test (Next w)) || r)) (sym s)
        ∙ ap (λ r. ends || r) (sym (some-first d (record { set = c.set; outcome = w }) (states_in cs) f (λ x. test (Next x))))
        ∙ ap (λ r. r || some_outcome d (record { set = c.set; outcome = w } ∷ states_in cs) f (λ x. test (Next x))) (sym e)
    by (Ends x) ends states e s rest =
        some-first d (record { set = c.set; outcome = Ends x }) cs f test ∙ ap (λ r. (holds d c.set f && test (Ends x)) || r) rest
        ∙ sym (or-more (holds d c.set f && test (Ends x)) ends states)
        ∙ ap (λ r. ((holds d c.set f && test (Ends x)) || r) || states) (sym e)
        ∙ ap (λ r. r || states) (sym (some-first d (record { set = c.set; outcome = x }) (ends_in cs) f (λ y. test (Ends y))))
        ∙ ap (λ r. some_outcome d (record { set = c.set; outcome = x } ∷ ends_in cs) f (λ y. test (Ends y)) || r) (sym s)

-- ---- loops that push

map-more : {A B : Type 0} (h : A → B) (xs : List A) (x : A) → map h (xs ++ x ∷ []) ≡ map h xs ++ h x ∷ []
map-more h [] x = refl
map-more h (y ∷ ys) x = ap (λ zs. h y ∷ zs) (map-more h ys x)

pub mapped_more : {A B : Type 0} (h : A → B) (xs : List A) (i : ℕ) (d : A) (now more : List B) → i < length xs → now ≡ map h (take i xs)
    → more ≡ now ++ h (get_or xs i d) ∷ [] → more ≡ map h (take (i + 1) xs)
mapped_more h xs i d now more inside so pushed =
    pushed ∙ ap (λ ys. ys ++ h (get_or xs i d) ∷ []) so ∙ sym (map-more h (take i xs) (get_or xs i d)) ∙ ap (map h) (sym (take_more xs i d inside))

first : {B : Type 0} (o : Option B) (us vs : List B) → cons_option o (us ++ vs) ≡ cons_option o us ++ vs
first None us vs = refl
first (Some b) us vs = refl

picked-more : {A B : Type 0} (h : A → Option B) (xs : List A) (x : A) → filter_map h (xs ++ x ∷ []) ≡ filter_map h xs ++ cons_option (h x) []
picked-more h [] x = refl
picked-more h (y ∷ ys) x = ap (cons_option (h y)) (picked-more h ys x) ∙ first (h y) (filter_map h ys) (cons_option (h x) [])

pub picked_more : {A B : Type 0} (h : A → Option B) (xs : List A) (i : ℕ) (d : A) (now more : List B) (o : Option B) → i < length xs
    → now ≡ filter_map h (take i xs) → h (get_or xs i d) ≡ o → more ≡ now ++ cons_option o [] → more ≡ filter_map h (take (i + 1) xs)
picked_more h xs i d now more o inside so has pushed =
    pushed ∙ ap (λ ys. ys ++ cons_option o []) so ∙ ap (λ p. filter_map h (take i xs) ++ cons_option p []) (sym has)
    ∙ sym (picked-more h (take i xs) (get_or xs i d)) ∙ ap (filter_map h) (sym (take_more xs i d inside))

-- ---- what reads beyond a list's end give

abbrev pub any_written : Written
any_written = record { packet = sources.Packet; connection = sources.Packet; untracked = false }

abbrev pub any_state : Case Written
any_state = record { set = record { node = 0 }; outcome = any_written }

abbrev pub any_rule_end : Case End
any_rule_end = record { set = record { node = 0 }; outcome = record { written = any_written; verdict = None; met = false } }

abbrev pub any_turn : Case Turn
any_turn = record { set = record { node = 0 }; outcome = record { verdict = None; written = any_written } }

abbrev pub any_exit : Case Exit
any_exit = record { set = record { node = 0 }; outcome = Next any_written }
