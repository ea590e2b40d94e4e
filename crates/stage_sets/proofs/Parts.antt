-- Outcomes, as packets that go on to the next base chain and packets that don't.
use Rattle.std.proofs.Common.{◌≡◌, ◌∙◌, ◌&&◌, ◌||◌, ℕ, Bool, true, false, List, [], ◌∷◌, ◌++◌, map, Option, Some, None, refl, sym, ap, ap₂, subst}
use Rattle.std.proofs.Math.Path.{fun_ext}
use Rattle.std.specs.List.{filter_map, list_any}
use Rattle.std.specs.Option.{option_map}
use Rattle.list_laws.specs.Lists.{any_of_map}
use Rattle.nft_tree.specs.declared.chain.Policy.{Policy}
use Rattle.nft_tree.specs.Tree.{Statement}
use Rattle.packet_sets.specs.Sets.{DiagramsView, Keeps, holds}
use Rattle.rule_meaning.specs.declared.event.ChainNo.{ChainNo}
use Rattle.rule_meaning.specs.declared.event.HookVerdict.{HookVerdict}
use Rattle.rule_meaning.specs.declared.event.HookVerdict.TheVariants.{Accepted, Dropped, Translated}
use Rattle.rule_meaning.specs.declared.facts.Facts.{Facts}
use Rattle.rule_meaning.specs.declared.facts.Interface.{Interface}
use Rattle.rule_meaning.specs.Runs.{Program}
use Rattle.fact_sets.specs.declared.cases.Case.{Case}
use Rattle.fact_sets.specs.declared.written.Written.{Written}
use Rattle.fact_sets.specs.Cases.{AreCases}
use Rattle.fact_sets.specs.Facts.{facts_of}
use Rattle.rule_sets.specs.Ends.{outcomes_for}
use Rattle.rule_sets.proofs.Sorting.{are-kept, keeps_trans}
use Rattle.chain_ways.specs.Ways.{Way}
use Rattle.chain_ways.specs.BaseWays.{StageEnd, behind_end, by_policy}
use Rattle.chain_sets.specs.declared.outcomes.ChainEnd.{ChainEnd}
use Rattle.chain_sets.specs.declared.visits.RuleSets.{RuleSets}
use Rattle.chain_sets.specs.ChainSets.{AreOnWaysFrom}
use Rattle.chain_sets.specs.Ends as ends
use Rattle.chain_sets.specs.Ends.{end_of}
use Rattle.chain_sets.specs.steps.Merging.{Adds, some_outcome, with_outcome}
use Rattle.chain_sets.specs.steps.Outcomes.{case_if}
use Rattle.chain_sets.proofs.Exits.{any_written}
use Rattle.chain_sets.proofs.Cases.{are-mapped, or-more, some-first, some-kept, some-mapped}
use Rattle.stage_sets.specs.declared.outcome.Decider.{Decider}
use Rattle.stage_sets.specs.declared.outcome.StageOutcome.{StageOutcome}
use Rattle.stage_sets.specs.Ends.{end_with}
use Rattle.stage_sets.specs.steps.Outcomes.{goes_by, goes_on, outcome_at, stays, stays_by, verdict_by}
use Rattle.stage_sets.specs.steps.Through.{Advances}

abbrev pub going_in : List (Case StageOutcome) → List (Case Written)
going_in cases = filter_map (case_if goes_on) cases

abbrev pub staying_in : List (Case StageOutcome) → List (Case StageOutcome)
staying_in cases = filter_map (case_if stays) cases

-- what reads beyond a list's end give
abbrev pub any_outcome : Case StageOutcome
any_outcome = record { set = record { node = 0 }; outcome = record { verdict = Accepted; written = any_written; by = Decider.NoChain } }

-- what becomes of a case, by its verdict
abbrev pub going_by : Case StageOutcome → HookVerdict → Option (Case Written)
going_by c v = option_map (λ w. record { set = c.set; outcome = w }) (goes_by v c.outcome.written)

abbrev pub staying_by : Case StageOutcome → HookVerdict → Option (Case StageOutcome)
staying_by c v = option_map (λ o. record { set = c.set; outcome = o }) (stays_by v c.outcome)

none_goes-by : (c : Case StageOutcome) (v : HookVerdict) → (v ≡ Accepted → ⊥) → going_by c v ≡ None
none_goes-by c Accepted other = absurd (other refl)
none_goes-by c Dropped other = refl
none_goes-by c (Translated t) other = refl

pub none_goes : (c : Case StageOutcome) → (c.outcome.verdict ≡ Accepted → ⊥) → case_if goes_on c ≡ None
none_goes c other = none_goes-by c c.outcome.verdict other

it_stays-by : (c : Case StageOutcome) (v : HookVerdict) → (v ≡ Accepted → ⊥) → staying_by c v ≡ Some c
it_stays-by c Accepted other = absurd (other refl)
it_stays-by c Dropped other = refl
it_stays-by c (Translated t) other = refl

pub it_stays : (c : Case StageOutcome) → (c.outcome.verdict ≡ Accepted → ⊥) → case_if stays c ≡ Some c
it_stays c other = it_stays-by c c.outcome.verdict other

-- the case with another verdict
abbrev with_verdict : HookVerdict → Case StageOutcome → Case StageOutcome
with_verdict v c = record { set = c.set; outcome = record { verdict = v; written = c.outcome.written; by = c.outcome.by } }

-- ---- sets

going-are-by : (d : DiagramsView) (c : Case StageOutcome) (cs : List (Case StageOutcome)) (v : HookVerdict) → AreCases d (c ∷ cs)
    → AreCases d (going_in cs) → AreCases d (going_in (with_verdict v c ∷ cs))
going-are-by d c cs Accepted are rest = (are.0, rest)
going-are-by d c cs Dropped are rest = rest
going-are-by d c cs (Translated t) are rest = rest

pub going-are : (d : DiagramsView) (cs : List (Case StageOutcome)) → AreCases d cs → AreCases d (going_in cs)
going-are d [] are = tt
going-are d (c ∷ cs) are = going-are-by d c cs c.outcome.verdict are (going-are d cs are.1)

staying-are-by : (d : DiagramsView) (c : Case StageOutcome) (cs : List (Case StageOutcome)) (v : HookVerdict) → AreCases d (c ∷ cs)
    → AreCases d (staying_in cs) → AreCases d (staying_in (with_verdict v c ∷ cs))
staying-are-by d c cs Accepted are rest = rest
staying-are-by d c cs Dropped are rest = (are.0, rest)
staying-are-by d c cs (Translated t) are rest = (are.0, rest)

pub staying-are : (d : DiagramsView) (cs : List (Case StageOutcome)) → AreCases d cs → AreCases d (staying_in cs)
staying-are d [] are = tt
staying-are d (c ∷ cs) are = staying-are-by d c cs c.outcome.verdict are (staying-are d cs are.1)

are-both : {V : Type 0} (d : DiagramsView) (xs ys : List (Case V)) → AreCases d xs → AreCases d ys → AreCases d (xs ++ ys)
are-both d [] ys a b = b
are-both d (x ∷ xs) ys a b = (a.0, are-both d xs ys a.1 b)

-- ---- what some outcome says

some-both : {V : Type 0} (d : DiagramsView) (xs ys : List (Case V)) (f : ℕ → Bool) (test : V → Bool)
    → some_outcome d (xs ++ ys) f test ≡ (some_outcome d xs f test || some_outcome d ys f test)
some-both d [] ys f test = refl
some-both d (x ∷ xs) ys f test =
    some-first d x (xs ++ ys) f test ∙ ap (λ r. (holds d x.set f && test x.outcome) || r) (some-both d xs ys f test)
    ∙ sym (or-more (holds d x.set f && test x.outcome) (some_outcome d xs f test) (some_outcome d ys f test))
    ∙ ap (λ r. r || some_outcome d ys f test) (sym (some-first d x xs f test))

to-front : (a b c : Bool) → (a || (b || c)) ≡ (b || (a || c))
to-front true true c = refl
to-front true false c = refl
to-front false b c = refl

module _ (d : DiagramsView) (interfaces : List Interface) (packet : ℕ → Bool) (end : Facts → StageEnd) (test : StageEnd → Bool) where
  abbrev stay : StageOutcome → Bool
  stay o = test (end_with interfaces packet o)

  abbrev go : Written → Bool
  go w = test (end (facts_of interfaces w packet))

  abbrev later : StageOutcome → Bool
  later o = test (behind_end end (end_with interfaces packet o))

  parted-by : (c : Case StageOutcome) (cs : List (Case StageOutcome)) (v : HookVerdict)
      → (some_outcome d (staying_in cs) packet stay || some_outcome d (going_in cs) packet go) ≡ some_outcome d cs packet later
      → (some_outcome d (staying_in (with_verdict v c ∷ cs)) packet stay || some_outcome d (going_in (with_verdict v c ∷ cs)) packet go)
      ≡ some_outcome d (with_verdict v c ∷ cs) packet later
  parted-by c cs Accepted rest =
      ap (λ r. some_outcome d (staying_in cs) packet stay || r)
      (some-first d (record { set = c.set; outcome = c.outcome.written }) (going_in cs) packet go)
      ∙ to-front (some_outcome d (staying_in cs) packet stay) (holds d c.set packet && go c.outcome.written) (some_outcome d (going_in cs) packet go)
      ∙ ap (λ r. (holds d c.set packet && go c.outcome.written) || r) rest
      ∙ sym (some-first d (with_verdict Accepted c) cs packet later)
  parted-by c cs Dropped rest =
      let x = with_verdict Dropped c in
      ap (λ r. r || some_outcome d (going_in cs) packet go) (some-first d x (staying_in cs) packet stay)
      ∙ or-more (holds d c.set packet && stay x.outcome) (some_outcome d (staying_in cs) packet stay) (some_outcome d (going_in cs) packet go)
      ∙ ap (λ r. (holds d c.set packet && stay x.outcome) || r) rest ∙ sym (some-first d x cs packet later)
  parted-by c cs (Translated t) rest =
      let x = with_verdict (Translated t) c in
      ap (λ r. r || some_outcome d (going_in cs) packet go) (some-first d x (staying_in cs) packet stay)
      ∙ or-more (holds d c.set packet && stay x.outcome) (some_outcome d (staying_in cs) packet stay) (some_outcome d (going_in cs) packet go)
      ∙ ap (λ r. (holds d c.set packet && stay x.outcome) || r) rest ∙ sym (some-first d x cs packet later)

  parted : (cs : List (Case StageOutcome))
      → (some_outcome d (staying_in cs) packet stay || some_outcome d (going_in cs) packet go) ≡ some_outcome d cs packet later
  parted [] = refl
  parted (c ∷ cs) = parted-by c cs c.outcome.verdict (parted cs)

-- ---- one base chain more

module _ (p : Program Statement) (interfaces : List Interface) (way_of : Facts → Way Statement) (number : ChainNo) (policy : Policy) where
  abbrev end : Facts → StageEnd
  end f = by_policy policy (way_of f).end

  at-end : (v : Option HookVerdict) (f : Facts) → record { verdict = verdict_by policy v; facts = f } ≡ by_policy policy (ends.end_with v f)
  at-end None f = refl
  at-end (Some v) f = refl

  told : (packet : ℕ → Bool) (e : ChainEnd) → end_with interfaces packet (outcome_at number policy e) ≡ by_policy policy (end_of interfaces packet e)
  told packet e = at-end e.verdict (facts_of interfaces e.written packet)

  module _ (d0 d1 d2 : DiagramsView) (before : List (Case StageOutcome)) (states : List (Case Written)) (rules : ℕ → ℕ → RuleSets)
      (its : List (Case ChainEnd)) (after : List (Case StageOutcome)) (are : AreCases d0 before) (k1 : Keeps d0 d1) (k2 : Keeps d1 d2)
      (merged : Adds d0 d1 (going_in before) [] states) (on : AreOnWaysFrom p interfaces way_of d1 d2 states rules its)
      (is : after ≡ staying_in before ++ map (with_outcome (outcome_at number policy)) its) where
    k : Keeps d0 d2
    k = keeps_trans d0 d1 d2 k1 k2

    abbrev made : List (Case StageOutcome)
    made = map (with_outcome (outcome_at number policy)) its

    walked : (packet : ℕ → Bool) (test : StageEnd → Bool) → some_outcome d2 made packet (λ o. test (end_with interfaces packet o))
        ≡ some_outcome d0 (going_in before) packet (λ w. test (end (facts_of interfaces w packet)))
    walked packet test =
        some-mapped d2 (outcome_at number policy) its packet (λ o. test (end_with interfaces packet o))
        ∙ ap (λ t. list_any t (outcomes_for d2 its packet)) (fun_ext (λ e. ap test (told packet e)))
        ∙ any_of_map (λ x. test (by_policy policy x)) (end_of interfaces packet) (outcomes_for d2 its packet)
        ∙ on.they_end packet (λ x. test (by_policy policy x))
        ∙ merged.same packet (λ w. test (end (facts_of interfaces w packet)))

    pub advanced : Advances interfaces end d0 d2 before after
    advanced = record {
      are = subst (AreCases d2) (sym is) (are-both d2 (staying_in before) made
          (are-kept d0 d2 (staying_in before) k (staying-are d0 before are)) (are-mapped d2 (outcome_at number policy) its on.are));
      same = λ packet test.
          let stay = λ (o : StageOutcome). test (end_with interfaces packet o) in
          ap (λ l. some_outcome d2 l packet stay) is ∙ some-both d2 (staying_in before) made packet stay
          ∙ ap₂ ◌||◌ (some-kept d0 d2 (staying_in before) packet stay k (staying-are d0 before are)) (walked packet test)
          ∙ parted d0 interfaces packet end test before;
    }
