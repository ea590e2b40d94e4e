-- Cases of both rulesets compared, one after another.
use Rattle.std.proofs.Common.{◌≡◌, ◌∙◌, ◌&&◌, ◌||◌, not, ℕ, zero, suc, ◌+◌, ◌<◌, ◌≤◌, Bool, true, false, cond, List, [], ◌∷◌, ◌++◌, length, take, get_or, All, Contains, None, Some, slice_get, inl, inr}
use Rattle.std.proofs.Common.{refl, ap, sym, subst, append_assoc, arith}
use Rattle.std.proofs.lemmas.Bool.{and_parts, cases_lt, false≢true}
use Rattle.std.proofs.lemmas.Option.{slice_get-get_or, slice_get_within}
use Rattle.std.proofs.lemmas.List.{append-nil, take_more}
use Rattle.std.proofs.lemmas.List.Elements.{All-append, All-head, All-nil, All-push, All-tail, All-weaker, Contains-append_cases, Contains-append_left}
use Rattle.std.proofs.lemmas.List.Elements.{Contains-append_right, Contains-push}
use Rattle.std.proofs.lemmas.List.Folds.{list_any-append}
use Rattle.packet_sets.specs.declared.packet_set.PacketSet.{PacketSet}
use Rattle.packet_sets.specs.Sets.{DiagramsView, IsSet, Keeps, Means, holds}
use Rattle.rule_meaning.specs.declared.stage.HookStage.{HookStage}
use Rattle.fact_sets.specs.declared.cases.Case.{Case}
use Rattle.fact_sets.specs.Cases.{AreCases}
use Rattle.fact_sets.proofs.SetLaws.{keeps_same, keeps_trans}
use Rattle.rule_sets.specs.Ends.{outcomes_for}
use Rattle.rule_sets.proofs.Sorting.{are-kept, outcomes-kept, outcomes-more}
use Rattle.stage_sets.specs.declared.outcome.StageOutcome.{StageOutcome}
use Rattle.ruleset_diff.specs.declared.differences.Difference.{Difference}
use Rattle.ruleset_diff.specs.steps.Pieces.{ArePieces, SameOutcome, some_has}
use Rattle.ruleset_diff.specs.steps.Pairs.{AddsMet, AddsSome, AreCompared, IsCompared, IsPair, IsRest, IsTold, IsTried, some_case, some_differs}

-- ---- outcomes of cases

or-false : (b : Bool) → (b || false) ≡ b
or-false true = refl
or-false false = refl

or-so : (a b : Bool) → b ≡ false → a ≡ (a || b)
or-so true b e = refl
or-so false b e = sym e

or-true : (a b : Bool) → b ≡ true → (a || b) ≡ true
or-true true b e = refl
or-true false b e = e

read-one : {X : Type 0} (x y : X) (k : ℕ) → k < 1 → get_or (x ∷ []) k y ≡ y → x ≡ y
read-one x y zero inside same = same
read-one x y (suc k) inside same = absurd (omega (arith, inside))

pub in_one : {X : Type 0} (x y : X) → Contains (x ∷ []) y → x ≡ y
in_one x y h = read-one x y h.0 h.1 h.2

pub not_in_none : {X : Type 0} (P : Type 0) (x : X) → Contains [] x → P
not_in_none P x h = absurd (omega (arith, h.1))

in_first : {X : Type 0} (x : X) (xs : List X) → Contains (x ∷ xs) x
in_first x xs = (0, omega arith, refl)

one-outcome : (b : Bool) (o x : StageOutcome) → Contains (cond b (x ∷ []) []) o → (b ≡ true) × (x ≡ o)
one-outcome true o x h = (refl, in_one x o h)
one-outcome false o x h = not_in_none _ o h

module _ (d : DiagramsView) (p : ℕ → Bool) where
  -- the outcome of a case that has the packet
  pub outcome_here : (c : Case StageOutcome) → holds d c.set p ≡ true → Contains (outcomes_for d (c ∷ []) p) c.outcome
  outcome_here c has = rw has (in_first c.outcome [])

  pub outcome_at : (cs : List (Case StageOutcome)) (k : ℕ) (c : Case StageOutcome) → slice_get cs k ≡ Some c → holds d c.set p ≡ true
      → Contains (outcomes_for d cs p) c.outcome
  outcome_at [] k c e has = absurd (cc)
  outcome_at (x ∷ xs) zero c e has =
      let same : x ≡ c = cc in
      let here : holds d x.set p ≡ true = ap (λ (z : Case StageOutcome). holds d z.set p) same ∙ has in
      rw here (subst (Contains (x.outcome ∷ outcomes_for d xs p)) (ap (λ (z : Case StageOutcome). z.outcome) same) (in_first x.outcome (outcomes_for d xs p)))
  outcome_at (x ∷ xs) (suc k) c e has =
      Contains-append_right (cond (holds d x.set p) (x.outcome ∷ []) []) (outcomes_for d xs p) c.outcome (outcome_at xs k c e has)

  pub outcome_of_one : (c : Case StageOutcome) (o : StageOutcome) → Contains (outcomes_for d (c ∷ []) p) o
      → (holds d c.set p ≡ true) × (c.outcome ≡ o)
  outcome_of_one c o h =
      one-outcome (holds d c.set p) o c.outcome (subst (λ l. Contains l o) (append-nil (cond (holds d c.set p) (c.outcome ∷ []) [])) h)

  -- some case has the packet
  case_at : (cs : List (Case StageOutcome)) → some_case d cs p ≡ true
      → (k : ℕ) × (c : Case StageOutcome) × (slice_get cs k ≡ Some c) × (holds d c.set p ≡ true)
  case_at [] e = absurd (false≢true e)
  case_at (x ∷ xs) e = elim (holds d x.set p) as (λ b. holds d x.set p ≡ b → (b || some_case d xs p) ≡ true
      → (k : ℕ) × (c : Case StageOutcome) × (slice_get (x ∷ xs) k ≡ Some c) × (holds d c.set p ≡ true)) [
        | true ↦ λ has any. (0, x, refl, has)
        | false ↦ λ has any. let there = case_at xs any in (suc there.0, there.1, there.2, there.3)
      ] refl e

  pub no_case : (cs : List (Case StageOutcome)) → ((k : ℕ) (c : Case StageOutcome) → slice_get cs k ≡ Some c → holds d c.set p ≡ false)
      → some_case d cs p ≡ true → ⊥
  no_case cs none e = let there = case_at cs e in false≢true (sym (none there.0 there.1 there.2) ∙ there.3)

  pub case_of_outcome : (cs : List (Case StageOutcome)) (o : StageOutcome) → Contains (outcomes_for d cs p) o → some_case d cs p ≡ true
  case_of_outcome [] o h = not_in_none _ o h
  case_of_outcome (x ∷ xs) o h = elim (Contains-append_cases (cond (holds d x.set p) (x.outcome ∷ []) []) (outcomes_for d xs p) o h) [
    | inl here ↦ rw ((one-outcome (holds d x.set p) o x.outcome here).0) refl
    | inr there ↦ or-true (holds d x.set p) (some_case d xs p) (case_of_outcome xs o there)
  ]

-- ---- what was told, in later diagrams

module _ (d e : DiagramsView) (k : Keeps d e) where
  pub pair_kept : (stage : HookStage) (old new : List (Case StageOutcome)) (it : Difference) → AreCases d old → AreCases d new
      → IsPair d stage old new it → IsPair e stage old new it
  pair_kept stage old new it are_old are_new pair =
      let back : (p : ℕ → Bool) → holds e it.set p ≡ true → holds d it.set p ≡ true = λ p has. sym (k.same it.set p pair.set) ∙ has in
      record {
        here = pair.here;
        set = k.sets it.set pair.set;
        example = (pair.example.0, k.same it.set pair.example.0 pair.set ∙ pair.example.1);
        by_old = λ p has. subst (λ l. Contains l it.old) (sym (outcomes-kept d e old p k are_old)) (pair.by_old p (back p has));
        by_new = λ p has. subst (λ l. Contains l it.new) (sym (outcomes-kept d e new p k are_new)) (pair.by_new p (back p has));
        differ = λ p has. pair.differ p (back p has);
      }

  pub pairs_kept : (stage : HookStage) (old new : List (Case StageOutcome)) (its : List Difference) → AreCases d old → AreCases d new
      → All (IsPair d stage old new) its → All (IsPair e stage old new) its
  pairs_kept stage old new its are_old are_new pairs = λ i any inside.
      pair_kept stage old new (get_or its i any) are_old are_new (pairs i any inside)

  pub differs_kept : (its : List Difference) (p : ℕ → Bool) → All (λ it. IsSet d it.set) its → some_differs e its p ≡ some_differs d its p
  differs_kept [] p sets = refl
  differs_kept (x ∷ xs) p sets =
      ap (λ v. v || some_differs e xs p) (k.same x.set p (All-head (λ (it : Difference). IsSet d it.set) x xs sets))
      ∙ ap (λ v. holds d x.set p || v) (differs_kept xs p (All-tail (λ (it : Difference). IsSet d it.set) x xs sets))

  pub told_kept : (old : StageOutcome) (new : List (Case StageOutcome)) (its : List Difference) (p : ℕ → Bool) → AreCases d new
      → All (λ it. IsSet d it.set) its → IsTold d old new its p → IsTold e old new its p
  told_kept old new its p are_new sets told = elim told [
    | inl same ↦ inl (same.0, subst (λ l. Contains l same.0) (sym (outcomes-kept d e new p k are_new)) same.1, same.2)
    | inr differs ↦ inr (differs_kept its p sets ∙ differs)
  ]

pub pair_sets : (d : DiagramsView) (stage : HookStage) (old new : List (Case StageOutcome)) (its : List Difference) → All (IsPair d stage old new) its
    → All (λ it. IsSet d it.set) its
pair_sets d stage old new its pairs = λ i any inside. (pairs i any inside).set

-- ---- and with more differences, or of more cases

or-left : (a b : Bool) → a ≡ true → (a || b) ≡ true
or-left a b e = rw e refl

pub told_left : (d : DiagramsView) (old : StageOutcome) (new : List (Case StageOutcome)) (its more : List Difference) (p : ℕ → Bool)
    → IsTold d old new its p → IsTold d old new (its ++ more) p
told_left d old new its more p told = elim told [
  | inl same ↦ inl same
  | inr differs ↦ inr (list_any-append (λ (it : Difference). holds d it.set p) its more ∙ or-left _ (some_differs d more p) differs)
]

pub told_right : (d : DiagramsView) (old : StageOutcome) (new : List (Case StageOutcome)) (its more : List Difference) (p : ℕ → Bool)
    → IsTold d old new more p → IsTold d old new (its ++ more) p
told_right d old new its more p told = elim told [
  | inl same ↦ inl same
  | inr differs ↦ inr (list_any-append (λ (it : Difference). holds d it.set p) its more ∙ or-true (some_differs d its p) _ differs)
]

-- ---- two cases

and-other : (a b : Bool) → (a && b) ≡ false → a ≡ (a && not b)
and-other true true e = e
and-other true false e = refl
and-other false b e = refl

both-true : (a b : Bool) → a ≡ true → b ≡ true → (a && b) ≡ true
both-true a b ea eb = rw (ea, eb) refl

pub met_none : (d e : DiagramsView) (stage : HookStage) (old new : Case StageOutcome) (before : List Difference) (both : PacketSet)
    → Keeps d e → IsSet d old.set → Means e both (λ p. holds d old.set p && holds d new.set p) → ((p : ℕ → Bool) → holds e both p ≡ false)
    → AddsMet d e stage old new before before old.set
met_none d e stage old new before both k old_set means none = record {
  more = [];
  added = sym (append-nil before);
  pairs = All-nil (IsPair e stage (old ∷ []) (new ∷ []));
  told = λ p in_old in_new. absurd (false≢true (sym (none p) ∙ means.same p ∙ both-true _ _ in_old in_new));
  left = record {
    is_set = k.sets old.set old_set;
    same = λ p. k.same old.set p old_set ∙ and-other (holds d old.set p) (holds d new.set p) (sym (means.same p) ∙ none p);
  };
}

any-piece : (d : DiagramsView) (sets : List PacketSet) (set : PacketSet) (p : ℕ → Bool) → Contains sets set → holds d set p ≡ true → some_has d sets p ≡ true
any-piece d [] set p h has = not_in_none _ set h
any-piece d (x ∷ xs) set p h has = elim (Contains-append_cases (x ∷ []) xs set h) [
  | inl here ↦ or-left (holds d x p) (some_has d xs p) (ap (λ s. holds d s p) (in_one x set here) ∙ has)
  | inr there ↦ or-true (holds d x p) (some_has d xs p) (any-piece d xs set p there has)
]

module _ (d0 d1 d2 d3 : DiagramsView) (k01 : Keeps d0 d1) (k12 : Keeps d1 d2) (k23 : Keeps d2 d3) (stage : HookStage) (old new : Case StageOutcome)
    (old_set : IsSet d0 old.set) (new_set : IsSet d0 new.set) (both rest : PacketSet) (sets : List PacketSet) (before after : List Difference)
    (means : Means d1 both (λ p. holds d0 old.set p && holds d0 new.set p)) (pieces : ArePieces d1 d2 both old.outcome new.outcome sets)
    (adds : AddsSome d2 stage old.outcome new.outcome sets before after)
    (left : Means d3 rest (λ p. holds d2 old.set p && not (holds d2 new.set p))) where
  k02 : Keeps d0 d2
  k02 = keeps_trans d0 d1 d2 k01 k12

  k03 : Keeps d0 d3
  k03 = keeps_trans d0 d2 d3 k02 k23

  -- a difference's packets are in both cases
  within : (i : ℕ) (any : Difference) → i < length adds.more → (p : ℕ → Bool) → holds d3 (get_or adds.more i any).set p ≡ true
      → (some_has d2 sets p ≡ true) × (holds d0 old.set p ≡ true) × (holds d0 new.set p ≡ true)
  within i any inside p has =
      let set = (get_or adds.more i any).set in
      let in_set : some_has d2 sets p ≡ true = any-piece d2 sets set p (adds.among i any inside) (sym (k23.same set p (adds.are_sets i any inside)) ∙ has) in
      let parts = and_parts (holds d0 old.set p) (holds d0 new.set p) (sym (means.same p) ∙ pieces.within p in_set) in
      (in_set, parts.0, parts.1)

  met_pair : (i : ℕ) (any : Difference) → i < length adds.more → IsPair d3 stage (old ∷ []) (new ∷ []) (get_or adds.more i any)
  met_pair i any inside =
      let it = get_or adds.more i any in
      record {
        here = adds.here i any inside;
        set = k23.sets it.set (adds.are_sets i any inside);
        example = let one = adds.examples i any inside in (one.0, k23.same it.set one.0 (adds.are_sets i any inside) ∙ one.1);
        by_old = λ p has. subst (Contains (outcomes_for d3 (old ∷ []) p)) (sym (adds.by_old i any inside))
            (outcome_here d3 p old (k03.same old.set p old_set ∙ (within i any inside p has).1));
        by_new = λ p has. subst (Contains (outcomes_for d3 (new ∷ []) p)) (sym (adds.by_new i any inside))
            (outcome_here d3 p new (k03.same new.set p new_set ∙ (within i any inside p has).2));
        differ = λ p has same. pieces.differ p (within i any inside p has).0
            (subst (λ o. SameOutcome o new.outcome p) (adds.by_old i any inside)
            (subst (λ o. SameOutcome it.old o p) (adds.by_new i any inside) same));
      }

  met_told : (p : ℕ → Bool) → holds d0 old.set p ≡ true → holds d0 new.set p ≡ true → IsTold d3 old.outcome (new ∷ []) adds.more p
  met_told p in_old in_new = elim (some_has d2 sets p) as (λ b. some_has d2 sets p ≡ b → IsTold d3 old.outcome (new ∷ []) adds.more p) [
    | true ↦ λ has. inr (differs_kept d2 d3 k23 adds.more p adds.are_sets ∙ adds.same p ∙ has)
    | false ↦ λ none. inl (
      new.outcome,
      outcome_here d3 p new (k03.same new.set p new_set ∙ in_new),
      pieces.others p (means.same p ∙ both-true _ _ in_old in_new) none,
    )
  ] refl

  pub met_some : AddsMet d0 d3 stage old new before after rest
  met_some = record {
    more = adds.more;
    added = adds.added;
    pairs = λ i any inside. met_pair i any inside;
    told = met_told;
    left = record {
      is_set = left.is_set;
      same = λ p. left.same p ∙ ap (λ v. v && not (holds d2 new.set p)) (k02.same old.set p old_set)
          ∙ ap (λ v. holds d0 old.set p && not v) (k02.same new.set p new_set);
    };
  }

-- ---- a difference for each set that has a packet

differs-more : (d : DiagramsView) (its : List Difference) (it : Difference) (p : ℕ → Bool)
    → some_differs d (its ++ it ∷ []) p ≡ (some_differs d its p || holds d it.set p)
differs-more d its it p =
    list_any-append (λ (x : Difference). holds d x.set p) its (it ∷ []) ∙ ap (λ v. some_differs d its p || v) (or-false (holds d it.set p))

has-more : (d : DiagramsView) (sets : List PacketSet) (set : PacketSet) (p : ℕ → Bool)
    → some_has d (sets ++ set ∷ []) p ≡ (some_has d sets p || holds d set p)
has-more d sets set p =
    list_any-append (λ s. holds d s p) sets (set ∷ []) ∙ ap (λ v. some_has d sets p || v) (or-false (holds d set p))

module _ (d : DiagramsView) (stage : HookStage) (old new : StageOutcome) where
  pub adds_none : (before : List Difference) → AddsSome d stage old new [] before before
  adds_none before = record {
    more = [];
    added = sym (append-nil before);
    here = All-nil (λ (it : Difference). it.stage ≡ stage);
    by_old = All-nil (λ (it : Difference). it.old ≡ old);
    by_new = All-nil (λ (it : Difference). it.new ≡ new);
    are_sets = All-nil (λ (it : Difference). IsSet d it.set);
    examples = All-nil (λ (it : Difference). (packet : ℕ → Bool) × (holds d it.set packet ≡ true));
    among = All-nil (λ (it : Difference). Contains [] it.set);
    same = λ p. refl;
  }

  pub adds_more : (sets : List PacketSet) (set : PacketSet) (it : Difference) (before between after : List Difference)
      → it ≡ record { stage = stage; set = set; old = old; new = new } → IsSet d set → ((p : ℕ → Bool) × (holds d set p ≡ true))
      → after ≡ between ++ it ∷ [] → AddsSome d stage old new sets before between → AddsSome d stage old new (sets ++ set ∷ []) before after
  adds_more sets set it before between after is is_set example pushed so_far =
      let its = so_far.more in
      let at : it.set ≡ set = ap (λ x. x.set) is in
      record {
        more = its ++ it ∷ [];
        added = pushed ∙ ap (λ l. l ++ it ∷ []) so_far.added ∙ append_assoc before its (it ∷ []);
        here = All-push (λ (x : Difference). x.stage ≡ stage) its it so_far.here (ap (λ x. x.stage) is);
        by_old = All-push (λ (x : Difference). x.old ≡ old) its it so_far.by_old (ap (λ x. x.old) is);
        by_new = All-push (λ (x : Difference). x.new ≡ new) its it so_far.by_new (ap (λ x. x.new) is);
        are_sets = All-push (λ (x : Difference). IsSet d x.set) its it so_far.are_sets (subst (IsSet d) (sym at) is_set);
        examples = All-push (λ (x : Difference). (packet : ℕ → Bool) × (holds d x.set packet ≡ true)) its it so_far.examples
            (example.0, ap (λ s. holds d s example.0) at ∙ example.1);
        among = All-push (λ (x : Difference). Contains (sets ++ set ∷ []) x.set) its it
            (All-weaker (λ (x : Difference). Contains sets x.set) (λ (x : Difference). Contains (sets ++ set ∷ []) x.set)
            (λ x h. Contains-append_left sets (set ∷ []) x.set h) its so_far.among)
            (subst (Contains (sets ++ set ∷ [])) (sym at) (Contains-push sets set));
        same = λ p. differs-more d its it p ∙ ap (λ v. v || holds d it.set p) (so_far.same p)
            ∙ ap (λ s. some_has d sets p || holds d s p) at ∙ sym (has-more d sets set p);
      }

  pub adds_skip : (sets : List PacketSet) (set : PacketSet) (before after : List Difference) → ((p : ℕ → Bool) → holds d set p ≡ false)
      → AddsSome d stage old new sets before after → AddsSome d stage old new (sets ++ set ∷ []) before after
  adds_skip sets set before after none so_far = record {
    more = so_far.more;
    added = so_far.added;
    here = so_far.here;
    by_old = so_far.by_old;
    by_new = so_far.by_new;
    are_sets = so_far.are_sets;
    examples = so_far.examples;
    among = All-weaker (λ (x : Difference). Contains sets x.set) (λ (x : Difference). Contains (sets ++ set ∷ []) x.set)
        (λ x h. Contains-append_left sets (set ∷ []) x.set h) so_far.more so_far.among;
    same = λ p. so_far.same p ∙ or-so (some_has d sets p) (holds d set p) (none p) ∙ sym (has-more d sets set p);
  }

-- ---- one case of the old ruleset against those of the new

not-left : (a b : Bool) → (a && not b) ≡ false → a ≡ true → b ≡ true
not-left true true e h = refl
not-left true false e h = sym e
not-left false b e h = absurd (false≢true h)

pub tried_none : (d : DiagramsView) (stage : HookStage) (old : Case StageOutcome) (new : List (Case StageOutcome)) (before : List Difference)
    → IsSet d old.set → IsTried d stage old new old.set before before
tried_none d stage old new before old_set = record {
  old_set = old_set;
  more = [];
  added = sym (append-nil before);
  pairs = All-nil (IsPair d stage (old ∷ []) new);
  left_set = old_set;
  within = λ p has. has;
  told = λ p has none. absurd (false≢true (sym none ∙ has));
}

module _ (d e : DiagramsView) (k : Keeps d e) (stage : HookStage) (old left case : Case StageOutcome) (new : List (Case StageOutcome))
    (are_new : AreCases d new) (index : ℕ) (at : slice_get new index ≡ Some case) (same_outcome : old.outcome ≡ left.outcome)
    (before between after : List Difference) (rest : PacketSet) (so_far : IsTried d stage old new left.set before between)
    (met : AddsMet d e stage left case between after rest) where
  left_in_old : (p : ℕ → Bool) → holds e left.set p ≡ true → holds e old.set p ≡ true
  left_in_old p has = k.same old.set p so_far.old_set ∙ so_far.within p (sym (k.same left.set p so_far.left_set) ∙ has)

  pair_here : (it : Difference) → IsPair e stage (left ∷ []) (case ∷ []) it → IsPair e stage (old ∷ []) new it
  pair_here it pair = record {
    here = pair.here;
    set = pair.set;
    example = pair.example;
    by_old = λ p has.
        let one = outcome_of_one e p left it.old (pair.by_old p has) in
        subst (Contains (outcomes_for e (old ∷ []) p)) (same_outcome ∙ one.1) (outcome_here e p old (left_in_old p one.0));
    by_new = λ p has.
        let one = outcome_of_one e p case it.new (pair.by_new p has) in
        subst (Contains (outcomes_for e new p)) one.1 (outcome_at e p new index case at one.0);
    differ = pair.differ;
  }

  told_here : (p : ℕ → Bool) → IsTold e left.outcome (case ∷ []) met.more p → IsTold e old.outcome new met.more p
  told_here p told = elim told [
    | inl same ↦
        let one = outcome_of_one e p case same.0 same.1 in
        inl (
          same.0,
          subst (Contains (outcomes_for e new p)) one.1 (outcome_at e p new index case at one.0),
          subst (λ o. SameOutcome o same.0 p) (sym same_outcome) same.2,
        )
    | inr differs ↦ inr differs
  ]

  told_now : (p : ℕ → Bool) → holds e old.set p ≡ true → holds e rest p ≡ false → IsTold e old.outcome new (so_far.more ++ met.more) p
  told_now p in_old none = elim (holds d left.set p) as (λ b. holds d left.set p ≡ b → IsTold e old.outcome new (so_far.more ++ met.more) p) [
    | true ↦ λ in_left. told_right e old.outcome new so_far.more met.more p (told_here p
        (met.told p in_left (not-left (holds d left.set p) (holds d case.set p) (sym (met.left.same p) ∙ none) in_left)))
    | false ↦ λ not_left. told_left e old.outcome new so_far.more met.more p (told_kept d e k old.outcome new so_far.more p are_new
        (pair_sets d stage (old ∷ []) new so_far.more so_far.pairs) (so_far.told p (sym (k.same old.set p so_far.old_set) ∙ in_old) not_left))
  ] refl

  pub tried_more : IsTried e stage old new rest before after
  tried_more = record {
    old_set = k.sets old.set so_far.old_set;
    more = so_far.more ++ met.more;
    added = met.added ∙ ap (λ l. l ++ met.more) so_far.added ∙ append_assoc before so_far.more met.more;
    pairs = All-append (IsPair e stage (old ∷ []) new) so_far.more met.more
        (pairs_kept d e k stage (old ∷ []) new so_far.more (so_far.old_set, tt) are_new so_far.pairs)
        (All-weaker (IsPair e stage (left ∷ []) (case ∷ [])) (IsPair e stage (old ∷ []) new) pair_here met.more met.pairs);
    left_set = met.left.is_set;
    within = λ p has. k.same old.set p so_far.old_set
        ∙ so_far.within p (and_parts (holds d left.set p) (not (holds d case.set p)) (sym (met.left.same p) ∙ has)).0;
    told = told_now;
  }

not-true : (b : Bool) → not b ≡ true → b ≡ false
not-true true e = sym e
not-true false e = refl

pub rest_met : (d e : DiagramsView) (stage : HookStage) (left case : Case StageOutcome) (new : List (Case StageOutcome)) (index : ℕ)
    → slice_get new index ≡ Some case → (before after : List Difference) (rest : PacketSet) → AddsMet d e stage left case before after rest
    → IsRest d e left.set new index rest
rest_met d e stage left case new index at before after rest met = record {
  set = met.left.is_set;
  within = λ p has. (and_parts (holds d left.set p) (not (holds d case.set p)) (sym (met.left.same p) ∙ has)).0;
  none = λ c here p has.
      let same : case ≡ c = cc in
      rw (← same) (not-true (holds d case.set p) (and_parts (holds d left.set p) (not (holds d case.set p)) (sym (met.left.same p) ∙ has)).1);
}

pub tried_kept : (d e : DiagramsView) → Keeps d e → (stage : HookStage) (old : Case StageOutcome) (new : List (Case StageOutcome)) (left : PacketSet)
    (before after : List Difference) → AreCases d new → IsTried d stage old new left before after → IsTried e stage old new left before after
tried_kept d e k stage old new left before after are_new so_far = record {
  old_set = k.sets old.set so_far.old_set;
  more = so_far.more;
  added = so_far.added;
  pairs = pairs_kept d e k stage (old ∷ []) new so_far.more (so_far.old_set, tt) are_new so_far.pairs;
  left_set = k.sets left so_far.left_set;
  within = λ p has. k.same old.set p so_far.old_set ∙ so_far.within p (sym (k.same left p so_far.left_set) ∙ has);
  told = λ p has none. told_kept d e k old.outcome new so_far.more p are_new (pair_sets d stage (old ∷ []) new so_far.more so_far.pairs)
      (so_far.told p (sym (k.same old.set p so_far.old_set) ∙ has) (sym (k.same left p so_far.left_set) ∙ none));
}

-- where no packet is left that a case of the new ruleset has
pub compared : (d : DiagramsView) (stage : HookStage) (old : Case StageOutcome) (new : List (Case StageOutcome)) (left : PacketSet)
    (before after : List Difference) → IsTried d stage old new left before after
    → ((p : ℕ → Bool) → holds d left p ≡ true → some_case d new p ≡ true → ⊥) → IsCompared d stage old new before after
compared d stage old new left before after so_far none = record {
  more = so_far.more;
  added = so_far.added;
  pairs = so_far.pairs;
  told = λ p has there. elim (holds d left p) as (λ b. holds d left p ≡ b → IsTold d old.outcome new so_far.more p) [
    | true ↦ λ in_left. absurd (none p in_left there)
    | false ↦ λ not_left. so_far.told p has not_left
  ] refl;
}

-- ---- all cases of the old ruleset, one after another

pub all_none : (d : DiagramsView) (stage : HookStage) (new : List (Case StageOutcome)) (before : List Difference)
    → AreCompared d stage [] new before before
all_none d stage new before = record {
  more = [];
  added = sym (append-nil before);
  pairs = All-nil (IsPair d stage [] new);
  told = λ p o has there. not_in_none _ o has;
}

pub cases_kept : (d e : DiagramsView) → Keeps d e → (cs : List (Case StageOutcome)) (p : ℕ → Bool) → AreCases d cs → some_case e cs p ≡ some_case d cs p
cases_kept d e k [] p are = refl
cases_kept d e k (x ∷ xs) p are =
    ap (λ v. v || some_case e xs p) (k.same x.set p are.0) ∙ ap (λ v. holds d x.set p || v) (cases_kept d e k xs p are.1)

module _ (d e : DiagramsView) (k : Keeps d e) (stage : HookStage) (olds : List (Case StageOutcome)) (old : Case StageOutcome)
    (new : List (Case StageOutcome)) (are_olds : AreCases d olds) (are_new : AreCases d new) (old_set : IsSet d old.set)
    (before between after : List Difference) (so_far : AreCompared d stage olds new before between)
    (one : IsCompared e stage old new between after) where
  olds_more : (p : ℕ → Bool) → outcomes_for e (olds ++ old ∷ []) p ≡ outcomes_for e olds p ++ cond (holds e old.set p) (old.outcome ∷ []) []
  olds_more p = outcomes-more e olds old p

  pair_before : (it : Difference) → IsPair e stage olds new it → IsPair e stage (olds ++ old ∷ []) new it
  pair_before it pair = record {
    here = pair.here;
    set = pair.set;
    example = pair.example;
    by_old = λ p has. subst (λ l. Contains l it.old) (sym (olds_more p)) (Contains-append_left (outcomes_for e olds p) _ it.old (pair.by_old p has));
    by_new = pair.by_new;
    differ = pair.differ;
  }

  pair_last : (it : Difference) → IsPair e stage (old ∷ []) new it → IsPair e stage (olds ++ old ∷ []) new it
  pair_last it pair = record {
    here = pair.here;
    set = pair.set;
    example = pair.example;
    by_old = λ p has. subst (λ l. Contains l it.old) (sym (olds_more p)) (Contains-append_right (outcomes_for e olds p) _ it.old
        (subst (λ l. Contains l it.old) (append-nil (cond (holds e old.set p) (old.outcome ∷ []) [])) (pair.by_old p has)));
    by_new = pair.by_new;
    differ = pair.differ;
  }

  case_before : (p : ℕ → Bool) → some_case e new p ≡ true → some_case d new p ≡ true
  case_before p there = sym (cases_kept d e k new p are_new) ∙ there

  pub all_more : AreCompared e stage (olds ++ old ∷ []) new before after
  all_more = record {
    more = so_far.more ++ one.more;
    added = one.added ∙ ap (λ l. l ++ one.more) so_far.added ∙ append_assoc before so_far.more one.more;
    pairs = All-append (IsPair e stage (olds ++ old ∷ []) new) so_far.more one.more
        (All-weaker (IsPair e stage olds new) (IsPair e stage (olds ++ old ∷ []) new) pair_before so_far.more
        (pairs_kept d e k stage olds new so_far.more are_olds are_new so_far.pairs))
        (All-weaker (IsPair e stage (old ∷ []) new) (IsPair e stage (olds ++ old ∷ []) new) pair_last one.more one.pairs);
    told = λ p o has there. elim (Contains-append_cases (outcomes_for e olds p) (cond (holds e old.set p) (old.outcome ∷ []) []) o
        (subst (λ l. Contains l o) (olds_more p) has)) [
          | inl earlier ↦ told_left e o new so_far.more one.more p (told_kept d e k o new so_far.more p are_new
              (pair_sets d stage olds new so_far.more so_far.pairs)
              (so_far.told p o (subst (λ l. Contains l o) (outcomes-kept d e olds p k are_olds) earlier) (case_before p there)))
          | inr here ↦
              let at = one-outcome (holds e old.set p) o old.outcome here in
              told_right e o new so_far.more one.more p (subst (λ x. IsTold e x new one.more p) at.1 (one.told p at.0 there))
        ];
  }

-- ---- as far as a loop over the cases of the new ruleset has come

-- of the cases before this index none has a packet that is left
pub record TriedTo (d e : DiagramsView) (stage : HookStage) (left : Case StageOutcome) (new : List (Case StageOutcome)) (index : ℕ) (set : PacketSet)
    (between after : List Difference) : Type 0 where
  pub keeps : Keeps d e
  pub is_set : IsSet e set
  pub tried : (old : Case StageOutcome) (before : List Difference) → old.outcome ≡ left.outcome
      → IsTried d stage old new left.set before between → IsTried e stage old new set before after
  pub none : (j : ℕ) (c : Case StageOutcome) → j < index → slice_get new j ≡ Some c → (p : ℕ → Bool) → holds e set p ≡ true → holds e c.set p ≡ false

pub tried_to_none : (d : DiagramsView) (stage : HookStage) (left : Case StageOutcome) (new : List (Case StageOutcome)) (between : List Difference)
    → IsSet d left.set → TriedTo d d stage left new 0 left.set between between
tried_to_none d stage left new between is_set = record {
  keeps = keeps_same d;
  is_set = is_set;
  tried = λ old before same so_far. so_far;
  none = λ j c under at p has. absurd (omega (arith, under));
}

pub case_set : (d : DiagramsView) (cs : List (Case StageOutcome)) (k : ℕ) (c : Case StageOutcome) → AreCases d cs → slice_get cs k ≡ Some c → IsSet d c.set
case_set d [] k c are at = absurd (cc)
case_set d (x ∷ xs) zero c are at = let same : x ≡ c = cc in rw (← same) are.0
case_set d (x ∷ xs) (suc k) c are at = case_set d xs k c are.1 at

pub tried_to_more : (d e f : DiagramsView) (stage : HookStage) (left : Case StageOutcome) (new : List (Case StageOutcome)) (index : ℕ) (set rest : PacketSet)
    (between after later : List Difference) → AreCases d new → TriedTo d e stage left new index set between after → Keeps e f → IsRest e f set new index rest
    → ((old : Case StageOutcome) (before : List Difference) → old.outcome ≡ left.outcome → IsTried e stage old new set before after
    → IsTried f stage old new rest before later) → TriedTo d f stage left new (index + 1) rest between later
tried_to_more d e f stage left new index set rest between after later are_new so_far k is_rest step = record {
  keeps = keeps_trans d e f so_far.keeps k;
  is_set = is_rest.set;
  tried = λ old before same begun. step old before same (so_far.tried old before same begun);
  none = λ j c under at p has.
      let is_set = case_set e new j c (are-kept d e new so_far.keeps are_new) at in
      k.same c.set p is_set ∙ elim (cases_lt j index) [
        | inl before ↦ so_far.none j c before at p (is_rest.within p has)
        | inr behind ↦
            let here : j ≡ index = omega (arith, under, behind) in
            is_rest.none c (subst (λ i. slice_get new i ≡ Some c) here at) p has
      ];
}

pub rest_none : (d : DiagramsView) (left : PacketSet) (new : List (Case StageOutcome)) (index : ℕ) → IsSet d left → slice_get new index ≡ None
    → IsRest d d left new index left
rest_none d left new index is_set none = record {
  set = is_set;
  within = λ p has. has;
  none = λ c at p has. absurd (cc);
}

-- no packet is left
pub compared_early : (d e : DiagramsView) (stage : HookStage) (left : Case StageOutcome) (new : List (Case StageOutcome)) (index : ℕ) (set : PacketSet)
    (between after : List Difference) → TriedTo d e stage left new index set between after → ((p : ℕ → Bool) → holds e set p ≡ false)
    → (old : Case StageOutcome) (before : List Difference) → old.outcome ≡ left.outcome → IsTried d stage old new left.set before between
    → IsCompared e stage old new before after
compared_early d e stage left new index set between after so_far none old before same begun =
    compared e stage old new set before after (so_far.tried old before same begun) (λ p has there. false≢true (sym (none p) ∙ has))

-- all cases were tried
pub compared_all : (d e : DiagramsView) (stage : HookStage) (left : Case StageOutcome) (new : List (Case StageOutcome)) (index : ℕ) (set : PacketSet)
    (between after : List Difference) → length new ≤ index → TriedTo d e stage left new index set between after
    → (old : Case StageOutcome) (before : List Difference) → old.outcome ≡ left.outcome → IsTried d stage old new left.set before between
    → IsCompared e stage old new before after
compared_all d e stage left new index set between after past so_far old before same begun =
    compared e stage old new set before after (so_far.tried old before same begun) (λ p has there.
    no_case e p new (λ k c at. so_far.none k c (let inside = slice_get_within new k c at in omega (arith, inside, past)) at p has) there)

pub cases_at : (d : DiagramsView) (cs : List (Case StageOutcome)) (i : ℕ) (any : Case StageOutcome) → AreCases d cs → i < length cs
    → IsSet d (get_or cs i any).set
cases_at d cs i any are inside = case_set d cs i (get_or cs i any) are (slice_get-get_or cs i any inside)

cases_before : (d : DiagramsView) (cs : List (Case StageOutcome)) (i : ℕ) → AreCases d cs → AreCases d (take i cs)
cases_before d [] zero are = tt
cases_before d [] (suc i) are = tt
cases_before d (x ∷ xs) zero are = tt
cases_before d (x ∷ xs) (suc i) are = (are.0, cases_before d xs i are.1)

pub all_next : (c d e : DiagramsView) → Keeps c d → (k : Keeps d e) → (stage : HookStage) (olds new : List (Case StageOutcome)) → AreCases c olds → AreCases c new
    → (i : ℕ) (any : Case StageOutcome) → i < length olds → (before between after : List Difference)
    → AreCompared d stage (take i olds) new before between → IsCompared e stage (get_or olds i any) new between after
    → AreCompared e stage (take (i + 1) olds) new before after
all_next c d e ck k stage olds new are_olds are_new i any inside before between after so_far one =
    subst (λ l. AreCompared e stage l new before after) (sym (take_more olds i any inside))
    (all_more d e k stage (take i olds) (get_or olds i any) new (cases_before d olds i (are-kept c d olds ck are_olds)) (are-kept c d new ck are_new)
    (ck.sets _ (cases_at c olds i any are_olds inside)) before between after so_far one)
