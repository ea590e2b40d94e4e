-- Packets on their way through a rule, one part of a statement after the other, one statement after the other.
use Rattle.std.proofs.Common.{◌≡◌, ◌∙◌, ◌≤◌, ◌<◌, ◌+◌, ◌&&◌, ◌==◌, ◌-◌, not, ℕ, zero, suc, List, [], ◌∷◌, ◌++◌, map, length, get_or, drop}
use Rattle.std.proofs.Common.{Bool, true, false, cond, refl, ap, sym, subst, append-nil, append_assoc, arith, Option, Some, None, is_some}
use Rattle.std.specs.List.{list_any}
use Rattle.std.proofs.lemmas.Bool.{or_parts}
use Rattle.std.proofs.lemmas.Bool.Decides.{nat_tests}
use Rattle.std.proofs.lemmas.List.{drop_more, length-drop, length-map, map-append}
use Rattle.packet_sets.specs.declared.packet_set.PacketSet.{PacketSet}
use Rattle.packet_sets.specs.Sets.{DiagramsView, IsSet, Keeps, holds}
use Rattle.rule_meaning.specs.declared.facts.Facts.{Facts}
use Rattle.rule_meaning.specs.declared.event.RuleVerdict.{RuleVerdict}
use Rattle.rule_meaning.specs.Statements.{StatementEffect, with_value}
use Rattle.rule_meaning.specs.Runs.{Program, statement_position}
use Rattle.fact_sets.specs.declared.cases.Case.{Case}
use Rattle.action_cases.specs.declared.cases.Outcome.{Outcome}
use Rattle.action_cases.specs.declared.cases.Outcome.TheVariants as outcomes
use Rattle.fact_sets.specs.declared.readings.Reader.{Reader}
use Rattle.fact_sets.specs.declared.written.Written.{Written}
use Rattle.fact_sets.specs.declared.written.MarkSource.TheVariants as sources
use Rattle.fact_sets.specs.Cases.{AreCases, picked, seen}
use Rattle.action_cases.specs.Effects.{Decides, outcome_effect, written_after}
use Rattle.fact_sets.specs.Facts.{facts_of}
use Rattle.rule_sets.specs.declared.ends.End.{End}
use Rattle.rule_sets.specs.declared.parts.Parts.{Parts}
use Rattle.rule_sets.specs.declared.progress.Progress.{Progress}
use Rattle.rule_sets.specs.Ends.{AddsEnds, RuleEnd, end_at, end_behind, end_for, ends_for, outcomes_for, rule_end}
use Rattle.rule_sets.specs.Parts.{AreParts, as_list}
use Rattle.rule_sets.specs.steps.Progress.{Adds, AddsCase, Advances, AreSets, Passes, prospects, prospects_by}
use Rattle.rule_sets.proofs.Ending.{NoVerdict, moved}
use Rattle.rule_sets.proofs.Merging.{adds_back, adds_front, adds_mapped, few_begun, few_cond, map-cond}
use Rattle.rule_sets.proofs.Sorting.{are-kept, keeps_same, keeps_trans, outcomes-kept}

-- ---- one more case

prospects-kept : (d e : DiagramsView) (r : Reader) (rest : Facts → RuleEnd) (p : Progress) (f : ℕ → Bool) → Keeps d e → AreSets d p
    → prospects e r rest p f ≡ prospects d r rest p f
prospects-kept d e r rest p f k s =
    ap (λ z. map (end_for r f) z ++ map (λ w. rest (facts_of r.interfaces.now w f)) (outcomes_for e p.passing.items f))
    (outcomes-kept d e p.ends.items f k s.ends)
    ∙ ap (λ z. ends_for d r p.ends.items f ++ map (λ w. rest (facts_of r.interfaces.now w f)) z) (outcomes-kept d e p.passing.items f k s.passing)

pub ended : (d e : DiagramsView) (r : Reader) (s : PacketSet) (x : End) (p q : Progress) → Keeps d e → AreSets d p → q.passing.items ≡ p.passing.items
    → AddsCase d e s x p.ends.items q.ends.items
    → AreSets e q × ((rest : Facts → RuleEnd) (f : ℕ → Bool)
    → Adds (prospects d r rest p f) (cond (holds d s f) (end_for r f x ∷ []) []) (prospects e r rest q f))
ended d e r s x p q k are same adds = (
  record { ends = adds.are; passing = subst (AreCases e) (sym same) (are-kept d e p.passing.items k are.passing) },
  λ rest f.
      let mapped = adds_mapped (end_for r f) _ _ _ (adds.same f) in
      let given = subst (λ m. Adds (ends_for d r p.ends.items f) m (ends_for e r q.ends.items f)) (map-cond (end_for r f) (holds d s f) x) mapped in
      let h = λ (w : Written). rest (facts_of r.interfaces.now w f) in
      let stays = ap (λ l. map h (outcomes_for e l f)) same ∙ ap (map h) (outcomes-kept d e p.passing.items f k are.passing) in
      subst (λ o. Adds (prospects d r rest p f) (cond (holds d s f) (end_for r f x ∷ []) []) (ends_for e r q.ends.items f ++ o)) (sym stays)
      (adds_front _ _ _ (map h (outcomes_for d p.passing.items f)) given),
)

pub opened : (d e : DiagramsView) (r : Reader) (s : PacketSet) (w : Written) (p q : Progress) → Keeps d e → AreSets d p → q.ends.items ≡ p.ends.items
    → AddsCase d e s w p.passing.items q.passing.items
    → AreSets e q × ((rest : Facts → RuleEnd) (f : ℕ → Bool)
    → Adds (prospects d r rest p f) (cond (holds d s f) (rest (facts_of r.interfaces.now w f) ∷ []) []) (prospects e r rest q f))
opened d e r s w p q k are same adds = (
  record { ends = subst (AreCases e) (sym same) (are-kept d e p.ends.items k are.ends); passing = adds.are },
  λ rest f.
      let h = λ (v : Written). rest (facts_of r.interfaces.now v f) in
      let mapped = adds_mapped h _ _ _ (adds.same f) in
      let given = subst (λ m. Adds (map h (outcomes_for d p.passing.items f)) m (map h (outcomes_for e q.passing.items f))) (map-cond h (holds d s f) w) mapped in
      let stays = ap (λ l. map (end_for r f) (outcomes_for e l f)) same ∙ ap (map (end_for r f)) (outcomes-kept d e p.ends.items f k are.ends) in
      subst (λ o. Adds (prospects d r rest p f) (cond (holds d s f) (h w ∷ []) []) (o ++ map h (outcomes_for e q.passing.items f))) (sym stays)
      (adds_back (ends_for d r p.ends.items f) _ _ _ given),
)

-- ---- what holds after some of the parts, or after some of the passing cases

pub record Walks (d0 d : DiagramsView) (r : Reader) (p : Progress) (left all : (Facts → RuleEnd) → (ℕ → Bool) → List RuleEnd) : Type 0 where
  pub keeps : Keeps d0 d
  pub sets : AreSets d p
  pub same : (rest : Facts → RuleEnd) (f : ℕ → Bool) → length (all rest f) ≤ 1 → prospects d r rest p f ++ left rest f ≡ all rest f

pub walks_more : (d0 d e : DiagramsView) (r : Reader) (p q : Progress) (more before after all : (Facts → RuleEnd) → (ℕ → Bool) → List RuleEnd)
    → Walks d0 d r p before all → Keeps d e → AreSets e q
    → ((rest : Facts → RuleEnd) (f : ℕ → Bool) → before rest f ≡ more rest f ++ after rest f)
    → ((rest : Facts → RuleEnd) (f : ℕ → Bool) → Adds (prospects d r rest p f) (more rest f) (prospects e r rest q f))
    → Walks d0 e r q after all
walks_more d0 d e r p q more before after all s k are splits adds = record {
  keeps = keeps_trans d0 d e s.keeps k;
  sets = are;
  same = λ rest f few.
      let parts = append_assoc (prospects d r rest p f) (more rest f) (after rest f) ∙ ap (λ z. prospects d r rest p f ++ z) (sym (splits rest f))
      ∙ s.same rest f few in
      let fits = few_begun (prospects d r rest p f ++ more rest f) (after rest f) (subst (λ z. length z ≤ 1) (sym parts) few) in
      ap (λ z. z ++ after rest f) (adds rest f fits) ∙ parts;
}

-- ---- the parts of a statement

abbrev pub end_by : Reader → Bool → (Facts → RuleEnd) → (ℕ → Bool) → Outcome → RuleEnd
end_by r last rest f o = end_behind last rest (seen r f) (outcome_effect r o f)

abbrev pub by_parts : DiagramsView → Reader → Bool → List (Case Outcome) → (Facts → RuleEnd) → (ℕ → Bool) → List RuleEnd
by_parts d r last left rest f = map (end_by r last rest f) (outcomes_for d left f)

abbrev pub by_all : DiagramsView → Reader → Bool → Parts → Progress → (Facts → RuleEnd) → (ℕ → Bool) → List RuleEnd
by_all d r last parts p rest f = prospects d r rest p f ++ prospects_by d r last rest parts f

pub record Sorted (d0 d : DiagramsView) (r : Reader) (last : Bool) (parts : Parts) (p q : Progress) (left : List (Case Outcome)) : Type 0 where
  pub walks : Walks d0 d r q (by_parts d0 r last left) (by_all d0 r last parts p)
  pub left_are : AreCases d0 left

-- with those for which the statement fails
pub sorted_none : (d0 d : DiagramsView) (r : Reader) (last : Bool) (parts : Parts) (p q : Progress) → Keeps d0 d → AreSets d0 p
    → AreCases d0 parts.cases.items → q.passing.items ≡ p.passing.items
    → AddsCase d0 d parts.rest (record { written = r.written; verdict = None; met = false }) p.ends.items q.ends.items
    → Sorted d0 d r last parts p q parts.cases.items
sorted_none d0 d r last parts p q k are cases same adds =
    let more = ended d0 d r parts.rest _ p q k are same adds in
    record {
      walks = walks_more d0 d0 d r p q
          (λ rest f. cond (holds d0 parts.rest f) (record { facts = seen r f; verdict = None; met = false } ∷ []) [])
          (λ rest f. prospects_by d0 r last rest parts f) (by_parts d0 r last parts.cases.items) (by_all d0 r last parts p)
          (record { keeps = keeps_same d0; sets = are; same = λ rest f few. refl }) k more.0 (λ rest f. refl) more.1;
      left_are = cases;
    }

-- the next part's ends
split : (d0 : DiagramsView) (r : Reader) (last : Bool) (x : Case Outcome) (left : List (Case Outcome)) (rest : Facts → RuleEnd) (f : ℕ → Bool)
    → by_parts d0 r last (x ∷ left) rest f
    ≡ cond (holds d0 x.set f) (end_by r last rest f x.outcome ∷ []) [] ++ by_parts d0 r last left rest f
split d0 r last x left rest f =
    map-append (end_by r last rest f) (cond (holds d0 x.set f) (x.outcome ∷ []) []) (outcomes_for d0 left f)
    ∙ ap (λ z. z ++ by_parts d0 r last left rest f) (map-cond (end_by r last rest f) (holds d0 x.set f) x.outcome)

abbrev AddsEnd : (d0 d e : DiagramsView) (r : Reader) (last : Bool) (x : Case Outcome) (q after : Progress) → Type 0
AddsEnd d0 d e r last x q after = (rest : Facts → RuleEnd) (f : ℕ → Bool) → Adds (prospects d r rest q f)
    (cond (holds d0 x.set f) (end_by r last rest f x.outcome ∷ []) []) (prospects e r rest after f)

sorted_more : (d0 d e : DiagramsView) (r : Reader) (last : Bool) (parts : Parts) (p q after : Progress) (x : Case Outcome) (left : List (Case Outcome))
    → Sorted d0 d r last parts p q (x ∷ left) → Keeps d e → AreSets e after → AddsEnd d0 d e r last x q after
    → Sorted d0 e r last parts p after left
sorted_more d0 d e r last parts p q after x left s k are adds = record {
  walks = walks_more d0 d e r q after (λ rest f. cond (holds d0 x.set f) (end_by r last rest f x.outcome ∷ []) []) (by_parts d0 r last (x ∷ left))
      (by_parts d0 r last left) (by_all d0 r last parts p) s.walks k are (split d0 r last x left) adds;
  left_are = s.left_are.1;
}

-- an end, as the next part has it
as_end : (d0 d e : DiagramsView) (r : Reader) (last : Bool) (x : Case Outcome) (q after : Progress) (y : (Facts → RuleEnd) → (ℕ → Bool) → RuleEnd)
    → Keeps d0 d → IsSet d0 x.set → ((rest : Facts → RuleEnd) (f : ℕ → Bool) → y rest f ≡ end_by r last rest f x.outcome)
    → ((rest : Facts → RuleEnd) (f : ℕ → Bool)
    → Adds (prospects d r rest q f) (cond (holds d x.set f) (y rest f ∷ []) []) (prospects e r rest after f))
    → AddsEnd d0 d e r last x q after
as_end d0 d e r last x q after y k is same adds rest f =
    subst (λ m. Adds (prospects d r rest q f) m (prospects e r rest after f))
    (ap (λ z. cond z (y rest f ∷ []) []) (k.same x.set f is) ∙ ap (λ z. cond (holds d0 x.set f) (z ∷ []) []) (same rest f)) (adds rest f)

pub sorted_given : (d0 d e : DiagramsView) (r : Reader) (last : Bool) (parts : Parts) (p q after : Progress) (x : Case Outcome)
    (left : List (Case Outcome)) (v : RuleVerdict) → Sorted d0 d r last parts p q (x ∷ left) → x.outcome ≡ outcomes.Gives v → Keeps d e
    → after.passing.items ≡ q.passing.items
    → AddsCase d e x.set (record { written = r.written; verdict = Some v; met = last }) q.ends.items after.ends.items
    → Sorted d0 e r last parts p after left
sorted_given d0 d e r last parts p q after x left v s gives k same adds =
    let more = ended d e r x.set _ q after k s.walks.sets same adds in
    sorted_more d0 d e r last parts p q after x left s k more.0
    (as_end d0 d e r last x q after (λ rest f. record { facts = seen r f; verdict = Some v; met = last }) s.walks.keeps s.left_are.0
    (λ rest f. ap (end_by r last rest f) (sym gives)) more.1)

pub sorted_moved : (d0 d e : DiagramsView) (r : Reader) (last : Bool) (parts : Parts) (p q after : Progress) (x : Case Outcome)
    (left : List (Case Outcome)) → Sorted d0 d r last parts p q (x ∷ left) → NoVerdict x.outcome → Keeps d e → after.ends.items ≡ q.ends.items
    → AddsCase d e x.set (written_after x.outcome r.written) q.passing.items after.passing.items → Sorted d0 e r last parts p after left
sorted_moved d0 d e r last parts p q after x left s none k same adds =
    let more = opened d e r x.set _ q after k s.walks.sets same adds in
    sorted_more d0 d e r last parts p q after x left s k more.0
    (as_end d0 d e r last x q after (λ rest f. rest (facts_of r.interfaces.now (written_after x.outcome r.written) f)) s.walks.keeps s.left_are.0
    (λ rest f. moved last rest r x.outcome f none) more.1)

pub sorted_next : (d0 d : DiagramsView) (r : Reader) (last : Bool) (parts : Parts) (p q : Progress) (all : List (Case Outcome)) (i : ℕ) (any : Case Outcome)
    → i < length all → Sorted d0 d r last parts p q (drop i all) → Sorted d0 d r last parts p q (get_or all i any ∷ drop (i + 1) all)
sorted_next d0 d r last parts p q all i any inside s = subst (Sorted d0 d r last parts p q) (drop_more all i any inside) s

pub sorted_all : (d0 d : DiagramsView) (r : Reader) (last : Bool) (parts : Parts) (p q : Progress) (left : List (Case Outcome)) → left ≡ []
    → Sorted d0 d r last parts p q left → Passes d0 d r last parts p q
sorted_all d0 d r last parts p q left is given =
    let s = subst (Sorted d0 d r last parts p q) is given in
    record { sets = s.walks.sets; same = λ rest f few. sym (append-nil (prospects d r rest q f)) ∙ s.walks.same rest f few }

-- ---- the passing cases

abbrev pub Effect : Type 0
Effect = Facts → StatementEffect

abbrev pub end_from : Bool → Effect → (Facts → RuleEnd) → Facts → RuleEnd
end_from last effect rest facts = end_behind last rest facts (effect facts)

abbrev pub by_passing : DiagramsView → Reader → Bool → Effect → List (Case Written) → (Facts → RuleEnd) → (ℕ → Bool) → List RuleEnd
by_passing d r last effect left rest f = map (λ w. end_from last effect rest (facts_of r.interfaces.now w f)) (outcomes_for d left f)

abbrev pub from_all : DiagramsView → Reader → Bool → Effect → Progress → (Facts → RuleEnd) → (ℕ → Bool) → List RuleEnd
from_all d r last effect p rest f = prospects d r (end_from last effect rest) p f

pub record Comes (d0 d : DiagramsView) (r : Reader) (last : Bool) (effect : Effect) (p q : Progress) (left : List (Case Written)) : Type 0 where
  pub walks : Walks d0 d r q (by_passing d0 r last effect left) (from_all d0 r last effect p)
  pub left_are : AreCases d0 left

pub comes_none : (d : DiagramsView) (r : Reader) (last : Bool) (effect : Effect) (p q : Progress) → AreSets d p → q.ends.items ≡ p.ends.items
    → q.passing.items ≡ [] → Comes d d r last effect p q p.passing.items
comes_none d r last effect p q are same none = record {
  walks = record {
    keeps = keeps_same d;
    sets = record { ends = subst (AreCases d) (sym same) are.ends; passing = subst (AreCases d) (sym none) tt };
    same = λ rest f few.
        ap (λ l. (ends_for d r l f ++ map (λ w. rest (facts_of r.interfaces.now w f)) (outcomes_for d q.passing.items f))
        ++ by_passing d r last effect p.passing.items rest f) same
        ∙ ap (λ l. (ends_for d r p.ends.items f ++ map (λ w. rest (facts_of r.interfaces.now w f)) (outcomes_for d l f))
        ++ by_passing d r last effect p.passing.items rest f) none
        ∙ ap (λ z. z ++ by_passing d r last effect p.passing.items rest f) (append-nil (ends_for d r p.ends.items f));
  };
  left_are = are.passing;
}

-- the parts of one case are all that becomes of it
becomes : (b last : Bool) (given : Option Outcome) (rest : Facts → RuleEnd) (x : Facts) (does : Outcome → StatementEffect)
    → cond (b && not (is_some given)) (record { facts = x; verdict = None; met = false } ∷ []) []
    ++ map (λ o. end_behind last rest x (does o)) (cond b (as_list given) []) ≡ cond b (end_behind last rest x (with_value does given) ∷ []) []
becomes true last None rest x does = refl
becomes true last (Some o) rest x does = refl
becomes false last None rest x does = refl
becomes false last (Some o) rest x does = refl

prospects-parts : (d e : DiagramsView) (r : Reader) (last : Bool) (effect : Effect) (set : PacketSet) (cases : List (Case Outcome)) (parts : Parts)
    (rest : Facts → RuleEnd) (f : ℕ → Bool) → Decides d r cases effect → AreParts d e set cases parts.cases.items parts.rest
    → prospects_by e r last rest parts f ≡ cond (holds d set f) (end_from last effect rest (seen r f) ∷ []) []
prospects-parts d e r last effect set cases parts rest f decides sorts =
    let does = λ (o : Outcome). outcome_effect r o f in
    ap (λ b. cond b (record { facts = seen r f; verdict = None; met = false } ∷ []) [] ++ map (end_by r last rest f) (outcomes_for e parts.cases.items f))
    (sorts.others.same f)
    ∙ ap (λ l. cond (holds d set f && not (is_some (picked d cases f))) (record { facts = seen r f; verdict = None; met = false } ∷ []) []
    ++ map (end_by r last rest f) l) (sorts.same f)
    ∙ becomes (holds d set f) last (picked d cases f) rest (seen r f) does
    ∙ ap (λ w. cond (holds d set f) (end_behind last rest (seen r f) w ∷ []) []) (decides.same f)

pub sets_kept : (d e : DiagramsView) (p : Progress) → Keeps d e → AreSets d p → AreSets e p
sets_kept d e p k are = record { ends = are-kept d e p.ends.items k are.ends; passing = are-kept d e p.passing.items k are.passing }

abbrev pub any_written : Case Written
any_written = record {
  set = record { node = 0 };
  outcome = record { packet = sources.Packet; connection = sources.Packet; untracked = false };
}

pub comes_more : (d0 d d1 d2 e : DiagramsView) (r : Reader) (last : Bool) (effect : Effect) (p q after : Progress) (x : Case Written)
    (left : List (Case Written)) (cases : List (Case Outcome)) (parts : Parts) → Comes d0 d r last effect p q (x ∷ left) → Keeps d d1 → Keeps d1 d2 → Keeps d2 e
    → Decides d1 (record { interfaces = r.interfaces; written = x.outcome }) cases effect → AreParts d1 d2 x.set cases parts.cases.items parts.rest
    → Passes d2 e (record { interfaces = r.interfaces; written = x.outcome }) last parts q after → Comes d0 e r last effect p after left
comes_more d0 d d1 d2 e r last effect p q after x left cases parts s k1 k2 k3 decides sorts passes =
    let y : Reader = record { interfaces = r.interfaces; written = x.outcome } in
    let more = λ (rest : Facts → RuleEnd) (f : ℕ → Bool). cond (holds d0 x.set f) (end_from last effect rest (seen y f) ∷ []) [] in
    let held = λ (f : ℕ → Bool). k1.same x.set f (s.walks.keeps.sets x.set s.left_are.0) ∙ s.walks.keeps.same x.set f s.left_are.0 in
    record {
      walks = walks_more d0 d e r q after more (by_passing d0 r last effect (x ∷ left)) (by_passing d0 r last effect left) (from_all d0 r last effect p) s.walks
          (keeps_trans d d1 e k1 (keeps_trans d1 d2 e k2 k3)) passes.sets
          (λ rest f.
          let g = λ (w : Written). end_from last effect rest (facts_of r.interfaces.now w f) in
          map-append g (cond (holds d0 x.set f) (x.outcome ∷ []) []) (outcomes_for d0 left f)
          ∙ ap (λ z. z ++ by_passing d0 r last effect left rest f) (map-cond g (holds d0 x.set f) x.outcome))
          (λ rest f.
          subst (λ m. Adds (prospects d r rest q f) m (prospects e r rest after f))
          (prospects-parts d1 d2 y last effect x.set cases parts rest f decides sorts
          ∙ ap (λ b. cond b (end_from last effect rest (seen y f) ∷ []) []) (held f))
          (subst (λ z. Adds z (prospects_by d2 y last rest parts f) (prospects e r rest after f))
          (prospects-kept d d2 r rest q f (keeps_trans d d1 d2 k1 k2) s.walks.sets) (passes.same rest f)));
      left_are = s.left_are.1;
    }

pub comes_next : (d0 d : DiagramsView) (r : Reader) (last : Bool) (effect : Effect) (p q : Progress) (all : List (Case Written)) (i : ℕ) (any : Case Written)
    → i < length all → Comes d0 d r last effect p q (drop i all) → Comes d0 d r last effect p q (get_or all i any ∷ drop (i + 1) all)
comes_next d0 d r last effect p q all i any inside s = subst (Comes d0 d r last effect p q) (drop_more all i any inside) s

pub comes_all : (d0 d : DiagramsView) (r : Reader) (last : Bool) (effect : Effect) (p q : Progress) (left : List (Case Written)) → left ≡ []
    → Comes d0 d r last effect p q left → Advances d0 d r (end_from last effect) p q
comes_all d0 d r last effect p q left is given =
    let s = subst (Comes d0 d r last effect p q) is given in
    record { sets = s.walks.sets; same = λ rest f few. sym (append-nil (prospects d r rest q f)) ∙ s.walks.same rest f few }

-- ---- the statements

-- with the end from the next statement on, as from the first
pub record Runs (d0 d : DiagramsView) (r : Reader) (set : PacketSet) (p : Progress) (rest end : Facts → RuleEnd) : Type 0 where
  pub keeps : Keeps d0 d
  pub sets : AreSets d p
  pub same : (f : ℕ → Bool) → prospects d r rest p f ≡ cond (holds d0 set f) (end (seen r f) ∷ []) []

one : (b : Bool) (w : Written) (g : Written → RuleEnd) → map g (cond b (w ∷ []) [] ++ []) ≡ cond b (g w ∷ []) []
one true w g = refl
one false w g = refl

-- no packet comes to the rule
pub no_ends : (d : DiagramsView) (r : Reader) (set : PacketSet) (end : Facts → RuleEnd) → ((f : ℕ → Bool) → holds d set f ≡ false)
    → AddsEnds d d r set end [] []
no_ends d r set end none = record { are = tt; same = λ f. ap (λ b. cond b (end (seen r f) ∷ []) []) (sym (none f)) }

pub runs_none : (d : DiagramsView) (r : Reader) (set : PacketSet) (p : Progress) (end : Facts → RuleEnd) → IsSet d set → p.ends.items ≡ []
    → p.passing.items ≡ record { set = set; outcome = r.written } ∷ [] → Runs d d r set p end end
runs_none d r set p end is none begun = record {
  keeps = keeps_same d;
  sets = record { ends = subst (AreCases d) (sym none) tt; passing = subst (AreCases d) (sym begun) (is, tt) };
  same = λ f.
      let g = λ (w : Written). end (facts_of r.interfaces.now w f) in
      ap (λ l. ends_for d r l f ++ map g (outcomes_for d p.passing.items f)) none ∙ ap (λ l. map g (outcomes_for d l f)) begun
      ∙ one (holds d set f) r.written g;
}

map-same : (g h : Written → RuleEnd) → ((w : Written) → g w ≡ h w) → (ws : List Written) → map g ws ≡ map h ws
map-same g h same [] = refl
map-same g h same (w ∷ ws) = ap (λ x. x ∷ map g ws) (same w) ∙ ap (λ z. h w ∷ z) (map-same g h same ws)

prospects-same : (d : DiagramsView) (r : Reader) (one other : Facts → RuleEnd) (p : Progress) (f : ℕ → Bool) → ((x : Facts) → one x ≡ other x)
    → prospects d r one p f ≡ prospects d r other p f
prospects-same d r one other p f same =
    ap (λ z. ends_for d r p.ends.items f ++ z) (map-same _ _ (λ w. same (facts_of r.interfaces.now w f)) (outcomes_for d p.passing.items f))

pub runs_more : (d0 d e : DiagramsView) (r : Reader) (set : PacketSet) (p q : Progress) (whole : (Facts → RuleEnd) → Facts → RuleEnd)
    (rest begun end : Facts → RuleEnd) → ((f : Facts) → whole rest f ≡ begun f) → Runs d0 d r set p begun end → Keeps d e → Advances d e r whole p q
    → Runs d0 e r set q rest end
runs_more d0 d e r set p q whole rest begun end is s k advances = record {
  keeps = keeps_trans d0 d e s.keeps k;
  sets = advances.sets;
  same = λ f.
      let same = prospects-same d r (whole rest) begun p f is ∙ s.same f in
      advances.same rest f (subst (λ z. length z ≤ 1) (sym same) (few_cond (holds d0 set f) (end (seen r f)))) ∙ same;
}

-- a statement's number, and whether it is the last
pub is_last : {A B : Type 0} (g : A → B) (xs : List A) (i number : ℕ) → number ≡ i + 1 → i < length xs
    → (number == length xs) ≡ (length (map g (drop (i + 1) xs)) == 0)
is_last g xs i number is inside =
    let long : length (map g (drop (i + 1) xs)) ≡ length xs - (i + 1) = length-map (drop (i + 1) xs) g ∙ length-drop (i + 1) xs in
    grind (arith, nat_tests)

pub statement_ends : {A S : Type 0} (p : Program S) (c n i number : ℕ) (last : Bool) (g : A → S) (xs : List A) (x : A) → number ≡ i + 1 → i < length xs
    → x ≡ get_or xs i x → last ≡ (length (map g (drop (i + 1) xs)) == 0) → (f : Facts)
    → end_behind last (rule_end p c n (i + 1 + 1) (map g (drop (i + 1) xs))) f (p.effect_of (statement_position p c n number) (g x) f)
    ≡ rule_end p c n (i + 1) (map g (drop i xs)) f
statement_ends p c n i number last g xs x counts inside at ends f =
    let ss = map g (drop (i + 1) xs) in
    let rest = rule_end p c n (i + 1 + 1) ss in
    let whole : drop i xs ≡ x ∷ drop (i + 1) xs = drop_more xs i x inside ∙ ap (λ y. y ∷ drop (i + 1) xs) (sym at) in
    ap (λ b. end_behind b rest f (p.effect_of (statement_position p c n number) (g x) f)) ends
    ∙ ap (λ j. end_behind (length ss == 0) rest f (p.effect_of (statement_position p c n j) (g x) f)) counts
    ∙ ap (λ l. rule_end p c n (i + 1) (map g l) f) (sym whole)

none_dropped : {A B : Type 0} (test : B → Bool) (g : A → B) (i : ℕ) (xs : List A) → list_any test (map g xs) ≡ false
    → list_any test (map g (drop i xs)) ≡ false
none_dropped test g zero xs none = none
none_dropped test g (suc i) [] none = refl
none_dropped test g (suc i) (x ∷ xs) none = none_dropped test g i xs (or_parts _ _ none).1

-- what holds of no statement doesn't of this one
pub none_at : {A B : Type 0} (test : B → Bool) (g : A → B) (xs : List A) (i : ℕ) (x : A) → i < length xs → x ≡ get_or xs i x
    → list_any test (map g xs) ≡ false → test (g x) ≡ false
none_at test g xs i x inside at none =
    let whole : drop i xs ≡ x ∷ drop (i + 1) xs = drop_more xs i x inside ∙ ap (λ y. y ∷ drop (i + 1) xs) (sym at) in
    (or_parts _ _ (ap (λ l. list_any test (map g l)) (sym whole) ∙ none_dropped test g i xs none)).0

-- where no statement is left
abbrev pub met : Facts → RuleEnd
met facts = record { facts = facts; verdict = None; met = true }

abbrev pub met_at : Case Written → Case End
met_at c = end_at c.set (record { written = c.outcome; verdict = None; met = true })

outcomes-append : (d : DiagramsView) (xs ys : List (Case End)) (f : ℕ → Bool) → outcomes_for d (xs ++ ys) f ≡ outcomes_for d xs f ++ outcomes_for d ys f
outcomes-append d [] ys f = refl
outcomes-append d (x ∷ xs) ys f =
    let first = cond (holds d x.set f) (x.outcome ∷ []) [] in
    ap (λ z. first ++ z) (outcomes-append d xs ys f) ∙ sym (append_assoc first (outcomes_for d xs f) (outcomes_for d ys f))

met-first : (b : Bool) (r : Reader) (w : Written) (f : ℕ → Bool) (xs : List End)
    → map (end_for r f) (cond b (record { written = w; verdict = None; met = true } ∷ []) [] ++ xs)
    ≡ cond b (met (facts_of r.interfaces.now w f) ∷ []) [] ++ map (end_for r f) xs
met-first true r w f xs = refl
met-first false r w f xs = refl

met-rest : (b : Bool) (w : Written) (g : Written → RuleEnd) (ws : List Written)
    → cond b (g w ∷ []) [] ++ map g ws ≡ map g (cond b (w ∷ []) [] ++ ws)
met-rest true w g ws = refl
met-rest false w g ws = refl

ends-met : (d : DiagramsView) (r : Reader) (cs : List (Case Written)) (f : ℕ → Bool)
    → ends_for d r (map met_at cs) f ≡ map (λ w. met (facts_of r.interfaces.now w f)) (outcomes_for d cs f)
ends-met d r [] f = refl
ends-met d r (c ∷ cs) f =
    let g = λ (w : Written). met (facts_of r.interfaces.now w f) in
    met-first (holds d c.set f) r c.outcome f (outcomes_for d (map met_at cs) f)
    ∙ ap (λ z. cond (holds d c.set f) (g c.outcome ∷ []) [] ++ z) (ends-met d r cs f)
    ∙ met-rest (holds d c.set f) c.outcome g (outcomes_for d cs f)

are-append : (d : DiagramsView) (xs : List (Case End)) (cs : List (Case Written)) → AreCases d xs → AreCases d cs → AreCases d (xs ++ map met_at cs)
are-append d [] [] a b = tt
are-append d [] (c ∷ cs) a b = (b.0, are-append d [] cs a b.1)
are-append d (x ∷ xs) cs a b = (a.0, are-append d xs cs a.1 b)

pub runs_all : (d0 d : DiagramsView) (r : Reader) (set : PacketSet) (p : Progress) (rest end : Facts → RuleEnd) (ends : List (Case End))
    → ((f : Facts) → rest f ≡ met f) → Runs d0 d r set p rest end → ends ≡ p.ends.items ++ map met_at p.passing.items
    → AddsEnds d0 d r set end [] ends
runs_all d0 d r set p rest end ends are_met s is = record {
  are = subst (AreCases d) (sym is) (are-append d p.ends.items p.passing.items s.sets.ends s.sets.passing);
  same = λ f.
      let es = outcomes_for d p.ends.items f in
      ap (λ l. ends_for d r l f) is ∙ ap (map (end_for r f)) (outcomes-append d p.ends.items (map met_at p.passing.items) f)
      ∙ map-append (end_for r f) es (outcomes_for d (map met_at p.passing.items) f) ∙ ap (λ z. map (end_for r f) es ++ z) (ends-met d r p.passing.items f)
      ∙ prospects-same d r met rest p f (λ x. sym (are_met x)) ∙ s.same f;
}
