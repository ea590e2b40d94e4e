-- What sets of packets tell of packets that come to a base chain.
use Rattle.std.proofs.Common.{◌≡◌, ◌∙◌, ◌&&◌, ◌==◌, inl, inr, not, ℕ, Bool, true, false, List, [], ◌∷◌, ◌++◌, map, refl, ap, sym, subst, arith, is_some}
use Rattle.std.proofs.Common.{Some, None, Option, length, All, eq-eqb, ◌<◌, get_or}
use Rattle.std.specs.List.{AllZip, list_any}
use Rattle.std.proofs.lemmas.Bool.{and_parts, eqb-true, false_from_ne_true}
use Rattle.std.proofs.lemmas.List.{map-append}
use Rattle.std.proofs.lemmas.List.Elements.{All-push, All-weaker, AllZip-get_or, Contains-append_left, Contains-append_right, length_all_zip}
use Rattle.nft_tree.specs.declared.ruleset.RuleNo.{RuleNo}
use Rattle.nft_tree.specs.Tree.{TableTree}
use Rattle.box_file.specs.Box.{PlantTree}
use Rattle.packet_sets.specs.Sets.{DiagramsView, holds}
use Rattle.rule_meaning.specs.declared.facts.Facts.{Facts}
use Rattle.rule_meaning.specs.declared.event.HookVerdict.{HookVerdict}
use Rattle.rule_meaning.specs.Hooks.{BaseChain}
use Rattle.fact_sets.specs.Boxes.{NOTHING}
use Rattle.fact_sets.specs.Facts.{facts_of}
use Rattle.fact_sets.proofs.BoxLaws.{have_bits}
use Rattle.rule_sets.specs.Ends.{outcomes_for}
use Rattle.rule_sets.specs.Interfaces.{interfaces_of}
use Rattle.chain_ways.specs.Ways.{comes_to, meets}
use Rattle.chain_sets.specs.declared.outcomes.ChainEnd.{ChainEnd}
use Rattle.chain_sets.specs.RuleSets.{sets_of}
use Rattle.chain_sets.specs.Ends.{end_of, end_with}
use Rattle.rule_reach.specs.declared.answers.Answer.{Answer}
use Rattle.rule_reach.specs.declared.answers.Answer.TheVariants.{Met, NotMatched, NotReached}
use Rattle.rule_reach.specs.declared.answers.PolicyReach.{PolicyReach}
use Rattle.rule_reach.specs.declared.answers.Reach.{Reach}
use Rattle.rule_reach.specs.declared.answers.RuleReach.{RuleReach}
use Rattle.rule_reach.specs.declared.sets.BaseSets.{BaseSets}
use Rattle.coming_sets.specs.Coming.{can_come}
use Rattle.rule_reach.specs.Reach.{Applies, IsAnswer, IsPolicyReach, NoPacket, SomePacket, comes_at, ends_at, is_end, meets_at}
use Rattle.chain_ways.specs.BaseWays.{base_way}
use Rattle.chain_ways.specs.BaseWays.{program_at}
use Rattle.rule_reach.specs.Sets.{AreBaseSets}
use Rattle.rule_reach.specs.steps.Rules.{IsReach}
use Rattle.rule_reach.specs.steps.Telling.{IsAnswerBy, IsHere, IsTold, SomeEnd, at_end}
use Rattle.rule_reach.proofs.BoxBits.{bits_of_box}
use Rattle.rule_reach.proofs.Groups.{answer_more, contains_one}

same-and : (x y : Bool) → x ≡ true → (x && y) ≡ y
same-and true y e = refl
same-and false y e = cc

module _ (network : PlantTree) (tables : List TableTree) (b : BaseChain) (d : DiagramsView) (sets : BaseSets)
    (w : AreBaseSets network tables d b sets) where
  pub some_packet : (test : Facts → Bool) (all : BaseChain → Facts → Bool) → ((f : Facts) → all b f ≡ test f) → (p : ℕ → Bool)
      → (holds d sets.coming p && test (facts_of (interfaces_of network) NOTHING p)) ≡ true → SomePacket network tables (b ∷ []) all
  some_packet test all same p passes =
      let f = facts_of (interfaces_of network) NOTHING p in
      let parts = and_parts (holds d sets.coming p) (test f) passes in
      record {
        base = b;
        among = (0, omega arith, refl);
        facts = f;
        comes = record { of_box = bits_of_box (interfaces_of network) p; can = sym (w.coming.same p) ∙ parts.0 };
        passes = same f ∙ parts.1;
      }

  pub no_packet : (test : Facts → Bool) (all : BaseChain → Facts → Bool) → ((f : Facts) → all b f ≡ test f)
      → ((p : ℕ → Bool) → (holds d sets.coming p && test (facts_of (interfaces_of network) NOTHING p)) ≡ false) → NoPacket network tables (b ∷ []) all
  no_packet test all same none = λ base f among comes.
      let here = contains_one b base among in
      let bits = have_bits (interfaces_of network) f comes.of_box in
      let can = w.coming.same bits.0 ∙ ap (can_come b) bits.1 ∙ ap (λ x. can_come x f) here ∙ comes.can in
      ap (λ x. all x f) (sym here) ∙ same f ∙ ap test (sym bits.1) ∙ sym (same-and (holds d sets.coming bits.0) _ can) ∙ none bits.0

  -- ---- rules

  comes_here : (r : RuleNo) → r.table ≡ b.number.table → (f : Facts) → comes_at network tables r b f ≡ comes_to r.chain r.rule (base_way network tables b f)
  comes_here r e f = same-and _ _ (eq-eqb b.number.table r.table (sym e))

  meets_here : (r : RuleNo) → r.table ≡ b.number.table → (f : Facts) → meets_at network tables r b f
      ≡ meets (program_at network tables b.number.table) r.chain r.rule (base_way network tables b f)
  meets_here r e f = same-and _ _ (eq-eqb b.number.table r.table (sym e))

  by_sets : (r : RuleNo) (x : Answer) → r.table ≡ b.number.table → IsAnswerBy d (sets_of sets.rules r.chain r.rule) x → IsAnswer network tables (b ∷ []) r x
  by_sets r Met e is = some_packet _ _ (meets_here r e) is.0 (sym ((w.on_ways.met r.chain r.rule).same is.0) ∙ is.1)
  by_sets r NotReached e is = no_packet _ _ (comes_here r e) (λ p. sym ((w.on_ways.reached r.chain r.rule).same p) ∙ is p)
  by_sets r NotMatched e is = (
    some_packet _ _ (comes_here r e) is.0.0 (sym ((w.on_ways.reached r.chain r.rule).same is.0.0) ∙ is.0.1),
    no_packet _ _ (meets_here r e) (λ p. sym ((w.on_ways.met r.chain r.rule).same p) ∙ is.1 p),
  )

  -- packets of a base chain come to no rule of another table
  elsewhere : (r : RuleNo) → (r.table ≡ b.number.table → ⊥) → NoPacket network tables (b ∷ []) (comes_at network tables r)
  elsewhere r apart = λ base f among comes.
      let here = contains_one b base among in
      let other = false_from_ne_true (b.number.table == r.table) (λ yes. apart (sym (eqb-true b.number.table r.table yes))) in
      ap (λ x. comes_at network tables r x f) (sym here) ∙ rw other refl

  answer_here : (old : RuleReach) (x : Answer) → IsHere d b.number.table (sets_of sets.rules) old x → IsAnswer network tables (b ∷ []) old.rule x
  answer_here old x (inl here) = by_sets old.rule x here.0 here.1
  answer_here old x (inr there) = subst (IsAnswer network tables (b ∷ []) old.rule) (sym there.1) (elsewhere old.rule there.0)

  answer_told : (bases : List BaseChain) (old now : RuleReach) → IsTold d b.number.table (sets_of sets.rules) old now
      → IsAnswer network tables bases old.rule old.answer → IsAnswer network tables (bases ++ b ∷ []) now.rule now.answer
  answer_told bases old now told was =
      let more = bases ++ b ∷ [] in
      subst (λ r. IsAnswer network tables more r now.answer) (sym told.rule) (subst (IsAnswer network tables more old.rule) (sym told.both)
      (answer_more network tables bases b old.rule old.answer told.answer was (answer_here old told.answer told.is_here)))

  answers_told : (bases : List BaseChain) (olds nows : List RuleReach) → AllZip (IsTold d b.number.table (sets_of sets.rules)) olds nows
      → All (λ r. IsAnswer network tables bases r.rule r.answer) olds → All (λ r. IsAnswer network tables (bases ++ b ∷ []) r.rule r.answer) nows
  answers_told bases olds nows told was = λ k x lt.
      let same = length_all_zip (IsTold d b.number.table (sets_of sets.rules)) olds nows told in
      let inside : k < length olds = omega arith in
      answer_told bases (get_or olds k x) (get_or nows k x) (AllZip-get_or (IsTold d b.number.table (sets_of sets.rules)) olds nows k x x told inside) (was k x inside)

  rules_told : (olds nows : List RuleReach) → AllZip (IsTold d b.number.table (sets_of sets.rules)) olds nows → map (λ r. r.rule) nows ≡ map (λ r. r.rule) olds
  rules_told [] [] told = refl
  rules_told (x ∷ xs) (y ∷ ys) told = let here = told.0.rule in let rest = rules_told xs ys told.1 in cc
  rules_told [] (y ∷ ys) told = absurd told
  rules_told (x ∷ xs) [] told = absurd told

  -- ---- the policy

  end-is : (v : Option HookVerdict) (f : Facts) → is_end (end_with v f) ≡ not (is_some v)
  end-is None f = refl
  end-is (Some v) f = refl

  ends-are : (p : ℕ → Bool) (es : List ChainEnd) → list_any is_end (map (end_of (interfaces_of network) p) es) ≡ list_any (λ e. not (is_some e.verdict)) es
  ends-are p [] = refl
  ends-are p (e ∷ es) = rw (end-is e.verdict (facts_of (interfaces_of network) e.written p), ends-are p es) refl

  ends_for : (p : ℕ → Bool) → (holds d sets.coming p && is_end (base_way network tables b (facts_of (interfaces_of network) NOTHING p)).end) ≡ at_end d sets.ends.items p
  ends_for p = sym (w.on_ways.they_end p is_end) ∙ ends-are p (outcomes_for d sets.ends.items p)

  policy_here : (x : Bool) → SomeEnd d sets.ends.items x → Applies network tables b x
  policy_here true is = some_packet (ends_at network tables b) (ends_at network tables) (λ f. refl) is.0 (ends_for is.0 ∙ is.1)
  policy_here false is = no_packet (ends_at network tables b) (ends_at network tables) (λ f. refl) (λ p. ends_for p ∙ is p)

  policy_kept : (bases : List BaseChain) (p : PolicyReach) → IsPolicyReach network tables bases p → IsPolicyReach network tables (bases ++ b ∷ []) p
  policy_kept bases p is = record {
    base = is.base;
    among = Contains-append_left bases (b ∷ []) is.base is.among;
    has_number = is.has_number;
    applies = is.applies;
  }

  -- ---- all that is told

  reach_here : (bases : List BaseChain) (old now : Reach) (x : Bool) → IsReach network tables bases old
      → AllZip (IsTold d b.number.table (sets_of sets.rules)) old.rules.items now.rules.items → SomeEnd d sets.ends.items x
      → now.policies.items ≡ old.policies.items ++ record { chain = sets.chain; applies = x } ∷ [] → IsReach network tables (bases ++ b ∷ []) now
  reach_here bases old now x was told ended pushed =
      let more = bases ++ b ∷ [] in
      let one : PolicyReach = record { chain = sets.chain; applies = x } in
      let its : IsPolicyReach network tables more one = record {
        base = b;
        among = Contains-append_right bases (b ∷ []) b (0, omega arith, refl);
        has_number = sym w.chain;
        applies = policy_here x ended;
      } in
      record {
        rules = rules_told old.rules.items now.rules.items told ∙ was.rules;
        answers = answers_told bases old.rules.items now.rules.items told was.answers;
        policies = ap (map (λ p. p.chain)) pushed ∙ map-append (λ p. p.chain) old.policies.items (one ∷ [])
            ∙ ap (λ l. l ++ sets.chain ∷ []) was.policies ∙ ap (λ n. map (λ c. c.number) bases ++ n ∷ []) w.chain ∙ sym (map-append (λ c. c.number) bases (b ∷ []));
        applies = subst (All (IsPolicyReach network tables more)) (sym pushed) (All-push (IsPolicyReach network tables more) old.policies.items one
            (All-weaker (IsPolicyReach network tables bases) (IsPolicyReach network tables more) (policy_kept bases) old.policies.items was.applies) its);
      }

  -- where the sets name the base chain
  pub reach_more : (bases : List BaseChain) (old now : Reach) (x : Bool) → IsReach network tables bases old
      → AllZip (IsTold d sets.chain.table (sets_of sets.rules)) old.rules.items now.rules.items → SomeEnd d sets.ends.items x
      → now.policies.items ≡ old.policies.items ++ record { chain = sets.chain; applies = x } ∷ [] → IsReach network tables (bases ++ b ∷ []) now
  reach_more bases old now x was told =
      reach_here bases old now x was (subst (λ n. AllZip (IsTold d n.table (sets_of sets.rules)) old.rules.items now.rules.items) w.chain told)
