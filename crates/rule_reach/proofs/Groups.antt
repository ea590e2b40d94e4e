-- Answers for one more base chain.
use Rattle.std.proofs.Common.{◌≡◌, ◌&&◌, inl, inr, Bool, true, false, List, [], ◌∷◌, ◌++◌, refl, arith, Contains}
use Rattle.std.specs.List.{list_any}
use Rattle.std.proofs.lemmas.Bool.{or_parts}
use Rattle.std.proofs.lemmas.List.Elements.{Contains-append_cases, Contains-append_left, Contains-append_right, Contains-push_cases}
use Rattle.nft_tree.specs.declared.ruleset.RuleNo.{RuleNo}
use Rattle.nft_tree.specs.Tree.{TableTree}
use Rattle.box_file.specs.Box.{PlantTree}
use Rattle.rule_meaning.specs.declared.facts.Facts.{Facts}
use Rattle.rule_meaning.specs.Hooks.{BaseChain}
use Rattle.rule_reach.specs.declared.answers.Answer.{Answer}
use Rattle.rule_reach.specs.declared.answers.Answer.TheVariants.{Met, NotMatched, NotReached}
use Rattle.chain_ways.specs.Ways.{is_of_rule}
use Rattle.rule_reach.specs.Reach.{IsAnswer, NoPacket, SomePacket, comes_at, meets_at}
use Rattle.chain_ways.specs.BaseWays.{base_way}
use Rattle.rule_reach.specs.steps.Answering.{better}

pub contains_one : {X : Type 0} (b x : X) → Contains (b ∷ []) x → b ≡ x
contains_one b x has = elim (Contains-push_cases [] b x has) [ inl none ↦ let lt = none.1 in absurd (omega arith) | inr is ↦ is ]

-- ---- who meets a rule comes to it

any-both : {X : Type 0} (p q : X → Bool) (xs : List X) → list_any p xs ≡ false → list_any (λ x. p x && q x) xs ≡ false
any-both p q [] none = refl
any-both p q (x ∷ xs) none =
    let parts = or_parts (p x) (list_any p xs) none in
    rw (parts.0, any-both p q xs parts.1) refl

and-less : (a b c : Bool) → (b ≡ false → c ≡ false) → (a && b) ≡ false → (a && c) ≡ false
and-less true b c less none = less none
and-less false b c less none = refl

module _ (network : PlantTree) (tables : List TableTree) where
  pub none_met : (bases : List BaseChain) (r : RuleNo) → NoPacket network tables bases (comes_at network tables r) → NoPacket network tables bases
      (meets_at network tables r)
  none_met bases r none = λ b f among comes.
      and-less _ _ _ (any-both (is_of_rule r.chain r.rule) _ (base_way network tables b f).visits) (none b f among comes)

  -- ---- one more base chain

  pub some_more : (bases : List BaseChain) (b : BaseChain) (test : BaseChain → Facts → Bool) → SomePacket network tables bases test
      → SomePacket network tables (bases ++ b ∷ []) test
  some_more bases b test s = record {
    base = s.base;
    among = Contains-append_left bases (b ∷ []) s.base s.among;
    facts = s.facts;
    comes = s.comes;
    passes = s.passes;
  }

  pub some_new : (bases : List BaseChain) (b : BaseChain) (test : BaseChain → Facts → Bool) → SomePacket network tables (b ∷ []) test
      → SomePacket network tables (bases ++ b ∷ []) test
  some_new bases b test s = record {
    base = s.base;
    among = Contains-append_right bases (b ∷ []) s.base s.among;
    facts = s.facts;
    comes = s.comes;
    passes = s.passes;
  }

  pub none_more : (bases : List BaseChain) (b : BaseChain) (test : BaseChain → Facts → Bool) → NoPacket network tables bases test
      → NoPacket network tables (b ∷ []) test → NoPacket network tables (bases ++ b ∷ []) test
  none_more bases b test old new = λ base f among comes.
      elim (Contains-append_cases bases (b ∷ []) base among) [ inl before ↦ old base f before comes | inr here ↦ new base f here comes ]

  pub answer_more : (bases : List BaseChain) (b : BaseChain) (r : RuleNo) (x y : Answer) → IsAnswer network tables bases r x
      → IsAnswer network tables (b ∷ []) r y → IsAnswer network tables (bases ++ b ∷ []) r (better x y)
  answer_more bases b r Met Met old new = some_more bases b (meets_at network tables r) old
  answer_more bases b r Met NotReached old new = some_more bases b (meets_at network tables r) old
  answer_more bases b r Met NotMatched old new = some_more bases b (meets_at network tables r) old
  answer_more bases b r NotReached Met old new = some_new bases b (meets_at network tables r) new
  answer_more bases b r NotMatched Met old new = some_new bases b (meets_at network tables r) new
  answer_more bases b r NotReached NotReached old new = none_more bases b (comes_at network tables r) old new
  answer_more bases b r NotReached NotMatched old new = (
    some_new bases b (comes_at network tables r) new.0,
    none_more bases b (meets_at network tables r) (none_met bases r old) new.1,
  )
  answer_more bases b r NotMatched NotReached old new = (
    some_more bases b (comes_at network tables r) old.0,
    none_more bases b (meets_at network tables r) old.1 (none_met (b ∷ []) r new),
  )
  answer_more bases b r NotMatched NotMatched old new = (
    some_more bases b (comes_at network tables r) old.0,
    none_more bases b (meets_at network tables r) old.1 new.1,
  )
