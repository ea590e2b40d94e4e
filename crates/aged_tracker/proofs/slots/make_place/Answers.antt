use Rattle.std.proofs.Common.{List, [], get_or, refl, rules, suc, zero, ℕ, ◌++◌, ◌∙◌, ◌∷◌, ◌≡◌, arith}
use Rattle.std.proofs.lemmas.Grind.{common_steps}
use Rattle.aged_tracker.proofs.slots.make_place.Goals as goal

-- one more filler is what is read past the end anyway
filled : {X : Type 0} (xs : List X) (filler : X) (other : ℕ)
    → get_or (xs ++ filler ∷ []) other filler ≡ get_or xs other filler
filled [] filler zero = refl
filled [] filler (suc other) = refl
filled (x ∷ xs) filler zero = refl
filled (x ∷ xs) filler (suc other) = filled xs filler other

pub loop-filler-init : goal.loop-filler-init
loop-filler-init g c = search rules

pub loop-filler-smaller : goal.loop-filler-smaller
loop-filler-smaller g c = grind (arith, common_steps)

pub loop-filler-preserved : goal.loop-filler-preserved
loop-filler-preserved g c = (
  λ other. rw c.in_ok-push.ensures.items
      (filled c.loop-filler.list.items c.args.filler other ∙ c.loop-filler.invariant.0 other),
  grind (arith, common_steps, c.loop-filler.invariant.1, c.in_ok-push.ensures.items),
  λ within. grind (arith, common_steps, c.loop-filler.invariant.1),
)

pub returns-in_err-push-clause-items : goal.returns-in_err-push-clause-items
returns-in_err-push-clause-items g c other = grind (arith, common_steps, c.loop-filler.invariant.0 other)

pub returns-in_err-push-clause-length : goal.returns-in_err-push-clause-length
returns-in_err-push-clause-length g c = grind (arith, common_steps)

pub returns-in_err-push-clause-spared : goal.returns-in_err-push-clause-spared
returns-in_err-push-clause-spared g c = grind (arith, common_steps)

pub returns-clause-items : goal.returns-clause-items
returns-clause-items g c = c.loop-filler.invariant.0

pub returns-clause-length : goal.returns-clause-length
returns-clause-length g c = c.loop-filler.invariant.1

pub returns-clause-spared : goal.returns-clause-spared
returns-clause-spared g c within = (c.loop-filler.invariant.2 within, search rules)
