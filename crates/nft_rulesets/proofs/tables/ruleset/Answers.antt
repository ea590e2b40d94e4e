use Rattle.std.proofs.Common.{◌≡◌, List, Option, Some, None, sym}
use Rattle.std.proofs.lemmas.Result.{IfOk-weaker}
use Rattle.std.specs.Prelude.{IfSome, IsSomeAnd}
use Rattle.std.specs.Option.{option_map}
use Rattle.list_laws.specs.Options.{IfSome_at}
use Rattle.nft_lexer.specs.Terminal.{Terminal}
use Rattle.nft_lexer.specs.TokenViews.{terminals}
use Rattle.nft_tree.specs.Tree.{TableTree}
use Rattle.nft_tree.specs.TreeViews.{tables_of}
use Rattle.nft_rulesets.specs.Rulesets.{SpellsRuleset}
use Rattle.nft_rulesets.specs.steps.Laws.{ruleset_at, ruleset_found, ruleset_only}
use Rattle.nft_rulesets.proofs.tables.ruleset.Goals as goal

found_so : {X : Type 0} (view : X → List TableTree) (ts : List Terminal) (o : Option X)
    → option_map view o ≡ ruleset_at ts → IfSome o (λ x. SpellsRuleset (view x) ts)
found_so view ts None e = tt
found_so view ts (Some x) e = IfSome_at (ruleset_at ts) (λ tables. SpellsRuleset tables ts) (view x) (sym e)
    (ruleset_found ts)

only_so : {X : Type 0} (view : X → List TableTree) (ts : List Terminal) (o : Option X)
    → option_map view o ≡ ruleset_at ts → (tables : List TableTree) → SpellsRuleset tables ts
    → IsSomeAnd o (λ x. view x ≡ tables)
only_so view ts None e tables s = absurd (cc (e, ruleset_only tables ts s))
only_so view ts (Some x) e tables s = cc (e, ruleset_only tables ts s)

pub returns-clause-found : goal.returns-clause-found
returns-clause-found c = IfOk-weaker c.whole.result _ _ (found_so tables_of (terminals c.args.tokens.now))
    c.whole.ensures

pub returns-clause-only : goal.returns-clause-only
returns-clause-only c = λ tables s. IfOk-weaker c.whole.result
    _ _ (λ o e. only_so tables_of (terminals c.args.tokens.now) o e tables s) c.whole.ensures
