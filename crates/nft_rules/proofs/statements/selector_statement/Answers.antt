use Rattle.std.proofs.Common.{◌≡◌, None, arith, rules}
use Rattle.std.proofs.lemmas.Grind.{common_steps}
use Rattle.token_reader.specs.Readers.{remaining}
use Rattle.nft_rules.specs.Rules.{set_mark, verdict_map}
use Rattle.nft_rules.specs.steps.Reading.{matches}
use Rattle.nft_rules.proofs.statements.selector_statement.Goals as goal
use Rattle.nft_rules.proofs.statements.selector_statement.Goals.{In_default, In_default-2}

no_mark : (c : In_default) → set_mark.read (remaining c.args.tokens.now c.args.at) ≡ None
unfolding set_mark
no_mark c = grind (arith, common_steps)

no_map : (c : In_default-2) → verdict_map.read (remaining c.args.tokens.now c.args.at) ≡ None
unfolding verdict_map
no_map c = grind (arith, common_steps)

pub returns-4 : goal.returns-4
unfolding matches
returns-4 c =
    let at = goal.at.returns-4 c in
    rw (no_mark at.In_default, no_map at.In_default-2) (search rules)

pub returns-5 : goal.returns-5
unfolding matches
returns-5 c =
    let at = goal.at.returns-5 c in
    rw (no_mark at.In_default, no_map at.In_default-2) (search rules)
