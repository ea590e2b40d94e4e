-- Where packets go on behind a rule: so that their ways do as nft(8) says, "Verdict statements".
use Rattle.std.specs.Prelude.{◌≡◌, ℕ, Option}
use Rattle.nft_tree.specs.Tree.{Statement}
use Rattle.rule_meaning.specs.declared.event.RuleVerdict.{RuleVerdict}
use Rattle.rule_meaning.specs.declared.facts.Facts.{Facts}
use Rattle.chain_ways.specs.declared.exits.RuleExit.{RuleExit}
use Rattle.chain_ways.specs.declared.exits.RuleExit.TheVariants.{Next, End, Over, Jump, Goto}
use Rattle.chain_ways.specs.Ways.{Way, after_verdict, ended, ends_here, over, then_back}

-- the way from an exit on, by those through other chains and through the rules behind
abbrev pub after_exit : (into : ℕ → Facts → Way Statement) → (rest : Facts → Way Statement) → RuleExit → Facts
    → Way Statement
after_exit into rest Next f = rest f
after_exit into rest End f = ends_here (ended f)
after_exit into rest (Over verdict) f = ends_here (over verdict f)
after_exit into rest (Jump chain) f = then_back rest (into chain f)
after_exit into rest (Goto chain) f = into chain f

-- whatever those are, it is the way behind the verdict
abbrev pub IsExit : Option RuleVerdict → RuleExit → Type 0
IsExit verdict exit = (into : ℕ → Facts → Way Statement) (rest : Facts → Way Statement) (f : Facts)
    → after_exit into rest exit f ≡ after_verdict into rest verdict f
