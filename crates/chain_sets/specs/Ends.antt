-- The facts and the ends of a packet's way, by what rules have written. (own)
use Rattle.std.specs.Prelude.{ℕ, Bool, List, Option, Some, None}
use Rattle.rule_meaning.specs.declared.facts.Facts.{Facts}
use Rattle.rule_meaning.specs.declared.facts.Interface.{Interface}
use Rattle.rule_meaning.specs.declared.event.HookVerdict.{HookVerdict}
use Rattle.fact_sets.specs.Facts.{facts_of}
use Rattle.chain_ways.specs.Ways.{WayEnd, ended, over}
use Rattle.chain_sets.specs.declared.outcomes.ChainEnd.{ChainEnd}

-- with the verdict, or at the chain's end, and the facts then
abbrev pub end_with : Option HookVerdict → Facts → WayEnd
end_with None f = ended f
end_with (Some verdict) f = over verdict f

-- how the way of a packet ends that is in a case with this end, whichever rule's verdict it is
abbrev pub end_of : List Interface → (ℕ → Bool) → ChainEnd → WayEnd
end_of interfaces packet e = end_with e.verdict (facts_of interfaces e.written packet)
