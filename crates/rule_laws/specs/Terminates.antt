-- Termination. (own)
use Rattle.std.specs.Prelude.{List}
use Rattle.rule_meaning.specs.declared.facts.Facts.{Facts}
use Rattle.rule_meaning.specs.declared.event.Event.{Event}
use Rattle.rule_meaning.specs.Hooks.{HookResult, Traversal}

-- the traversal has a result for all facts and events before
abbrev pub Terminates : Traversal → Type 0
Terminates traversal = (f : Facts) (es : List Event) → (hook_result : HookResult) × traversal f es hook_result
