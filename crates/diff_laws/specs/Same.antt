-- When two rulesets do the same at each stage of hooks, and what of two runs is the same. (own)
use Rattle.std.specs.Prelude.{◌≡◌, ℕ, Bool, List, [], length, map}
use Rattle.nft_tree.specs.Tree.{TableTree}
use Rattle.rule_meaning.specs.declared.facts.Facts.{Facts}
use Rattle.rule_meaning.specs.declared.stage.HookStage.{HookStage}
use Rattle.rule_meaning.specs.Same.{SameAt}
use Rattle.history.specs.Setup.{Setup}
use Rattle.history.specs.History.{Entry, capture_text, live_in}
use Rattle.report.specs.Report.{totals}
use Rattle.diff_laws.specs.Coming.{ComesTo}

-- ---- rulesets

-- the box with another ruleset
abbrev pub with_rules : List TableTree → Setup → Setup
with_rules new setup = record setup { rules = new }

-- each packet that comes to a stage has the same results there by the setup's ruleset and by the other one
abbrev pub SameStages : Setup → List TableTree → Type 0
SameStages setup new =
    (stage : HookStage) (f : Facts) → ComesTo setup stage f → SameAt setup.network setup.rules new stage f

-- ---- histories

-- an entry but for its events, which name rules
abbrev pub without_events : Entry → Entry
without_events e = record e { events = [] }

-- entry by entry the same but for events
abbrev pub SameHistories : (history other : List Entry) → Type 0
SameHistories history other = map without_events history ≡ map without_events other

-- the totals of the report, from `records` to `torn`
abbrev pub totals_of : Setup → List Entry → Bool → List ℕ
totals_of setup history torn = totals history (length (live_in setup history)) torn

-- they write the same capture and the same totals, on the same box
pub record SameOutputs (setup : Setup) (new : List TableTree) (history other : List Entry) : Type 0 where
  pub captures : capture_text history ≡ capture_text other
  pub totals : (torn : Bool) → totals_of setup history torn ≡ totals_of (with_rules new setup) other torn
