-- Outcomes of records in the report's order and words (own).
use Rattle.std.specs.Prelude.{ℕ, ◌==◌, Bool, true, false, List, [], ◌∷◌, codes}
use Rattle.history.specs.declared.outcome.Cause.{Cause}
use Rattle.history.specs.declared.outcome.Cause.TheVariants.{Link, Interface, NotIp, Short, Version}
use Rattle.history.specs.declared.outcome.Cause.TheVariants.{HeaderLength}
use Rattle.history.specs.declared.outcome.Cause.TheVariants.{Length, Truncated, Checksum, Fragment}
use Rattle.history.specs.declared.outcome.Cause.TheVariants.{Transport, Rule}
use Rattle.history.specs.declared.outcome.Cause.TheVariants.{Route, Ttl, NoPort, Full, Clash}
use Rattle.history.specs.declared.outcome.Outcome.{Outcome}
use Rattle.history.specs.declared.outcome.Outcome.TheVariants.{Passed, Local, Dropped}

-- the causes of drops in the report's order
abbrev pub causes : List Cause
causes =
    Link ∷ Interface ∷ NotIp ∷ Short ∷ Version ∷ HeaderLength ∷ Length ∷ Truncated ∷ Checksum ∷ Fragment
    ∷ Transport ∷
    Rule ∷ Route ∷ Ttl ∷ NoPort ∷ Full ∷ Clash ∷ []

abbrev pub report_word : Cause → List ℕ
report_word Link = codes "link"
report_word Interface = codes "interface"
report_word NotIp = codes "notip"
report_word Short = codes "short"
report_word Version = codes "version"
report_word HeaderLength = codes "hlen"
report_word Length = codes "length"
report_word Truncated = codes "truncated"
report_word Checksum = codes "checksum"
report_word Fragment = codes "fragment"
report_word Transport = codes "transport"
report_word Rule = codes "rule"
report_word Route = codes "route"
report_word Ttl = codes "ttl"
report_word NoPort = codes "noport"
report_word Full = codes "full"
report_word Clash = codes "clash"

-- the index of a cause in the report's order, from 0, by which causes are compared
abbrev pub report_index : Cause → ℕ
report_index Link = 0
report_index Interface = 1
report_index NotIp = 2
report_index Short = 3
report_index Version = 4
report_index HeaderLength = 5
report_index Length = 6
report_index Truncated = 7
report_index Checksum = 8
report_index Fragment = 9
report_index Transport = 10
report_index Rule = 11
report_index Route = 12
report_index Ttl = 13
report_index NoPort = 14
report_index Full = 15
report_index Clash = 16

abbrev pub is_passed : Outcome → Bool
is_passed (Passed interface) = true
is_passed _ = false

abbrev pub is_local : Outcome → Bool
is_local Local = true
is_local _ = false

abbrev pub is_dropped_for : Cause → Outcome → Bool
is_dropped_for cause (Dropped other) = report_index other == report_index cause
is_dropped_for cause _ = false
