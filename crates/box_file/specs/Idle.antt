-- Idle timeouts of connections: the kinds that a box file distinguishes, their defaults and their ranges,
-- all in seconds.
use Rattle.std.specs.Prelude.{refl, ℕ, ◌==◌, Bool, List, codes}
use Rattle.box_file.specs.declared.idle_line.IdleKind.{IdleKind}
use Rattle.box_file.specs.declared.idle_line.IdleKind.TheVariants.{Udp, Established, Transitory, Echo, Other}
use Rattle.box_file.specs.declared.limits.Limits.{Limits}

-- the defaults: TCP established 2 h 4 min, TCP opening or closing 4 min, the minima of RFC 5382, REQ-5; UDP
-- 5 min, as recommended by RFC 4787, REQ-5; ICMP echo 1 min, the minimum of RFC 5508, REQ-2; other protocols
-- 10 min (own)
abbrev pub usual_limits : Limits
usual_limits = record {
  established = 7440;
  transitory = 240;
  udp = 300;
  echo = 60;
  other = 600;
  positive = refl;
}

-- the keyword of a kind in a box file
abbrev pub word_of : IdleKind → List ℕ
word_of Udp = codes "udp"
word_of Established = codes "established"
word_of Transitory = codes "transitory"
word_of Echo = codes "ask"
word_of Other = codes "other"

abbrev pub number_of : IdleKind → ℕ
number_of Udp = 0
number_of Established = 1
number_of Transitory = 2
number_of Echo = 3
number_of Other = 4

abbrev pub is_same_kind : IdleKind → IdleKind → Bool
is_same_kind one other = number_of one == number_of other

-- the timeout of a kind
abbrev pub limit_for : Limits → IdleKind → ℕ
limit_for limits Udp = limits.udp
limit_for limits Established = limits.established
limit_for limits Transitory = limits.transitory
limit_for limits Echo = limits.echo
limit_for limits Other = limits.other

-- the smallest timeout that a box file may set: UDP 2 min (RFC 4787, REQ-5); TCP established 2 h 4 min, TCP
-- opening or closing 4 min (RFC 5382, REQ-5); the others 1 s (own)
abbrev pub minimum_for : IdleKind → ℕ
minimum_for Udp = 120
minimum_for Established = 7440
minimum_for Transitory = 240
minimum_for Echo = 1
minimum_for Other = 1

-- the largest: a week (own)
abbrev pub max_idle_seconds : ℕ
max_idle_seconds = 604800
