-- What rules read of connections after small histories. (own)
use Rattle.std.specs.Prelude.{ℕ, Bool, false, List}
use Rattle.box_file.specs.Idle.{usual_limits}
use Rattle.ip_headers.specs.declared.tuple.Tuple.{Tuple}
use Rattle.conntrack.specs.declared.connection.Flags.{Flags}
use Rattle.conntrack.specs.Histories.{TrackedPacket, belongs}
use Rattle.rule_meaning.specs.declared.facts.CtState.{CtState}
use Rattle.ip_headers.specs.declared.tuple.Direction.{Direction}
use Rattle.rule_meaning.specs.declared.facts.CtFacts.{CtFacts}
use Rattle.rule_meaning.specs.declared.facts.CtFacts.TheVariants.{Known}
use Rattle.translation.specs.CtInfos.{ct_facts_of, ct_info_by}

-- a packet with this tuple and these flags, looked up at this time
abbrev pub facts_read : List TrackedPacket → ℕ → Tuple → Flags → CtFacts
facts_read history now t flags = ct_facts_of (ct_info_by t (belongs usual_limits history now t flags))

-- of a connection without NAT and with mark 0
abbrev pub facts_untranslated : CtState → Direction → Bool → CtFacts
facts_untranslated state direction seen_reply = Known (record {
  state = state;
  direction = direction;
  mark = 0;
  seen_reply = seen_reply;
  source_translated = false;
  destination_translated = false;
})
