use Rattle.conntrack.proofs.Names.{ap, arith, live_at, live_list, map, sym, without_id, ◌∙◌}
use Rattle.conntrack.proofs.Packets.{live_alike, live_at-later, live_list-later}
use Rattle.conntrack.proofs.laws.still_represents.Goals as goal

pub returns-clause-later : goal.returns-clause-later
returns-clause-later c = λ limits held history now later le s. record {
  reached = omega (arith, s.reached);
  live =
      ap (map without_id) (sym (live_at-later limits now later held le))
      ∙ live_alike (live_at limits now held) (live_list limits history now) s.live limits later
      ∙ ap (map without_id) (sym (live_list-later limits history now later le));
}

pub returns-clause-live : goal.returns-clause-live
returns-clause-live c = grind arith
