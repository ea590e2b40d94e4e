use Rattle.coming_sets.specs.Coming.{is_at, is_packet}
use Rattle.coming_sets.specs.Bases.{base_chain}
use Rattle.fact_sets.specs.Cases.{seen}
use Rattle.fact_sets.proofs.SetLaws.{keeps_trans, keeps_twice}
use Rattle.coming_sets.proofs.Matching.{and_after}
use Rattle.coming_sets.proofs.can_come.coming.Goals as goal

pub returns-in_err-places-clause-keeps : goal.returns-in_err-places-clause-keeps
returns-in_err-places-clause-keeps c =
    keeps_trans c.args.diagrams.now c.packets.new.diagrams c.places.new.diagrams c.packets.ensures.keeps c.places.ensures.keeps

pub returns-clause-keeps : goal.returns-clause-keeps
returns-clause-keeps c = keeps_twice c.args.diagrams.now c.packets.new.diagrams c.places.new.diagrams c.and.new.self c.packets.ensures.keeps
    c.places.ensures.keeps c.and.ensures.keeps

pub returns-clause-value : goal.returns-clause-value
returns-clause-value c =
    and_after c.packets.new.diagrams c.places.new.diagrams c.and.new.self c.in_ok-packets.packets c.in_ok-places.places
    (λ f. is_packet (seen c.args.reader f)) (λ f. is_at (base_chain c.args.base) (seen c.args.reader f)) c.and.result c.places.ensures.keeps
    c.in_ok-packets.ensures.value c.in_ok-places.ensures.value c.and.ensures.value
