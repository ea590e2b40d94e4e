use Rattle.std.proofs.Common.{arith, subst, sym}
use Rattle.std.proofs.lemmas.List.{take_all}
use Rattle.set_lines.specs.Lines.{number_in}
use Rattle.set_lines.specs.steps.Parts.{AreLines, AreWays, ways_with}
use Rattle.set_lines.proofs.LineLaws.{lines_first, lines_last, lines_more}
use Rattle.set_lines.proofs.listing.+set_lines.Goals as goal

pub loop-way-init : goal.loop-way-init
loop-way-init t c = record {
  few = let f = c.none-found.ensures.few in omega arith;
  lines =
      lines_first c.args.diagrams.now c.args.set c.in-Some.field.now c.deref-way-items.result.now c.none-found.result c.none-found.ensures.lines;
}

pub loop-way-preserved : goal.loop-way-preserved
loop-way-preserved t c =
    let d = c.args.diagrams.now in
    let ways = rw c.in-Some-2.is at c.in_ok-ways.ensures in
    let are : AreWays d c.args.set c.in-Some.field.now c.deref-way-items.result.now =
    subst (λ xs. AreWays d c.args.set c.in-Some.field.now xs) (sym c.deref-way-items.ensures.value) ways in
    record {
      few =
          let count = c.in_ok-add.ensures.count in
          let left = c.in_ok-more.ensures.few in
          let len = c.len.ensures in
          let before = c.loop-way.invariant.few in
          omega arith;
      lines =
          lines_more d c.args.set c.in-Some.field.now c.deref-way-items.result.now c.loop-way.way-index c.way-item.result c.deref.result.now c.loop-way.found
          c.in_ok-more.more c.add.new.self c.loop-way-test.true c.way-item.is are c.deref.ensures.value c.loop-way.invariant.lines c.in_ok-more.ensures.lines
          c.in_ok-add.ensures.lines c.in_ok-add.ensures.more;
    }

pub returns-clause-lines : goal.returns-clause-lines
returns-clause-lines t c =
    let d = c.args.diagrams.now in
    let field = c.in-Some.field.now in
    let ways = rw c.in-Some-2.is at c.in_ok-ways.ensures in
    let are : AreWays d c.args.set field c.deref-way-items.result.now =
    subst (λ xs. AreWays d c.args.set field xs) (sym c.deref-way-items.ensures.value) ways in
    lines_last d c.args.set field c.deref-way-items.result.now c.loop-way.found are
    (subst (λ ws. AreLines d c.args.set (λ packet. ways_with ws (number_in field packet)) c.loop-way.found)
    (take_all c.loop-way.way-index c.deref-way-items.result.now c.loop-way-test.false) c.loop-way.invariant.lines)
