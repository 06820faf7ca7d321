use Rattle.std.proofs.Common.{◌∙◌, ◌≤◌, arith}
use Rattle.fc_tree.proofs.TakenLemmas.{row_more, row_ends, row_last}
use Rattle.fc_tree.proofs.taken.Taken.take_extent.Goals as goal

pub loop-sector-preserved : goal.loop-sector-preserved
loop-sector-preserved c =
    let e = c.args.extent.now in
    let i = c.loop-sector.invariant in
    let on : c.loop-sector.sector ≤ c.mark_to-sector.result = omega (arith, c.mark_to-sector.ensures.from) in
    record {
      from = omega (arith, i.from, on);
      within = λ _. c.mark_to-sector.ensures.end;
      sectors = c.mark_to-sector.ensures.sectors ∙ i.sectors;
      taken = λ taken h. row_more c.loop-sector.self c.mark_to-sector.new.self e.first c.loop-sector.sector c.mark_to-sector.result taken i.from on c.mark_to-sector.ensures.sectors c.mark_to-sector.ensures.marks (i.taken taken h);
    }

pub returns-clause-taken : goal.returns-clause-taken
returns-clause-taken c = λ taken h.
    let e = c.args.extent.now in
    let i = c.loop-sector.invariant in
    row_ends c.loop-sector.self e.first c.loop-sector.sector e.sectors taken i.from
    (row_last e.first c.end_of-end.result c.loop-sector.sector e.sectors c.loop-sector.self.sectors (omega (arith, c.loop-sector-test.false)) i.within (rw (← i.sectors) at c.end_of-end.ensures.last)) (i.taken taken h)
