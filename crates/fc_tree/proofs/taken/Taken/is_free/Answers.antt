use Rattle.std.proofs.Common.{◌≡◌, sym, arith}
use Rattle.fc_tree.proofs.TakenLemmas.{row_free, row_taken, row_last}
use Rattle.fc_tree.proofs.taken.Taken.is_free.Goals as goal

pub returns-then-next-sector : goal.returns-then-next-sector
returns-then-next-sector c =
    let e = c.args.extent.now in
    let at = c.loop-sector.sector in
    let low = c.end_of-end.ensures.disc in
    let here : c.free_to-next.result ≡ at = omega (arith, c.if-next-sector.true) in
    let last = (c.end_of-end.ensures.last at (omega (arith, low, c.loop-sector-test.true)) c.loop-sector.invariant.from).0 (omega (arith, c.loop-sector-test.true)) in
    sym (row_taken c.args.self.now e.first at e.sectors c.loop-sector.invariant.from (omega (arith, low, c.loop-sector-test.true)) last (c.free_to-next.ensures.taken here))

pub returns : goal.returns
returns c =
    let e = c.args.extent.now in
    sym (row_free c.args.self.now e.first c.loop-sector.sector e.sectors c.loop-sector.invariant.from
    (row_last e.first c.end_of-end.result c.loop-sector.sector e.sectors c.args.self.now.sectors (omega (arith, c.loop-sector-test.false)) c.loop-sector.invariant.within c.end_of-end.ensures.last) c.loop-sector.invariant.none)
