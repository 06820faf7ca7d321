use Rattle.std.proofs.Common.{sym, arith}
use Rattle.fc_objects.proofs.WriteLemmas.{end_padded, padded_front}
use Rattle.fc_objects.proofs.writer.write_next.Goals as goal

pub returns-then-whole-count-clause-written : goal.returns-then-whole-count-clause-written
returns-then-whole-count-clause-written g c = rw (padded_front c.args.whole c.args.from.now (omega (arith, c.if-whole-count.true))) c.write_row.ensures.written

pub returns-then-whole-count-clause-old_or_new : goal.returns-then-whole-count-clause-old_or_new
returns-then-whole-count-clause-old_or_new g c = rw (padded_front c.args.whole c.args.from.now (omega (arith, c.if-whole-count.true))) c.write_row.ensures.old_or_new

pub returns-then-whole-count-clause-stops : goal.returns-then-whole-count-clause-stops
returns-then-whole-count-clause-stops g c = rw (padded_front c.args.whole c.args.from.now (omega (arith, c.if-whole-count.true))) c.write_row.ensures.stops

pub returns-then-whole-le-SHORT_ROW-clause-written : goal.returns-then-whole-le-SHORT_ROW-clause-written
returns-then-whole-le-SHORT_ROW-clause-written g c =
    let is = end_padded c.args.whole 2048 c.args.from.now c.copy_from_slice.new.self c.copy_from_slice.ensures.after (omega (arith, c.if-whole-count.false)) (omega (arith, c.if-whole-le-SHORT_ROW.true)) in
    rw (sym is) c.write_row-then-whole-le-SHORT_ROW.ensures.written

pub returns-then-whole-le-SHORT_ROW-clause-old_or_new : goal.returns-then-whole-le-SHORT_ROW-clause-old_or_new
returns-then-whole-le-SHORT_ROW-clause-old_or_new g c =
    let is = end_padded c.args.whole 2048 c.args.from.now c.copy_from_slice.new.self c.copy_from_slice.ensures.after (omega (arith, c.if-whole-count.false)) (omega (arith, c.if-whole-le-SHORT_ROW.true)) in
    rw (sym is) c.write_row-then-whole-le-SHORT_ROW.ensures.old_or_new

pub returns-then-whole-le-SHORT_ROW-clause-stops : goal.returns-then-whole-le-SHORT_ROW-clause-stops
returns-then-whole-le-SHORT_ROW-clause-stops g c =
    let is = end_padded c.args.whole 2048 c.args.from.now c.copy_from_slice.new.self c.copy_from_slice.ensures.after (omega (arith, c.if-whole-count.false)) (omega (arith, c.if-whole-le-SHORT_ROW.true)) in
    rw (sym is) c.write_row-then-whole-le-SHORT_ROW.ensures.stops

pub returns-else-whole-le-SHORT_ROW-clause-written : goal.returns-else-whole-le-SHORT_ROW-clause-written
returns-else-whole-le-SHORT_ROW-clause-written g c =
    let is = end_padded c.args.whole 16384 c.args.from.now c.copy_from_slice-else-whole-le-SHORT_ROW.new.self c.copy_from_slice-else-whole-le-SHORT_ROW.ensures.after (omega (arith, c.if-whole-count.false)) (c.requires.zeros (omega (arith, c.if-whole-count.false))) in
    rw (sym is) c.write_row-else-whole-le-SHORT_ROW.ensures.written

pub returns-else-whole-le-SHORT_ROW-clause-old_or_new : goal.returns-else-whole-le-SHORT_ROW-clause-old_or_new
returns-else-whole-le-SHORT_ROW-clause-old_or_new g c =
    let is = end_padded c.args.whole 16384 c.args.from.now c.copy_from_slice-else-whole-le-SHORT_ROW.new.self c.copy_from_slice-else-whole-le-SHORT_ROW.ensures.after (omega (arith, c.if-whole-count.false)) (c.requires.zeros (omega (arith, c.if-whole-count.false))) in
    rw (sym is) c.write_row-else-whole-le-SHORT_ROW.ensures.old_or_new

pub returns-else-whole-le-SHORT_ROW-clause-stops : goal.returns-else-whole-le-SHORT_ROW-clause-stops
returns-else-whole-le-SHORT_ROW-clause-stops g c =
    let is = end_padded c.args.whole 16384 c.args.from.now c.copy_from_slice-else-whole-le-SHORT_ROW.new.self c.copy_from_slice-else-whole-le-SHORT_ROW.ensures.after (omega (arith, c.if-whole-count.false)) (c.requires.zeros (omega (arith, c.if-whole-count.false))) in
    rw (sym is) c.write_row-else-whole-le-SHORT_ROW.ensures.stops
