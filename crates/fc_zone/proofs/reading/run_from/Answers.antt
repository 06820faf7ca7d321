use Rattle.std.proofs.Common.{arith}
use Rattle.fc_bytes.specs.Bits.{bits}
use Rattle.fc_zone.proofs.CursorLemmas.{left_none, left_begins, left_given}
use Rattle.fc_zone.proofs.reading.run_from.Goals as goal

pub returns-then-at-shape : goal.returns-then-at-shape
returns-then-at-shape c = λ left h. left_none c.args.shape.now (bits c.args.b.now) left c.args.at c.args.hole h (omega arith)

pub run_at-requires-clause-begins : goal.run_at-requires-clause-begins
run_at-requires-clause-begins c =
    left_begins c.args.shape.now (bits c.args.b.now) c.requires.left.0 c.args.at c.args.hole c.requires.left.1 (λ e. omega arith)

pub returns : goal.returns
returns c = λ left h.
    left_given c.args.shape.now (bits c.args.b.now) left c.args.at c.args.hole c.run_at.result h (λ e. omega arith) c.run_at.ensures.run c.run_at.ensures.value
