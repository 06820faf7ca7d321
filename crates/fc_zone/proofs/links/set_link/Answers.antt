use Rattle.std.proofs.Common.{ap, ◌∙◌, arith}
use Rattle.fc_bytes.specs.Bits.{bits}
use Rattle.fc_bytes.specs.BitLaws.{length-bits, SameOutside-field}
use Rattle.fc_zone.specs.Zone.{link_target}
use Rattle.fc_zone.proofs.LinkLemmas.{link_target-link_to, link_below, later, first_hole-written, next_hole-written, top_written, small_written}
use Rattle.fc_zone.proofs.links.set_link.Goals as goal

pub returns-in-None-clause-names : goal.returns-in-None-clause-names
returns-in-None-clause-names c =
    let old = c.args.b.now in
    let shape = c.args.shape.now in
    let onward = rw c.in-None.is at c.requires.onward in
    let below = link_below 8 shape.end c.args.next onward in
    rw c.in-None.is
    (first_hole-written (bits old) (bits c.put_bits.new.b) c.link_to.result c.put_bits.ensures.bits (omega (arith, length-bits old)) (omega arith)
    ∙ ap (link_target 8) c.link_to.ensures ∙ link_target-link_to 8 c.args.next (later 8 shape.end c.args.next onward))

pub returns-in-None-clause-same : goal.returns-in-None-clause-same
returns-in-None-clause-same c =
    rw c.in-None.is
    (SameOutside-field (bits c.args.b.now) (bits c.put_bits.new.b) 8 16 _ c.put_bits.ensures.bits (omega (arith, length-bits c.args.b.now)))

pub returns-in-Some-clause-names : goal.returns-in-Some-clause-names
returns-in-Some-clause-names c =
    let old = c.args.b.now in
    let shape = c.args.shape.now in
    let hole = c.in-Some.hole in
    let written = rw c.from.ensures at c.put_bits-in-Some.ensures.bits in
    let within = rw c.in-Some.is at c.requires.hole in
    let onward = rw c.in-Some.is at c.requires.onward in
    let below = link_below hole shape.end c.args.next onward in
    rw c.in-Some.is
    (next_hole-written shape (bits old) (bits c.put_bits-in-Some.new.b) hole c.link_to-in-Some.result written (omega (arith, length-bits old)) (omega arith) (omega arith)
    ∙ ap (link_target hole) c.link_to-in-Some.ensures ∙ link_target-link_to hole c.args.next (later hole shape.end c.args.next onward))

pub returns-in-Some-clause-same : goal.returns-in-Some-clause-same
returns-in-Some-clause-same c =
    let written = rw c.from.ensures at c.put_bits-in-Some.ensures.bits in
    let within = rw c.in-Some.is at c.requires.hole in
    rw c.in-Some.is
    (SameOutside-field (bits c.args.b.now) (bits c.put_bits-in-Some.new.b) c.in-Some.hole c.args.shape.now.idlen _ written (omega (arith, length-bits c.args.b.now)))

pub returns-in-None-clause-written : goal.returns-in-None-clause-written
returns-in-None-clause-written c =
    let old = c.args.b.now in
    let shape = c.args.shape.now in
    let onward = rw c.in-None.is at c.requires.onward in
    let below = link_below 8 shape.end c.args.next onward in
    rw c.in-None.is
    (top_written (bits old) (bits c.put_bits.new.b) c.link_to.result c.put_bits.ensures.bits (omega (arith, length-bits old)) (omega arith))

pub returns-in-Some-clause-written : goal.returns-in-Some-clause-written
returns-in-Some-clause-written c =
    let old = c.args.b.now in
    let shape = c.args.shape.now in
    let hole = c.in-Some.hole in
    let written = rw c.from.ensures at c.put_bits-in-Some.ensures.bits in
    let within = rw c.in-Some.is at c.requires.hole in
    let onward = rw c.in-Some.is at c.requires.onward in
    let below = link_below hole shape.end c.args.next onward in
    rw c.in-Some.is
    (small_written shape (bits old) (bits c.put_bits-in-Some.new.b) hole c.link_to-in-Some.result written (omega (arith, length-bits old)) (omega arith) (omega arith))
