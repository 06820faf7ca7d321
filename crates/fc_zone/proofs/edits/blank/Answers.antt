use Rattle.std.proofs.Common.{◌≡◌, ◌<◌, ◌≤◌, ◌+◌, ◌-◌, ◌^◌, length, ◌∙◌, arith}
use Rattle.std.proofs.Math.Nat.{mod-eq_of_lt}
use Rattle.fc_bytes.specs.Bits.{bits}
use Rattle.fc_bytes.specs.BitLaws.{length-bits, SameOutside-field, num-field_written, slice_index-bit_written}
use Rattle.fc_zone.proofs.EditLemmas.{outside_field}
use Rattle.fc_zone.proofs.BlankLemmas.{blank_zeros, blank_zone, blank_written}
use Rattle.fc_zone.proofs.edits.blank.Goals as goal

pub returns-clause-zone : goal.returns-clause-zone
returns-clause-zone c =
    let shape = c.args.shape.now in
    let t = c.clear.new.b in
    let u = c.put_bits.new.b in
    let last : shape.end - 1 + 1 ≤ length (bits t) = omega (arith, length-bits t, c.clear.auto.b) in
    let end : shape.end - 1 + 1 ≡ shape.end = omega arith in
    let same = rw end at (SameOutside-field (bits t) (bits u) (shape.end - 1) 1 1 c.put_bits.ensures.bits last) in
    let room : 24 ≤ length (bits u) = omega (arith, length-bits u, c.clear.auto.b, c.put_bits.auto.b) in
    blank_zone shape (omega arith) (omega arith) (omega arith) c.requires.begins c.requires.ends t u c.put_bits-2.new.b c.clear.ensures.zeros same
    (slice_index-bit_written (bits t) (bits u) (shape.end - 1) 1 c.put_bits.ensures.bits last) room c.put_bits-2.ensures.bits

pub returns-clause-zeros : goal.returns-clause-zeros
returns-clause-zeros c =
    let shape = c.args.shape.now in
    let t = c.clear.new.b in
    let u = c.put_bits.new.b in
    let last : shape.end - 1 + 1 ≤ length (bits t) = omega (arith, length-bits t, c.clear.auto.b) in
    let end : shape.end - 1 + 1 ≡ shape.end = omega arith in
    let same = rw end at (SameOutside-field (bits t) (bits u) (shape.end - 1) 1 1 c.put_bits.ensures.bits last) in
    let room : 24 ≤ length (bits u) = omega (arith, length-bits u, c.clear.auto.b, c.put_bits.auto.b) in
    blank_zeros shape (omega arith) (omega arith) (omega arith) c.requires.begins c.requires.ends t u c.put_bits-2.new.b c.clear.ensures.zeros same
    (slice_index-bit_written (bits t) (bits u) (shape.end - 1) 1 c.put_bits.ensures.bits last) room c.put_bits-2.ensures.bits

pub returns-clause-free_link : goal.returns-clause-free_link
returns-clause-free_link c =
    let shape = c.args.shape.now in
    let u = c.put_bits.new.b in
    let value = 32768 + (shape.first - 8) in
    let room : 24 ≤ length (bits u) = omega (arith, length-bits u, c.clear.auto.b, c.put_bits.auto.b) in
    let fits : value < 2 ^ 16 = omega arith in
    num-field_written (bits u) (bits c.put_bits-2.new.b) 8 16 16 value c.put_bits-2.ensures.bits room (omega arith) ∙ mod-eq_of_lt fits

pub returns-clause-outside : goal.returns-clause-outside
returns-clause-outside c = λ k free outside.
    let shape = c.args.shape.now in
    let t = c.clear.new.b in
    let u = c.put_bits.new.b in
    let last : shape.end - 1 + 1 ≤ length (bits t) = omega (arith, length-bits t, c.clear.auto.b) in
    let room : 24 ≤ length (bits u) = omega (arith, length-bits u, c.clear.auto.b, c.put_bits.auto.b) in
    let ends : shape.first + (shape.end - 1 - shape.first) ≡ shape.end - 1 = omega arith in
    SameOutside-field (bits u) (bits c.put_bits-2.new.b) 8 16 _ c.put_bits-2.ensures.bits room k free
    ∙ SameOutside-field (bits t) (bits u) (shape.end - 1) 1 1 c.put_bits.ensures.bits last k (outside_field shape (shape.end - 1) 1 k (omega arith) (omega arith) outside)
    ∙ c.clear.ensures.same k (rw ends at (outside_field shape shape.first (shape.end - 1 - shape.first) k (omega arith) (omega arith) outside))

pub returns-clause-written : goal.returns-clause-written
returns-clause-written c =
    let shape = c.args.shape.now in
    let t = c.clear.new.b in
    let u = c.put_bits.new.b in
    let last : shape.end - 1 + 1 ≤ length (bits t) = omega (arith, length-bits t, c.clear.auto.b) in
    let end : shape.end - 1 + 1 ≡ shape.end = omega arith in
    let same = rw end at (SameOutside-field (bits t) (bits u) (shape.end - 1) 1 1 c.put_bits.ensures.bits last) in
    let room : 24 ≤ length (bits u) = omega (arith, length-bits u, c.clear.auto.b, c.put_bits.auto.b) in
    blank_written shape (omega arith) (omega arith) (omega arith) c.requires.begins c.requires.ends t u c.put_bits-2.new.b c.clear.ensures.zeros same
    (slice_index-bit_written (bits t) (bits u) (shape.end - 1) 1 c.put_bits.ensures.bits last) room c.put_bits-2.ensures.bits
