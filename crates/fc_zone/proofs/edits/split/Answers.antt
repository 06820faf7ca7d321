use Rattle.std.proofs.Common.{◌∷◌, ◌++◌, ◌≡◌, ◌≤◌, ◌+◌, ◌-◌, length, sym, ◌∙◌, inl, arith}
use Rattle.std.proofs.Math.Nat.{mod-eq_of_lt}
use Rattle.fc_bytes.specs.Bits.{bits}
use Rattle.fc_bytes.specs.BitLaws.{length-bits, SameOutside-field, num-field_written, slice_index-bit_written}
use Rattle.fc_zone.specs.declared.RunKind.TheVariants.{Hole, Id}
use Rattle.fc_zone.specs.Zone.{next_hole}
use Rattle.fc_zone.proofs.EditLemmas.{hole_after_hole, IfSome-map, outside_field}
use Rattle.fc_zone.proofs.CutLemmas.{split_fits, split_id, split_hole, named_kept, can_split_it, id_below}
use Rattle.fc_zone.proofs.ReadingLemmas.{runs_of_zone}
use Rattle.fc_zone.proofs.WrittenLemmas.{split_id_links, split_hole_links}
use Rattle.fc_zone.proofs.WrittenLemmas.{kept_bytes}
use Rattle.fc_zone.proofs.edits.split.Goals as goal

pub overflow_add-middle : goal.overflow_add-middle
overflow_add-middle c =
    let fits = split_fits c.args.shape.now c.args.b.now c.args.start c.args.len (omega arith) c.requires.run in
    omega (arith, fits.second_part)

pub kind_at-kind-requires-clause-from_first : goal.kind_at-kind-requires-clause-from_first
kind_at-kind-requires-clause-from_first c =
    let fits = split_fits c.args.shape.now c.args.b.now c.args.start c.args.len (omega arith) c.requires.run in
    fits.low

pub kind_at-kind-requires-clause-within : goal.kind_at-kind-requires-clause-within
kind_at-kind-requires-clause-within c =
    let fits = split_fits c.args.shape.now c.args.b.now c.args.start c.args.len (omega arith) c.requires.run in
    omega (arith, fits.second_part, fits.first_part)

pub put_bits-requires-clause-within : goal.put_bits-requires-clause-within
put_bits-requires-clause-within c =
    let fits = split_fits c.args.shape.now c.args.b.now c.args.start c.args.len (omega arith) c.requires.run in
    omega (arith, fits.second_part, fits.first_part)

pub next_hole-next-requires-clause-within : goal.next_hole-next-requires-clause-within
next_hole-next-requires-clause-within c =
    let fits = split_fits c.args.shape.now c.args.b.now c.args.start c.args.len (omega arith) c.requires.run in
    omega (arith, fits.second_part, fits.first_part, c.put_bits.auto.b)

pub set_link-requires-clause-hole : goal.set_link-requires-clause-hole
set_link-requires-clause-hole c =
    let fits = split_fits c.args.shape.now c.args.b.now c.args.start c.args.len (omega arith) c.requires.run in
    (omega (arith, fits.low), omega (arith, fits.second_part))

pub set_link-requires-clause-onward : goal.set_link-requires-clause-onward
set_link-requires-clause-onward c =
    let shape = c.args.shape.now in
    let s = c.args.b.now in
    let t = c.put_bits.new.b in
    let h = c.requires.run in
    let fits = split_fits shape s c.args.start c.args.len (omega arith) h in
    let hole : h.0.kind ≡ Hole = sym (c.kind_at-kind.ensures h.1.2.0 h.1.2.1.0 h.0 h.1.2.1.1 h.1.0) ∙ c.in-Hole.is in
    let size : length (bits s) ≡ length (bits t) = omega (arith, length-bits s, length-bits t, c.put_bits.auto.b) in
    let last : c.args.start + c.args.len - 1 + 1 ≤ length (bits s) = omega (arith, length-bits s, fits.second_part, fits.first_part) in
    let same = SameOutside-field (bits s) (bits t) (c.args.start + c.args.len - 1) 1 1 c.put_bits.ensures.bits last in
    let kept = named_kept shape (bits s) (bits t) size c.args.start (c.args.start + c.args.len - 1) (c.args.start + c.args.len - 1 + 1) same (inl (omega (arith, fits.first_part))) in
    let next = rw h.1.0 at (hole_after_hole shape s h.1.2.0 h.1.2.1.0 h.0 h.1.2.1.1 hole) in
    rw (c.next_hole-next.ensures, kept)
    (IfSome-map (next_hole shape (bits s) c.args.start) _ _ (λ p w. (omega (arith, w.0, h.1.1.rest_room, h.1.1.room), omega (arith, w.1))) next)

pub set_link-requires-in-Hole-clause-hole : goal.set_link-requires-in-Hole-clause-hole
set_link-requires-in-Hole-clause-hole c =
    let fits = split_fits c.args.shape.now c.args.b.now c.args.start c.args.len (omega arith) c.requires.run in
    (fits.low, omega (arith, fits.second_part, fits.first_part))

pub set_link-requires-in-Hole-clause-onward : goal.set_link-requires-in-Hole-clause-onward
set_link-requires-in-Hole-clause-onward c =
    let fits = split_fits c.args.shape.now c.args.b.now c.args.start c.args.len (omega arith) c.requires.run in
    (omega (arith, fits.first_part), omega (arith, fits.second_part))

pub put_bits-requires-in-Id-clause-within : goal.put_bits-requires-in-Id-clause-within
put_bits-requires-in-Id-clause-within c =
    let fits = split_fits c.args.shape.now c.args.b.now c.args.start c.args.len (omega arith) c.requires.run in
    omega (arith, fits.second_part, c.from.ensures, c.put_bits.auto.b)

pub put_bits-requires-in-Id-clause-fits : goal.put_bits-requires-in-Id-clause-fits
put_bits-requires-in-Id-clause-fits c =
    let h = c.requires.run in
    let kind : h.0.kind ≡ Id c.in-Id.id = sym (c.kind_at-kind.ensures h.1.2.0 h.1.2.1.0 h.0 h.1.2.1.1 h.1.0) ∙ c.in-Id.is in
    rw c.from.ensures (id_below c.args.shape.now c.args.b.now h.1.2.0 h.1.2.1.0 h.0 c.in-Id.id h.1.2.1.1 kind)

pub returns-in-Hole-clause-runs : goal.returns-in-Hole-clause-runs
returns-in-Hole-clause-runs c = λ front rest run zone start.
    let shape = c.args.shape.now in
    let s = c.args.b.now in
    let t = c.put_bits.new.b in
    let u = c.set_link.new.b in
    let v = c.set_link-in-Hole.new.b in
    let len = c.args.len in
    let can = can_split_it shape s c.args.start len c.requires.run front rest run zone start in
    let fits = split_fits shape s c.args.start len (omega arith) c.requires.run in
    let kind : run.kind ≡ Hole = sym (c.kind_at-kind.ensures front rest run zone start) ∙ c.in-Hole.is in
    let one : length (bits s) ≡ length (bits t) = omega (arith, length-bits s, length-bits t, c.put_bits.auto.b) in
    let two : length (bits t) ≡ length (bits u) = omega (arith, length-bits t, length-bits u, c.set_link.auto.b) in
    let three : length (bits u) ≡ length (bits v) = omega (arith, length-bits u, length-bits v, c.set_link-in-Hole.auto.b) in
    let last : c.args.start + len - 1 + 1 ≤ length (bits s) = omega (arith, length-bits s, fits.second_part, fits.first_part) in
    let end : c.args.start + len - 1 + 1 ≡ c.args.start + len = omega (arith, fits.first_part) in
    let same = rw end at (SameOutside-field (bits s) (bits t) (c.args.start + len - 1) 1 1 c.put_bits.ensures.bits last) in
    let bit = slice_index-bit_written (bits s) (bits t) (c.args.start + len - 1) 1 c.put_bits.ensures.bits last in
    let names_u = c.set_link.ensures.names ∙ c.next_hole-next.ensures in
    rw (← start)
    (split_hole shape (omega arith) (omega arith) s front rest run zone len can t u v one two three kind
    (rw start same) (rw start bit) (rw start names_u) (rw start c.set_link.ensures.same) (rw start c.set_link-in-Hole.ensures.names) (rw start c.set_link-in-Hole.ensures.same))

pub returns-in-Hole-clause-outside : goal.returns-in-Hole-clause-outside
returns-in-Hole-clause-outside c = λ k free outside.
    let shape = c.args.shape.now in
    let s = c.args.b.now in
    let t = c.put_bits.new.b in
    let start = c.args.start in
    let len = c.args.len in
    let fits = split_fits shape s start len (omega arith) c.requires.run in
    let last : start + len - 1 + 1 ≤ length (bits s) = omega (arith, length-bits s, fits.second_part, fits.first_part) in
    c.set_link-in-Hole.ensures.same k (outside_field shape start shape.idlen k fits.low (omega (arith, fits.second_part, fits.first_part)) outside)
    ∙ c.set_link.ensures.same k (outside_field shape (start + len) shape.idlen k (omega (arith, fits.low)) (omega (arith, fits.second_part)) outside)
    ∙ SameOutside-field (bits s) (bits t) (start + len - 1) 1 1 c.put_bits.ensures.bits last k (outside_field shape (start + len - 1) 1 k (omega (arith, fits.low, fits.first_part)) (omega (arith, fits.second_part, fits.first_part)) outside)

pub returns-in-Id-clause-runs : goal.returns-in-Id-clause-runs
returns-in-Id-clause-runs c = λ front rest run zone start.
    let shape = c.args.shape.now in
    let s = c.args.b.now in
    let t = c.put_bits.new.b in
    let u = c.put_bits-in-Id.new.b in
    let len = c.args.len in
    let can = can_split_it shape s c.args.start len c.requires.run front rest run zone start in
    let fits = split_fits shape s c.args.start len (omega arith) c.requires.run in
    let kind : run.kind ≡ Id c.in-Id.id = sym (c.kind_at-kind.ensures front rest run zone start) ∙ c.in-Id.is in
    let one : length (bits s) ≡ length (bits t) = omega (arith, length-bits s, length-bits t, c.put_bits.auto.b) in
    let two : length (bits t) ≡ length (bits u) = omega (arith, length-bits t, length-bits u, c.put_bits-in-Id.auto.b) in
    let last : c.args.start + len - 1 + 1 ≤ length (bits s) = omega (arith, length-bits s, fits.second_part, fits.first_part) in
    let end : c.args.start + len - 1 + 1 ≡ c.args.start + len = omega (arith, fits.first_part) in
    let same = rw end at (SameOutside-field (bits s) (bits t) (c.args.start + len - 1) 1 1 c.put_bits.ensures.bits last) in
    let bit = slice_index-bit_written (bits s) (bits t) (c.args.start + len - 1) 1 c.put_bits.ensures.bits last in
    let written = rw c.from.ensures at c.put_bits-in-Id.ensures.bits in
    let room : c.args.start + len + shape.idlen ≤ length (bits t) = omega (arith, length-bits s, fits.second_part) in
    let below = id_below shape s front rest run c.in-Id.id zone kind in
    let field = sym (mod-eq_of_lt below) ∙ sym (num-field_written (bits t) (bits u) (c.args.start + len) shape.idlen shape.idlen c.in-Id.id written room (omega arith)) in
    let again = SameOutside-field (bits t) (bits u) (c.args.start + len) shape.idlen c.in-Id.id written room in
    rw (← start)
    (split_id shape (omega arith) (omega arith) s front rest run zone len can t u c.in-Id.id one two kind
    (rw start same) (rw start bit) (rw start field) (rw start again))

pub returns-in-Id-clause-outside : goal.returns-in-Id-clause-outside
returns-in-Id-clause-outside c = λ k free outside.
    let shape = c.args.shape.now in
    let s = c.args.b.now in
    let t = c.put_bits.new.b in
    let start = c.args.start in
    let len = c.args.len in
    let fits = split_fits shape s start len (omega arith) c.requires.run in
    let last : start + len - 1 + 1 ≤ length (bits s) = omega (arith, length-bits s, fits.second_part, fits.first_part) in
    let written = rw c.from.ensures at c.put_bits-in-Id.ensures.bits in
    let room : start + len + shape.idlen ≤ length (bits t) = omega (arith, length-bits t, c.put_bits.auto.b, fits.second_part) in
    SameOutside-field (bits t) (bits c.put_bits-in-Id.new.b) (start + len) shape.idlen c.in-Id.id written room k (outside_field shape (start + len) shape.idlen k (omega (arith, fits.low)) (omega (arith, fits.second_part)) outside)
    ∙ SameOutside-field (bits s) (bits t) (start + len - 1) 1 1 c.put_bits.ensures.bits last k (outside_field shape (start + len - 1) 1 k (omega (arith, fits.low, fits.first_part)) (omega (arith, fits.second_part, fits.first_part)) outside)

pub returns-in-Hole-clause-links : goal.returns-in-Hole-clause-links
returns-in-Hole-clause-links c =
    let h = c.requires.run in
    let run = h.0 in
    let start = h.1.0 in
    let can = h.1.1 in
    let front = h.1.2.0 in
    let rest = h.1.2.1.0 in
    let zone = h.1.2.1.1 in
    let shape = c.args.shape.now in
    let s = c.args.b.now in
    let t = c.put_bits.new.b in
    let u = c.set_link.new.b in
    let v = c.set_link-in-Hole.new.b in
    let len = c.args.len in
    let fits = split_fits shape s c.args.start len (omega arith) c.requires.run in
    let kind : run.kind ≡ Hole = sym (c.kind_at-kind.ensures front rest run zone start) ∙ c.in-Hole.is in
    let one : length (bits s) ≡ length (bits t) = omega (arith, length-bits s, length-bits t, c.put_bits.auto.b) in
    let two : length (bits t) ≡ length (bits u) = omega (arith, length-bits t, length-bits u, c.set_link.auto.b) in
    let three : length (bits u) ≡ length (bits v) = omega (arith, length-bits u, length-bits v, c.set_link-in-Hole.auto.b) in
    let last : c.args.start + len - 1 + 1 ≤ length (bits s) = omega (arith, length-bits s, fits.second_part, fits.first_part) in
    let end : c.args.start + len - 1 + 1 ≡ c.args.start + len = omega (arith, fits.first_part) in
    let same = rw end at (SameOutside-field (bits s) (bits t) (c.args.start + len - 1) 1 1 c.put_bits.ensures.bits last) in
    rw (runs_of_zone shape s (front ++ run ∷ rest) zone, runs_of_zone shape v _ (returns-in-Hole-clause-runs c front rest run zone start))
    (rw (← start)
    (split_hole_links shape (omega arith) s front rest run zone len (omega arith) can t u v one two three kind
    (rw start same) (rw start c.set_link.ensures.same) (rw start c.set_link.ensures.written) (rw start c.set_link-in-Hole.ensures.same) (rw start c.set_link-in-Hole.ensures.written) (rw start c.set_link-in-Hole.ensures.names)))

pub returns-in-Id-clause-links : goal.returns-in-Id-clause-links
returns-in-Id-clause-links c =
    let h = c.requires.run in
    let run = h.0 in
    let start = h.1.0 in
    let can = h.1.1 in
    let front = h.1.2.0 in
    let rest = h.1.2.1.0 in
    let zone = h.1.2.1.1 in
    let shape = c.args.shape.now in
    let s = c.args.b.now in
    let t = c.put_bits.new.b in
    let u = c.put_bits-in-Id.new.b in
    let len = c.args.len in
    let fits = split_fits shape s c.args.start len (omega arith) c.requires.run in
    let kind : run.kind ≡ Id c.in-Id.id = sym (c.kind_at-kind.ensures front rest run zone start) ∙ c.in-Id.is in
    let one : length (bits s) ≡ length (bits t) = omega (arith, length-bits s, length-bits t, c.put_bits.auto.b) in
    let two : length (bits t) ≡ length (bits u) = omega (arith, length-bits t, length-bits u, c.put_bits-in-Id.auto.b) in
    let last : c.args.start + len - 1 + 1 ≤ length (bits s) = omega (arith, length-bits s, fits.second_part, fits.first_part) in
    let end : c.args.start + len - 1 + 1 ≡ c.args.start + len = omega (arith, fits.first_part) in
    let same = rw end at (SameOutside-field (bits s) (bits t) (c.args.start + len - 1) 1 1 c.put_bits.ensures.bits last) in
    let written = rw c.from.ensures at c.put_bits-in-Id.ensures.bits in
    let room : c.args.start + len + shape.idlen ≤ length (bits t) = omega (arith, length-bits s, fits.second_part) in
    let again = SameOutside-field (bits t) (bits u) (c.args.start + len) shape.idlen c.in-Id.id written room in
    rw (runs_of_zone shape s (front ++ run ∷ rest) zone, runs_of_zone shape u _ (returns-in-Id-clause-runs c front rest run zone start))
    (rw (← start)
    (split_id_links shape (omega arith) s front rest run zone len (omega arith) can t u c.in-Id.id one two kind (rw start same) (rw start again)))

pub returns-in-Hole-clause-bytes : goal.returns-in-Hole-clause-bytes
returns-in-Hole-clause-bytes c = kept_bytes c.args.shape.now c.args.b.now c.set_link-in-Hole.new.b c.are_bytes.ensures (λ i. omega (arith, c.type_inv.b i)) (omega arith) (returns-in-Hole-clause-outside c)

pub returns-in-Id-clause-bytes : goal.returns-in-Id-clause-bytes
returns-in-Id-clause-bytes c = kept_bytes c.args.shape.now c.args.b.now c.put_bits-in-Id.new.b c.are_bytes.ensures (λ i. omega (arith, c.type_inv.b i)) (omega arith) (returns-in-Id-clause-outside c)
