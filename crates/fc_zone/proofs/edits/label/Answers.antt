use Rattle.std.proofs.Common.{◌∷◌, ◌++◌, ◌≡◌, ◌≤◌, ◌+◌, length, Some, sym, ap, ◌∙◌, arith}
use Rattle.std.proofs.Math.Nat.{mod-eq_of_lt}
use Rattle.fc_bytes.specs.Bits.{bits}
use Rattle.fc_bytes.specs.BitLaws.{length-bits, SameOutside-field, num-field_written}
use Rattle.fc_zone.specs.Zone.{hole_from, next_hole}
use Rattle.fc_zone.specs.declared.RunKind.TheVariants.{Hole}
use Rattle.fc_zone.proofs.HolderLemmas.{hole_iff_named}
use Rattle.fc_zone.proofs.EditLemmas.{run_place, hole_after_hole, IfSome-map, label_zone, outside_link, outside_field}
use Rattle.fc_zone.proofs.ReadingLemmas.{runs_of_zone}
use Rattle.fc_zone.proofs.WrittenLemmas.{label_links}
use Rattle.fc_zone.proofs.WrittenLemmas.{kept_bytes}
use Rattle.fc_zone.proofs.edits.label.Goals as goal

pub holder_before-holder-requires-clause-from_first : goal.holder_before-holder-requires-clause-from_first
holder_before-holder-requires-clause-from_first c =
    let h = c.requires.hole in
    let place = run_place c.args.shape.now c.args.b.now h.1.2.0 h.1.2.1.0 h.0 h.1.2.1.1 in
    rw (← h.1.0) place.0

pub next_hole-next-requires-clause-within : goal.next_hole-next-requires-clause-within
next_hole-next-requires-clause-within c =
    let h = c.requires.hole in
    let place = run_place c.args.shape.now c.args.b.now h.1.2.0 h.1.2.1.0 h.0 h.1.2.1.1 in
    omega (arith, place.1, h.1.0)

pub set_link-requires-clause-onward : goal.set_link-requires-clause-onward
set_link-requires-clause-onward c =
    let shape = c.args.shape.now in
    let h = c.requires.hole in
    let next = rw h.1.0 at (hole_after_hole shape c.args.b.now h.1.2.0 h.1.2.1.0 h.0 h.1.2.1.1 h.1.1) in
    rw c.next_hole-next.ensures
    (IfSome-map (next_hole shape (bits c.args.b.now) c.args.start) _ _ (λ p w. (omega (arith, w.0, c.holder_before-holder.ensures.before), omega (arith, w.1))) next)

pub put_bits-requires-clause-within : goal.put_bits-requires-clause-within
put_bits-requires-clause-within c =
    let h = c.requires.hole in
    let place = run_place c.args.shape.now c.args.b.now h.1.2.0 h.1.2.1.0 h.0 h.1.2.1.1 in
    omega (arith, place.1, h.1.0, c.from.ensures, c.set_link.auto.b)

pub returns-clause-runs : goal.returns-clause-runs
returns-clause-runs c = λ front rest run zone start.
    let shape = c.args.shape.now in
    let s = c.args.b.now in
    let t = c.set_link.new.b in
    let u = c.put_bits.new.b in
    let h = c.requires.hole in
    let holder = c.holder_before-holder.ensures.holder front rest run zone start in
    let known = c.holder_before-holder.ensures.holder h.1.2.0 h.1.2.1.0 h.0 h.1.2.1.1 h.1.0 in
    let hole : run.kind ≡ Hole =
    (hole_iff_named shape s front rest run zone).0
    (ap (hole_from shape (bits s)) (sym holder ∙ known) ∙ (hole_iff_named shape s h.1.2.0 h.1.2.1.0 h.0 h.1.2.1.1).1 h.1.1 ∙ ap Some (h.1.0 ∙ sym start)) in
    let place = run_place shape s front rest run zone in
    let one : length (bits s) ≡ length (bits t) = omega (arith, length-bits s, length-bits t, c.set_link.auto.b) in
    let two : length (bits t) ≡ length (bits u) = omega (arith, length-bits t, length-bits u, c.put_bits.auto.b) in
    let written = rw c.from.ensures at c.put_bits.ensures.bits in
    let room : c.args.start + shape.idlen ≤ length (bits t) = omega (arith, length-bits s, place.1) in
    let names = rw holder at (c.set_link.ensures.names ∙ c.next_hole-next.ensures) in
    let same = rw holder at c.set_link.ensures.same in
    let field = sym (mod-eq_of_lt c.requires.id_fits) ∙ sym (num-field_written (bits t) (bits u) c.args.start shape.idlen shape.idlen c.args.id written room (omega arith)) in
    let again = SameOutside-field (bits t) (bits u) c.args.start shape.idlen c.args.id written room in
    label_zone shape (omega arith) s t u one two front rest run zone c.args.id hole (rw start names) same (rw start field) (rw start again)

pub returns-clause-outside : goal.returns-clause-outside
returns-clause-outside c = λ k free outside.
    let shape = c.args.shape.now in
    let s = c.args.b.now in
    let t = c.set_link.new.b in
    let h = c.requires.hole in
    let place = run_place shape s h.1.2.0 h.1.2.1.0 h.0 h.1.2.1.1 in
    let written = rw c.from.ensures at c.put_bits.ensures.bits in
    let room : c.args.start + shape.idlen ≤ length (bits t) = omega (arith, length-bits t, c.set_link.auto.b, place.1, h.1.0) in
    SameOutside-field (bits t) (bits c.put_bits.new.b) c.args.start shape.idlen c.args.id written room k (outside_field shape c.args.start shape.idlen k (omega (arith, place.0, h.1.0)) (omega (arith, place.1, h.1.0)) outside)
    ∙ c.set_link.ensures.same k (outside_link shape c.holder_before-holder.result k c.holder_before-holder.ensures.within free outside)

pub returns-clause-links : goal.returns-clause-links
returns-clause-links c =
    let h = c.requires.hole in
    let run = h.0 in
    let start = h.1.0 in
    let hole = h.1.1 in
    let front = h.1.2.0 in
    let rest = h.1.2.1.0 in
    let zone = h.1.2.1.1 in
    let shape = c.args.shape.now in
    let s = c.args.b.now in
    let t = c.set_link.new.b in
    let u = c.put_bits.new.b in
    let holder = c.holder_before-holder.ensures.holder front rest run zone start in
    let place = run_place shape s front rest run zone in
    let one : length (bits s) ≡ length (bits t) = omega (arith, length-bits s, length-bits t, c.set_link.auto.b) in
    let two : length (bits t) ≡ length (bits u) = omega (arith, length-bits t, length-bits u, c.put_bits.auto.b) in
    let written = rw c.from.ensures at c.put_bits.ensures.bits in
    let room : c.args.start + shape.idlen ≤ length (bits t) = omega (arith, length-bits s, place.1) in
    let same = rw holder at c.set_link.ensures.same in
    let again = SameOutside-field (bits t) (bits u) c.args.start shape.idlen c.args.id written room in
    let small = rw holder at c.set_link.ensures.written in
    let names = rw holder at (c.set_link.ensures.names ∙ c.next_hole-next.ensures) in
    rw (runs_of_zone shape s (front ++ run ∷ rest) zone, runs_of_zone shape c.put_bits.new.b _ (returns-clause-runs c front rest run zone start))
    (label_links shape (omega arith) s t u one two front rest run zone c.args.id hole same small (rw start names) (rw start again))

pub returns-clause-bytes : goal.returns-clause-bytes
returns-clause-bytes c = kept_bytes c.args.shape.now c.args.b.now c.put_bits.new.b c.are_bytes.ensures (λ i. omega (arith, c.type_inv.b i)) (omega arith) (returns-clause-outside c)
