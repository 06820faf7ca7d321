use Rattle.std.proofs.Common.{◌++◌, ◌≡◌, ◌≤◌, ◌+◌, ◌-◌, length, ◌∷◌, refl, sym, ap, ◌∙◌, arith}
use Rattle.fc_bytes.specs.Bits.{bits}
use Rattle.fc_bytes.specs.BitLaws.{length-bits, SameOutside-field, AreZero-written}
use Rattle.fc_zone.specs.declared.Run.{Run}
use Rattle.fc_zone.specs.declared.RunKind.TheVariants.{Hole}
use Rattle.fc_zone.specs.Zone.{next_hole}
use Rattle.fc_zone.proofs.ZoneLemmas.{IsRun-unique}
use Rattle.fc_zone.proofs.EditLemmas.{IfSome-map, outside_field}
use Rattle.fc_zone.proofs.CutLemmas.{merge_fits, next_of_pair, merge_id, merge_hole, id_of}
use Rattle.fc_zone.proofs.UniqueLemmas.{same_cut}
use Rattle.fc_zone.proofs.ReadingLemmas.{runs_of_zone}
use Rattle.fc_zone.proofs.WrittenLemmas.{merge_id_links, merge_hole_links}
use Rattle.fc_zone.proofs.WrittenLemmas.{kept_bytes}
use Rattle.fc_zone.proofs.edits.merge.Goals as goal
use Rattle.fc_zone.proofs.edits.merge.Goals.{in-Hole, in_default}

pub end_of-middle-requires-clause-begins : goal.end_of-middle-requires-clause-begins
end_of-middle-requires-clause-begins c =
    let h = c.requires.runs in
    let fits = merge_fits c.args.shape.now c.args.b.now c.args.start h.4.0 h.4.1.0 h.0 h.1 h.4.1.1 h.2 in
    (c.args.start + h.0.len, fits.run)

pub next_hole-next-requires-clause-within : goal.next_hole-next-requires-clause-within
next_hole-next-requires-clause-within c =
    let h = c.requires.runs in
    let fits = merge_fits c.args.shape.now c.args.b.now c.args.start h.4.0 h.4.1.0 h.0 h.1 h.4.1.1 h.2 in
    let middle = IsRun-unique c.args.shape.now (bits c.args.b.now) c.args.start c.end_of-middle.result (c.args.start + h.0.len) c.end_of-middle.ensures fits.run in
    omega (arith, fits.next.long, fits.next.within)

pub set_link-requires-clause-hole : goal.set_link-requires-clause-hole
set_link-requires-clause-hole c =
    let h = c.requires.runs in
    let fits = merge_fits c.args.shape.now c.args.b.now c.args.start h.4.0 h.4.1.0 h.0 h.1 h.4.1.1 h.2 in
    (fits.low, omega (arith, fits.run.long, fits.run.within))

pub set_link-requires-clause-onward : goal.set_link-requires-clause-onward
set_link-requires-clause-onward c =
    let shape = c.args.shape.now in
    let s = c.args.b.now in
    let h = c.requires.runs in
    let fits = merge_fits shape s c.args.start h.4.0 h.4.1.0 h.0 h.1 h.4.1.1 h.2 in
    let middle : c.end_of-middle.result ≡ h.1.start = IsRun-unique shape (bits s) c.args.start c.end_of-middle.result (c.args.start + h.0.len) c.end_of-middle.ensures fits.run ∙ sym fits.place in
    let kind : h.1.kind ≡ Hole = sym h.3 ∙ sym (c.kind_of_pair.ensures h.4.0 (h.1 ∷ h.4.1.0) h.0 h.4.1.1 h.2) ∙ c.in-Hole.is in
    let next = next_of_pair shape s h.4.0 h.4.1.0 h.0 h.1 h.4.1.1 kind in
    rw (c.next_hole-next.ensures, middle)
    (IfSome-map (next_hole shape (bits s) h.1.start) _ _ (λ p w. (omega (arith, w.0, fits.place, fits.run.long, fits.next.long), omega (arith, w.1))) next)

pub put_bits-requires-clause-within : goal.put_bits-requires-clause-within
put_bits-requires-clause-within c =
    let shape = c.args.shape.now in
    let s = c.args.b.now in
    let h = c.requires.runs in
    let fits = merge_fits shape s c.args.start h.4.0 h.4.1.0 h.0 h.1 h.4.1.1 h.2 in
    let middle = IsRun-unique shape (bits s) c.args.start c.end_of-middle.result (c.args.start + h.0.len) c.end_of-middle.ensures fits.run in
    omega (arith, middle, fits.run.long, fits.next.long, fits.next.within, c.from.ensures, c.match-kind_of_pair.auto.b)

pub returns-clause-runs : goal.returns-clause-runs
returns-clause-runs c = λ front rest one two zone start.
    let shape = c.args.shape.now in
    let s = c.args.b.now in
    let u = c.put_bits.new.b in
    let b = c.match-kind_of_pair.b in
    let h = c.requires.runs in
    let cut = same_cut shape s h.4.0 front (h.1 ∷ h.4.1.0) (two ∷ rest) h.0 one h.4.1.1 zone (h.2 ∙ sym start) in
    let second : h.1 ≡ two = let e = cut.2 in cc in
    let kinds : one.kind ≡ two.kind = sym (ap (λ (r : Run). r.kind) cut.1) ∙ h.3 ∙ ap (λ (r : Run). r.kind) second in
    let fits = merge_fits shape s c.args.start front rest one two zone start in
    let middle = IsRun-unique shape (bits s) c.args.start c.end_of-middle.result (c.args.start + one.len) c.end_of-middle.ensures fits.run in
    let written = rw (c.from.ensures, middle) at c.put_bits.ensures.bits in
    let size : length (bits s) ≡ length (bits b) = omega (arith, length-bits s, length-bits b, c.match-kind_of_pair.auto.b) in
    let again : length (bits b) ≡ length (bits u) = omega (arith, length-bits b, length-bits u, c.put_bits.auto.b) in
    let room : c.args.start + one.len - 1 + (shape.idlen + 1) ≤ length (bits b) = omega (arith, length-bits s, fits.run.long, fits.next.long, fits.next.within) in
    let end : c.args.start + one.len - 1 + (shape.idlen + 1) ≡ c.args.start + one.len + shape.idlen = omega (arith, fits.run.long) in
    let same = rw end at (SameOutside-field (bits b) (bits u) (c.args.start + one.len - 1) (shape.idlen + 1) 0 written room) in
    let cleared = rw end at (AreZero-written (bits b) (bits u) (c.args.start + one.len - 1) (shape.idlen + 1) written room) in
    elim c.match-kind_of_pair.branch [
      | in-Hole w ↦ (
          let kind : one.kind ≡ Hole = sym (c.kind_of_pair.ensures front (two ∷ rest) one zone start) ∙ w.in-Hole.is in
          let names = w.set_link.ensures.names ∙ (rw middle at w.next_hole-next.ensures) in
          let names_b = rw (← w.b-is) at names in
          let same_b = rw (← w.b-is) at w.set_link.ensures.same in
          merge_hole shape (omega arith) s front rest one two zone b u size again kind (sym kinds ∙ kind)
          (rw start names_b) (rw start same_b) (rw start same) (rw start cleared))
      | in_default w ↦ (
          let other : one.kind ≡ Hole → ⊥ = λ e. w.in_default.not-Hole (c.kind_of_pair.ensures front (two ∷ rest) one zone start ∙ e) in
          let id = id_of one.kind other in
          let same_s = rw w.b-is at same in
          let all = rw w.b-is at again in
          merge_id shape (omega arith) s front rest one two zone u id.0 all id.1 (sym kinds ∙ id.1) (rw start same_s) (rw start cleared))
    ]

pub returns-clause-outside : goal.returns-clause-outside
returns-clause-outside c = λ k free outside.
    let shape = c.args.shape.now in
    let s = c.args.b.now in
    let u = c.put_bits.new.b in
    let b = c.match-kind_of_pair.b in
    let h = c.requires.runs in
    let fits = merge_fits shape s c.args.start h.4.0 h.4.1.0 h.0 h.1 h.4.1.1 h.2 in
    let middle = IsRun-unique shape (bits s) c.args.start c.end_of-middle.result (c.args.start + h.0.len) c.end_of-middle.ensures fits.run in
    let written = rw (c.from.ensures, middle) at c.put_bits.ensures.bits in
    let room : c.args.start + h.0.len - 1 + (shape.idlen + 1) ≤ length (bits b) = omega (arith, length-bits b, c.match-kind_of_pair.auto.b, fits.run.long, fits.next.long, fits.next.within) in
    SameOutside-field (bits b) (bits u) (c.args.start + h.0.len - 1) (shape.idlen + 1) 0 written room k
    (outside_field shape (c.args.start + h.0.len - 1) (shape.idlen + 1) k (omega (arith, fits.low, fits.run.long)) (omega (arith, fits.run.long, fits.next.long, fits.next.within)) outside)
    ∙ elim c.match-kind_of_pair.branch [
      | in-Hole w ↦ rw w.b-is (w.set_link.ensures.same k (outside_field shape c.args.start shape.idlen k fits.low (omega (arith, fits.run.long, fits.run.within)) outside))
      | in_default w ↦ rw w.b-is refl
    ]

pub returns-clause-links : goal.returns-clause-links
returns-clause-links c =
    let h = c.requires.runs in
    let one = h.0 in
    let two = h.1 in
    let start = h.2 in
    let kinds = h.3 in
    let front = h.4.0 in
    let rest = h.4.1.0 in
    let zone = h.4.1.1 in
    let shape = c.args.shape.now in
    let s = c.args.b.now in
    let u = c.put_bits.new.b in
    let b = c.match-kind_of_pair.b in
    let fits = merge_fits shape s c.args.start front rest one two zone start in
    let middle = IsRun-unique shape (bits s) c.args.start c.end_of-middle.result (c.args.start + one.len) c.end_of-middle.ensures fits.run in
    let written = rw (c.from.ensures, middle) at c.put_bits.ensures.bits in
    let size : length (bits s) ≡ length (bits b) = omega (arith, length-bits s, length-bits b, c.match-kind_of_pair.auto.b) in
    let again : length (bits b) ≡ length (bits u) = omega (arith, length-bits b, length-bits u, c.put_bits.auto.b) in
    let room : c.args.start + one.len - 1 + (shape.idlen + 1) ≤ length (bits b) = omega (arith, length-bits s, fits.run.long, fits.next.long, fits.next.within) in
    let end : c.args.start + one.len - 1 + (shape.idlen + 1) ≡ c.args.start + one.len + shape.idlen = omega (arith, fits.run.long) in
    let same = rw end at (SameOutside-field (bits b) (bits u) (c.args.start + one.len - 1) (shape.idlen + 1) 0 written room) in
    rw (runs_of_zone shape s (front ++ one ∷ (two ∷ rest)) zone, runs_of_zone shape u _ (returns-clause-runs c front rest one two zone start))
    (elim c.match-kind_of_pair.branch [
      | in-Hole w ↦ (
          let kind : one.kind ≡ Hole = sym (c.kind_of_pair.ensures front (two ∷ rest) one zone start) ∙ w.in-Hole.is in
          let same_b = rw (← w.b-is) at w.set_link.ensures.same in
          let small_b = rw (← w.b-is) at w.set_link.ensures.written in
          let names_b = rw (← w.b-is) at (w.set_link.ensures.names ∙ (rw middle at w.next_hole-next.ensures)) in
          merge_hole_links shape (omega arith) s front rest one two zone b u size again kind (sym kinds ∙ kind) (rw start same_b) (rw start small_b) (rw start names_b) (rw start same))
      | in_default w ↦ (
          let other : one.kind ≡ Hole → ⊥ = λ e. w.in_default.not-Hole (c.kind_of_pair.ensures front (two ∷ rest) one zone start ∙ e) in
          let id = id_of one.kind other in
          let same_s = rw w.b-is at same in
          let size_s = rw w.b-is at again in
          merge_id_links shape (omega arith) s front rest one two zone u id.0 size_s id.1 (sym kinds ∙ id.1) (rw start same_s))
    ])

pub returns-clause-bytes : goal.returns-clause-bytes
returns-clause-bytes c = kept_bytes c.args.shape.now c.args.b.now c.put_bits.new.b c.are_bytes.ensures (λ i. omega (arith, c.type_inv.b i)) (omega arith) (returns-clause-outside c)
