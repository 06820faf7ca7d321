use Rattle.std.proofs.Common.{◌≡◌, List, length, sym, ap, subst, ◌∙◌, arith, None, ℕ, ◌/◌, slice_index}
use Rattle.std.proofs.lemmas.List.{length-take}
use Rattle.fc_bytes.specs.Words.{u24_at}
use Rattle.fc_oldmap.specs.declared.Hole.{Hole}
use Rattle.fc_oldmap.specs.Holes.{AreHoles}
use Rattle.fc_oldmap.specs.OldMap.{OldMapContent, holes_of, map_units, wrong_hole}
use Rattle.fc_oldmap.proofs.SpaceLemmas.{AreHoles-lower}
use Rattle.fc_oldmap.proofs.ReadLemmas.{old_map-first, old_map-second, old_map-end, old_map-wrong, old_map-right, AreHoles-right, length-holes_of, bad, read_as, few_holes, u24_fits}
use Rattle.fc_oldmap.proofs.space.OldMap.read.Goals as goal
use Rattle.fc_oldmap.proofs.space.OldMap.read.Goals.{In-Ok}

pub slice_bounds-is_half_right-end : goal.slice_bounds-is_half_right-end
slice_bounds-is_half_right-end c = omega (arith, length-take 256 c.args.b.now, c.requires.size)

pub is_half_right-requires : goal.is_half_right-requires
is_half_right-requires c = omega (arith, length-take 256 c.args.b.now, c.requires.size)

pub returns-then-not-is_half_right : goal.returns-then-not-is_half_right
returns-then-not-is_half_right c = sym (old_map-first c.args.b.now c.args.sector_units (sym c.is_half_right.ensures ∙ c.if-not-is_half_right.true))

pub returns-then-not-is_half_right-2 : goal.returns-then-not-is_half_right-2
returns-then-not-is_half_right-2 c =
    sym (old_map-second c.args.b.now c.args.sector_units (sym c.is_half_right.ensures ∙ c.if-not-is_half_right.false) (sym c.is_half_right-2.ensures ∙ c.if-not-is_half_right-2.true))

pub returns-then-not-is_free_end : goal.returns-then-not-is_free_end
returns-then-not-is_free_end c =
    ap bad c.from.ensures
    ∙ sym (old_map-end c.args.b.now c.args.sector_units (sym c.is_half_right.ensures ∙ c.if-not-is_half_right.false) (sym c.is_half_right-2.ensures ∙ c.if-not-is_half_right-2.false) (sym c.is_free_end.ensures ∙ c.if-not-is_free_end.true))

-- the holes that were read are those of the bytes, and none is wrong
right : (c : In-Ok) → (c.in-Ok.holes.items ≡ holes_of c.args.b.now (slice_index c.args.b.now 510 / 3))
    × (wrong_hole (u24_at c.args.b.now 252) c.args.sector_units 0 (map_units c.args.sector_units) (holes_of c.args.b.now (slice_index c.args.b.now 510 / 3)) ≡ None)
right c =
    let b = c.args.b.now in
    let units = c.args.sector_units in
    let ok = c.in-Ok.ensures.ok in (
      ok.0 ∙ ap (holes_of b) c.from-2.ensures,
      ap (λ d. wrong_hole d units 0 (map_units units) (holes_of b (slice_index b 510 / 3))) (sym c.le24-disc_units.ensures.bytes)
          ∙ ap (λ n. wrong_hole c.le24-disc_units.result units 0 (map_units units) (holes_of b n)) (sym c.from-2.ensures) ∙ ok.1,
    )

pub invariant_of-result : goal.invariant_of-result
invariant_of-result c =
    let r = right (goal.at.invariant_of-result c).In-Ok in
    let b = c.args.b.now in
    let units = c.args.sector_units in
    let disc = c.le24-disc_units.ensures.bytes in
    let A : List Hole → Type 0 = λ l. AreHoles c.le24-disc_units.result units 0 l in
    let D : ℕ → Type 0 = λ d. AreHoles d units 0 (holes_of b (slice_index b 510 / 3)) in
    let holes = AreHoles-lower (u24_at b 252) units (map_units units) 0 (holes_of b (slice_index b 510 / 3)) (omega arith) (AreHoles-right (u24_at b 252) units 0 (map_units units) (holes_of b (slice_index b 510 / 3)) r.1) in
    record {
      few = omega (arith, ap length r.0, length-holes_of b (slice_index b 510 / 3), few_holes (slice_index b 510) (sym c.is_free_end.ensures ∙ c.if-not-is_free_end.false));
      disc = omega (arith, disc, u24_fits b (λ i. omega (arith, c.type_inv.b i)));
      units = c.requires.units;
      holes = subst A (sym r.0) (subst D (sym disc) holes);
    }

pub returns-in-Ok : goal.returns-in-Ok
returns-in-Ok c =
    let r = right c in
    let b = c.args.b.now in
    let made : List Hole → ℕ → OldMapContent = λ l d. record { holes = l; disc_units = d; sector_units = c.args.sector_units } in
    ap (λ l. read_as (made l c.le24-disc_units.result)) r.0 ∙ ap (λ d. read_as (made (holes_of b (slice_index b 510 / 3)) d)) c.le24-disc_units.ensures.bytes
    ∙ sym (old_map-right b c.args.sector_units (sym c.is_half_right.ensures ∙ c.if-not-is_half_right.false) (sym c.is_half_right-2.ensures ∙ c.if-not-is_half_right-2.false) (sym c.is_free_end.ensures ∙ c.if-not-is_free_end.false) r.1)

pub returns-in-Err : goal.returns-in-Err
returns-in-Err c =
    let b = c.args.b.now in
    let units = c.args.sector_units in
    let wrong = ap (λ d. wrong_hole d units 0 (map_units units) (holes_of b (slice_index b 510 / 3))) (sym c.le24-disc_units.ensures.bytes)
    ∙ ap (λ n. wrong_hole c.le24-disc_units.result units 0 (map_units units) (holes_of b n)) (sym c.from-2.ensures) ∙ c.in-Err.ensures.err in
    sym (old_map-wrong b units (sym c.is_half_right.ensures ∙ c.if-not-is_half_right.false) (sym c.is_half_right-2.ensures ∙ c.if-not-is_half_right-2.false) (sym c.is_free_end.ensures ∙ c.if-not-is_free_end.false) c.in-Err.index wrong)
