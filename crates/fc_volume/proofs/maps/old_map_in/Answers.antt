use Rattle.std.proofs.Common.{take, refl, sym, ap, subst, ◌∙◌, arith}
use Rattle.std.specs.Prelude.{◌==◌, Result, Err}
use Rattle.std.proofs.lemmas.List.{length-take-le}
use Rattle.fc_oldmap.specs.declared.OldMapFault.{OldMapFault}
use Rattle.std.proofs.lemmas.Bool.{eqb-true, and_parts}
use Rattle.fc_record.specs.Kinds.{is_old_map, old_units}
use Rattle.fc_oldmap.specs.Holes.{AreHoles}
use Rattle.fc_oldmap.specs.OldMap.{OldMapContent, map_units}
use Rattle.fc_volume.proofs.MapsOldLemmas.{behind, map_read, hole_read, no_check}
use Rattle.fc_volume.proofs.maps.old_map_in.Goals as goal

pub returns-then-disc_units-units-clause-map : goal.returns-then-disc_units-units-clause-map
returns-then-disc_units-units-clause-map c =
    ((map_read (take 512 c.args.front.now) c.args.sector_units c.in-Ok.map (sym c.in-Ok.ensures)).0, sym c.disc_units.ensures ∙ c.if-disc_units-units.true)

pub returns-then-disc_units-units-clause-behind : goal.returns-then-disc_units-units-clause-behind
returns-then-disc_units-units-clause-behind c =
    let read = map_read (take 512 c.args.front.now) c.args.sector_units c.in-Ok.map (sym c.in-Ok.ensures) in
    subst (λ (m : OldMapContent). AreHoles m.disc_units m.sector_units (map_units m.sector_units) m.holes) (sym read.0) (behind (take 512 c.args.front.now) c.args.sector_units read.1)

pub returns-then-disc_units-units-clause-holes : goal.returns-then-disc_units-units-clause-holes
returns-then-disc_units-units-clause-holes c = λ fits. (map_read (take 512 c.args.front.now) c.args.sector_units c.in-Ok.map (sym c.in-Ok.ensures)).1

pub returns-else-disc_units-units-clause-holes : goal.returns-else-disc_units-units-clause-holes
returns-else-disc_units-units-clause-holes c = λ fits.
    let parts = and_parts (is_old_map (take 512 c.args.front.now)) (old_units (take 512 c.args.front.now) == c.args.units) fits in
    let same = eqb-true (old_units (take 512 c.args.front.now)) c.args.units parts.1 in
    let is = (map_read (take 512 c.args.front.now) c.args.sector_units c.in-Ok.map (sym c.in-Ok.ensures)).0 in
    absurd (c.if-disc_units-units.false (c.disc_units.ensures ∙ ap (λ (m : OldMapContent). m.disc_units) is ∙ same))

pub returns-in-Err-Check-clause-holes : goal.returns-in-Err-Check-clause-holes
returns-in-Err-Check-clause-holes c = λ fits.
    let parts = and_parts (is_old_map (take 512 c.args.front.now)) (old_units (take 512 c.args.front.now) == c.args.units) fits in
    absurd (no_check (take 512 c.args.front.now) c.args.sector_units c.in-Err-Check.field-0-0 parts.0
    (sym c.read.ensures ∙ c.in-Err-Check.is ∙ ap (λ (f : OldMapFault). let r : Result OldMapContent OldMapFault = Err f in r) c.in-Err-Check.field-0-is))

pub slice_bounds-read-end : goal.slice_bounds-read-end
slice_bounds-read-end c = sym (length-take-le 512 c.args.front.now (omega (arith, c.requires.size)))

pub read-requires-clause-size : goal.read-requires-clause-size
read-requires-clause-size c = length-take-le 512 c.args.front.now (omega (arith, c.requires.size))

pub returns-in-Err-Bad-clause-holes : goal.returns-in-Err-Bad-clause-holes
returns-in-Err-Bad-clause-holes c = λ fits. (c.in-Err-Bad.index, hole_read (take 512 c.args.front.now) c.args.sector_units c.in-Err-Bad.index (sym c.read.ensures ∙ c.in-Err-Bad.is ∙ cc), refl)
