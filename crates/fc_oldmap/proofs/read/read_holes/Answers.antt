use Rattle.std.proofs.Common.{◌≡◌, ◌+◌, ◌-◌, ◌++◌, ◌∷◌, [], length, sym, ap, ◌∙◌, arith, refl}
use Rattle.fc_oldmap.specs.declared.Hole.{Hole}
use Rattle.fc_oldmap.specs.Holes.{hole_end}
use Rattle.fc_oldmap.specs.OldMap.{holes_of, is_hole_right, map_units, wrong_hole}
use Rattle.fc_oldmap.proofs.ReadLemmas.{holes_from, holes_from-all, holes_of-none, holes_of-more, length-holes_of, wrong_hole-right, wrong_hole-here, wrong_hole-end}
use Rattle.fc_oldmap.proofs.read.read_holes.Goals as goal

pub loop-index-init : goal.loop-index-init
loop-index-init c =
    let whole : c.args.count - 0 ≡ c.args.count = omega arith in
    record {
      read = c.new-holes.ensures ∙ sym (holes_of-none c.args.b.now);
      left = ap (λ floor. wrong_hole c.args.disc_units c.args.sector_units 0 floor (holes_from c.args.b.now 0 (c.args.count - 0))) c.map_units-floor.ensures
          ∙ ap (wrong_hole c.args.disc_units c.args.sector_units 0 (map_units c.args.sector_units)) (ap (holes_from c.args.b.now 0) whole ∙ holes_from-all c.args.b.now c.args.count);
    }

pub returns-then-not-is_hole_right-clause-err : goal.returns-then-not-is_hole_right-clause-err
returns-then-not-is_hole_right-clause-err c =
    let test = sym (ap (is_hole_right c.args.disc_units c.args.sector_units c.loop-index.floor) c.stored_hole-hole.ensures.hole) ∙ sym c.is_hole_right.ensures ∙ c.if-not-is_hole_right.true in
    sym c.loop-index.invariant.left
    ∙ wrong_hole-here c.args.disc_units c.args.sector_units c.args.b.now c.loop-index.index c.args.count c.loop-index.floor c.loop-index-test.true test

pub push-requires : goal.push-requires
push-requires c = (omega arith, omega (arith, ap length c.loop-index.invariant.read, length-holes_of c.args.b.now c.loop-index.index, c.requires.few))

pub loop-index-preserved : goal.loop-index-preserved
loop-index-preserved c =
    let b = c.args.b.now in
    let i = c.loop-index.index in
    let stored = c.stored_hole-hole.ensures.hole in
    let test = sym (ap (is_hole_right c.args.disc_units c.args.sector_units c.loop-index.floor) stored) ∙ sym c.is_hole_right.ensures ∙ c.if-not-is_hole_right.false in
    let step = wrong_hole-right c.args.disc_units c.args.sector_units b i c.args.count (c.args.count - (i + 1)) c.loop-index.floor c.loop-index-test.true refl test in
    record {
      read = c.push.ensures.items ∙ ap (λ l. l ++ c.stored_hole-hole.result ∷ []) c.loop-index.invariant.read
          ∙ ap (λ (h : Hole). holes_of b i ++ h ∷ []) stored ∙ sym (holes_of-more b i);
      left = ap (λ floor. wrong_hole c.args.disc_units c.args.sector_units (i + 1) floor (holes_from b (i + 1) (c.args.count - (i + 1)))) (c.end-floor.ensures ∙ ap hole_end stored)
          ∙ sym step ∙ c.loop-index.invariant.left;
    }

pub returns-clause-ok : goal.returns-clause-ok
returns-clause-ok c =
    let e : c.loop-index.index ≡ c.args.count = omega arith in (
      c.loop-index.invariant.read ∙ ap (holes_of c.args.b.now) e,
      sym c.loop-index.invariant.left ∙ wrong_hole-end c.args.disc_units c.args.sector_units c.args.b.now c.loop-index.index c.args.count c.loop-index.floor (sym e),
    )
