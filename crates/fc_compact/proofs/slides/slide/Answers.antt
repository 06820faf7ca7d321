use Rattle.std.proofs.Common.{◌≡◌, ℕ, sym, subst}
use Rattle.fc_newmap.specs.Map.{runs_of}
use Rattle.fc_compact.specs.Slides.{HasShifted, IsSlide}
use Rattle.fc_compact.specs.declared.shift.Slide.{Slide}
use Rattle.fc_compact.proofs.FindLemmas.{is_slide, slid_row}
use Rattle.fc_compact.proofs.GoneLemmas.{on_ok_both}
use Rattle.fc_compact.proofs.slides.slide.Goals as goal

pub slide_at-slide-requires-clause-run : goal.slide_at-slide-requires-clause-run
slide_at-slide-requires-clause-run g c = let cs = c.requires.run in (cs.front, cs.rest, (cs.hole, cs.run, (cs.id, (cs.runs, cs.named, cs.is_run))))

pub slide_run-requires-clause-slide : goal.slide_run-requires-clause-slide
slide_run-requires-clause-slide g c =
    let a = c.args in
    let cs = c.requires.run in
    let is = c.slide_at-slide.ensures cs.front cs.rest cs.hole cs.run cs.id cs.runs cs.named cs.is_run in
    subst (IsSlide a.map.now a.owners.now) (sym is)
    (is_slide a.map.now c.is_map.ensures a.zone c.requires.zone cs.front cs.rest cs.hole cs.run cs.runs a.hole cs.id cs.named cs.is_hole cs.is_run a.owners.now cs.movable cs.room)

pub returns-clause-slid : goal.returns-clause-slid
returns-clause-slid g c =
    let a = c.args in
    let m = a.map.now in
    let last = c.slide_run.new.map in
    let cs = c.requires.run in
    let is = c.slide_at-slide.ensures cs.front cs.rest cs.hole cs.run cs.id cs.runs cs.named cs.is_run in
    on_ok_both c.slide_run.result
    (λ shifted others. slid_row m c.is_map.ensures a.zone c.requires.zone cs.front cs.rest cs.hole cs.run cs.runs a.hole cs.id cs.named cs.is_hole cs.is_run last
    (subst (λ (s : Slide). HasShifted m last s 0 s.len) is shifted)
    (subst (λ (s : Slide). (y : ℕ) → (y ≡ s.zone → ⊥) → runs_of last y ≡ runs_of m y) is others))
    c.slide_run.ensures.shifted c.slide_run.ensures.others
