use Rattle.std.proofs.Common.{inr, ℕ, refl, ap, subst, ◌∙◌, sym, arith}
use Rattle.fc_record.specs.declared.Geometry.{Geometry}
use Rattle.fc_newmap.specs.Map.{first_sector, sector_count}
use Rattle.fc_newmap.specs.Walk.{IsInZone}
use Rattle.fc_compact.specs.Copy.{IsCopied, TearsRow}
use Rattle.fc_compact.proofs.DrawLemmas.{DrawRows, IsDrawn, draw_rows}
use Rattle.fc_compact.proofs.FindLemmas.{all_slid, can_shift}
use Rattle.fc_compact.proofs.rounds.draw.Given.{Over}
use Rattle.fc_compact.proofs.rounds.draw.Goals as goal
use Rattle.fc_compact.proofs.rounds.draw.Goals.{After-copy_row, After-extent_of-to, After-geometry}

rows : (g : Over) (c : After-geometry g) → DrawRows c.args.map.now c.args.z c.args.hole c.args.run c.args.id
rows g c = draw_rows c.args.map.now c.is_map.ensures c.args.z c.requires.zone c.args.hole c.args.run c.args.id c.requires.runs

drawn : (g : Over) (c : After-extent_of-to g) → DrawRows c.args.map.now c.args.z c.args.hole c.args.run c.args.id
    → IsDrawn c.args.map.now c.args.z c.args.hole c.args.run c.extent_of-from.result.first c.extent_of-to.result.first c.extent_of-from.result.sectors
drawn g c here =
    let z = c.args.z in
    let geo = c.geometry.ensures.value in
    record {
      id = c.args.id;
      rows = here;
      from_is = ap (λ e. e.first) c.extent_of-from.ensures ∙ ap (λ (h : Geometry). first_sector h (z, c.args.run)) geo;
      to_is = ap (λ e. e.first) c.extent_of-to.ensures ∙ ap (λ (h : Geometry). first_sector h (z, c.args.hole)) geo;
      count_is = ap (λ e. e.sectors) c.extent_of-from.ensures ∙ ap (λ (h : Geometry). sector_count h (z, c.args.run)) geo;
    }

tears : (g : Over) (c : After-copy_row g) → IsDrawn c.args.map.now c.args.z c.args.hole c.args.run c.extent_of-from.result.first c.extent_of-to.result.first c.extent_of-from.result.sectors
    → TearsRow g.D.Disk c.args.disk.now c.copy_row.new.disk (first_sector c.args.map.now.geometry (c.args.z, c.args.hole)) (sector_count c.args.map.now.geometry (c.args.z, c.args.run))
tears g c d =
    subst (λ (k : ℕ). TearsRow g.D.Disk c.args.disk.now c.copy_row.new.disk k (sector_count c.args.map.now.geometry (c.args.z, c.args.run))) d.to_is
    (subst (λ (k : ℕ). TearsRow g.D.Disk c.args.disk.now c.copy_row.new.disk c.extent_of-to.result.first k) d.count_is c.copy_row.ensures.tears)

pub extent_of-from-requires-clause-run : goal.extent_of-from-requires-clause-run
extent_of-from-requires-clause-run g c = subst (λ (h : Geometry). IsInZone h (c.args.z, c.args.run)) (sym c.geometry.ensures.value) (rows g (goal.at.extent_of-from-requires-clause-run g c).After-geometry).here

pub extent_of-to-requires-clause-run : goal.extent_of-to-requires-clause-run
extent_of-to-requires-clause-run g c = subst (λ (h : Geometry). IsInZone h (c.args.z, record c.args.hole { len = c.args.run.len })) (sym c.geometry.ensures.value) (rows g (goal.at.extent_of-to-requires-clause-run g c).After-geometry).there

pub copy_row-requires-clause-apart : goal.copy_row-requires-clause-apart
copy_row-requires-clause-apart g c = (let d = drawn g (goal.at.copy_row-requires-clause-apart g c).After-extent_of-to (rows g (goal.at.copy_row-requires-clause-apart g c).After-geometry) in inr (omega (arith, d.from_is, d.to_is, d.count_is, d.rows.apart)))

pub copy_row-requires-clause-on_disk : goal.copy_row-requires-clause-on_disk
copy_row-requires-clause-on_disk g c = (let d = drawn g (goal.at.copy_row-requires-clause-on_disk g c).After-extent_of-to (rows g (goal.at.copy_row-requires-clause-on_disk g c).After-geometry) in omega (arith, d.from_is, d.count_is, d.rows.on_disc, c.requires.disc.room))

pub copy_row-requires-clause-to_on_disk : goal.copy_row-requires-clause-to_on_disk
copy_row-requires-clause-to_on_disk g c = (let d = drawn g (goal.at.copy_row-requires-clause-to_on_disk g c).After-extent_of-to (rows g (goal.at.copy_row-requires-clause-to_on_disk g c).After-geometry) in omega (arith, d.from_is, d.to_is, d.count_is, d.rows.apart, d.rows.on_disc, c.requires.disc.room))

pub copy_row-requires-clause-fits : goal.copy_row-requires-clause-fits
copy_row-requires-clause-fits g c = (let d = drawn g (goal.at.copy_row-requires-clause-fits g c).After-extent_of-to (rows g (goal.at.copy_row-requires-clause-fits g c).After-geometry) in omega (arith, d.from_is, d.count_is, d.rows.on_disc, d.rows.high))

pub copy_row-requires-clause-to_fits : goal.copy_row-requires-clause-to_fits
copy_row-requires-clause-to_fits g c = (let d = drawn g (goal.at.copy_row-requires-clause-to_fits g c).After-extent_of-to (rows g (goal.at.copy_row-requires-clause-to_fits g c).After-geometry) in omega (arith, d.from_is, d.to_is, d.count_is, d.rows.apart, d.rows.on_disc, d.rows.high))

pub shift-requires-clause-id_fits : goal.shift-requires-clause-id_fits
shift-requires-clause-id_fits g c = (rows g (goal.at.shift-requires-clause-id_fits g c).After-geometry).id_low

pub shift-requires-clause-shift : goal.shift-requires-clause-shift
shift-requires-clause-shift g c =
    let a = c.args in
    let cs = c.requires.runs in
    can_shift a.map.now c.is_map.ensures a.z c.requires.zone cs.front cs.rest a.hole a.run cs.runs a.hole.start a.id refl cs.is_hole cs.is_run

pub returns-in_err-copy_row-clause-tears : goal.returns-in_err-copy_row-clause-tears
returns-in_err-copy_row-clause-tears g c = tears g (goal.at.returns-in_err-copy_row-clause-tears g c).After-copy_row (drawn g (goal.at.returns-in_err-copy_row-clause-tears g c).After-extent_of-to (rows g (goal.at.returns-in_err-copy_row-clause-tears g c).After-geometry))

pub returns-clause-tears : goal.returns-clause-tears
returns-clause-tears g c = tears g (goal.at.returns-clause-tears g c).After-copy_row (drawn g (goal.at.returns-clause-tears g c).After-extent_of-to (rows g (goal.at.returns-clause-tears g c).After-geometry))

pub returns-clause-copied : goal.returns-clause-copied
returns-clause-copied g c = λ image told.
    let size = c.args.map.now.geometry.sector in
    let d = drawn g (goal.at.returns-clause-copied g c).After-extent_of-to (rows g (goal.at.returns-clause-copied g c).After-geometry) in
    let from = c.extent_of-from.result in
    let to = c.extent_of-to.result.first in
    let hole = first_sector c.args.map.now.geometry (c.args.z, c.args.hole) in
    let count = sector_count c.args.map.now.geometry (c.args.z, c.args.run) in
    subst (λ (k : ℕ). IsCopied size k hole count image) d.from_is (subst (λ (k : ℕ). IsCopied size from.first k count image) d.to_is (subst (λ (k : ℕ). IsCopied size from.first to k image) d.count_is
    (subst (λ (k : ℕ). IsCopied k from.first to from.sectors image) (ap (λ (h : Geometry). h.sector) c.geometry.ensures.value) (c.in_ok-copy_row.ensures.copied image told))))

pub returns-clause-drawn : goal.returns-clause-drawn
returns-clause-drawn g c =
    let a = c.args in
    let cs = c.requires.runs in
    record {
      edit = c.shift.ensures.edit;
      runs = λ front rest runs. all_slid a.map.now c.is_map.ensures a.z c.requires.zone front rest a.hole a.run runs a.hole.start a.id refl cs.is_hole cs.is_run c.shift.new.map c.shift.ensures.shifted;
    }
