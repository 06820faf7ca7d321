use Rattle.std.proofs.Common.{◌≡◌, inr, ℕ, ◌+◌, ◌∷◌, [], List, ap, sym, subst, ◌∙◌, Some, arith}
use Rattle.std.proofs.lemmas.Result.{on_ok_weaker}
use Rattle.fc_device.proofs.DiskLaws.{form_then, laws}
use Rattle.fc_device.proofs.StopLemmas.{keeps_then, led}
use Rattle.fc_newmap.proofs.PassLemmas.{keeps_told}
use Rattle.fc_newmap.proofs.ComposeLemmas.{edit_all}
use Rattle.fc_image.specs.Layout.{Layout, hole_sectors, is_among}
use Rattle.fc_compact.specs.Copy.{IsCopied}
use Rattle.fc_compact.proofs.GoneLemmas.{cause_then, kept}
use Rattle.fc_compact.proofs.KeptLemmas.{can_write}
use Rattle.fc_compact.proofs.PieceLemmas.{apart, count, from, from_zone, id_low, in_hole, low_disc, on_disc, to, to_zone}
use Rattle.fc_compact.proofs.PreservesLemmas.{preserves_then}
use Rattle.fc_compact.proofs.StepLemmas.{step_geometry, step_leads, step_others, step_preserves, step_ready, step_shifted}
use Rattle.fc_compact.proofs.slides.slide_piece.Goals as goal

pub extent_at-from-requires : goal.extent_at-from-requires
extent_at-from-requires g c =
    let a = c.args in
    from_zone a.map.now c.is_map.ensures a.slide a.done a.n c.requires.shift c.requires.few c.requires.piece_whole

pub extent_at-to-requires : goal.extent_at-to-requires
extent_at-to-requires g c =
    let a = c.args in
    to_zone a.map.now c.is_map.ensures a.slide a.done a.n c.requires.shift c.requires.few c.requires.piece_whole

pub copy_into-requires-clause-apart : goal.copy_into-requires-clause-apart
copy_into-requires-clause-apart g c =
    let a = c.args in
    let first = ap (λ e. e.first) c.extent_at-from.ensures in
    let place = ap (λ e. e.first) c.extent_at-to.ensures in
    let size = ap (λ e. e.sectors) c.extent_at-to.ensures in
    inr (omega (arith, first, place, size, apart a.map.now c.is_map.ensures a.slide a.done a.n c.requires.shift c.requires.few c.requires.piece_whole))

pub copy_into-requires-clause-on_disk : goal.copy_into-requires-clause-on_disk
copy_into-requires-clause-on_disk g c =
    let a = c.args in
    let first = ap (λ e. e.first) c.extent_at-from.ensures in
    let size = ap (λ e. e.sectors) c.extent_at-to.ensures in
    omega (arith, first, size, c.requires.stands.disc.room, on_disc a.map.now c.is_map.ensures a.slide a.done a.n c.requires.shift c.requires.few c.requires.piece_whole)

pub copy_into-requires-clause-to_on_disk : goal.copy_into-requires-clause-to_on_disk
copy_into-requires-clause-to_on_disk g c =
    let a = c.args in
    let place = ap (λ e. e.first) c.extent_at-to.ensures in
    let size = ap (λ e. e.sectors) c.extent_at-to.ensures in
    omega (arith, place, size, c.requires.stands.disc.room, on_disc a.map.now c.is_map.ensures a.slide a.done a.n c.requires.shift c.requires.few c.requires.piece_whole, apart a.map.now c.is_map.ensures a.slide a.done a.n c.requires.shift c.requires.few c.requires.piece_whole)

pub copy_into-requires-clause-fits : goal.copy_into-requires-clause-fits
copy_into-requires-clause-fits g c =
    let a = c.args in
    let first = ap (λ e. e.first) c.extent_at-from.ensures in
    let size = ap (λ e. e.sectors) c.extent_at-to.ensures in
    omega (arith, first, size, low_disc a.map.now c.is_map.ensures a.slide a.done a.n c.requires.shift c.requires.few c.requires.piece_whole, on_disc a.map.now c.is_map.ensures a.slide a.done a.n c.requires.shift c.requires.few c.requires.piece_whole)

pub copy_into-requires-clause-to_fits : goal.copy_into-requires-clause-to_fits
copy_into-requires-clause-to_fits g c =
    let a = c.args in
    let place = ap (λ e. e.first) c.extent_at-to.ensures in
    let size = ap (λ e. e.sectors) c.extent_at-to.ensures in
    omega (arith, place, size, low_disc a.map.now c.is_map.ensures a.slide a.done a.n c.requires.shift c.requires.few c.requires.piece_whole, on_disc a.map.now c.is_map.ensures a.slide a.done a.n c.requires.shift c.requires.few c.requires.piece_whole, apart a.map.now c.is_map.ensures a.slide a.done a.n c.requires.shift c.requires.few c.requires.piece_whole)

pub copy_into-requires-clause-hole : goal.copy_into-requires-clause-hole
copy_into-requires-clause-hole g c =
    let a = c.args in
    let place = ap (λ e. e.first) c.extent_at-to.ensures in
    let size = ap (λ e. e.sectors) c.extent_at-to.ensures in
    λ i lt. ap (λ k. is_among (hole_sectors (Layout.New a.map.now)) (k + i)) place ∙ in_hole a.map.now c.is_map.ensures a.slide a.done a.n c.requires.shift c.requires.few c.requires.piece_whole i (omega (arith, lt, size))

pub shift-requires-clause-id_fits : goal.shift-requires-clause-id_fits
shift-requires-clause-id_fits g c = id_low c.args.map.now c.is_map.ensures c.args.slide c.args.done c.args.n c.requires.shift

pub commit_zone-requires-clause-ready : goal.commit_zone-requires-clause-ready
commit_zone-requires-clause-ready g c = λ image told.
    let a = c.args in
    let m = a.map.now in
    let z = a.slide.zone in
    let edit = c.shift.ensures.edit in
    can_write m c.shift.new.map (edit_all m c.shift.new.map z edit) (z ∷ []) image (c.copy_into.ensures.still_ready image told).copies (λ y low out. edit.others y (λ here. out (0, omega arith, sym here)))

pub returns-clause-keeps : goal.returns-clause-keeps
returns-clause-keeps g c =
    let a = c.args in
    let m = a.map.now in
    let n = c.shift.new.map in
    let last = c.commit_zone.new.map in
    let req = c.requires in
    let is = c.is_map.ensures in
    let law = laws g.met.D.Disk in
    let edit = c.shift.ensures.edit in
    let shifted = c.shift.ensures.shifted in
    let runs = c.commit_zone.ensures.runs in
    let contents = c.commit_zone.ensures.contents in
    let first = ap (λ e. e.first) c.extent_at-from.ensures in
    let place = ap (λ e. e.first) c.extent_at-to.ensures in
    let size = ap (λ e. e.sectors) c.extent_at-to.ensures in
    let ok = c.in_ok-copy_into.ensures in
    let source = from m is a.slide a.done a.n req.shift req.few req.piece_whole in
    let target = to m is a.slide a.done a.n req.shift req.few req.piece_whole in
    let sectors = count m is a.slide a.done a.n req.shift req.few req.piece_whole in
    let copied : (was : List ℕ) → g.D.Disk.bytes c.copy_into.new.disk ≡ Some was → IsCopied m.geometry.sector source target sectors was =
    λ was told.
    subst (λ (k : ℕ). IsCopied m.geometry.sector k target sectors was) first
    (subst (λ (k : ℕ). IsCopied m.geometry.sector c.extent_at-from.result.first k sectors was) place
    (subst (λ (k : ℕ). IsCopied m.geometry.sector c.extent_at-from.result.first c.extent_at-to.result.first k was) size (ok.copied was told))) in
    kept a.owners.now a.disk.now c.commit_zone.new.disk m last req.stands c.commit_zone.result
    (keeps_then law (preserves_then c.laws.ensures m a.owners.now) ok.keeps.leaves
    (keeps_told law c.commit_zone.ensures.keeps
    (λ was image told left. step_preserves c.laws.ensures m n last a.owners.now is a.slide a.done a.n req.shift edit shifted runs contents req.few req.done_whole req.piece_whole req.movable was image (ok.still_ready was told) (copied was told) left)))
    (on_ok_weaker c.commit_zone.result
    (λ ends image is_now.
    let before = led law c.commit_zone.ensures.keeps image is_now in
    step_ready c.laws.ensures m n last a.owners.now is a.slide a.done a.n req.shift edit shifted runs contents req.few req.done_whole req.piece_whole req.movable before.0 image (ok.still_ready before.0 before.1) (copied before.0 before.1) (ends before.0 before.1 image is_now))
    c.commit_zone.ensures.ends)
    c.commit_zone.ensures.durable
    (step_geometry c.laws.ensures m n last a.owners.now is a.slide a.done a.n req.shift edit shifted runs contents req.few req.done_whole req.piece_whole req.movable)
    (form_then g.D.Disk ok.keeps.form c.commit_zone.ensures.form)
    (cause_then g.D.Disk a.disk.now c.copy_into.new.disk c.commit_zone.new.disk c.commit_zone.result ok.keeps.cause.later c.commit_zone.ensures.cause)

pub returns-clause-shifted : goal.returns-clause-shifted
returns-clause-shifted g c =
    let a = c.args in
    let req = c.requires in
    on_ok_weaker c.commit_zone.result
    (λ done. step_shifted c.laws.ensures a.map.now c.shift.new.map c.commit_zone.new.map a.owners.now c.is_map.ensures a.slide a.done a.n req.shift c.shift.ensures.edit c.shift.ensures.shifted c.commit_zone.ensures.runs c.commit_zone.ensures.contents req.few req.done_whole req.piece_whole req.movable)
    c.commit_zone.ensures.durable

pub returns-clause-others : goal.returns-clause-others
returns-clause-others g c =
    let a = c.args in
    let req = c.requires in
    on_ok_weaker c.commit_zone.result
    (λ done y other. step_others c.laws.ensures a.map.now c.shift.new.map c.commit_zone.new.map a.owners.now c.is_map.ensures a.slide a.done a.n req.shift c.shift.ensures.edit c.shift.ensures.shifted c.commit_zone.ensures.runs c.commit_zone.ensures.contents req.few req.done_whole req.piece_whole req.movable y other)
    c.commit_zone.ensures.durable

pub returns-clause-leads : goal.returns-clause-leads
returns-clause-leads g c =
    let a = c.args in
    let req = c.requires in
    on_ok_weaker c.commit_zone.result
    (λ done. step_leads c.laws.ensures a.map.now c.shift.new.map c.commit_zone.new.map a.owners.now c.is_map.ensures a.slide a.done a.n req.shift c.shift.ensures.edit c.shift.ensures.shifted c.commit_zone.ensures.runs c.commit_zone.ensures.contents req.few req.done_whole req.piece_whole req.movable)
    c.commit_zone.ensures.durable
