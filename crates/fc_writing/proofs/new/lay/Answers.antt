use Rattle.std.proofs.Common.{ℕ, List, [], sym, ap, subst, ◌∙◌}
use Rattle.std.proofs.lemmas.Result.{on_ok_weaker}
use Rattle.fc_device.proofs.DiskLaws.{laws}
use Rattle.fc_device.proofs.StopLemmas.{led, one_told}
use Rattle.fc_record.specs.declared.Geometry.{Geometry}
use Rattle.fc_newmap.specs.Map.{map_sectors}
use Rattle.fc_newmap.proofs.PassLemmas.{keeps_on, keeps_told}
use Rattle.fc_writing.specs.Content.{HasContent, IsPart}
use Rattle.fc_writing.specs.Ready.{CanPut, early_content}
use Rattle.fc_writing.proofs.NewLemmas.{laid, laid_stage, match_stage}
use Rattle.fc_writing.proofs.StageLemmas.{without_map}
use Rattle.fc_writing.proofs.new.lay.Goals as goal

pub returns-in_err-match_copies-clause-keeps : goal.returns-in_err-match_copies-clause-keeps
returns-in_err-match_copies-clause-keeps g c =
    keeps_told (laws g.met.D.Disk) c.match_copies.ensures.keeps (λ was image told kept. match_stage c.args.map.now c.args.ready.now c.args.bytes.now was image (kept (c.requires.known was told)))

pub put_early-requires-clause-size : goal.put_early-requires-clause-size
put_early-requires-clause-size g c = c.match_copies.ensures.form.size_stays ∙ c.requires.size ∙ ap (λ (h : Geometry). h.sector) (sym c.geometry.ensures.value)

pub put_early-requires-clause-can : goal.put_early-requires-clause-can
put_early-requires-clause-can g c =
    subst (λ (n : ℕ). CanPut n [] c.args.ready.now) (sym c.match_copies.ensures.form.sectors_stay)
    (without_map (g.D.Disk.sectors c.args.disk.now) (map_sectors c.args.map.now.geometry) c.args.ready.now c.requires.put)

pub returns-clause-keeps : goal.returns-clause-keeps
returns-clause-keeps g c =
    keeps_on (laws g.met.D.Disk) c.match_copies.ensures.keeps c.put_early.ensures.keeps
    (λ was image told kept. match_stage c.args.map.now c.args.ready.now c.args.bytes.now was image (kept (c.requires.known was told)))
    (λ was there image told told_mid kept part.
    laid_stage c.args.map.now (g.D.Disk.sectors c.args.disk.now) c.args.ready.now c.args.bytes.now c.requires.put was there (kept (c.requires.known was told)) image
    (subst (λ (h : Geometry). IsPart h.sector [] (early_content h.sector there c.args.bytes.now c.args.ready.now) there image) c.geometry.ensures.value part))

pub returns-clause-laid : goal.returns-clause-laid
returns-clause-laid g c =
    on_ok_weaker c.put_early.result
    (λ written was told image is.
    let law = laws g.met.D.Disk in
    let first = c.match_copies.ensures.keeps.exit was told in
    let second = led law c.put_early.ensures.keeps image is in
    let there : List ℕ = first.0 in
    laid c.args.map.now (g.D.Disk.sectors c.args.disk.now) c.args.ready.now c.args.bytes.now c.requires.put was there (first.2 (c.requires.known was told)) image
    (subst (λ (h : Geometry). IsPart h.sector [] (early_content h.sector there c.args.bytes.now c.args.ready.now) there image) c.geometry.ensures.value
    (subst (λ (b : List ℕ). IsPart c.geometry.result.now.sector [] (early_content c.geometry.result.now.sector b c.args.bytes.now c.args.ready.now) b image) (one_told (sym second.1 ∙ first.1)) second.2))
    (c.in_ok-match_copies.ensures.equal there first.1)
    (subst (λ (h : Geometry). HasContent h.sector (early_content h.sector there c.args.bytes.now c.args.ready.now) image) c.geometry.ensures.value (written there first.1 image is)))
    c.put_early.ensures.written
