use Rattle.std.proofs.Common.{take, sym, ap, ap₂, ◌∙◌, ◌/◌}
use Rattle.std.specs.Prelude.{Result, Err}
use Rattle.std.proofs.lemmas.Result.{err_from_is_err_and}
use Rattle.fc_image.specs.declared.ImageFault.{ImageFault}
use Rattle.fc_image.specs.Opening.{MapAndRoot}
use Rattle.fc_oldmap.specs.OldMap.{OldMapContent}
use Rattle.fc_volume.proofs.MapsOldLemmas.{old_found, old_wrong, old_front}
use Rattle.fc_volume.proofs.maps.map_of_old.Goals as goal

pub returns-clause-found : goal.returns-clause-found
returns-clause-found c = λ image has.
    let front = take 512 c.args.front.now.first in
    let fits = old_front image front c.args.sector_units c.args.root has.1 c.args.units has.0 in
    old_found image front c.args.sector_units c.args.root has.1 c.in_ok-map.map c.in_ok-map.ensures.map.0 (c.in_ok-map.ensures.holes fits)

pub returns-clause-room : goal.returns-clause-room
returns-clause-room c =
    ap₂ (λ m n. m / n) c.in_ok-map.ensures.map.1 (ap (λ (m : OldMapContent). m.sector_units) c.in_ok-map.ensures.map.0)

pub returns-in_err-map-clause-fault : goal.returns-in_err-map-clause-fault
returns-in_err-map-clause-fault c =
    let p = err_from_is_err_and c.from_residual.result c.from_residual.ensures.1 in
    rw (p.1, p.2) (λ image has.
    let front = take 512 c.args.front.now.first in
    let fits = old_front image front c.args.sector_units c.args.root has.1 c.args.units has.0 in
    let wrong = c.in_err-map.ensures.holes fits in
    old_wrong image front c.args.sector_units c.args.root has.1 wrong.0 wrong.1 ∙ ap (λ (f : ImageFault). let r : Result MapAndRoot ImageFault = Err f in r) (sym wrong.2))
