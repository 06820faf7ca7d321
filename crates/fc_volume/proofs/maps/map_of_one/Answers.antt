use Rattle.std.proofs.Common.{[], subst, sym, ◌∙◌}
use Rattle.std.proofs.lemmas.Result.{err_from_is_err_and}
use Rattle.fc_image.specs.Layout.{Layout}
use Rattle.fc_record.specs.Record.{geometry}
use Rattle.fc_newmap.specs.Map.{zones_in}
use Rattle.fc_space.specs.Space.{layout_of}
use Rattle.fc_holdings.specs.Holdings.{HoldsMap}
use Rattle.fc_volume.proofs.MapsLemmas.{counted, new_is}
use Rattle.fc_volume.proofs.OneZoneLemmas.{one_sector}
use Rattle.fc_volume.proofs.maps.map_of_one.Goals as goal

pub map_in-requires-clause-whole : goal.map_in-requires-clause-whole
map_in-requires-clause-whole c = c.in_ok-copy.ensures.whole ∙ sym (one_sector c.args.r.now c.requires [])

pub returns-clause-found : goal.returns-clause-found
returns-clause-found c = λ image has.
    let copy = c.in_ok-copy.ensures.copy c.args.r.now image c.requires has in
    new_is image c.args.r.now c.in_ok-copy.copy.which (zones_in (geometry c.args.r.now) c.in_ok-copy.copy.zones.items) copy.0 copy.1 ∙ c.in_ok-map_in.ensures.found

pub returns-clause-copies : goal.returns-clause-copies
returns-clause-copies c = λ image has.
    let copy = c.in_ok-copy.ensures.copy c.args.r.now image c.requires has in
    counted c.in_ok-map_in.field-0.copies (layout_of c.in_ok-map_in.field-0.space) c.in_ok-copy.copy.which _ image c.in_ok-map_in.ensures.copies c.in_ok-map_in.ensures.map
    (record { counts = copy.0; content = sym copy.1 })

pub returns-clause-map_room : goal.returns-clause-map_room
returns-clause-map_room c = λ sectors room.
    subst (λ (l : Layout). HoldsMap l sectors) (sym c.in_ok-map_in.ensures.map) room

pub returns-in_err-map_in-clause-fault : goal.returns-in_err-map_in-clause-fault
returns-in_err-map_in-clause-fault c =
    let p = err_from_is_err_and c.from_residual-in_err-map_in.result c.from_residual-in_err-map_in.ensures.1 in
    rw (p.1, p.2) (λ image has.
    let copy = c.in_ok-copy.ensures.copy c.args.r.now image c.requires has in
    new_is image c.args.r.now c.in_ok-copy.copy.which (zones_in (geometry c.args.r.now) c.in_ok-copy.copy.zones.items) copy.0 copy.1 ∙ c.in_err-map_in.ensures.found)
