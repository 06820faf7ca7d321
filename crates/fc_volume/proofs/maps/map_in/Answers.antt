use Rattle.std.proofs.Common.{◌/◌, ◌*◌, take, length, sym, ap, ap₂, ◌∙◌, arith}
use Rattle.std.proofs.lemmas.Result.{err_from_is_err_and}
use Rattle.std.proofs.lemmas.List.{length-take-le}
use Rattle.fc_record.specs.declared.Geometry.{Geometry}
use Rattle.fc_record.specs.Record.{geometry}
use Rattle.fc_newmap.specs.Map.{Map, sector_of, zones_in}
use Rattle.fc_image.specs.Layout.{Layout}
use Rattle.fc_volume.proofs.MapsLemmas.{of_record, first_zone, first_zone_fits, own_fault, map_right, held_same, tells, zone_wrong}
use Rattle.fc_volume.proofs.maps.map_in.Goals as goal

pub slice_bounds-own_record-end : goal.slice_bounds-own_record-end
slice_bounds-own_record-end c =
    let fits = first_zone_fits (geometry c.args.r.now) c.args.copy.zones.items (of_record c.args.r.now c.requires.«record») c.requires.whole in
    sym (length-take-le c.geometry-g.result.sector c.deref.result.now (omega (arith, fits.0, ap (λ (g : Geometry). g.sector) c.geometry-g.ensures, ap length c.deref.ensures.value)))

pub own_record-requires : goal.own_record-requires
own_record-requires c =
    let fits = first_zone_fits (geometry c.args.r.now) c.args.copy.zones.items (of_record c.args.r.now c.requires.«record») c.requires.whole in
    let sector = ap (λ (g : Geometry). g.sector) c.geometry-g.ensures in
    let long = length-take-le c.geometry-g.result.sector c.deref.result.now (omega (arith, fits.0, sector, ap length c.deref.ensures.value)) in
    omega (arith, fits.1, sector, long)

pub returns-in_err-own-clause-found : goal.returns-in_err-own-clause-found
returns-in_err-own-clause-found c =
    let p = err_from_is_err_and c.from_residual.result c.from_residual.ensures.1 in
    let first = ap₂ (λ n bs. take n bs) (ap (λ (g : Geometry). g.sector) c.geometry-g.ensures) c.deref.ensures.value ∙ first_zone (geometry c.args.r.now) c.args.copy.zones.items (of_record c.args.r.now c.requires.«record») c.requires.whole in
    rw (p.1, p.2) (own_fault c.args.r.now (zones_in (geometry c.args.r.now) c.args.copy.zones.items) _ first _ (sym c.own_record.ensures ∙ c.in_err-own.was))

pub returns-in-Ok-clause-found : goal.returns-in-Ok-clause-found
returns-in-Ok-clause-found c =
    let first = ap₂ (λ n bs. take n bs) (ap (λ (g : Geometry). g.sector) c.geometry-g.ensures) c.deref.ensures.value ∙ first_zone (geometry c.args.r.now) c.args.copy.zones.items (of_record c.args.r.now c.requires.«record») c.requires.whole in
    let told = rw c.geometry-g.ensures at c.in-Ok.ensures.value in
    (map_right c.args.r.now (zones_in (geometry c.args.r.now) c.args.copy.zones.items) _ first c.in_ok-own.own c.in-Ok.map (sym c.own_record.ensures ∙ c.in_ok-own.was) (sym told)).0

pub returns-in-Ok-clause-map : goal.returns-in-Ok-clause-map
returns-in-Ok-clause-map c =
    let told = rw c.geometry-g.ensures at c.in-Ok.ensures.value in
    ap (λ (m : Map). Layout.New m) (held_same (geometry c.args.r.now) c.args.copy.zones.items c.in-Ok.map (sym told))

pub returns-in-Ok-clause-version : goal.returns-in-Ok-clause-version
returns-in-Ok-clause-version c =
    let zones = c.args.copy.zones.items in
    let first = ap₂ (λ n bs. take n bs) (ap (λ (g : Geometry). g.sector) c.geometry-g.ensures) c.deref.ensures.value ∙ first_zone (geometry c.args.r.now) zones (of_record c.args.r.now c.requires.«record») c.requires.whole in
    let told = rw c.geometry-g.ensures at c.in-Ok.ensures.value in
    let held = held_same (geometry c.args.r.now) zones c.in-Ok.map (sym told) in
    tells c.args.r.now (zones_in (geometry c.args.r.now) zones) _ first c.in_ok-own.own c.in-Ok.map c.requires.«record» (ap (λ (m : Map). m.geometry) held) (ap (λ (m : Map). sector_of m 0) held)
    (sym c.own_record.ensures ∙ c.in_ok-own.was)

pub returns-in-Ok-clause-geometry : goal.returns-in-Ok-clause-geometry
returns-in-Ok-clause-geometry c =
    let first = ap₂ (λ n bs. take n bs) (ap (λ (g : Geometry). g.sector) c.geometry-g.ensures) c.deref.ensures.value ∙ first_zone (geometry c.args.r.now) c.args.copy.zones.items (of_record c.args.r.now c.requires.«record») c.requires.whole in
    let told = rw c.geometry-g.ensures at c.in-Ok.ensures.value in
    let same = (map_right c.args.r.now (zones_in (geometry c.args.r.now) c.args.copy.zones.items) _ first c.in_ok-own.own c.in-Ok.map (sym c.own_record.ensures ∙ c.in_ok-own.was) (sym told)).1 in
    (ap (λ (g : Geometry). g.sector) same, ap (λ (g : Geometry). g.disc_bits * g.bit_bytes / g.sector) same)

pub returns-in-Err-clause-found : goal.returns-in-Err-clause-found
returns-in-Err-clause-found c =
    let first = ap₂ (λ n bs. take n bs) (ap (λ (g : Geometry). g.sector) c.geometry-g.ensures) c.deref.ensures.value ∙ first_zone (geometry c.args.r.now) c.args.copy.zones.items (of_record c.args.r.now c.requires.«record») c.requires.whole in
    let told = rw c.geometry-g.ensures at c.in-Err.ensures.value in
    rw c.zone_fault.ensures (zone_wrong c.args.r.now (zones_in (geometry c.args.r.now) c.args.copy.zones.items) _ first c.in_ok-own.own c.in-Err.fault (sym c.own_record.ensures ∙ c.in_ok-own.was) (sym told))
