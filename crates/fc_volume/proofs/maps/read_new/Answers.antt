use Rattle.std.proofs.Common.{◌≡◌, ap, ap₂, subst, sym, ◌∙◌, arith}
use Rattle.std.proofs.lemmas.Result.{err_from_is_err_and}
use Rattle.fc_image.specs.Layout.{Layout}
use Rattle.fc_record.specs.declared.Geometry.{Geometry}
use Rattle.fc_record.specs.Record.{geometry}
use Rattle.fc_newmap.specs.Map.{zones_in}
use Rattle.fc_space.specs.Space.{layout_of}
use Rattle.fc_volume.specs.Calls.{copy_reads, layout_reads}
use Rattle.fc_holdings.specs.Holdings.{HoldsMap}
use Rattle.fc_volume.proofs.MapsLemmas.{counted, new_room, new_is, no_copy}
use Rattle.fc_volume.proofs.maps.read_new.Goals as goal

pub read_copy-requires-clause-on_disk : goal.read_copy-requires-clause-on_disk
read_copy-requires-clause-on_disk g c =
    let room = new_room c.args.r.now _ _ _ c.requires.«record» c.requires.size (g.met.D.Disk.whole_sectors c.args.disk.now) c.requires.long in
    rw c.geometry-g.ensures room.0

pub returns-in_err-copy-clause-fault : goal.returns-in_err-copy-clause-fault
returns-in_err-copy-clause-fault g c =
    let p = err_from_is_err_and c.from_residual.result c.from_residual.ensures.1 in
    rw (p.1, p.2) (λ image told.
    no_copy image c.args.r.now c.in_err-copy.field-0.0 (let f = c.in_err-copy.ensures.fault image told in rw c.geometry-g.ensures at f))

pub returns-clause-found : goal.returns-clause-found
returns-clause-found g c = λ image told.
    let copy = rw c.geometry-g.ensures at (c.in_ok-copy.ensures.copy image told) in
    new_is image c.args.r.now c.in_ok-copy.copy.which (zones_in (geometry c.args.r.now) c.in_ok-copy.copy.zones.items) copy.0 copy.1 ∙ c.in_ok-map_in.ensures.found

pub returns-clause-stands : goal.returns-clause-stands
returns-clause-stands g c =
    let found = c.in_ok-map_in.field-0 in
    let map = c.in_ok-map_in.ensures in
    let room = new_room c.args.r.now _ _ _ c.requires.«record» c.requires.size (g.met.D.Disk.whole_sectors c.args.disk.now) c.requires.long in
    record {
      size = map.geometry.0 ∙ sym c.requires.size;
      room = omega (arith, room.1, map.geometry.1);
      map_room = subst (λ (l : Layout). HoldsMap l (g.D.Disk.sectors c.args.disk.now)) (sym map.map) room.0;
      version = map.version;
      copies = λ image told.
          let copy = rw c.geometry-g.ensures at (c.in_ok-copy.ensures.copy image told) in
          counted found.copies (layout_of found.space) c.in_ok-copy.copy.which _ image map.copies map.map (record { counts = copy.0; content = sym copy.1 });
    }

pub returns-clause-few : goal.returns-clause-few
returns-clause-few g c =
    let zones : c.geometry-g.result.zones ≡ (geometry c.args.r.now).zones = ap (λ (x : Geometry). x.zones) c.geometry-g.ensures in
    let reads : layout_reads (layout_of c.in_ok-map_in.field-0.space) c.in_ok-map_in.field-0.copies ≡ copy_reads c.in_ok-copy.copy.which (geometry c.args.r.now).zones =
    ap₂ layout_reads c.in_ok-map_in.ensures.map c.in_ok-map_in.ensures.copies in
    omega (arith, c.in_ok-copy.ensures.few, ap (copy_reads c.in_ok-copy.copy.which) zones, reads)

pub returns-in_err-map_in-clause-fault : goal.returns-in_err-map_in-clause-fault
returns-in_err-map_in-clause-fault g c =
    let p = err_from_is_err_and c.from_residual-in_err-map_in.result c.from_residual-in_err-map_in.ensures.1 in
    rw (p.1, p.2) (λ image told.
    let copy = rw c.geometry-g.ensures at (c.in_ok-copy.ensures.copy image told) in
    new_is image c.args.r.now c.in_ok-copy.copy.which (zones_in (geometry c.args.r.now) c.in_ok-copy.copy.zones.items) copy.0 copy.1 ∙ c.in_err-map_in.ensures.found)

pub returns-in_err-copy-clause-most : goal.returns-in_err-copy-clause-most
returns-in_err-copy-clause-most g c = λ image told. (let most = c.read_copy.ensures.most image told in rw c.geometry-g.ensures at most)

pub returns-clause-most : goal.returns-clause-most
returns-clause-most g c = λ image told. (let most = c.read_copy.ensures.most image told in rw c.geometry-g.ensures at most)

pub returns-in_err-map_in-clause-most : goal.returns-in_err-map_in-clause-most
returns-in_err-map_in-clause-most g c = λ image told. (let most = c.read_copy.ensures.most image told in rw c.geometry-g.ensures at most)
