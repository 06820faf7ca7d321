use Rattle.std.proofs.Common.{◌≤◌, ℕ, subst, sym, ap, ◌∙◌}
use Rattle.std.specs.Prelude.{Result, Ok}
use Rattle.std.proofs.lemmas.Result.{IfErr-weaker, IfOk-weaker, err_from_is_err_and}
use Rattle.fc_device.proofs.DiskLaws.{laws}
use Rattle.fc_device.proofs.StopLemmas.{reads_then}
use Rattle.fc_image.specs.declared.ImageFault.{ImageFault}
use Rattle.fc_image.specs.Opening.{MapAndRoot}
use Rattle.fc_image.specs.Layout.{disc_sectors, sector_bytes}
use Rattle.fc_space.specs.declared.space.Space.{Space}
use Rattle.fc_space.specs.Space.{layout_of}
use Rattle.fc_volume.specs.Maps.{found_of}
use Rattle.fc_writing.specs.declared.copies.Copies.{Copies}
use Rattle.fc_holdings.specs.Holdings.{CopiesAre, HoldsMap, TellsVersion}
use Rattle.fc_volume.specs.Volume.{parts_of}
use Rattle.fc_volume.proofs.MountLemmas.{agrees, are_parts, both_of, no_map, no_parts, opens, opens_as, shapes_then, view}
use Rattle.fc_volume.proofs.OpenReadsLemmas.{of_kind, of_map, of_walk}
use Rattle.fc_volume.proofs.volume.Volume.mount.Goals as goal

pub returns-in_err-found-clause-fault : goal.returns-in_err-found-clause-fault
returns-in_err-found-clause-fault g c = λ image told.
    let found = c.in_ok-kind.ensures.found image told in
    let p = err_from_is_err_and c.from_residual-in_err-found.result c.from_residual-in_err-found.ensures.1 in
    rw (p.1, p.2) (no_map image c.in_ok-kind.kind c.in_err-found.field-0.0 found.0 (c.in_ok-kind.ensures.fits image told) found.1
    (c.in_err-found.ensures.fault image (c.shape.ensures.bytes ∙ c.find_kind.ensures.reads.bytes ∙ told)))

pub returns-in_err-found-clause-shapes : goal.returns-in_err-found-clause-shapes
returns-in_err-found-clause-shapes g c =
    let s = c.shape.ensures in
    shapes_then (laws g.met.D.Disk) c.args.disk.now c.find_kind.new.disk c.shape.new.self c.read_map.new.disk c.find_kind.ensures.reads s.image s.bytes s.pending s.stops s.still s.faults c.read_map.ensures.reads

pub returns-clause-shapes : goal.returns-clause-shapes
returns-clause-shapes g c =
    let s = c.shape.ensures in
    shapes_then (laws g.met.D.Disk) c.args.disk.now c.find_kind.new.disk c.shape.new.self c.volume_of.new.disk c.find_kind.ensures.reads s.image s.bytes s.pending s.stops s.still s.faults
    (reads_then (laws g.met.D.Disk) c.read_map.ensures.reads c.volume_of.ensures.reads)

pub returns-clause-fault : goal.returns-clause-fault
returns-clause-fault g c = λ image told.
    let found = c.in_ok-kind.ensures.found image told in
    let shaped = c.shape.ensures.bytes ∙ c.find_kind.ensures.reads.bytes ∙ told in
    let map = c.in_ok-found.ensures.found image shaped in
    IfErr-weaker c.volume_of.result _ _
    (λ error fault. no_parts image c.in_ok-kind.kind (found_of c.in_ok-found.found) error found.0 (c.in_ok-kind.ensures.fits image told) found.1 map
    (fault image (c.read_map.ensures.reads.bytes ∙ shaped)))
    c.volume_of.ensures.fault

pub returns-clause-opened : goal.returns-clause-opened
returns-clause-opened g c = λ image told.
    let kind = c.in_ok-kind.kind in
    let found = c.in_ok-kind.ensures.found image told in
    let shaped = c.shape.ensures.bytes ∙ c.find_kind.ensures.reads.bytes ∙ told in
    let map = c.in_ok-found.ensures.found image shaped in
    let read = c.read_map.ensures.reads.bytes ∙ shaped in
    IfOk-weaker c.volume_of.result _ _
    (λ v is.
    let here = map ∙ ap (λ (s : Space). let r : Result MapAndRoot ImageFault = Ok (layout_of s, c.in_ok-found.found.root, c.in_ok-found.found.root_size) in r) (sym is.1) in
    (view kind _ _ (parts_of v) _ is.0, opens kind _ _ (parts_of v) _ is.0 c.opens.ensures image read found.0 (c.in_ok-kind.ensures.fits image told) found.1 here, are_parts kind _ _ (parts_of v) _ is.0))
    (both_of c.volume_of.result _ _ c.volume_of.ensures.parts c.volume_of.ensures.space)

pub returns-clause-stands : goal.returns-clause-stands
returns-clause-stands g c =
    let kind = c.in_ok-kind.kind in
    let reads = reads_then (laws g.met.D.Disk) c.read_map.ensures.reads c.volume_of.ensures.reads in
    IfOk-weaker c.volume_of.result _ _
    (λ v is.
    let space = is.1.0 in
    let room : disc_sectors (layout_of v.space) ≤ g.D.Disk.sectors c.shape.new.self =
    subst (λ (s : Space). disc_sectors (layout_of s) ≤ g.D.Disk.sectors c.shape.new.self) (sym space) c.in_ok-found.ensures.stands.room in
    record {
      size = reads.form.size_stays ∙ sym c.in_ok-found.ensures.stands.size ∙ sym (ap (λ (s : Space). sector_bytes (layout_of s)) space);
      room = subst (λ (n : ℕ). disc_sectors (layout_of v.space) ≤ n) (sym reads.form.sectors_stay) room;
      map_room = subst (λ (n : ℕ). HoldsMap (layout_of v.space) n) (sym reads.form.sectors_stay)
          (subst (λ (s : Space). HoldsMap (layout_of s) (g.D.Disk.sectors c.shape.new.self)) (sym space) c.in_ok-found.ensures.stands.map_room);
      version = subst (λ (s : Space). TellsVersion (layout_of s)) (sym space) c.in_ok-found.ensures.stands.version;
      agree = (kind, agrees kind _ _ (parts_of v) _ is.0);
      image = λ image told.
          let shaped = sym reads.bytes ∙ told in
          let before = sym c.find_kind.ensures.reads.bytes ∙ sym c.shape.ensures.bytes ∙ shaped in
          let found = c.in_ok-kind.ensures.found image before in
          let map = c.in_ok-found.ensures.found image shaped in
          let here = map ∙ ap (λ (s : Space). let r : Result MapAndRoot ImageFault = Ok (layout_of s, c.in_ok-found.found.root, c.in_ok-found.found.root_size) in r) (sym space) in
          let read = c.read_map.ensures.reads.bytes ∙ shaped in (
            kind,
            view kind _ _ (parts_of v) _ is.0,
            record { kind_right = c.in_ok-kind.ensures.kind; opened = opens_as kind _ _ (parts_of v) _ is.0 c.opens.ensures image read (c.in_ok-kind.ensures.fits image before) found.1 here },
            are_parts kind _ _ (parts_of v) _ is.0,
          );
      copies = λ image told.
          let shaped = sym reads.bytes ∙ told in
          subst (λ (k : Copies). CopiesAre k (layout_of v.space) image) (sym is.1.1)
          (subst (λ (s : Space). CopiesAre c.in_ok-found.found.copies (layout_of s) image) (sym space) (c.in_ok-found.ensures.stands.copies image shaped));
    })
    (both_of c.volume_of.result _ _ c.volume_of.ensures.parts (both_of c.volume_of.result _ _ c.volume_of.ensures.space c.volume_of.ensures.copies))

pub returns-in_err-kind-clause-most : goal.returns-in_err-kind-clause-most
returns-in_err-kind-clause-most g c = λ image told. of_kind image _ _ (c.find_kind.ensures.most image told)

pub returns-in_err-found-clause-most : goal.returns-in_err-found-clause-most
returns-in_err-found-clause-most g c = λ image told.
    let found = c.in_ok-kind.ensures.found image told in
    of_map image c.in_ok-kind.kind _ _ _ _ found.0 found.1 (c.find_kind.ensures.most image told) c.shape.ensures.read_calls (c.read_map.ensures.most image (c.shape.ensures.bytes ∙ c.find_kind.ensures.reads.bytes ∙ told))

pub returns-clause-most : goal.returns-clause-most
returns-clause-most g c = λ image told.
    let found = c.in_ok-kind.ensures.found image told in
    let shaped = c.shape.ensures.bytes ∙ c.find_kind.ensures.reads.bytes ∙ told in
    of_walk image c.in_ok-kind.kind (found_of c.in_ok-found.found) _ _ _ _ _ found.0 found.1 (c.in_ok-found.ensures.found image shaped) (c.find_kind.ensures.most image told) c.shape.ensures.read_calls
    (c.read_map.ensures.most image shaped) (c.volume_of.ensures.most image (c.read_map.ensures.reads.bytes ∙ shaped))
