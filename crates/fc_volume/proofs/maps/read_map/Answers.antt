use Rattle.std.proofs.Common.{inl, inr, refl, sym, ◌∙◌, arith}
use Rattle.std.proofs.lemmas.Result.{IfOk-weaker}
use Rattle.fc_volume.proofs.MapsLemmas.{fits_disk, new_room}
use Rattle.fc_volume.proofs.MapsOldLemmas.{old_fits, old_room, two_sectors}
use Rattle.fc_volume.proofs.OneZoneLemmas.{err_weaker}
use Rattle.fc_volume.proofs.maps.read_map.Goals as goal

pub returns-in-Boot-clause-found : goal.returns-in-Boot-clause-found
returns-in-Boot-clause-found g c = rw c.in-Boot.is c.read_new.ensures.found

pub returns-in-OneZone-clause-found : goal.returns-in-OneZone-clause-found
returns-in-OneZone-clause-found g c =
    rw c.in-OneZone.is (IfOk-weaker c.map_of_one.result _ _ (λ found here image told. here image (rw c.in-OneZone.is at (c.requires.held image told))) c.map_of_one.ensures.found)

pub returns-in-OneZone-clause-stands : goal.returns-in-OneZone-clause-stands
returns-in-OneZone-clause-stands g c =
    let is = rw c.in-OneZone.is at c.requires.kind in
    let room = new_room c.in-OneZone.r _ _ _ is.0 (rw c.in-OneZone.is at c.requires.size) (g.met.D.Disk.whole_sectors c.args.disk.now) (rw c.in-OneZone.is at c.requires.long) in
    fits_disk g.D.Disk c.args.disk.now c.map_of_one.result
    (IfOk-weaker c.map_of_one.result _ _ (λ found here. here ∙ sym (rw c.in-OneZone.is at c.requires.size)) c.map_of_one.ensures.size)
    (IfOk-weaker c.map_of_one.result _ _ (λ found here. omega (arith, here, room.1)) c.map_of_one.ensures.room)
    (IfOk-weaker c.map_of_one.result _ _ (λ found here. here (g.D.Disk.sectors c.args.disk.now) room.0) c.map_of_one.ensures.map_room)
    c.map_of_one.ensures.version
    (IfOk-weaker c.map_of_one.result _ _ (λ found here image told. here image (rw c.in-OneZone.is at (c.requires.held image told))) c.map_of_one.ensures.copies)

pub returns-in-OneZone-clause-fault : goal.returns-in-OneZone-clause-fault
returns-in-OneZone-clause-fault g c =
    rw c.in-OneZone.is (err_weaker c.map_of_one.result _ _ (λ e here image told. here image (rw c.in-OneZone.is at (c.requires.held image told))) c.map_of_one.ensures.fault)

pub returns-in-DiscD-clause-found : goal.returns-in-DiscD-clause-found
returns-in-DiscD-clause-found g c =
    rw c.in-DiscD.is (IfOk-weaker c.map_of_old.result _ _ (λ found here image told. here image (rw c.in-DiscD.is at (c.requires.fits image told), rw c.in-DiscD.is at (c.requires.held image told))) c.map_of_old.ensures.found)

pub returns-in-DiscD-clause-stands : goal.returns-in-DiscD-clause-stands
returns-in-DiscD-clause-stands g c =
    let room = old_room 3200 4 _ _ _ (inr refl) (rw c.in-DiscD.is at c.requires.size) (g.met.D.Disk.whole_sectors c.args.disk.now) (rw c.in-DiscD.is at c.requires.long) in
    fits_disk g.D.Disk c.args.disk.now c.map_of_old.result
    (IfOk-weaker c.map_of_old.result _ _ (λ found here. here ∙ sym (rw c.in-DiscD.is at c.requires.size)) c.map_of_old.ensures.size)
    (IfOk-weaker c.map_of_old.result _ _ (λ found here. omega (arith, here, room)) c.map_of_old.ensures.room)
    (IfOk-weaker c.map_of_old.result _ _ (λ found here. here (g.D.Disk.sectors c.args.disk.now) (two_sectors 3200 4 _ (inr refl) (omega arith) room)) c.map_of_old.ensures.map_room)
    c.map_of_old.ensures.version
    (IfOk-weaker c.map_of_old.result _ _ (λ found here image told. here image) c.map_of_old.ensures.copies)

pub returns-in-DiscD-clause-fault : goal.returns-in-DiscD-clause-fault
returns-in-DiscD-clause-fault g c =
    rw c.in-DiscD.is (err_weaker c.map_of_old.result _ _ (λ e here image told. here image (rw c.in-DiscD.is at (c.requires.fits image told), rw c.in-DiscD.is at (c.requires.held image told))) c.map_of_old.ensures.fault)

pub returns-in-DiscL-clause-found : goal.returns-in-DiscL-clause-found
returns-in-DiscL-clause-found g c =
    rw c.in-DiscL.is (IfOk-weaker c.map_of_old-in-DiscL.result _ _ (λ found here image told. here image (old_fits image c.in-DiscL.units (rw c.in-DiscL.is at (c.requires.fits image told)), rw c.in-DiscL.is at (c.requires.held image told))) c.map_of_old-in-DiscL.ensures.found)

pub returns-in-DiscL-clause-stands : goal.returns-in-DiscL-clause-stands
returns-in-DiscL-clause-stands g c =
    let room = old_room c.in-DiscL.units 1 _ _ _ (inl refl) (rw c.in-DiscL.is at c.requires.size) (g.met.D.Disk.whole_sectors c.args.disk.now) (rw c.in-DiscL.is at c.requires.long) in
    fits_disk g.D.Disk c.args.disk.now c.map_of_old-in-DiscL.result
    (IfOk-weaker c.map_of_old-in-DiscL.result _ _ (λ found here. here ∙ sym (rw c.in-DiscL.is at c.requires.size)) c.map_of_old-in-DiscL.ensures.size)
    (IfOk-weaker c.map_of_old-in-DiscL.result _ _ (λ found here. omega (arith, here, room)) c.map_of_old-in-DiscL.ensures.room)
    (IfOk-weaker c.map_of_old-in-DiscL.result _ _ (λ found here. here (g.D.Disk.sectors c.args.disk.now) (two_sectors c.in-DiscL.units 1 _ (inl refl) (omega (arith, (rw c.in-DiscL.is at c.requires.kind).0)) room)) c.map_of_old-in-DiscL.ensures.map_room)
    c.map_of_old-in-DiscL.ensures.version
    (IfOk-weaker c.map_of_old-in-DiscL.result _ _ (λ found here image told. here image) c.map_of_old-in-DiscL.ensures.copies)

pub returns-in-DiscL-clause-fault : goal.returns-in-DiscL-clause-fault
returns-in-DiscL-clause-fault g c =
    rw c.in-DiscL.is (err_weaker c.map_of_old-in-DiscL.result _ _ (λ e here image told. here image (old_fits image c.in-DiscL.units (rw c.in-DiscL.is at (c.requires.fits image told)), rw c.in-DiscL.is at (c.requires.held image told))) c.map_of_old-in-DiscL.ensures.fault)

pub returns-in-Boot-clause-most : goal.returns-in-Boot-clause-most
returns-in-Boot-clause-most g c = rw c.in-Boot.is c.read_new.ensures.most
