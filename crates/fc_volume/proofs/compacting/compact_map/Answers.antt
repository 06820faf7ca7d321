use Rattle.std.proofs.Common.{subst, ◌∙◌, arith}
use Rattle.fc_bytes.specs.BitLaws.{AreBytes}
use Rattle.fc_device.proofs.DiskLaws.{laws}
use Rattle.fc_device.proofs.StopLemmas.{led}
use Rattle.fc_newmap.proofs.HeldLemmas.{geometry_facts}
use Rattle.fc_volume.proofs.RepairedLemmas.{disc_then, matched, ready_after}
use Rattle.fc_volume.proofs.VersionLemmas.{version_stays}
use Rattle.fc_volume.proofs.compacting.compact_map.Goals as goal

pub bytes-requires : goal.bytes-requires
bytes-requires g c = (geometry_facts c.args.map.now.geometry c.is_map.ensures.of_record).zones

pub match_copies-requires-clause-known : goal.match_copies-requires-clause-known
match_copies-requires-clause-known g c = λ image told. (c.requires.ready image told).copies_are

pub returns-in_err-match_copies-clause-exits : goal.returns-in_err-match_copies-clause-exits
returns-in_err-match_copies-clause-exits g c =
    matched (laws g.met.D.Disk) c.commits.ensures c.keeps_objects.ensures c.maps.ensures c.args.map.now c.args.copies c.args.owners.now c.requires.ready c.match_copies.ensures.keeps

pub compact-requires : goal.compact-requires
compact-requires g c =
    let m = c.args.map.now in
    let owners = c.args.owners.now in
    let form = c.match_copies.ensures.form in
    let sectors = form.sectors_stay in
    let on_disk = c.requires.on_disk in
    let disc = c.requires.disc in
    record {
      stands = record {
        disc = record { attached = form.attached_stays ∙ c.requires.attached; size = form.size_stays ∙ c.requires.size; room = omega (arith, disc, sectors) };
        copies = omega (arith, on_disk, sectors);
        settled = c.in_ok-match_copies.ensures.durable;
        ready = λ image told.
            (let was = led (laws g.met.D.Disk) c.match_copies.ensures.keeps image told in
            let ready = c.requires.ready was.0 was.1 in
            ready_after c.commits.ensures c.keeps_objects.ensures c.maps.ensures m c.args.copies owners was.0 image ready (was.2 ready.copies_are) (c.in_ok-match_copies.ensures.equal image told));
      };
    }

pub returns-in_err-compact-clause-exits : goal.returns-in_err-compact-clause-exits
returns-in_err-compact-clause-exits g c =
    disc_then (laws g.met.D.Disk) c.keeps_objects.ensures c.args.map.now c.args.owners.now
    (matched (laws g.met.D.Disk) c.commits.ensures c.keeps_objects.ensures c.maps.ensures c.args.map.now c.args.copies c.args.owners.now c.requires.ready c.match_copies.ensures.keeps)
    c.compact.ensures.keeps c.compact.ensures.frame

pub returns-clause-exits : goal.returns-clause-exits
returns-clause-exits g c =
    disc_then (laws g.met.D.Disk) c.keeps_objects.ensures c.args.map.now c.args.owners.now
    (matched (laws g.met.D.Disk) c.commits.ensures c.keeps_objects.ensures c.maps.ensures c.args.map.now c.args.copies c.args.owners.now c.requires.ready c.match_copies.ensures.keeps)
    c.compact.ensures.keeps c.compact.ensures.frame

pub returns-clause-done : goal.returns-clause-done
returns-clause-done g c =
    let m = c.args.map.now in
    let m' = c.compact.new.map in
    let was = c.is_map.ensures in
    let is = c.bytes-2.ensures.map in
    let ok = c.in_ok-compact.ensures in
    let facts = geometry_facts m.geometry was.of_record in
    record {
      map = record {
        geometry = c.compact.ensures.geometry;
        was_map = was;
        is_map = is;
        settled = ok.settled;
        compacted = ok.compacted;
        fixed = ok.fixed;
        zones = ok.zones;
        version = version_stays m m' was is (subst AreBytes c.bytes.ensures.value c.are_bytes.ensures) (subst AreBytes c.bytes-2.ensures.value c.are_bytes-2.ensures) (ok.zones 0 facts.zones).outside;
      };
      ready = ok.ready;
    }
