use Rattle.std.proofs.Common.{◌<◌, sym, subst}
use Rattle.fc_bytes.specs.BitLaws.{AreBytes}
use Rattle.fc_record.specs.declared.Geometry.{Geometry}
use Rattle.fc_newmap.proofs.HeldLemmas.{geometry_facts}
use Rattle.fc_volume.proofs.VersionLemmas.{version_stays}
use Rattle.fc_volume.proofs.reclaiming.reclaim_runs.Goals as goal

pub bytes-requires : goal.bytes-requires
bytes-requires g c = (geometry_facts c.args.map.now.geometry c.is_map.ensures.of_record).zones

pub bytes-requires-2 : goal.bytes-requires-2
bytes-requires-2 g c =
    let some = (geometry_facts c.args.map.now.geometry c.is_map.ensures.of_record).zones in
    let same = c.reclaim_map.ensures.geometry in
    subst (λ (x : Geometry). 0 < x.zones) (sym same) some

pub returns-clause-given : goal.returns-clause-given
returns-clause-given g c =
    let was = c.is_map.ensures in
    let done = c.in_ok-given.ensures.done in
    record {
      map = done;
      image = c.in_ok-given.ensures.reclaimed;
      version = version_stays c.args.map.now c.reclaim_map.new.map was done.map.map (subst AreBytes c.bytes.ensures.value c.are_bytes.ensures) (subst AreBytes c.bytes-2.ensures.value c.are_bytes-2.ensures)
          (done.map.stays 0 (geometry_facts c.args.map.now.geometry was.of_record).zones).outside;
    }
