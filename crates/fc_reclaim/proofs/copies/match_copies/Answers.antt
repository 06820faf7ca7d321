use Rattle.std.proofs.Common.{◌≤◌, ap, subst, sym, ◌∙◌}
use Rattle.std.specs.Prelude.{Option}
use Rattle.std.proofs.lemmas.Result.{on_ok_weaker}
use Rattle.fc_device.proofs.DiskLaws.{laws}
use Rattle.fc_device.proofs.StopLemmas.{keeps_start, keeps_weaker, led}
use Rattle.fc_record.specs.declared.Geometry.{Geometry}
use Rattle.fc_newmap.proofs.HeldLemmas.{geometry_facts}
use Rattle.fc_newmap.specs.declared.copies.Which.{Which}
use Rattle.fc_newmap.specs.Copies.{chosen}
use Rattle.fc_reclaim.specs.Reclaiming.{CountsIn}
use Rattle.fc_reclaim.proofs.CopiesLemmas.{equal_kept, repaired, repaired_copies}
use Rattle.fc_reclaim.proofs.copies.match_copies.Goals as goal

pub returns-in-None-clause-keeps : goal.returns-in-None-clause-keeps
returns-in-None-clause-keeps g c =
    keeps_start (laws g.met.D.Disk)
    (λ image known. equal_kept c.args.map.now image (subst (λ (k : Option Which). CountsIn c.args.map.now k image) c.in-None.is known))
    c.args.disk.now c.requires.settled

pub returns-in-None-clause-equal : goal.returns-in-None-clause-equal
returns-in-None-clause-equal g c = λ image told. subst (λ (k : Option Which). CountsIn c.args.map.now k image) c.in-None.is (c.requires.known image told)

pub repair-requires-clause-zones : goal.repair-requires-clause-zones
repair-requires-clause-zones g c = subst (λ (h : Geometry). 1 ≤ h.zones) (sym c.geometry.ensures.value) (geometry_facts c.args.map.now.geometry c.geometry.ensures.map.of_record).zones

pub repair-requires-clause-chosen : goal.repair-requires-clause-chosen
repair-requires-clause-chosen g c = λ image told.
    let known = subst (λ (k : Option Which). CountsIn c.args.map.now k image) c.in-Some.is (c.requires.known image told) in
    ap (λ (h : Geometry). chosen h image) c.geometry.ensures.value ∙ known.0

pub returns-in-Some-clause-keeps : goal.returns-in-Some-clause-keeps
returns-in-Some-clause-keeps g c =
    keeps_weaker (laws g.met.D.Disk) c.repair.ensures.keeps
    (λ was image left known.
    repaired c.args.map.now c.geometry.result.now c.in-Some.which was image c.geometry.ensures.value left
    (subst (λ (k : Option Which). CountsIn c.args.map.now k was) c.in-Some.is known))

pub returns-in-Some-clause-equal : goal.returns-in-Some-clause-equal
returns-in-Some-clause-equal g c =
    on_ok_weaker c.repair.result
    (λ equal image told.
    let was = led (laws g.met.D.Disk) c.repair.ensures.keeps image told in
    let known = subst (λ (k : Option Which). CountsIn c.args.map.now k was.0) c.in-Some.is (c.requires.known was.0 was.1) in
    repaired_copies c.args.map.now c.geometry.result.now c.in-Some.which was.0 image c.geometry.ensures.value (equal was.0 was.1 image told) known)
    c.repair.ensures.equal
