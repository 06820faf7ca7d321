use Rattle.std.proofs.Common.{◌≡◌, ◌<◌, ◌*◌, ◌+◌, ◌∙◌, length, get_or, ℕ, List, refl, sym, ap, subst, arith}
use Rattle.std.proofs.Math.ListN.{length-set}
use Rattle.fc_device.proofs.DiskLaws.{laws, form_same, form_then}
use Rattle.fc_device.proofs.StopLemmas.{started, goes_on}
use Rattle.fc_image.specs.declared.effects.Owned.{Owned}
use Rattle.fc_oldmap.specs.OldMap.{OldMapContent}
use Rattle.fc_squash.specs.Places.{ChangesRoom}
use Rattle.fc_squash.specs.Squashing.{no_object, moved_to, place, with_start}
use Rattle.fc_squash.proofs.StandLemmas.{Standing, comes, stand_start, stand_more}
use Rattle.fc_squash.proofs.CarryLemmas.{CarriedBy, carried_start, carried_by_more}
use Rattle.fc_squash.proofs.EndLemmas.{squashed, squashed_by}
use Rattle.fc_squash.proofs.RoomLemmas.{Above, above-pulled, above-tidied, leaves_same, room_by_more, room_same}
use Rattle.fc_squash.proofs.ToldLemmas.{told_start, told_then}
use Rattle.fc_squash.proofs.squashing.pull_all.Goals as goal

pub loop-k-init : goal.loop-k-init
loop-k-init g c = record {
  form = form_same g.D.Disk c.args.disk.now;
  stand = stand_start c.args.map.now c.tidy.new.self c.args.owned.now c.requires.map c.requires.bodies c.tidy.ensures.holes;
  carried = carried_start g.D.Disk c.args.disk.now c.args.map.now.sector_units c.args.map.now c.args.owned.now;
  room = leaves_same g.D.Disk (ChangesRoom c.args.map.now c.args.owned.now) (room_same c.args.map.now c.args.owned.now) c.args.disk.now;
  above = λ n all. subst (Above n) (sym (ap (λ (m : OldMapContent). m.holes) c.tidy.ensures.holes)) (above-tidied n c.args.map.now.holes all);
  stops = started (laws g.met.D.Disk) c.args.disk.now (λ image. Unit {0}) (λ image left. tt);
  told = told_start g.D.Disk c.args.disk.now;
  faults = omega arith;
  long = refl;
}

pub pull-requires-clause-place : goal.pull-requires-clause-place
pull-requires-clause-place g c =
    let stand = c.loop-k.invariant.stand in
    (comes c.args.map.now c.loop-k.map c.args.owned.now c.loop-k.owned c.loop-k.k stand (omega (arith, c.loop-k-test.true, c.loop-k.invariant.long))).here

pub pull-requires-clause-apart : goal.pull-requires-clause-apart
pull-requires-clause-apart g c =
    let stand = c.loop-k.invariant.stand in
    (comes c.args.map.now c.loop-k.map c.args.owned.now c.loop-k.owned c.loop-k.k stand (omega (arith, c.loop-k-test.true, c.loop-k.invariant.long))).apart

pub returns-in_err-start-clause-stops : goal.returns-in_err-start-clause-stops
returns-in_err-start-clause-stops g c = goes_on (laws g.met.D.Disk) c.loop-k.invariant.stops c.pull.ensures.goes.stops (λ image left. tt)

pub returns-in_err-start-clause-told : goal.returns-in_err-start-clause-told
returns-in_err-start-clause-told g c = told_then g.D.Disk c.loop-k.invariant.told c.pull.ensures.goes.told

pub returns-in_err-start-clause-places : goal.returns-in_err-start-clause-places
returns-in_err-start-clause-places g c =
    let was = c.loop-k.invariant in
    let there : c.loop-k.k < length c.loop-k.owned = omega (arith, c.loop-k-test.true, was.long) in
    room_by_more g.D.Disk c.args.disk.now c.loop-k.disk c.pull.new.disk c.args.map.now c.loop-k.map c.args.owned.now c.loop-k.owned c.loop-k.k c.requires.map c.requires.bodies was.stand there was.above was.room c.pull.ensures.places

pub loop-k-preserved : goal.loop-k-preserved
loop-k-preserved g c =
    let law = laws g.met.D.Disk in
    let d = g.D.Disk in
    let was = c.loop-k.invariant in
    let old = c.args.map.now in
    let list = c.args.owned.now in
    let now = c.loop-k.owned in
    let k = c.loop-k.k in
    let start = c.in_ok-start.start in
    let there : k < length now = omega (arith, c.loop-k-test.true, was.long) in
    let set : c.set_start.new.owned ≡ with_start now k start = c.set_start.ensures in
    let stand = stand_more old c.loop-k.map c.pull.new.map list now k start was.stand there c.pull.ensures.disc c.pull.ensures.units c.in_ok-start.ensures.pulled in
    let size : d.sector_size c.loop-k.disk ≡ 256 * c.loop-k.map.sector_units =
    was.form.size_stays ∙ c.requires.size ∙ ap (λ (n : ℕ). 256 * n) (sym was.stand.units) in
    let carried = carried_by_more d c.args.disk.now c.loop-k.disk c.pull.new.disk old c.loop-k.map c.pull.new.map list now k start there was.stand stand size was.carried c.in_ok-start.ensures.slid in
    record {
      form = form_then d was.form c.pull.ensures.goes.form;
      stand = subst (λ l. Standing old c.pull.new.map list l (k + 1)) (sym set) stand;
      carried = subst (λ l. CarriedBy d c.args.disk.now c.pull.new.disk old.sector_units old list l) (sym set) carried;
      room = room_by_more d c.args.disk.now c.loop-k.disk c.pull.new.disk old c.loop-k.map list now k c.requires.map c.requires.bodies was.stand there was.above was.room c.pull.ensures.places;
      above = λ n all. above-pulled n c.loop-k.map.holes c.pull.new.map.holes (place (get_or now k no_object)) start c.in_ok-start.ensures.pulled (was.above n all);
      stops = goes_on law was.stops c.pull.ensures.goes.stops (λ image left. tt);
      told = told_then d was.told c.pull.ensures.goes.told;
      faults = omega (arith, was.faults, c.pull.ensures.goes.cause.later);
      long = ap (λ (l : List Owned). length l) set ∙ length-set now k (moved_to start (get_or now k no_object)) ∙ was.long;
    }

pub returns-clause-squashed : goal.returns-clause-squashed
returns-clause-squashed g c =
    squashed c.args.map.now c.loop-k.map c.args.owned.now c.loop-k.owned c.loop-k.k c.requires.bodies c.requires.map c.loop-k.invariant.stand
    (omega (arith, c.loop-k-test.false, c.loop-k.invariant.long))

pub returns-clause-bytes : goal.returns-clause-bytes
returns-clause-bytes g c =
    squashed_by c.args.map.now c.loop-k.map c.args.owned.now c.loop-k.owned c.loop-k.k c.requires.bodies c.requires.map c.loop-k.invariant.stand
    (omega (arith, c.loop-k-test.false, c.loop-k.invariant.long)) g.D.Disk c.args.disk.now c.loop-k.disk c.loop-k.invariant.carried
