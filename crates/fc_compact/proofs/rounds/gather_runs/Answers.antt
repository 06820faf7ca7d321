use Rattle.std.proofs.Common.{◌≡◌, ◌<◌, ◌≤◌, ◌∷◌, ◌++◌, [], ℕ, List, Bool, refl, ap, sym, subst, ◌∙◌, arith, append_assoc, true, false}
use Rattle.std.specs.Prelude.{◌||◌}
use Rattle.fc_device.proofs.DiskLaws.{laws, form_same, form_then}
use Rattle.fc_record.specs.declared.Geometry.{Geometry}
use Rattle.fc_zone.specs.declared.Run.{Run}
use Rattle.fc_zone.specs.Cursor.{StandsBetween}
use Rattle.fc_newmap.specs.Map.{first_sector, runs_of, sector_count, sector_of}
use Rattle.fc_compact.specs.Copy.{ChangesRow}
use Rattle.fc_compact.specs.Slides.{HasRuns}
use Rattle.fc_compact.proofs.GatherLemmas.{FrontIn, front_fits, front_kept, front_more, gathers_none, more_carrying, one_more, start_front}
use Rattle.fc_compact.proofs.GoneLemmas.{disc_then}
use Rattle.fc_compact.proofs.RowLemmas.{told_still, torn_led}
use Rattle.fc_compact.proofs.ZonePassLemmas.{IsBegun, begun, read_as, shape_stays, stands_on}
use Rattle.fc_compact.proofs.rounds.gather_runs.Goals as goal
use Rattle.fc_compact.proofs.rounds.gather_runs.Goals.{After-from_zone-walk, In-Some-next}
use Rattle.fc_compact.proofs.rounds.gather_runs.Given.{Over}

pub returns-in_default-clause-kept : goal.returns-in_default-clause-kept
returns-in_default-clause-kept g c = λ m spares start form kept. kept

pub returns-in_default-clause-carrying : goal.returns-in_default-clause-carrying
returns-in_default-clause-carrying g c = λ m spares carrying. carrying

pub returns-in_default-clause-gathers : goal.returns-in_default-clause-gathers
returns-in_default-clause-gathers g c = gathers_none c.args.owners.now c.args.map.now c.args.z c.from_zone-walk.ensures.map

-- before all runs of the zone
start : (g : Over) (c : After-from_zone-walk g) → IsBegun c.args.map.now c.args.z c.from_zone-walk.result
start g c = begun c.args.map.now c.args.z c.from_zone-walk.result c.from_zone-walk.ensures.stands c.from_zone-walk.ensures.zone c.from_zone-walk.ensures.more

pub next-requires-clause-shape : goal.next-requires-clause-shape
next-requires-clause-shape g c =
    let m = c.args.map.now in
    let s = start g (goal.at.next-requires-clause-shape g c).After-from_zone-walk in
    shape_stays m m c.args.z c.from_zone-walk.result.shape c.bytes.result.now c.from_zone-walk.ensures.map refl c.requires.zone s.shape_is c.bytes.ensures.value

pub next-requires-clause-stands : goal.next-requires-clause-stands
next-requires-clause-stands g c =
    let m = c.args.map.now in
    let walk = c.from_zone-walk.result in
    let s = start g (goal.at.next-requires-clause-stands g c).After-from_zone-walk in
    (s.done, runs_of m c.args.z, read_as walk.shape (sector_of m c.args.z) c.bytes.result.now s.done (runs_of m c.args.z) walk.place c.bytes.ensures.value s.stands)

pub loop-next-init : goal.loop-next-init
loop-next-init g c =
    let m = c.args.map.now in
    let z = c.args.z in
    let walk = c.from_zone-walk.result in
    let s = start g (goal.at.loop-next-init g c).After-from_zone-walk in
    let step = c.in-Some.ensures.value s.done (runs_of m z) (read_as walk.shape (sector_of m z) c.bytes.result.now s.done (runs_of m z) walk.place c.bytes.ensures.value s.stands) in
    let first = c.in-Some.first in
    record {
      form = form_same g.D.Disk c.args.disk.now;
      kept = λ n spares start form kept. kept;
      carrying = λ n spares carrying. carrying;
      gathers = gathers_none c.args.owners.now m z c.from_zone-walk.ensures.map;
      still = λ e. refl;
      front = [];
      rest = step.0;
      cut = step.1.0;
      passed = first ∷ [];
      ahead = step.1.0;
      few = subst (λ (k : ℕ). k ≤ first.len) (sym c.fresh_of-fresh.ensures) (front_fits first);
      in_holes = λ n spares. subst (λ (k : ℕ). FrontIn n z first k) (sym c.fresh_of-fresh.ensures)
          (start_front n spares.was z (subst (λ (h : Geometry). z < h.zones) spares.geometry c.requires.zone) [] step.0 first (sym spares.runs ∙ step.1.0));
      faults = omega arith;
      shape = s.shape_is;
      gone = s.done ++ first ∷ [];
      stands = read_as walk.shape c.bytes.result.now (sector_of m z) (s.done ++ first ∷ []) step.0 c.next.new.self (sym c.bytes.ensures.value) step.1.1;
    }

-- the rest of the runs, of which one comes next
record IsOnward (g : Over) (c : In-Some-next g) : Type 0 where
  pub rest : List Run
  pub ahead : c.loop-next.invariant.rest ≡ c.in-Some-next.next ∷ rest
  pub stands : StandsBetween c.from_zone-walk.result.shape (sector_of c.loop-next.map c.args.z) (c.loop-next.invariant.gone ++ c.in-Some-next.next ∷ []) rest c.next-in-loop-next.new.self

onward : (g : Over) (c : In-Some-next g) → IsOnward g c
onward g c =
    let was = c.loop-next.invariant in
    let k = c.from_zone-walk.result.shape in
    let b = c.bytes-in-loop-next in
    let sector = sector_of c.loop-next.map c.args.z in
    let step = c.in-Some-next.ensures.value was.gone was.rest (read_as k sector b.result.now was.gone was.rest c.loop-next.place b.ensures.value was.stands) in
    record {
      rest = step.0;
      ahead = step.1.0;
      stands = read_as k b.result.now sector (was.gone ++ c.in-Some-next.next ∷ []) step.0 c.next-in-loop-next.new.self (sym b.ensures.value) step.1.1;
    }

pub next-requires-in-loop-next-clause-shape : goal.next-requires-in-loop-next-clause-shape
next-requires-in-loop-next-clause-shape g c =
    let was = c.loop-next.invariant in
    let edit = was.gathers.edit in
    shape_stays c.args.map.now c.loop-next.map c.args.z c.from_zone-walk.result.shape c.bytes-in-loop-next.result.now edit.map edit.geometry c.requires.zone was.shape c.bytes-in-loop-next.ensures.value

pub gather_pair-requires-clause-disc : goal.gather_pair-requires-clause-disc
gather_pair-requires-clause-disc g c = let was = c.loop-next.invariant in disc_then g.D.Disk c.args.disk.now c.loop-next.disk c.args.map.now c.loop-next.map was.form was.gathers.edit.geometry c.requires.disc

pub gather_pair-requires-clause-zone : goal.gather_pair-requires-clause-zone
gather_pair-requires-clause-zone g c = subst (λ (h : Geometry). c.args.z < h.zones) (sym c.loop-next.invariant.gathers.edit.geometry) c.requires.zone

pub gather_pair-requires-clause-pair : goal.gather_pair-requires-clause-pair
gather_pair-requires-clause-pair g c =
    let was = c.loop-next.invariant in
    let o = onward g (goal.at.gather_pair-requires-clause-pair g c).In-Some-next in
    (was.front, o.rest, was.cut ∙ ap (λ (rs : List Run). was.front ++ c.loop-next.run ∷ rs) o.ahead)

pub gather_pair-requires-clause-fresh : goal.gather_pair-requires-clause-fresh
gather_pair-requires-clause-fresh g c = c.loop-next.invariant.few

pub returns-in_err-front-clause-kept : goal.returns-in_err-front-clause-kept
returns-in_err-front-clause-kept g c = λ n spares.
    let was = c.loop-next.invariant in
    front_kept (laws g.met.D.Disk) n c.args.map.now c.loop-next.map c.args.owners.now c.args.z spares was.gathers.edit.map was.gathers.edit.geometry c.requires.zone was.front was.rest c.loop-next.run was.cut
    c.loop-next.fresh was.few (was.in_holes n spares) was.form c.requires.disc.size c.requires.disc.room c.gather_pair.ensures.tears (was.kept n spares)

pub loop-next-preserved : goal.loop-next-preserved
loop-next-preserved g c =
    let was = c.loop-next.invariant in
    let next = c.in-Some-next.next in
    let o = onward g (goal.at.loop-next-preserved g c).In-Some-next in
    let here : HasRuns c.loop-next.map c.args.z (was.front ++ c.loop-next.run ∷ (next ∷ o.rest)) = was.cut ∙ ap (λ (rs : List Run). was.front ++ c.loop-next.run ∷ rs) o.ahead in
    let ok = c.in_ok-front.ensures in
    let m = c.args.map.now in
    let w = c.loop-next.map in
    let owners = c.args.owners.now in
    let edit = was.gathers.edit in
    let behind = was.ahead ∙ ap (λ (rs : List Run). was.passed ++ rs) o.ahead in
    let front = c.in_ok-front.front in
    let fresh : Run = record c.loop-next.run { len = c.loop-next.fresh } in
    let step = one_more c.laws.ensures m w c.gather_pair.new.map owners c.args.z c.requires.zone c.loop-next.any was.gathers was.front o.rest c.loop-next.run next here c.loop-next.fresh was.few
    c.in_ok-front.front ok.gathered in
    record {
      form = form_then g.D.Disk was.form c.gather_pair.ensures.form;
      kept = λ n spares.
          front_kept (laws g.met.D.Disk) n m w owners c.args.z spares edit.map edit.geometry c.requires.zone was.front was.rest c.loop-next.run was.cut
          c.loop-next.fresh was.few (was.in_holes n spares) was.form c.requires.disc.size c.requires.disc.room c.gather_pair.ensures.tears (was.kept n spares);
      carrying = λ n spares first image told.
          (let before = torn_led c.gather_pair.ensures.tears image told in
          more_carrying c.laws.ensures n w c.gather_pair.new.map owners c.args.z spares.was edit.map (edit.geometry ∙ spares.geometry) (subst (λ (h : Geometry). c.args.z < h.zones) spares.geometry c.requires.zone)
          was.front o.rest c.loop-next.run next here c.loop-next.fresh was.few (was.in_holes n spares) c.in_ok-front.front ok.gathered (λ k stuck. was.gathers.fixed k stuck ∙ spares.fixed k stuck) before.0 image
          (subst (λ (k : ℕ). ChangesRow k (first_sector w.geometry (c.args.z, c.loop-next.run)) (sector_count w.geometry (c.args.z, fresh)) before.0 image)
          (was.form.size_stays ∙ c.requires.disc.size ∙ ap (λ (h : Geometry). h.sector) spares.geometry) before.2)
          (λ e. ok.copied e image told) (λ e. told_still g.D.Disk before.1 told (ok.still e)) (was.carrying n spares first before.0 before.1));
      gathers = step.gathers;
      still = λ e. (let both = neither c.loop-next.any c.in_ok-front.front.moved e in ok.still both.1 ∙ was.still both.0);
      front = step.front;
      rest = o.rest;
      cut = step.cut;
      passed = was.passed ++ next ∷ [];
      ahead = behind ∙ sym (append_assoc was.passed (next ∷ []) o.rest);
      few = step.few;
      in_holes = λ n spares.
          front_more c.laws.ensures n w c.gather_pair.new.map owners c.args.z spares.was edit.map (edit.geometry ∙ spares.geometry) (subst (λ (h : Geometry). c.args.z < h.zones) spares.geometry c.requires.zone)
          was.front o.rest c.loop-next.run next here c.loop-next.fresh was.few (was.in_holes n spares) c.in_ok-front.front ok.gathered was.passed (sym spares.runs ∙ behind);
      faults = omega (arith, was.faults, c.gather_pair.ensures.cause.later);
      shape = was.shape;
      gone = step.front ++ front.run ∷ [];
      stands = stands_on m c.gather_pair.new.map c.args.z c.from_zone-walk.result.shape (sector_of w c.args.z) (was.gone ++ next ∷ []) (step.front ++ front.run ∷ []) o.rest c.next-in-loop-next.new.self
          step.gathers.edit.map step.gathers.edit.geometry c.requires.zone was.shape o.stands (step.cut ∙ sym (append_assoc step.front (front.run ∷ []) o.rest));
    }
  where
    neither : (a b : Bool) → (a || b) ≡ false → (a ≡ false) × (b ≡ false)
    neither true b e = absurd (cc)
    neither false b e = (refl, e)
