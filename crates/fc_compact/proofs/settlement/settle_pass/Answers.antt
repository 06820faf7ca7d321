use Rattle.std.proofs.Common.{◌≡◌, ◌≤◌, ◌+◌, ◌∷◌, ◌++◌, [], ℕ, List, Bool, refl, ap, sym, subst, ◌∙◌, arith, append_assoc, true, false}
use Rattle.std.specs.Prelude.{◌||◌}
use Rattle.fc_device.proofs.DiskLaws.{laws}
use Rattle.fc_record.specs.declared.Geometry.{Geometry}
use Rattle.fc_zone.specs.declared.Run.{Run}
use Rattle.fc_zone.specs.Cursor.{StandsBetween}
use Rattle.fc_newmap.specs.Map.{runs_of, sector_of}
use Rattle.fc_image.specs.effects.Settled.{passes_adjacent}
use Rattle.fc_compact.specs.Compaction.{is_done_by}
use Rattle.fc_compact.specs.Settlement.{one_if, zone_weight}
use Rattle.fc_compact.specs.Slides.{HasRuns}
use Rattle.fc_compact.proofs.GoneLemmas.{gone_err, gone_ok, kept_start, gone_start, gone_then, still_zone}
use Rattle.fc_compact.proofs.PacksLemmas.{packs_none}
use Rattle.fc_compact.proofs.AdjacentLemmas.{adjacent_more}
use Rattle.fc_compact.proofs.ZonePassLemmas.{IsBegun, begun, read_as, shape_stays, stands_on}
use Rattle.fc_compact.proofs.settlement.settle_pass.Goals as goal
use Rattle.fc_compact.proofs.settlement.settle_pass.Goals.{After-from_zone-walk, In-Some-next}
use Rattle.fc_compact.proofs.settlement.settle_pass.Given.{Over}

pub settle_pair-requires-clause-stands : goal.settle_pair-requires-clause-stands
settle_pair-requires-clause-stands g c = c.loop-next.invariant.gone.keeps.stands

pub returns-in_default-clause-keeps : goal.returns-in_default-clause-keeps
returns-in_default-clause-keeps g c = kept_start (laws g.met.D.Disk) c.laws.ensures c.args.owners.now c.args.disk.now c.args.map.now _ c.requires.stands

-- before all runs of the zone
start : (g : Over) (c : After-from_zone-walk g) → IsBegun c.args.map.now c.args.z c.from_zone-walk.result
start g c = begun c.args.map.now c.args.z c.from_zone-walk.result c.from_zone-walk.ensures.stands c.from_zone-walk.ensures.zone c.from_zone-walk.ensures.more

pub next-requires-clause-shape : goal.next-requires-clause-shape
next-requires-clause-shape g c =
    let m = c.args.map.now in
    let s = start g (goal.at.next-requires-clause-shape g c).After-from_zone-walk in
    shape_stays m m c.args.z c.from_zone-walk.result.shape c.bytes.result.now c.from_zone-walk.ensures.map refl c.requires.zone s.shape_is c.bytes.ensures.value

pub next-requires-clause-stands : goal.next-requires-clause-stands
next-requires-clause-stands g c =
    let m = c.args.map.now in
    let walk = c.from_zone-walk.result in
    let s = start g (goal.at.next-requires-clause-stands g c).After-from_zone-walk in
    (s.done, runs_of m c.args.z, read_as walk.shape (sector_of m c.args.z) c.bytes.result.now s.done (runs_of m c.args.z) walk.place c.bytes.ensures.value s.stands)

pub returns-in_default-clause-passes : goal.returns-in_default-clause-passes
returns-in_default-clause-passes g c =
    let m = c.args.map.now in
    let z = c.args.z in
    let walk = c.from_zone-walk.result in
    let s = start g (goal.at.returns-in_default-clause-passes g c).After-from_zone-walk in
    let none = (c.in_default.ensures.value s.done (runs_of m z) (read_as walk.shape (sector_of m z) c.bytes.result.now s.done (runs_of m z) walk.place c.bytes.ensures.value s.stands)).0 in
    record {
      packs = packs_none c.args.owners.now m c.from_zone-walk.ensures.map;
      others = λ y other. refl;
      falls = omega arith;
      same = λ e. refl;
      done = λ e. ap (passes_adjacent (is_done_by m.geometry c.args.owners.now)) none;
    }

pub loop-next-init : goal.loop-next-init
loop-next-init g c =
    let m = c.args.map.now in
    let z = c.args.z in
    let walk = c.from_zone-walk.result in
    let s = start g (goal.at.loop-next-init g c).After-from_zone-walk in
    let step = c.in-Some.ensures.value s.done (runs_of m z) (read_as walk.shape (sector_of m z) c.bytes.result.now s.done (runs_of m z) walk.place c.bytes.ensures.value s.stands) in
    let first = c.in-Some.first in
    record {
      gone = gone_start (laws g.met.D.Disk) c.laws.ensures c.args.owners.now c.args.disk.now m c.from_zone-walk.ensures.map c.requires.stands;
      others = λ y other. refl;
      front = [];
      rest = step.0;
      cut = step.1.0;
      falls = omega arith;
      same = λ e. refl;
      done = λ e. refl;
      shape = s.shape_is;
      passed = s.done ++ first ∷ [];
      stands = read_as walk.shape c.bytes.result.now (sector_of m z) (s.done ++ first ∷ []) step.0 c.next.new.self (sym c.bytes.ensures.value) step.1.1;
    }

-- the rest of the runs, of which one comes next
record IsOnward (g : Over) (c : In-Some-next g) : Type 0 where
  pub rest : List Run
  pub ahead : c.loop-next.invariant.rest ≡ c.in-Some-next.next ∷ rest
  pub stands : StandsBetween c.from_zone-walk.result.shape (sector_of c.loop-next.map c.args.z) (c.loop-next.invariant.passed ++ c.in-Some-next.next ∷ []) rest c.next-in-loop-next.new.self

onward : (g : Over) (c : In-Some-next g) → IsOnward g c
onward g c =
    let was = c.loop-next.invariant in
    let k = c.from_zone-walk.result.shape in
    let b = c.bytes-in-loop-next in
    let sector = sector_of c.loop-next.map c.args.z in
    let step = c.in-Some-next.ensures.value was.passed was.rest (read_as k sector b.result.now was.passed was.rest c.loop-next.place b.ensures.value was.stands) in
    record {
      rest = step.0;
      ahead = step.1.0;
      stands = read_as k b.result.now sector (was.passed ++ c.in-Some-next.next ∷ []) step.0 c.next-in-loop-next.new.self (sym b.ensures.value) step.1.1;
    }

pub next-requires-in-loop-next-clause-shape : goal.next-requires-in-loop-next-clause-shape
next-requires-in-loop-next-clause-shape g c =
    let was = c.loop-next.invariant in
    shape_stays c.args.map.now c.loop-next.map c.args.z c.from_zone-walk.result.shape c.bytes-in-loop-next.result.now was.gone.packs.leads.map was.gone.keeps.geometry c.requires.zone was.shape c.bytes-in-loop-next.ensures.value

pub settle_pair-requires-clause-zone : goal.settle_pair-requires-clause-zone
settle_pair-requires-clause-zone g c = still_zone c.args.map.now c.loop-next.map c.loop-next.invariant.gone.keeps.geometry c.args.z c.requires.zone

pub settle_pair-requires-clause-pair : goal.settle_pair-requires-clause-pair
settle_pair-requires-clause-pair g c =
    let was = c.loop-next.invariant in
    let o = onward g (goal.at.settle_pair-requires-clause-pair g c).In-Some-next in
    (was.front, o.rest, was.cut ∙ ap (λ (rs : List Run). was.front ++ c.loop-next.run ∷ rs) o.ahead)

pub returns-in_err-step-clause-keeps : goal.returns-in_err-step-clause-keeps
returns-in_err-step-clause-keeps g c =
    gone_err (laws g.met.D.Disk) c.laws.ensures c.args.owners.now c.args.disk.now c.args.map.now c.loop-next.disk c.loop-next.map c.loop-next.invariant.gone c.settle_pair.new.disk c.settle_pair.new.map _ c.from_residual.result c.from_residual.ensures.0 c.in_err-step.ensures.keeps

pub loop-next-preserved : goal.loop-next-preserved
loop-next-preserved g c =
    let was = c.loop-next.invariant in
    let next = c.in-Some-next.next in
    let o = onward g (goal.at.loop-next-preserved g c).In-Some-next in
    let here : HasRuns c.loop-next.map c.args.z (was.front ++ c.loop-next.run ∷ (next ∷ o.rest)) = was.cut ∙ ap (λ (rs : List Run). was.front ++ c.loop-next.run ∷ rs) o.ahead in
    let ok = c.in_ok-step.ensures in
    let steps = ok.steps in
    let cut = steps.cut was.front o.rest here in
    let step = c.in_ok-step.step in
    let gone = gone_then (laws g.met.D.Disk) c.laws.ensures c.args.owners.now c.args.disk.now c.args.map.now c.loop-next.disk c.loop-next.map was.gone c.settle_pair.new.disk c.settle_pair.new.map _ ok.keeps steps.packs in
    record {
      gone = gone;
      others = λ y other. steps.others y other ∙ was.others y other;
      front = cut.0;
      rest = o.rest;
      cut = cut.1.0;
      falls = lower c.loop-next.changed step.changed (zone_weight (runs_of c.settle_pair.new.map c.args.z)) (zone_weight (runs_of c.loop-next.map c.args.z)) (zone_weight (runs_of c.args.map.now c.args.z)) steps.falls was.falls;
      same = λ e. (let both = neither c.loop-next.changed step.changed e in (steps.done both.1).0 ∙ was.same both.0);
      done = λ e. (let both = neither c.loop-next.changed step.changed e in
          let d = steps.done both.1 in
          let f = is_done_by c.args.map.now.geometry c.args.owners.now in
          ap (λ (fr : List Run). passes_adjacent f (fr ++ step.run ∷ [])) (cut.1.1 both.1)
          ∙ ap (λ (r : Run). passes_adjacent f ((was.front ++ c.loop-next.run ∷ []) ++ r ∷ [])) d.1
          ∙ adjacent_more f was.front c.loop-next.run next (was.done both.0) (subst (λ (h : Geometry). is_done_by h c.args.owners.now c.loop-next.run next ≡ true) was.gone.keeps.geometry d.2));
      shape = was.shape;
      passed = cut.0 ++ step.run ∷ [];
      stands = stands_on c.args.map.now c.settle_pair.new.map c.args.z c.from_zone-walk.result.shape (sector_of c.loop-next.map c.args.z) (was.passed ++ next ∷ []) (cut.0 ++ step.run ∷ []) o.rest c.next-in-loop-next.new.self
          gone.packs.leads.map gone.keeps.geometry c.requires.zone was.shape o.stands (cut.1.0 ∙ sym (append_assoc cut.0 (step.run ∷ []) o.rest));
    }
  where
    neither : (a b : Bool) → (a || b) ≡ false → (a ≡ false) × (b ≡ false)
    neither true b e = absurd (cc)
    neither false b e = (refl, e)

    lower : (a b : Bool) (x y w : ℕ) → x + one_if b ≤ y → y + one_if a ≤ w → x + one_if (a || b) ≤ w
    lower true true x y w p q = omega (arith, p, q)
    lower true false x y w p q = omega (arith, p, q)
    lower false true x y w p q = omega (arith, p, q)
    lower false false x y w p q = omega (arith, p, q)

pub returns-clause-keeps : goal.returns-clause-keeps
returns-clause-keeps g c = gone_ok (laws g.met.D.Disk) c.laws.ensures c.args.owners.now c.args.disk.now c.args.map.now c.loop-next.disk c.loop-next.map c.loop-next.invariant.gone _

pub returns-clause-passes : goal.returns-clause-passes
returns-clause-passes g c =
    let was = c.loop-next.invariant in
    let k = c.from_zone-walk.result.shape in
    let b = c.bytes-in-loop-next in
    let none = (c.in_default-next.ensures.value was.passed was.rest (read_as k (sector_of c.loop-next.map c.args.z) b.result.now was.passed was.rest c.loop-next.place b.ensures.value was.stands)).0 in
    record {
      packs = was.gone.packs;
      others = was.others;
      falls = was.falls;
      same = was.same;
      done = λ e. ap (passes_adjacent (is_done_by c.loop-next.map.geometry c.args.owners.now)) (was.cut ∙ ap (λ (rs : List Run). was.front ++ c.loop-next.run ∷ rs) none)
          ∙ ap (λ (h : Geometry). passes_adjacent (is_done_by h c.args.owners.now) (was.front ++ c.loop-next.run ∷ [])) was.gone.keeps.geometry ∙ was.done e;
    }
