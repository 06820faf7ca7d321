use Rattle.std.proofs.Common.{◌≡◌, ◌<◌, ◌+◌, ℕ, Bool, true, false, cond, List, [], ◌∷◌, ◌++◌, length, length-append, refl, ap, sym, subst, ◌∙◌, arith}
use Rattle.std.proofs.lemmas.Bool.{eqb-false, eqb-true}
use Rattle.fc_device.proofs.DiskLaws.{laws, form_same, form_then}
use Rattle.fc_device.proofs.StopLemmas.{keeps_start}
use Rattle.fc_record.specs.declared.Geometry.{Geometry}
use Rattle.fc_compact.specs.Rounds.{GathersZones}
use Rattle.fc_compact.proofs.CarryLemmas.{carrying_none}
use Rattle.fc_compact.proofs.DrawnLemmas.{zones_more, zones_none, zones_spare, zones_up_to}
use Rattle.fc_compact.proofs.GoneLemmas.{disc_then}
use Rattle.fc_compact.proofs.RowLemmas.{holes_none}
use Rattle.fc_compact.proofs.rounds.gather_zones.Goals as goal

pub loop-z-init : goal.loop-z-init
loop-z-init g c =
    let m = c.args.map.now in
    record {
      form = form_same g.D.Disk c.args.disk.now;
      kept = keeps_start (laws g.met.D.Disk) (holes_none m) c.args.disk.now c.requires.settled;
      carrying = λ image told. carrying_none m c.args.owners.now image;
      gathers = subst (λ (xs : List ℕ). GathersZones c.args.owners.now m m c.args.from c.args.from xs) (sym c.requires.none) (zones_none c.args.owners.now m c.args.from c.args.from c.is_map.ensures);
      low = omega arith;
      still = λ e. refl;
      faults = omega arith;
    }

pub returns-then-is_full-clause-gathers : goal.returns-then-is_full-clause-gathers
returns-then-is_full-clause-gathers g c =
    zones_up_to c.args.owners.now c.args.map.now c.loop-z.map c.args.from c.loop-z.z c.loop-z.changed.items c.loop-z.invariant.gathers c.args.end (omega (arith, c.loop-z-test.true))

pub returns-then-is_full-clause-next : goal.returns-then-is_full-clause-next
returns-then-is_full-clause-next g c =
    let was = c.loop-z.invariant.gathers in
    let full = eqb-true (length c.loop-z.changed.items) 9 (sym c.is_full.ensures.value ∙ c.if-is_full.true) in
    let low = was.low 0 0 (omega (arith, full)) in
    let high = was.high 0 0 (omega (arith, full)) in
    omega (arith, low, high)

pub gather_zone-requires-clause-disc : goal.gather_zone-requires-clause-disc
gather_zone-requires-clause-disc g c = let was = c.loop-z.invariant in disc_then g.D.Disk c.args.disk.now c.loop-z.disk c.args.map.now c.loop-z.map was.form was.gathers.packs.leads.geometry c.requires.disc

pub gather_zone-requires-clause-zone : goal.gather_zone-requires-clause-zone
gather_zone-requires-clause-zone g c =
    subst (λ (h : Geometry). c.loop-z.z < h.zones) (sym c.loop-z.invariant.gathers.packs.leads.geometry) (omega (arith, c.loop-z-test.true, c.requires.end))

pub returns-in_err-any-clause-kept : goal.returns-in_err-any-clause-kept
returns-in_err-any-clause-kept g c =
    let was = c.loop-z.invariant in
    c.gather_zone.ensures.kept c.args.map.now (zones_spare c.args.owners.now c.args.map.now c.loop-z.map c.args.from c.loop-z.z c.loop-z.changed.items was.gathers) c.args.disk.now was.form was.kept

pub push_if-requires : goal.push_if-requires
push_if-requires g c = λ flagged.
    let fits = c.is_full.ensures.fits in
    let not_full = eqb-false (length c.loop-z.changed.items) 9 (sym c.is_full.ensures.value ∙ c.if-is_full.false) in
    omega (arith, fits, not_full)

pub loop-z-preserved : goal.loop-z-preserved
loop-z-preserved g c =
    let was = c.loop-z.invariant in
    let m = c.args.map.now in
    let owners = c.args.owners.now in
    let items = c.loop-z.changed.items in
    let ok = c.in_ok-any.ensures in
    let spares = zones_spare owners m c.loop-z.map c.args.from c.loop-z.z items was.gathers in
    record {
      form = form_then g.D.Disk was.form c.gather_zone.ensures.form;
      kept = c.gather_zone.ensures.kept m spares c.args.disk.now was.form was.kept;
      carrying = ok.carrying m spares was.carrying;
      gathers = subst (λ (xs : List ℕ). GathersZones owners m c.gather_zone.new.map c.args.from (c.loop-z.z + 1) xs) (sym c.push_if.ensures)
          (zones_more owners m c.loop-z.map c.args.from c.loop-z.z items was.gathers was.low c.gather_zone.new.map c.in_ok-any.any ok.drawn);
      low = (let low = was.low in omega (arith, low));
      still = λ e. (let both = empty_more c.in_ok-any.any items c.loop-z.z (sym c.push_if.ensures ∙ e) in ok.still both.0 ∙ was.still both.1);
      faults = omega (arith, was.faults, c.gather_zone.ensures.cause.later);
    }
  where
    empty_more : (any : Bool) (xs : List ℕ) (z : ℕ) → cond any (xs ++ z ∷ []) xs ≡ [] → (any ≡ false) × (xs ≡ [])
    empty_more true xs z e = absurd (let size = length-append xs (z ∷ []) in let none = ap length e in omega (arith, size, none))
    empty_more false xs z e = (refl, e)

pub returns-clause-gathers : goal.returns-clause-gathers
returns-clause-gathers g c =
    zones_up_to c.args.owners.now c.args.map.now c.loop-z.map c.args.from c.loop-z.z c.loop-z.changed.items c.loop-z.invariant.gathers c.args.end (omega (arith, c.loop-z.auto.z-end))
