use Rattle.std.proofs.Common.{◌≡◌, ◌≤◌, ◌+◌, ℕ, Bool, true, false, ap, sym, subst, ◌∙◌, arith}
use Rattle.std.specs.Prelude.{◌||◌}
use Rattle.fc_device.proofs.DiskLaws.{laws}
use Rattle.fc_record.specs.declared.Geometry.{Geometry}
use Rattle.fc_compact.specs.Rounds.{FallsIn, all_weight}
use Rattle.fc_compact.specs.Settlement.{one_if}
use Rattle.fc_compact.proofs.DrawnLemmas.{weight_falls}
use Rattle.fc_compact.proofs.GoneLemmas.{gone_err, gone_ok, gone_start, gone_then}
use Rattle.fc_compact.proofs.rounds.gather_all.Goals as goal

pub gather-requires-clause-stands : goal.gather-requires-clause-stands
gather-requires-clause-stands g c = c.loop-next.invariant.gone.keeps.stands

pub loop-next-init : goal.loop-next-init
loop-next-init g c = record { gone = gone_start (laws g.met.D.Disk) c.laws.ensures c.args.owners.now c.args.disk.now c.args.map.now c.is_map.ensures c.requires.stands; falls = omega arith }

pub gather-requires-clause-end : goal.gather-requires-clause-end
gather-requires-clause-end g c = omega (arith, ap (λ (h : Geometry). h.zones) c.geometry.ensures.value, ap (λ (h : Geometry). h.zones) c.loop-next.invariant.gone.keeps.geometry)

pub returns-in_err-step-clause-keeps : goal.returns-in_err-step-clause-keeps
returns-in_err-step-clause-keeps g c =
    gone_err (laws g.met.D.Disk) c.laws.ensures c.args.owners.now c.args.disk.now c.args.map.now c.loop-next.disk c.loop-next.map c.loop-next.invariant.gone c.gather.new.disk c.gather.new.map _ c.from_residual.result c.from_residual.ensures.0 c.in_err-step.ensures.keeps

pub loop-next-smaller : goal.loop-next-smaller
loop-next-smaller g c = let on = c.in_ok-step.ensures.gathered.next in omega (arith, on, c.loop-next-test.true)

pub loop-next-preserved : goal.loop-next-preserved
loop-next-preserved g c =
    let was = c.loop-next.invariant in
    let ok = c.in_ok-step.ensures in
    let m = c.loop-next.map in
    let n = c.gather.new.map in
    let step = c.in_ok-step.step in
    let all : c.geometry.result.now.zones ≡ m.geometry.zones = ap (λ (h : Geometry). h.zones) c.geometry.ensures.value ∙ sym (ap (λ (h : Geometry). h.zones) was.gone.keeps.geometry) in
    record {
      gone = gone_then (laws g.met.D.Disk) c.laws.ensures c.args.owners.now c.args.disk.now c.args.map.now c.loop-next.disk c.loop-next.map c.loop-next.invariant.gone c.gather.new.disk c.gather.new.map _ ok.keeps ok.gathered.packs;
      falls = more c.loop-next.any step.any (all_weight n) (all_weight m) (all_weight c.args.map.now)
          (weight_falls m n ok.gathered.less step.any c.loop-next.next c.gather.ensures.keeps.geometry (λ e. subst (FallsIn m n c.loop-next.next) all (ok.gathered.falls e))) was.falls;
    }
  where
    more : (a b : Bool) (now mid was : ℕ) → now + one_if b ≤ mid → mid + one_if a ≤ was → now + one_if (a || b) ≤ was
    more true true now mid was p q = omega (arith, p, q)
    more true false now mid was p q = omega (arith, p, q)
    more false true now mid was p q = omega (arith, p, q)
    more false false now mid was p q = omega (arith, p, q)

pub returns-clause-keeps : goal.returns-clause-keeps
returns-clause-keeps g c = gone_ok (laws g.met.D.Disk) c.laws.ensures c.args.owners.now c.args.disk.now c.args.map.now c.loop-next.disk c.loop-next.map c.loop-next.invariant.gone _
