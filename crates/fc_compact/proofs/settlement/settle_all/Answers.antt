use Rattle.std.proofs.Common.{ℕ, List, inl, inr, ap, ap₂, sym, subst, ◌∙◌, arith}
use Rattle.std.proofs.lemmas.Bool.{cases_eq}
use Rattle.fc_device.proofs.DiskLaws.{laws}
use Rattle.fc_record.specs.declared.Geometry.{Geometry}
use Rattle.fc_zone.specs.declared.Run.{Run}
use Rattle.fc_image.specs.effects.Settled.{passes_adjacent}
use Rattle.fc_compact.specs.Compaction.{is_done_by}
use Rattle.fc_compact.specs.Settlement.{IsSettledZone}
use Rattle.fc_compact.proofs.GoneLemmas.{gone_err, gone_ok, gone_start, gone_then, still_zone}
use Rattle.fc_compact.proofs.settlement.settle_all.Goals as goal

pub settle_zone-requires-clause-stands : goal.settle_zone-requires-clause-stands
settle_zone-requires-clause-stands g c = c.loop-z.invariant.gone.keeps.stands

pub returns-in_err-settle_zone-clause-keeps : goal.returns-in_err-settle_zone-clause-keeps
returns-in_err-settle_zone-clause-keeps g c =
    gone_err (laws g.met.D.Disk) c.laws.ensures c.args.owners.now c.args.disk.now c.args.map.now c.loop-z.disk c.loop-z.map c.loop-z.invariant.gone c.settle_zone.new.disk c.settle_zone.new.map _ c.from_residual-in_err-settle_zone.result c.from_residual-in_err-settle_zone.ensures.0 c.in_err-settle_zone.ensures.keeps

pub returns-clause-keeps : goal.returns-clause-keeps
returns-clause-keeps g c = gone_ok (laws g.met.D.Disk) c.laws.ensures c.args.owners.now c.args.disk.now c.args.map.now c.loop-z.disk c.loop-z.map c.loop-z.invariant.gone _

pub settle_zone-requires-clause-zone : goal.settle_zone-requires-clause-zone
settle_zone-requires-clause-zone g c = still_zone c.args.map.now c.loop-z.map c.loop-z.invariant.gone.keeps.geometry c.loop-z.z (omega (arith, c.loop-z-test.true, ap (λ (h : Geometry). h.zones) c.geometry.ensures.value))

pub loop-z-init : goal.loop-z-init
loop-z-init g c =
    let ok = c.in_ok-gather_rounds.ensures in
    let once = gone_then (laws g.met.D.Disk) c.laws.ensures c.args.owners.now c.args.disk.now c.args.map.now c.args.disk.now c.args.map.now
    (gone_start (laws g.met.D.Disk) c.laws.ensures c.args.owners.now c.args.disk.now c.args.map.now c.is_map.ensures c.requires.stands)
    c.gather_rounds.new.disk c.gather_rounds.new.map _ ok.keeps ok.packs in
    record { gone = once; done = λ y low. absurd (omega arith) }

pub loop-z-preserved : goal.loop-z-preserved
loop-z-preserved g c =
    let was = c.loop-z.invariant in
    let ok = c.in_ok-settle_zone.ensures in
    record {
      gone = gone_then (laws g.met.D.Disk) c.laws.ensures c.args.owners.now c.args.disk.now c.args.map.now c.loop-z.disk c.loop-z.map was.gone c.settle_zone.new.disk c.settle_zone.new.map _ ok.keeps ok.packs;
      done = λ y low. elim (cases_eq y c.loop-z.z) [
        | inl here ↦ subst (λ (x : ℕ). IsSettledZone c.args.owners.now c.settle_zone.new.map x) (sym here) ok.done
        | inr apart ↦ ap₂ (λ (h : Geometry) (rs : List Run). passes_adjacent (is_done_by h c.args.owners.now) rs) c.settle_zone.ensures.keeps.geometry (ok.others y apart) ∙ was.done y (omega (arith, low, apart))
      ];
    }

pub returns-clause-done : goal.returns-clause-done
returns-clause-done g c = λ z low.
    c.loop-z.invariant.done z (omega (arith, low, c.loop-z-test.false, ap (λ (h : Geometry). h.zones) c.geometry.ensures.value, ap (λ (h : Geometry). h.zones) c.loop-z.invariant.gone.keeps.geometry))
