use Rattle.std.proofs.Common.{◌≡◌, ◌<◌, ◌≤◌, ◌+◌, ℕ, Bool, true, false, refl, sym, subst, ◌∙◌, arith}
use Rattle.fc_device.proofs.DiskLaws.{laws}
use Rattle.fc_newmap.specs.Map.{Map, runs_of}
use Rattle.fc_image.specs.effects.Settled.{passes_adjacent}
use Rattle.fc_compact.specs.Compaction.{is_done_by}
use Rattle.fc_compact.specs.Settlement.{one_if, zone_weight}
use Rattle.fc_compact.proofs.GoneLemmas.{gone_err, gone_ok, gone_start, gone_then, still_zone}
use Rattle.fc_compact.proofs.settlement.settle_zone.Goals as goal

pub settle_more-requires-clause-stands : goal.settle_more-requires-clause-stands
settle_more-requires-clause-stands g c = c.loop-disk.invariant.gone.keeps.stands

pub returns-in_err-settle_more-clause-keeps : goal.returns-in_err-settle_more-clause-keeps
returns-in_err-settle_more-clause-keeps g c =
    gone_err (laws g.met.D.Disk) c.laws.ensures c.args.owners.now c.args.disk.now c.args.map.now c.loop-disk.disk c.loop-disk.map c.loop-disk.invariant.gone c.settle_more.new.disk c.settle_more.new.map _ c.from_residual.result c.from_residual.ensures.0 c.in_err-settle_more.ensures.keeps

pub returns-clause-keeps : goal.returns-clause-keeps
returns-clause-keeps g c = gone_ok (laws g.met.D.Disk) c.laws.ensures c.args.owners.now c.args.disk.now c.args.map.now c.loop-disk.disk c.loop-disk.map c.loop-disk.invariant.gone _

pub settle_more-requires-clause-zone : goal.settle_more-requires-clause-zone
settle_more-requires-clause-zone g c = still_zone c.args.map.now c.loop-disk.map c.loop-disk.invariant.gone.keeps.geometry c.args.z c.requires.zone

pub is_settled_in-requires : goal.is_settled_in-requires
is_settled_in-requires g c = still_zone c.args.map.now c.loop-disk.map c.loop-disk.invariant.gone.keeps.geometry c.args.z c.requires.zone

pub loop-disk-init : goal.loop-disk-init
loop-disk-init g c = record { gone = gone_start (laws g.met.D.Disk) c.laws.ensures c.args.owners.now c.args.disk.now c.args.map.now c.is_map.ensures c.requires.stands; others = λ y other. refl }

pub loop-disk-preserved : goal.loop-disk-preserved
loop-disk-preserved g c =
    let was = c.loop-disk.invariant in
    let ok = c.in_ok-settle_more.ensures in
    record {
      gone = gone_then (laws g.met.D.Disk) c.laws.ensures c.args.owners.now c.args.disk.now c.args.map.now c.loop-disk.disk c.loop-disk.map was.gone c.settle_more.new.disk c.settle_more.new.map _ ok.keeps ok.passes.packs;
      others = λ y other. ok.passes.others y other ∙ was.others y other;
    }

less : (changed : Bool) (now was : ℕ) → now + one_if changed ≤ was → (changed ≡ false → ⊥) → now < was
less true now was falls never = omega (arith, falls)
less false now was falls never = absurd (never refl)

-- A pass over a zone in which something is left to do changes something.
pub loop-disk-smaller : goal.loop-disk-smaller
loop-disk-smaller g c =
    let passes = c.in_ok-settle_more.ensures.passes in
    let m = c.loop-disk.map in
    let left : passes_adjacent (is_done_by m.geometry c.args.owners.now) (runs_of m c.args.z) ≡ false = sym c.is_settled_in.ensures ∙ c.loop-disk-test.true in
    less c.in_ok-settle_more.field-0 (zone_weight (runs_of c.settle_more.new.map c.args.z)) (zone_weight (runs_of m c.args.z)) passes.falls
    (λ e. (let none = subst (λ (n : Map). passes_adjacent (is_done_by n.geometry c.args.owners.now) (runs_of n c.args.z) ≡ true) (passes.same e) (passes.done e) in let clash : true ≡ false = sym none ∙ left in cc))

pub returns-clause-done : goal.returns-clause-done
returns-clause-done g c = sym c.is_settled_in.ensures ∙ c.loop-disk-test.false
