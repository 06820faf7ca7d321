use Rattle.std.proofs.lemmas.Result.{IfOk-weaker}
use Rattle.std.proofs.Common.{◌≡◌, ◌<◌, ◌≤◌, ◌⊎◌, inl, inr, ℕ, ◌+◌, subst, sym, arith}
use Rattle.std.proofs.lemmas.Bool.{cases_lt}
use Rattle.fc_device.proofs.DiskLaws.{laws}
use Rattle.fc_record.specs.declared.Geometry.{Geometry}
use Rattle.fc_newmap.specs.Map.{Map, runs_of}
use Rattle.fc_compact.specs.Settlement.{Passes, zone_weight}
use Rattle.fc_compact.proofs.GoneLemmas.{gone_keeps, gone_start, gone_then, kept_err, kept_ok, still_zone}
use Rattle.fc_compact.proofs.settlement.settle_more.Goals as goal

pub gather-requires-clause-end : goal.gather-requires-clause-end
gather-requires-clause-end g c = omega (arith, c.end_of-end.ensures, c.requires.zone)

pub gather-requires-clause-some : goal.gather-requires-clause-some
gather-requires-clause-some g c = omega (arith, c.end_of-end.ensures)

pub end_of-end-requires : goal.end_of-end-requires
end_of-end-requires g c = subst (λ (h : Geometry). c.args.z < h.zones) (sym c.geometry.ensures.value) c.requires.zone

pub returns-then-gathered-clause-passes : goal.returns-then-gathered-clause-passes
returns-then-gathered-clause-passes g c =
    let ok = c.in_ok-gathered.ensures.gathered in
    let z = c.args.z in
    let m = c.args.map.now in
    let n = c.gather.new.map in
    let f = ok.falls c.if-gathered.true in
    let low = f.low in
    let high = f.high in
    let e : c.end_of-end.result ≡ z + 1 = c.end_of-end.ensures in
    let here : f.zone ≡ z = omega (arith, low, high, e) in
    record {
      packs = ok.packs;
      others = λ y other. ok.others y (apart y z c.end_of-end.result e other);
      falls = subst (λ (x : ℕ). zone_weight (runs_of n x) + 1 ≤ zone_weight (runs_of m x)) here f.falls;
      same = λ e. absurd (cc);
      done = λ e. absurd (cc);
    }
  where
    apart : (y z end : ℕ) → end ≡ z + 1 → (y ≡ z → ⊥) → (y < z) ⊎ (end ≤ y)
    apart y z end e other = elim (cases_lt y z) [
      | inl less ↦ inl less
      | inr more ↦ inr (omega (arith, more, other, e))
    ]

pub settle_pass-requires-clause-stands : goal.settle_pass-requires-clause-stands
settle_pass-requires-clause-stands g c = c.in_ok-gathered.ensures.keeps.stands

pub settle_pass-requires-clause-zone : goal.settle_pass-requires-clause-zone
settle_pass-requires-clause-zone g c = still_zone c.args.map.now c.gather.new.map c.gather.ensures.keeps.geometry c.args.z c.requires.zone

pub returns-in_err-gathered-clause-keeps : goal.returns-in_err-gathered-clause-keeps
returns-in_err-gathered-clause-keeps g c = kept_err c.args.owners.now c.args.disk.now c.gather.new.disk c.args.map.now c.gather.new.map _ c.from_residual.result c.from_residual.ensures.0 c.in_err-gathered.ensures.keeps

pub returns-then-gathered-clause-keeps : goal.returns-then-gathered-clause-keeps
returns-then-gathered-clause-keeps g c = kept_ok c.args.owners.now c.args.disk.now c.gather.new.disk c.args.map.now c.gather.new.map _ _ c.in_ok-gathered.ensures.keeps

pub returns-clause-keeps : goal.returns-clause-keeps
returns-clause-keeps g c =
    let d = laws g.met.D.Disk in
    let law = c.laws.ensures in
    let m = c.args.map.now in
    let owners = c.args.owners.now in
    let ok = c.in_ok-gathered.ensures in
    let once = gone_then d law owners c.args.disk.now m c.args.disk.now m (gone_start d law owners c.args.disk.now m c.is_map.ensures c.requires.stands) c.gather.new.disk c.gather.new.map _ ok.keeps ok.gathered.packs in
    gone_keeps d law owners c.args.disk.now m c.gather.new.disk c.gather.new.map once c.settle_pass.new.disk c.settle_pass.new.map c.settle_pass.result c.settle_pass.ensures.keeps

pub returns-clause-passes : goal.returns-clause-passes
returns-clause-passes g c =
    let m = c.args.map.now in
    let owners = c.args.owners.now in
    let same = c.in_ok-gathered.ensures.gathered.same c.if-gathered.false in
    IfOk-weaker c.settle_pass.result (Passes owners c.gather.new.map c.settle_pass.new.map c.args.z) (Passes owners m c.settle_pass.new.map c.args.z)
    (λ changed passes. subst (λ (n : Map). Passes owners n c.settle_pass.new.map c.args.z changed) same passes)
    c.settle_pass.ensures.passes
