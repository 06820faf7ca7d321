use Rattle.std.proofs.Common.{◌≡◌, ap, arith}
use Rattle.fc_device.proofs.DiskLaws.{laws}
use Rattle.fc_compact.specs.Settlement.{one_if}
use Rattle.fc_compact.proofs.GoneLemmas.{gone_err, gone_ok, gone_start, gone_then}
use Rattle.fc_compact.proofs.rounds.gather_rounds.Goals as goal

pub gather_all-requires : goal.gather_all-requires
gather_all-requires g c = record { stands = c.loop-any.invariant.gone.keeps.stands }

pub loop-any-init : goal.loop-any-init
loop-any-init g c = record { gone = gone_start (laws g.met.D.Disk) c.laws.ensures c.args.owners.now c.args.disk.now c.args.map.now c.is_map.ensures c.requires.stands }

pub returns-in_err-any-clause-keeps : goal.returns-in_err-any-clause-keeps
returns-in_err-any-clause-keeps g c =
    gone_err (laws g.met.D.Disk) c.laws.ensures c.args.owners.now c.args.disk.now c.args.map.now c.loop-any.disk c.loop-any.map c.loop-any.invariant.gone c.gather_all.new.disk c.gather_all.new.map _ c.from_residual.result c.from_residual.ensures.0 c.in_err-any.ensures.keeps

pub loop-any-smaller : goal.loop-any-smaller
loop-any-smaller g c =
    let falls = c.in_ok-any.ensures.falls in
    let some : one_if c.loop-any.any ≡ 1 = ap one_if c.loop-any-test.true in
    omega (arith, falls, some)

pub loop-any-preserved : goal.loop-any-preserved
loop-any-preserved g c =
    let ok = c.in_ok-any.ensures in
    record {
      gone = gone_then (laws g.met.D.Disk) c.laws.ensures c.args.owners.now c.args.disk.now c.args.map.now c.loop-any.disk c.loop-any.map c.loop-any.invariant.gone c.gather_all.new.disk c.gather_all.new.map _ ok.keeps ok.packs;
    }

pub returns-clause-keeps : goal.returns-clause-keeps
returns-clause-keeps g c = gone_ok (laws g.met.D.Disk) c.laws.ensures c.args.owners.now c.args.disk.now c.args.map.now c.loop-any.disk c.loop-any.map c.loop-any.invariant.gone _
