use Rattle.std.proofs.Common.{List, ◌≤◌, ◌≡◌, ◌+◌, sym, ap, subst, arith}
use Rattle.std.specs.Prelude.{Contains}
use Rattle.fc_device.proofs.DiskLaws.{laws}
use Rattle.fc_device.proofs.StopLemmas.{keeps_weaker}
use Rattle.fc_newmap.specs.Map.{Map}
use Rattle.fc_alloc.specs.declared.owner.Owner.{Owner}
use Rattle.fc_compact.specs.Candidates.{AreSettledZones, run_count}
use Rattle.fc_compact.specs.Settlement.{one_if}
use Rattle.fc_compact.proofs.GoneLemmas.{gone_keeps, gone_start, gone_then}
use Rattle.fc_compact.proofs.PassLemmas.{all_tried, count_same, none_new}
use Rattle.fc_compact.proofs.compaction.compact.Goals as goal

pub returns-in_err-join_and_settle-clause-keeps : goal.returns-in_err-join_and_settle-clause-keeps
returns-in_err-join_and_settle-clause-keeps g c =
    let d = laws g.met.D.Disk in
    keeps_weaker d (gone_keeps d c.laws.ensures c.args.owners.now c.args.disk.now c.args.map.now c.loop-any.disk c.loop-any.map c.loop-any.invariant.gone c.join_and_settle.new.disk c.join_and_settle.new.map _ c.join_and_settle.ensures.keeps).leaves (λ was image p. p.objects)

pub returns-in_err-join_and_settle-clause-frame : goal.returns-in_err-join_and_settle-clause-frame
returns-in_err-join_and_settle-clause-frame g c =
    let d = laws g.met.D.Disk in
    keeps_weaker d (gone_keeps d c.laws.ensures c.args.owners.now c.args.disk.now c.args.map.now c.loop-any.disk c.loop-any.map c.loop-any.invariant.gone c.join_and_settle.new.disk c.join_and_settle.new.map _ c.join_and_settle.ensures.keeps).leaves (λ was image p. p.frame)

pub returns-in_err-any-clause-keeps : goal.returns-in_err-any-clause-keeps
returns-in_err-any-clause-keeps g c =
    let d = laws g.met.D.Disk in
    let ok = c.in_ok-join_and_settle.ensures in
    let once = gone_then d c.laws.ensures c.args.owners.now c.args.disk.now c.args.map.now c.loop-any.disk c.loop-any.map c.loop-any.invariant.gone c.join_and_settle.new.disk c.join_and_settle.new.map _ ok.keeps ok.packs in
    keeps_weaker d (gone_keeps d c.laws.ensures c.args.owners.now c.args.disk.now c.args.map.now c.join_and_settle.new.disk c.join_and_settle.new.map once c.join_pass.new.disk c.join_pass.new.map _ c.join_pass.ensures.keeps).leaves (λ was image p. p.objects)

pub returns-in_err-any-clause-frame : goal.returns-in_err-any-clause-frame
returns-in_err-any-clause-frame g c =
    let d = laws g.met.D.Disk in
    let ok = c.in_ok-join_and_settle.ensures in
    let once = gone_then d c.laws.ensures c.args.owners.now c.args.disk.now c.args.map.now c.loop-any.disk c.loop-any.map c.loop-any.invariant.gone c.join_and_settle.new.disk c.join_and_settle.new.map _ ok.keeps ok.packs in
    keeps_weaker d (gone_keeps d c.laws.ensures c.args.owners.now c.args.disk.now c.args.map.now c.join_and_settle.new.disk c.join_and_settle.new.map once c.join_pass.new.disk c.join_pass.new.map _ c.join_pass.ensures.keeps).leaves (λ was image p. p.frame)

pub join_and_settle-requires : goal.join_and_settle-requires
join_and_settle-requires g c = record { stands = c.loop-any.invariant.gone.keeps.stands }

pub join_pass-requires : goal.join_pass-requires
join_pass-requires g c = record { stands = c.in_ok-join_and_settle.ensures.keeps.stands }

pub loop-any-init : goal.loop-any-init
loop-any-init g c = record {
  gone = gone_start (laws g.met.D.Disk) c.laws.ensures c.args.owners.now c.args.disk.now c.args.map.now c.is_map.ensures c.requires.stands;
  done = λ e. absurd (cc);
  none = λ e. absurd (cc);
}

pub loop-any-smaller : goal.loop-any-smaller
loop-any-smaller g c =
    let owners = c.args.owners.now in
    let mid = c.join_and_settle.new.map in
    let last = c.join_pass.new.map in
    let settled = count_same owners c.loop-any.map mid c.in_ok-join_and_settle.ensures.packs owners in
    let tried = subst (λ (l : List Owner). run_count l last + one_if c.in_ok-any.any ≤ run_count l mid) c.list-list.ensures.same c.in_ok-any.ensures.tries.falls in
    let some : one_if c.loop-any.any ≡ 1 = ap one_if c.loop-any-test.true in
    omega (arith, settled, tried, some)

pub loop-any-preserved : goal.loop-any-preserved
loop-any-preserved g c =
    let d = laws g.met.D.Disk in
    let settled = c.in_ok-join_and_settle.ensures in
    let tried = c.in_ok-any.ensures in
    let once = gone_then d c.laws.ensures c.args.owners.now c.args.disk.now c.args.map.now c.loop-any.disk c.loop-any.map c.loop-any.invariant.gone c.join_and_settle.new.disk c.join_and_settle.new.map _ settled.keeps settled.packs in
    record {
      gone = gone_then d c.laws.ensures c.args.owners.now c.args.disk.now c.args.map.now c.join_and_settle.new.disk c.join_and_settle.new.map once c.join_pass.new.disk c.join_pass.new.map _ tried.keeps tried.tries.packs;
      done = λ e. subst (λ (n : Map). AreSettledZones c.args.owners.now n) (sym (tried.tries.same e)) settled.done;
      none = λ e o there may. tried.tries.none e o (subst (λ (l : List Owner). Contains l o) (sym c.list-list.ensures.same) there) may;
    }

pub returns-clause-keeps : goal.returns-clause-keeps
returns-clause-keeps g c = keeps_weaker (laws g.met.D.Disk) c.loop-any.invariant.gone.keeps.leaves (λ was image p. p.objects)

pub returns-clause-frame : goal.returns-clause-frame
returns-clause-frame g c = keeps_weaker (laws g.met.D.Disk) c.loop-any.invariant.gone.keeps.leaves (λ was image p. p.frame)

pub returns-clause-settled : goal.returns-clause-settled
returns-clause-settled g c = record {
  zones = c.loop-any.invariant.done c.loop-any-test.false;
  ids = all_tried c.args.owners.now c.loop-any.map (c.loop-any.invariant.none c.loop-any-test.false);
}

pub returns-clause-compacted : goal.returns-clause-compacted
returns-clause-compacted g c =
    let packs = c.loop-any.invariant.gone.packs in
    record { no_new = none_new c.args.owners.now c.args.map.now c.loop-any.map packs; bits = packs.bits; runs = packs.runs }
