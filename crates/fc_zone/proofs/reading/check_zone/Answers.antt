use Rattle.std.proofs.Common.{◌≡◌, arith, rules, Some}
use Rattle.fc_bytes.specs.Bits.{bits}
use Rattle.fc_zone.specs.Zone.{IsRun, IsOnSector}
use Rattle.fc_zone.proofs.ZoneLemmas.{read_all, fault_excludes, fault_at_first, fault_at_run, read_hole, read_other, read_broken, names_it, names_other, Spells-le}
use Rattle.fc_zone.proofs.ReadingLemmas.{runs_of_zone, Zone-zone_of}
use Rattle.fc_zone.proofs.FaultLemmas.{fault_read}
use Rattle.fc_zone.proofs.reading.check_zone.Goals as goal

pub returns-then-not-on_sector-clause-exact : goal.returns-then-not-on_sector-clause-exact
returns-then-not-on_sector-clause-exact c =
    let shape = c.args.shape.now in
    let off : IsOnSector shape shape.first → ⊥ = search rules in
    (λ e. absurd cc, λ zone. absurd (fault_excludes shape c.args.b.now shape.first (fault_at_first shape (bits c.args.b.now) (omega arith) off) zone))

pub run_end-requires-clause-from_first : goal.run_end-requires-clause-from_first
run_end-requires-clause-from_first c =
    let shape = c.args.shape.now in
    Spells-le shape (bits c.args.b.now) c.loop-at.invariant.0 shape.first c.loop-at.at c.loop-at.invariant.1.spelled

pub returns-in_default-clause-exact : goal.returns-in_default-clause-exact
returns-in_default-clause-exact c =
    let shape = c.args.shape.now in
    let none : (end : _) → IsRun shape (bits c.args.b.now) c.loop-at.at end → ⊥ = search rules in
    let fault = fault_at_run shape (bits c.args.b.now) c.loop-at.at c.loop-at.hole c.loop-at.invariant.0 c.loop-at.invariant.1 (omega arith) none in
    (λ e. absurd cc, λ zone. absurd (fault_excludes shape c.args.b.now c.loop-at.at fault zone))

pub loop-at-preserved-then-eq : goal.loop-at-preserved-then-eq
loop-at-preserved-then-eq c =
    let named : c.loop-at.hole ≡ Some c.loop-at.at = names_it c.loop-at.hole c.loop-at.at c.if-eq.ensures in
    let read = read_hole c.args.shape.now (bits c.args.b.now) c.loop-at.at c.in-Some.end c.loop-at.invariant.0 (rw named at c.loop-at.invariant.1) c.in-Some.ensures.found in
    rw c.next_hole-hole.ensures read

pub loop-at-preserved : goal.loop-at-preserved
loop-at-preserved c =
    read_other c.args.shape.now (bits c.args.b.now) c.loop-at.at c.in-Some.end c.loop-at.invariant.0 c.loop-at.hole c.loop-at.invariant.1
    (names_other c.loop-at.hole c.loop-at.at c.if-eq.ensures) c.in-Some.ensures.found

pub returns-in-Some-hole-clause-exact : goal.returns-in-Some-hole-clause-exact
returns-in-Some-hole-clause-exact c =
    let shape = c.args.shape.now in
    let read = rw c.in-Some-hole.is at c.loop-at.invariant.1 in
    let fault = read_broken shape (bits c.args.b.now) c.loop-at.at c.in-Some-hole.bit c.loop-at.invariant.0 read (omega arith) in
    (λ e. absurd cc, λ zone. absurd (fault_excludes shape c.args.b.now c.in-Some-hole.bit fault zone))

pub returns-in-Some-hole-clause-bit : goal.returns-in-Some-hole-clause-bit
returns-in-Some-hole-clause-bit c =
    let read = rw c.in-Some-hole.is at c.loop-at.invariant.1 in
    read_broken c.args.shape.now (bits c.args.b.now) c.loop-at.at c.in-Some-hole.bit c.loop-at.invariant.0 read (omega arith)

pub returns-in-None-clause-runs : goal.returns-in-None-clause-runs
returns-in-None-clause-runs c =
    let shape = c.args.shape.now in
    let s = c.args.b.now in
    let read = rw c.in-None.is at c.loop-at.invariant.1 in
    let zone = read_all shape s c.loop-at.at c.loop-at.invariant.0 read (omega arith) in
    rw (runs_of_zone shape s zone.0 zone.1) zone.1

pub returns-then-not-on_sector-clause-reads : goal.returns-then-not-on_sector-clause-reads
returns-then-not-on_sector-clause-reads c =
    let shape = c.args.shape.now in
    let off : IsOnSector shape shape.first → ⊥ = search rules in
    fault_read shape c.args.b.now shape.first c.requires (fault_at_first shape (bits c.args.b.now) (omega arith) off)

pub returns-in_default-clause-reads : goal.returns-in_default-clause-reads
returns-in_default-clause-reads c =
    let shape = c.args.shape.now in
    let none : (end : _) → IsRun shape (bits c.args.b.now) c.loop-at.at end → ⊥ = search rules in
    fault_read shape c.args.b.now c.loop-at.at c.requires
    (fault_at_run shape (bits c.args.b.now) c.loop-at.at c.loop-at.hole c.loop-at.invariant.0 c.loop-at.invariant.1 (omega arith) none)

pub returns-in-None-clause-reads : goal.returns-in-None-clause-reads
returns-in-None-clause-reads c =
    let shape = c.args.shape.now in
    let s = c.args.b.now in
    let read = rw c.in-None.is at c.loop-at.invariant.1 in
    let zone = read_all shape s c.loop-at.at c.loop-at.invariant.0 read (omega arith) in
    rw (runs_of_zone shape s zone.0 zone.1) (Zone-zone_of shape s zone.0 zone.1)

pub returns-in-Some-hole-clause-reads : goal.returns-in-Some-hole-clause-reads
returns-in-Some-hole-clause-reads c =
    let read = rw c.in-Some-hole.is at c.loop-at.invariant.1 in
    fault_read c.args.shape.now c.args.b.now c.in-Some-hole.bit c.requires
    (read_broken c.args.shape.now (bits c.args.b.now) c.loop-at.at c.in-Some-hole.bit c.loop-at.invariant.0 read (omega arith))
