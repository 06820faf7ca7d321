use Rattle.std.proofs.Common.{◌≡◌, ◌<◌, ◌+◌, ◌-◌, ◌*◌, ◌%◌, ℕ, [], Some, length, get_or, take, drop, refl, sym, ap, ◌∙◌, arith}
use Rattle.fc_newmap.specs.Map.{zones_in}
use Rattle.fc_newmap.proofs.HeldLemmas.{length-zones, place_fits, slice_is}
use Rattle.fc_newmap.specs.Choosing.{cross_if_right}
use Rattle.fc_newmap.proofs.ReadingLemmas.{right_more, sector_long, sector_words, total_more, total_right, total_wrong, wrong_here}
use Rattle.fc_newmap.proofs.copies.reading.fault_in.Goals as goal

pub slice_bounds-cross_in-end : goal.slice_bounds-cross_in-end
slice_bounds-cross_in-end c = omega (arith, c.requires.whole, c.from.ensures, place_fits c.from.result c.args.g.now.zones c.args.g.now.sector (omega (arith, c.from.ensures, c.loop-z-test.true)))

pub cross_in-requires-clause-header : goal.cross_in-requires-clause-header
cross_in-requires-clause-header c =
    let long = sector_long c.args.zones.now c.from.result c.args.g.now.zones c.args.g.now.sector c.requires.whole (omega (arith, c.from.ensures, c.loop-z-test.true)) in
    omega (arith, long, (sector_words c.args.g.now.sector c.requires.size).0)

pub cross_in-requires-clause-words : goal.cross_in-requires-clause-words
cross_in-requires-clause-words c =
    let long = sector_long c.args.zones.now c.from.result c.args.g.now.zones c.args.g.now.sector c.requires.whole (omega (arith, c.from.ensures, c.loop-z-test.true)) in
    ap (λ (n : ℕ). n % 4) long ∙ (sector_words c.args.g.now.sector c.requires.size).1

pub returns-in-None : goal.returns-in-None
returns-in-None c =
    let zones = zones_in c.args.g.now c.args.zones.now in
    let inside : c.loop-z.z < length zones = omega (arith, c.loop-z-test.true, length-zones c.args.g.now c.args.zones.now) in
    let place : c.from.result ≡ c.loop-z.z = c.from.ensures in
    let sector = ap (λ (n : ℕ). take (n * c.args.g.now.sector + c.args.g.now.sector - n * c.args.g.now.sector) (drop (n * c.args.g.now.sector) c.args.zones.now)) place ∙ slice_is c.args.g.now c.args.zones.now c.loop-z.z c.requires.whole (omega (arith, c.loop-z-test.true)) in
    wrong_here zones c.loop-z.z inside c.loop-z.invariant.right (ap cross_if_right (sym sector) ∙ sym c.cross_in.ensures ∙ c.in-None.is)

pub loop-z-init : goal.loop-z-init
loop-z-init c = record { right = refl; total = refl }

pub loop-z-preserved : goal.loop-z-preserved
loop-z-preserved c =
    let zones = zones_in c.args.g.now c.args.zones.now in
    let inside : c.loop-z.z < length zones = omega (arith, c.loop-z-test.true, length-zones c.args.g.now c.args.zones.now) in
    let place : c.from.result ≡ c.loop-z.z = c.from.ensures in
    let sector = ap (λ (n : ℕ). take (n * c.args.g.now.sector + c.args.g.now.sector - n * c.args.g.now.sector) (drop (n * c.args.g.now.sector) c.args.zones.now)) place ∙ slice_is c.args.g.now c.args.zones.now c.loop-z.z c.requires.whole (omega (arith, c.loop-z-test.true)) in
    let found : cross_if_right (get_or zones c.loop-z.z []) ≡ Some c.in-Some.cross = ap cross_if_right (sym sector) ∙ sym c.cross_in.ensures ∙ c.in-Some.is in
    record {
      right = right_more zones c.loop-z.z inside c.loop-z.invariant.right c.in-Some.cross found;
      total = total_more zones c.loop-z.z inside c.loop-z.invariant.right c.loop-z.total c.in-Some.cross found c.loop-z.invariant.total;
    }

pub returns-then-total : goal.returns-then-total
returns-then-total c =
    let zones = zones_in c.args.g.now c.args.zones.now in
    let end : c.loop-z.z ≡ length zones = omega (arith, c.loop-z-test.false, c.loop-z.auto.z-end, length-zones c.args.g.now c.args.zones.now) in
    total_right zones c.loop-z.z c.loop-z.total end c.loop-z.invariant.right c.loop-z.invariant.total c.if-total.true

pub returns-else-total : goal.returns-else-total
returns-else-total c =
    let zones = zones_in c.args.g.now c.args.zones.now in
    let end : c.loop-z.z ≡ length zones = omega (arith, c.loop-z-test.false, c.loop-z.auto.z-end, length-zones c.args.g.now c.args.zones.now) in
    let all : c.args.g.now.zones ≡ c.loop-z.z = omega (arith, c.loop-z-test.false, c.loop-z.auto.z-end) in
    total_wrong zones c.loop-z.z c.loop-z.total end c.loop-z.invariant.right c.loop-z.invariant.total c.if-total.false c.args.g.now.zones all
