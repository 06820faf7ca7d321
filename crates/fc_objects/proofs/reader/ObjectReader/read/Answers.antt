use Rattle.std.proofs.Common.{ℕ, List, ◌≡◌, ◌<◌, ◌*◌, All, drop, refl, sym, subst, ◌∙◌, arith}
use Rattle.std.proofs.lemmas.List.{length-take-le}
use Rattle.std.proofs.lemmas.Nat.{mul-le}
use Rattle.fc_device.specs.Sectors.{row_at}
use Rattle.fc_objects.specs.Ahead.{ahead}
use Rattle.fc_objects.specs.Extents.{extent_sectors}
use Rattle.fc_objects.proofs.AheadLemmas.{all_back, row_last}
use Rattle.fc_objects.proofs.BlockLemmas.{block_bytes, block_length, length_none, no_length, no_sectors}
use Rattle.fc_objects.proofs.reader.ObjectReader.read.Goals as goal

pub returns-then-self-eq0-clause-end : goal.returns-then-self-eq0-clause-end
returns-then-self-eq0-clause-end g c = λ _.
    let s = c.args.self.now in
    (omega (arith, c.if-self-eq0.true), λ (image : List ℕ). no_length s.size image (ahead s.sectors) s.len (omega (arith, c.if-self-eq0.true)))

pub returns-in_default-clause-end : goal.returns-in_default-clause-end
returns-in_default-clause-end g c = λ _.
    let s = c.args.self.now in
    let none = c.in_default.ensures.end refl in
    (length_none s.len s.size (ahead s.sectors) none, λ (image : List ℕ). no_sectors s.size image (ahead s.sectors) s.len none)

pub read_row-requires-clause-on_disk : goal.read_row-requires-clause-on_disk
read_row-requires-clause-on_disk g c =
    let d = g.D.Disk in
    let row = c.in-Some.row in
    let last = row_last (λ n. n < d.sectors c.args.disk.now) row.first row.sectors (ahead c.next_row.new.self) c.in-Some.ensures.some
    (subst (All (λ n. n < d.sectors c.args.disk.now)) c.in-Some.ensures.row c.requires.on_disk) in
    omega (arith, last, c.in-Some.ensures.some)

pub returns-clause-bytes : goal.returns-clause-bytes
returns-clause-bytes g c = λ image told.
    let s = c.args.self.now in
    let row = c.in-Some.row in
    let inside = mul-le row.sectors s.size c.sectors_at_once-most.result s.size c.in-Some.ensures.most (omega arith) in
    let filled : c.read_row.new.into ≡ row_at s.size image row.first row.sectors = subst (λ n. c.read_row.new.into ≡ row_at n image row.first row.sectors) c.requires.size (c.in_ok-read_row.ensures.filled image told) in
    block_bytes s.size image (ahead s.sectors) (ahead c.next_row.new.self) row s.len c.min-count.result c.read_row.new.into (drop (row.sectors * s.size) c.args.into.now) c.in-Some.ensures.row
    filled (c.read_row.auto.into ∙ length-take-le (row.sectors * s.size) c.args.into.now (omega (arith, inside, c.sectors_at_once-most.ensures.fit))) c.min-count.ensures

pub returns-clause-on_disk : goal.returns-clause-on_disk
returns-clause-on_disk g c =
    let d = g.D.Disk in
    let old = all_back (λ n. n < d.sectors c.args.disk.now) (extent_sectors c.in-Some.row) (ahead c.next_row.new.self)
    (subst (All (λ n. n < d.sectors c.args.disk.now)) c.in-Some.ensures.row c.requires.on_disk) in
    subst (λ k. All (λ n. n < k) (ahead c.next_row.new.self)) (sym c.read_row.ensures.form.sectors_stay) old

pub returns-clause-length : goal.returns-clause-length
returns-clause-length g c =
    let s = c.args.self.now in
    block_length s.size (ahead s.sectors) (ahead c.next_row.new.self) c.in-Some.row s.len c.min-count.result c.in-Some.ensures.row c.min-count.ensures

pub returns-in_default-clause-length : goal.returns-in_default-clause-length
returns-in_default-clause-length g c = omega arith
