use Rattle.std.proofs.Common.{◌≡◌, ◌<◌, ◌+◌, ◌++◌, ◌∷◌, [], ◌∙◌, ℕ, All, length, append_assoc, length-append, ap, subst, refl, sym, arith}
use Rattle.std.specs.Option.{ForSome}
use Rattle.fc_device.proofs.DiskLaws.{form_same, form_then, laws}
use Rattle.fc_device.specs.Sectors.{sector_at}
use Rattle.fc_objects.specs.Ahead.{ahead}
use Rattle.fc_objects.specs.Extents.{sectors_in}
use Rattle.fc_objects.proofs.AheadLemmas.{all_back}
use Rattle.fc_objects.proofs.CopyLemmas.{Copied, all_done, copied_same, copied_start, copied_write, front_few, kept_same, kept_start, kept_write, next_of_both}
use Rattle.fc_objects.proofs.PassLemmas.{next_on_disk, next_sector, sectors_fit}
use Rattle.fc_objects.proofs.WriteLemmas.{next_of}
use Rattle.fc_objects.proofs.copier.copy_sectors.Goals as goal

pub loop-here-init : goal.loop-here-init
loop-here-init g c =
    let law = laws g.met.D.Disk in
    let start = c.args.disk.now in
    let from = sectors_in c.args.from.now in
    let to = sectors_in c.args.to.now in
    record {
      form = form_same g.D.Disk start;
      faults = omega arith;
      still = λ image left. left;
      kept = kept_start law start from to c.requires.settled;
      walk = ([], [], sym c.of-source.ensures, sym c.of-target.ensures, refl, omega arith, copied_start law start from to);
    }

pub next_row-requires-clause-fit : goal.next_row-requires-clause-fit
next_row-requires-clause-fit g c =
    let walk = c.loop-here.invariant.walk in
    let n = g.D.Disk.sectors c.args.disk.now in
    sectors_fit (laws g.met.D.Disk) c.args.disk.now (ahead c.loop-here.source)
    (all_back (λ k. k < n) walk.0 (ahead c.loop-here.source) (subst (All (λ k. k < n)) walk.2 c.requires.on_disk))

pub next_row-requires-in-Some-clause-fit : goal.next_row-requires-in-Some-clause-fit
next_row-requires-in-Some-clause-fit g c =
    let walk = c.loop-here.invariant.walk in
    let n = g.D.Disk.sectors c.args.disk.now in
    sectors_fit (laws g.met.D.Disk) c.args.disk.now (ahead c.loop-here.target)
    (all_back (λ k. k < n) walk.1 (ahead c.loop-here.target) (subst (All (λ k. k < n)) walk.3 c.requires.to_on_disk))

pub read-requires-clause-on_disk : goal.read-requires-clause-on_disk
read-requires-clause-on_disk g c =
    let inv = c.loop-here.invariant in
    let walk = inv.walk in
    let from = sectors_in c.args.from.now in
    let row = c.in-Some.here in
    let cut = next_sector from walk.0 (ahead c.loop-here.source) (ahead c.next_row.new.self) row walk.2 c.in-Some.ensures.row c.in-Some.ensures.some c.in-Some.ensures.most in
    let low = next_on_disk (laws g.met.D.Disk) c.args.disk.now from walk.0 row.first c.requires.on_disk (next_of from walk.0 (ahead c.next_row.new.self) row.first cut) in
    omega (arith, low, inv.form.sectors_stay)

pub write-requires-clause-on_disk : goal.write-requires-clause-on_disk
write-requires-clause-on_disk g c =
    let inv = c.loop-here.invariant in
    let walk = inv.walk in
    let to = sectors_in c.args.to.now in
    let row = c.in-Some-next_row.there in
    let cut = next_sector to walk.1 (ahead c.loop-here.target) (ahead c.next_row-in-Some.new.self) row walk.3 c.in-Some-next_row.ensures.row c.in-Some-next_row.ensures.some c.in-Some-next_row.ensures.most in
    let low = next_on_disk (laws g.met.D.Disk) c.args.disk.now to walk.1 row.first c.requires.to_on_disk (next_of to walk.1 (ahead c.next_row-in-Some.new.self) row.first cut) in
    omega (arith, low, inv.form.sectors_stay, c.read.ensures.form.sectors_stay)

pub returns-in_err-read-clause-keeps : goal.returns-in_err-read-clause-keeps
returns-in_err-read-clause-keeps g c =
    kept_same (laws g.met.D.Disk) c.args.disk.now (sectors_in c.args.from.now) (sectors_in c.args.to.now) c.loop-here.invariant.kept c.read.ensures.stops c.read.ensures.bytes

pub returns-in_err-read-clause-few : goal.returns-in_err-read-clause-few
returns-in_err-read-clause-few g c =
    let walk = c.loop-here.invariant.walk in
    let from = sectors_in c.args.from.now in
    let to = sectors_in c.args.to.now in
    let here = c.in-Some.here in
    let there = c.in-Some-next_row.there in
    let cut = next_sector from walk.0 (ahead c.loop-here.source) (ahead c.next_row.new.self) here walk.2 c.in-Some.ensures.row c.in-Some.ensures.some c.in-Some.ensures.most in
    let cut' = next_sector to walk.1 (ahead c.loop-here.target) (ahead c.next_row-in-Some.new.self) there walk.3 c.in-Some-next_row.ensures.row c.in-Some-next_row.ensures.some c.in-Some-next_row.ensures.most in
    let next = next_of_both from to walk.0 walk.1 (ahead c.next_row.new.self) (ahead c.next_row-in-Some.new.self) here.first there.first cut cut' walk.4 in
    omega (arith, walk.5, c.read.ensures.read_calls.1, next.low, next.room)

pub returns-in_err-write-clause-few : goal.returns-in_err-write-clause-few
returns-in_err-write-clause-few g c =
    let walk = c.loop-here.invariant.walk in
    let from = sectors_in c.args.from.now in
    let to = sectors_in c.args.to.now in
    let here = c.in-Some.here in
    let there = c.in-Some-next_row.there in
    let cut = next_sector from walk.0 (ahead c.loop-here.source) (ahead c.next_row.new.self) here walk.2 c.in-Some.ensures.row c.in-Some.ensures.some c.in-Some.ensures.most in
    let cut' = next_sector to walk.1 (ahead c.loop-here.target) (ahead c.next_row-in-Some.new.self) there walk.3 c.in-Some-next_row.ensures.row c.in-Some-next_row.ensures.some c.in-Some-next_row.ensures.most in
    let next = next_of_both from to walk.0 walk.1 (ahead c.next_row.new.self) (ahead c.next_row-in-Some.new.self) here.first there.first cut cut' walk.4 in
    omega (arith, walk.5, c.read.ensures.read_calls.1, c.write.ensures.read_calls, next.low, next.room)

pub returns-in_err-write-clause-keeps : goal.returns-in_err-write-clause-keeps
returns-in_err-write-clause-keeps g c =
    let law = laws g.met.D.Disk in
    let d = g.D.Disk in
    let start = c.args.disk.now in
    let inv = c.loop-here.invariant in
    let walk = inv.walk in
    let from = sectors_in c.args.from.now in
    let to = sectors_in c.args.to.now in
    let here = c.in-Some.here in
    let there = c.in-Some-next_row.there in
    let cut = next_sector from walk.0 (ahead c.loop-here.source) (ahead c.next_row.new.self) here walk.2 c.in-Some.ensures.row c.in-Some.ensures.some c.in-Some.ensures.most in
    let cut' = next_sector to walk.1 (ahead c.loop-here.target) (ahead c.next_row-in-Some.new.self) there walk.3 c.in-Some-next_row.ensures.row c.in-Some-next_row.ensures.some c.in-Some-next_row.ensures.most in
    let next = next_of_both from to walk.0 walk.1 (ahead c.next_row.new.self) (ahead c.next_row-in-Some.new.self) here.first there.first cut cut' walk.4 in
    let low = next_on_disk law start to walk.1 there.first c.requires.to_on_disk (next_of to walk.1 (ahead c.next_row-in-Some.new.self) there.first cut') in
    let form = form_then d inv.form c.read.ensures.form in
    let whole : length c.read.new.into ≡ d.sector_size start = omega (arith, c.read.auto.into, c.loop-here.auto.sector, c.requires.whole) in
    let read : ForSome (d.bytes c.read.new.self) (λ image. c.read.new.into ≡ sector_at (d.sector_size start) image here.first) =
    λ image told. c.in_ok-read.ensures.filled image (sym c.read.ensures.bytes ∙ told) ∙ ap (λ (k : ℕ). sector_at k image here.first) inv.form.size_stays in
    kept_write law start from to (length walk.0) here.first there.first c.requires.others next low c.read.new.into whole c.read.new.self c.write.new.self form.size_stays
    (kept_same law start from to inv.kept c.read.ensures.stops c.read.ensures.bytes) read c.write.ensures.stops c.write.ensures.old_or_new

pub loop-here-preserved : goal.loop-here-preserved
loop-here-preserved g c =
    let law = laws g.met.D.Disk in
    let d = g.D.Disk in
    let start = c.args.disk.now in
    let inv = c.loop-here.invariant in
    let walk = inv.walk in
    let from = sectors_in c.args.from.now in
    let to = sectors_in c.args.to.now in
    let here = c.in-Some.here in
    let there = c.in-Some-next_row.there in
    let after = ahead c.next_row.new.self in
    let more = ahead c.next_row-in-Some.new.self in
    let cut = next_sector from walk.0 (ahead c.loop-here.source) after here walk.2 c.in-Some.ensures.row c.in-Some.ensures.some c.in-Some.ensures.most in
    let cut' = next_sector to walk.1 (ahead c.loop-here.target) more there walk.3 c.in-Some-next_row.ensures.row c.in-Some-next_row.ensures.some c.in-Some-next_row.ensures.most in
    let next = next_of_both from to walk.0 walk.1 after more here.first there.first cut cut' walk.4 in
    let low = next_on_disk law start to walk.1 there.first c.requires.to_on_disk (next_of to walk.1 more there.first cut') in
    let form = form_then d inv.form c.read.ensures.form in
    let whole : length c.read.new.into ≡ d.sector_size start = omega (arith, c.read.auto.into, c.loop-here.auto.sector, c.requires.whole) in
    let read : ForSome (d.bytes c.read.new.self) (λ image. c.read.new.into ≡ sector_at (d.sector_size start) image here.first) =
    λ image told. c.in_ok-read.ensures.filled image (sym c.read.ensures.bytes ∙ told) ∙ ap (λ (k : ℕ). sector_at k image here.first) inv.form.size_stays in
    let kept = kept_same law start from to inv.kept c.read.ensures.stops c.read.ensures.bytes in
    let i = length walk.0 in
    let count : length (walk.0 ++ (here.first ∷ [])) ≡ i + 1 = length-append walk.0 (here.first ∷ []) in
    let count' : length (walk.1 ++ (there.first ∷ [])) ≡ length walk.1 + 1 = length-append walk.1 (there.first ∷ []) in
    let copied = copied_write law start from to i here.first there.first c.requires.others next low c.read.new.into whole c.read.new.self c.write.new.self form.size_stays kept read
    (copied_same law start from to i walk.6 c.read.ensures.bytes) c.in_ok-write.ensures.written in
    record {
      form = form_then d form c.write.ensures.form;
      faults = omega (arith, inv.faults, c.read.ensures.cause.later, c.write.ensures.cause.later);
      still = λ image left. c.write.ensures.still image (c.read.ensures.still image (inv.still image left));
      kept = kept_write law start from to i here.first there.first c.requires.others next low c.read.new.into whole c.read.new.self c.write.new.self form.size_stays kept read
          c.write.ensures.stops c.write.ensures.old_or_new;
      walk = (
        walk.0 ++ (here.first ∷ []),
        walk.1 ++ (there.first ∷ []),
        cut ∙ sym (append_assoc walk.0 (here.first ∷ []) after),
        cut' ∙ sym (append_assoc walk.1 (there.first ∷ []) more),
        omega (arith, count, count', walk.4),
        omega (arith, count, walk.5, c.read.ensures.read_calls.1, c.write.ensures.read_calls),
        subst (λ (k : ℕ). Copied law start from to k c.write.new.self) (sym count) copied,
      );
    }

pub returns-in_default-next_row-clause-copied : goal.returns-in_default-next_row-clause-copied
returns-in_default-next_row-clause-copied g c = λ apart was told image told' k low.
    let walk = c.loop-here.invariant.walk in
    let all = all_done (sectors_in c.args.to.now) walk.1 (ahead c.loop-here.target) walk.3 (c.in_default-next_row.ensures.end refl) in
    walk.6 apart was told image told' k (omega (arith, low, all, walk.4))

pub returns-in_default-next_row-clause-few : goal.returns-in_default-next_row-clause-few
returns-in_default-next_row-clause-few g c =
    let walk = c.loop-here.invariant.walk in
    let all = all_done (sectors_in c.args.to.now) walk.1 (ahead c.loop-here.target) walk.3 (c.in_default-next_row.ensures.end refl) in
    let few = front_few (sectors_in c.args.from.now) walk.0 (ahead c.loop-here.source) walk.2 in
    omega (arith, walk.5, all, few, walk.4)

pub returns-clause-copied : goal.returns-clause-copied
returns-clause-copied g c = λ apart was told image told' k low.
    let walk = c.loop-here.invariant.walk in
    let all = all_done (sectors_in c.args.from.now) walk.0 (ahead c.loop-here.source) walk.2 (c.in_default.ensures.end refl) in
    walk.6 apart was told image told' k (omega (arith, low, all))

pub returns-clause-few : goal.returns-clause-few
returns-clause-few g c =
    let walk = c.loop-here.invariant.walk in
    let all = all_done (sectors_in c.args.from.now) walk.0 (ahead c.loop-here.source) walk.2 (c.in_default.ensures.end refl) in
    let few = front_few (sectors_in c.args.to.now) walk.1 (ahead c.loop-here.target) walk.3 in
    omega (arith, walk.5, all, few, walk.4)
