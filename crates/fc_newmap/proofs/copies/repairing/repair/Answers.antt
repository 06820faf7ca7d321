use Rattle.std.proofs.Common.{◌≡◌, ◌<◌, ◌+◌, ◌∙◌, ap, Ok, sym, subst, ℕ, List, arith}
use Rattle.std.specs.Option.{ForSome}
use Rattle.std.proofs.lemmas.Result.{on_ok_weaker}
use Rattle.fc_device.specs.Stops.{Keeps}
use Rattle.fc_device.specs.Sectors.{sector_at}
use Rattle.fc_device.proofs.DiskLaws.{laws}
use Rattle.fc_newmap.specs.declared.copies.Which.{Which}
use Rattle.fc_newmap.specs.declared.copies.Which.TheVariants.{One, Two}
use Rattle.fc_newmap.specs.Copies.{chosen, copy_of, copy_start, HoldsCopies, RepairLeaves}
use Rattle.fc_newmap.specs.Passes.{IsPartWritten, zone_from}
use Rattle.fc_newmap.proofs.PassLemmas.{keeps_told, part_as, written_as}
use Rattle.fc_newmap.proofs.ReadingLemmas.{sectors_fit}
use Rattle.fc_newmap.proofs.RepairLemmas.{first_mends, first_spoils, last_ends, last_mends, mends_leaves, one_holds, one_leaves, rest_mends, rest_rests, rest_spoils}
use Rattle.fc_newmap.proofs.copies.repairing.repair.Goals as goal
use Rattle.fc_device.proofs.StopLemmas.{one_told as some_is}

pub start_of-one-requires : goal.start_of-one-requires
start_of-one-requires g c = sectors_fit (laws g.met.D.Disk) c.args.disk.now _ c.requires.on_disk

pub returns-in_err-copy_first-in-Two-clause-keeps : goal.returns-in_err-copy_first-in-Two-clause-keeps
returns-in_err-copy_first-in-Two-clause-keeps g c =
    let law = laws g.met.D.Disk in
    let d = g.D.Disk in
    let start = c.args.disk.now in
    let geometry = c.args.g.now in
    let one = c.start_of-one.result in
    let two = c.start_of-two.result in
    let on_disk : two < d.sectors start = omega (arith, c.start_of-two.ensures.within, c.requires.on_disk, c.requires.zones) in
    let chosen_two : ForSome (d.bytes start) (λ image. chosen geometry image ≡ Ok Two) = λ image told. subst (λ (w : Which). chosen geometry image ≡ Ok w) c.in-Two.is (c.requires.chosen image told) in
    let first = first_mends law geometry start c.requires.size c.requires.zones one two c.start_of-one.ensures.value c.start_of-two.ensures.value on_disk chosen_two c.copy_first.new.disk c.copy_first.ensures.keeps in
    subst (λ (w : Which). Keeps d.moment d.left_since d.bytes start c.copy_first.new.disk (λ was image. RepairLeaves geometry was w image)) (sym c.in-Two.is)
    (mends_leaves law geometry start c.requires.size c.requires.zones one two c.start_of-one.ensures.value c.start_of-two.ensures.value on_disk chosen_two c.copy_first.new.disk first)

pub returns-in_err-copy_rest-in-Two-clause-keeps : goal.returns-in_err-copy_rest-in-Two-clause-keeps
returns-in_err-copy_rest-in-Two-clause-keeps g c =
    let law = laws g.met.D.Disk in
    let d = g.D.Disk in
    let start = c.args.disk.now in
    let geometry = c.args.g.now in
    let one = c.start_of-one.result in
    let two = c.start_of-two.result in
    let on_disk : two < d.sectors start = omega (arith, c.start_of-two.ensures.within, c.requires.on_disk, c.requires.zones) in
    let chosen_two : ForSome (d.bytes start) (λ image. chosen geometry image ≡ Ok Two) = λ image told. subst (λ (w : Which). chosen geometry image ≡ Ok w) c.in-Two.is (c.requires.chosen image told) in
    let first = first_mends law geometry start c.requires.size c.requires.zones one two c.start_of-one.ensures.value c.start_of-two.ensures.value on_disk chosen_two c.copy_first.new.disk c.copy_first.ensures.keeps in
    let spoils = first_spoils law geometry start c.requires.size c.requires.zones one two c.start_of-one.ensures.value c.start_of-two.ensures.value on_disk chosen_two c.copy_first.new.disk c.in_ok-copy_first-in-Two.ensures.written in
    let size_mid = c.copy_first.ensures.form.size_stays ∙ c.requires.size in
    let rest = rest_mends law geometry start c.requires.size c.requires.zones one two c.start_of-one.ensures.value c.start_of-two.ensures.value on_disk chosen_two c.copy_first.new.disk c.copy_rest.new.disk size_mid first spoils c.copy_rest.ensures.keeps in
    subst (λ (w : Which). Keeps d.moment d.left_since d.bytes start c.copy_rest.new.disk (λ was image. RepairLeaves geometry was w image)) (sym c.in-Two.is)
    (mends_leaves law geometry start c.requires.size c.requires.zones one two c.start_of-one.ensures.value c.start_of-two.ensures.value on_disk chosen_two c.copy_rest.new.disk rest)

pub returns-in_ok-copy_rest-in-Two-clause-keeps : goal.returns-in_ok-copy_rest-in-Two-clause-keeps
returns-in_ok-copy_rest-in-Two-clause-keeps g c =
    let law = laws g.met.D.Disk in
    let d = g.D.Disk in
    let start = c.args.disk.now in
    let geometry = c.args.g.now in
    let one = c.start_of-one.result in
    let two = c.start_of-two.result in
    let on_disk : two < d.sectors start = omega (arith, c.start_of-two.ensures.within, c.requires.on_disk, c.requires.zones) in
    let chosen_two : ForSome (d.bytes start) (λ image. chosen geometry image ≡ Ok Two) = λ image told. subst (λ (w : Which). chosen geometry image ≡ Ok w) c.in-Two.is (c.requires.chosen image told) in
    let first = first_mends law geometry start c.requires.size c.requires.zones one two c.start_of-one.ensures.value c.start_of-two.ensures.value on_disk chosen_two c.copy_first.new.disk c.copy_first.ensures.keeps in
    let spoils = first_spoils law geometry start c.requires.size c.requires.zones one two c.start_of-one.ensures.value c.start_of-two.ensures.value on_disk chosen_two c.copy_first.new.disk c.in_ok-copy_first-in-Two.ensures.written in
    let size_mid = c.copy_first.ensures.form.size_stays ∙ c.requires.size in
    let rest = rest_mends law geometry start c.requires.size c.requires.zones one two c.start_of-one.ensures.value c.start_of-two.ensures.value on_disk chosen_two c.copy_first.new.disk c.copy_rest.new.disk size_mid first spoils c.copy_rest.ensures.keeps in
    let spoils_still = rest_spoils law geometry start c.requires.size c.requires.zones one two c.start_of-one.ensures.value c.start_of-two.ensures.value on_disk chosen_two c.copy_first.new.disk c.copy_rest.new.disk size_mid first spoils c.copy_rest.ensures.keeps in
    let rests = rest_rests law geometry start c.requires.size c.requires.zones one two c.start_of-one.ensures.value c.start_of-two.ensures.value on_disk chosen_two c.copy_first.new.disk c.copy_rest.new.disk size_mid first c.in_ok-copy_rest-in-Two.ensures.written in
    let size_then = c.copy_rest.ensures.form.size_stays ∙ size_mid in
    let last = last_mends law geometry start c.requires.size c.requires.zones one two c.start_of-one.ensures.value c.start_of-two.ensures.value on_disk chosen_two c.copy_rest.new.disk c.copy_first-in-Two.new.disk size_then rest spoils_still rests c.copy_first-in-Two.ensures.keeps in
    subst (λ (w : Which). Keeps d.moment d.left_since d.bytes start c.copy_first-in-Two.new.disk (λ was image. RepairLeaves geometry was w image)) (sym c.in-Two.is)
    (mends_leaves law geometry start c.requires.size c.requires.zones one two c.start_of-one.ensures.value c.start_of-two.ensures.value on_disk chosen_two c.copy_first-in-Two.new.disk last)

pub returns-in_ok-copy_rest-in-Two-clause-equal : goal.returns-in_ok-copy_rest-in-Two-clause-equal
returns-in_ok-copy_rest-in-Two-clause-equal g c =
    let law = laws g.met.D.Disk in
    let d = g.D.Disk in
    let start = c.args.disk.now in
    let geometry = c.args.g.now in
    let one = c.start_of-one.result in
    let two = c.start_of-two.result in
    let on_disk : two < d.sectors start = omega (arith, c.start_of-two.ensures.within, c.requires.on_disk, c.requires.zones) in
    let chosen_two : ForSome (d.bytes start) (λ image. chosen geometry image ≡ Ok Two) = λ image told. subst (λ (w : Which). chosen geometry image ≡ Ok w) c.in-Two.is (c.requires.chosen image told) in
    let first = first_mends law geometry start c.requires.size c.requires.zones one two c.start_of-one.ensures.value c.start_of-two.ensures.value on_disk chosen_two c.copy_first.new.disk c.copy_first.ensures.keeps in
    let spoils = first_spoils law geometry start c.requires.size c.requires.zones one two c.start_of-one.ensures.value c.start_of-two.ensures.value on_disk chosen_two c.copy_first.new.disk c.in_ok-copy_first-in-Two.ensures.written in
    let size_mid = c.copy_first.ensures.form.size_stays ∙ c.requires.size in
    let rest = rest_mends law geometry start c.requires.size c.requires.zones one two c.start_of-one.ensures.value c.start_of-two.ensures.value on_disk chosen_two c.copy_first.new.disk c.copy_rest.new.disk size_mid first spoils c.copy_rest.ensures.keeps in
    let spoils_still = rest_spoils law geometry start c.requires.size c.requires.zones one two c.start_of-one.ensures.value c.start_of-two.ensures.value on_disk chosen_two c.copy_first.new.disk c.copy_rest.new.disk size_mid first spoils c.copy_rest.ensures.keeps in
    let rests = rest_rests law geometry start c.requires.size c.requires.zones one two c.start_of-one.ensures.value c.start_of-two.ensures.value on_disk chosen_two c.copy_first.new.disk c.copy_rest.new.disk size_mid first c.in_ok-copy_rest-in-Two.ensures.written in
    let size_then = c.copy_rest.ensures.form.size_stays ∙ size_mid in
    on_ok_weaker c.copy_first-in-Two.result
    (λ written.
    subst (λ (w : Which). ForSome (d.bytes start) (λ was. ForSome (d.bytes c.copy_first-in-Two.new.disk) (HoldsCopies geometry (copy_of geometry w was)))) (sym c.in-Two.is)
    (last_ends law geometry start c.requires.size c.requires.zones one two c.start_of-one.ensures.value c.start_of-two.ensures.value on_disk chosen_two c.copy_rest.new.disk c.copy_first-in-Two.new.disk size_then rest rests c.copy_first-in-Two.ensures.keeps written))
    c.copy_first-in-Two.ensures.written

pub returns-in-One-clause-keeps : goal.returns-in-One-clause-keeps
returns-in-One-clause-keeps g c =
    let law = laws g.met.D.Disk in
    let d = g.D.Disk in
    let start = c.args.disk.now in
    let geometry = c.args.g.now in
    let one = c.start_of-one.result in
    let two = c.start_of-two.result in
    let chosen_one : ForSome (d.bytes start) (λ image. chosen geometry image ≡ Ok One) = λ image told. subst (λ (w : Which). chosen geometry image ≡ Ok w) c.in-One.is (c.requires.chosen image told) in
    let new_is : (was : List ℕ) (z : ℕ) → zone_from (d.sector_size start) was one z ≡ sector_at geometry.sector was (copy_start geometry One + z) =
    λ was z. ap (λ s. sector_at s was (one + z)) c.requires.size ∙ ap (λ n. sector_at geometry.sector was (n + z)) c.start_of-one.ensures.value in
    let part : (was image : List ℕ) → IsPartWritten (d.sector_size start) two 0 geometry.zones (zone_from (d.sector_size start) was one) was image
    → IsPartWritten geometry.sector (copy_start geometry Two) 0 geometry.zones (λ z. sector_at geometry.sector was (copy_start geometry One + z)) was image =
    λ was image. part_as (d.sector_size start) geometry.sector two (copy_start geometry Two) 0 geometry.zones _ _ c.requires.size c.start_of-two.ensures.value (new_is was) was image in
    subst (λ (w : Which). Keeps d.moment d.left_since d.bytes start c.match_copy.new.disk (λ was image. RepairLeaves geometry was w image)) (sym c.in-One.is)
    (keeps_told law c.match_copy.ensures.keeps (λ was image told p. one_leaves geometry was image _ (chosen_one was told) (part was image p)))

pub returns-in-One-clause-equal : goal.returns-in-One-clause-equal
returns-in-One-clause-equal g c =
    let law = laws g.met.D.Disk in
    let d = g.D.Disk in
    let start = c.args.disk.now in
    let geometry = c.args.g.now in
    let one = c.start_of-one.result in
    let two = c.start_of-two.result in
    let chosen_one : ForSome (d.bytes start) (λ image. chosen geometry image ≡ Ok One) = λ image told. subst (λ (w : Which). chosen geometry image ≡ Ok w) c.in-One.is (c.requires.chosen image told) in
    let new_is : (was : List ℕ) (z : ℕ) → zone_from (d.sector_size start) was one z ≡ sector_at geometry.sector was (copy_start geometry One + z) =
    λ was z. ap (λ s. sector_at s was (one + z)) c.requires.size ∙ ap (λ n. sector_at geometry.sector was (n + z)) c.start_of-one.ensures.value in
    let part : (was image : List ℕ) → IsPartWritten (d.sector_size start) two 0 geometry.zones (zone_from (d.sector_size start) was one) was image
    → IsPartWritten geometry.sector (copy_start geometry Two) 0 geometry.zones (λ z. sector_at geometry.sector was (copy_start geometry One + z)) was image =
    λ was image. part_as (d.sector_size start) geometry.sector two (copy_start geometry Two) 0 geometry.zones _ _ c.requires.size c.start_of-two.ensures.value (new_is was) was image in
    on_ok_weaker c.match_copy.result
    (λ written.
    subst (λ (w : Which). ForSome (d.bytes start) (λ was. ForSome (d.bytes c.match_copy.new.disk) (HoldsCopies geometry (copy_of geometry w was)))) (sym c.in-One.is)
    (λ was told image is.
    let now = c.match_copy.ensures.keeps.exit was told in
    let e : now.0 ≡ image = some_is (sym now.1 ∙ is) in
    one_holds geometry was image _ (chosen_one was told) (part was image (subst (λ (i : List ℕ). IsPartWritten (d.sector_size start) two 0 geometry.zones (zone_from (d.sector_size start) was one) was i) e now.2))
    (written_as (d.sector_size start) geometry.sector two (copy_start geometry Two) 0 geometry.zones _ _ c.requires.size c.start_of-two.ensures.value (new_is was) image (written was told image is))))
    c.match_copy.ensures.written
