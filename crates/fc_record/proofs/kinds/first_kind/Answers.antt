use Rattle.std.proofs.Common.{◌≤◌, ◌<◌, length, sym, ◌∙◌, arith}
use Rattle.std.proofs.lemmas.Result.{IfOk-weaker}
use Rattle.fc_device.proofs.DiskLaws.{laws}
use Rattle.fc_device.proofs.StopLemmas.{reads_then}
use Rattle.fc_record.proofs.CallLemmas.{few_calls}
use Rattle.fc_record.proofs.FewLemmas.{boot_within, first_within, old_within, second_within}
use Rattle.fc_record.proofs.FrontLemmas.{IfOk-both, first_read, map_read, old_in_front, old_read, second_read}
use Rattle.fc_record.proofs.PartLemmas.{boot_first, first_zone, old_last, second_zone, too_short}
use Rattle.fc_record.proofs.kinds.first_kind.Goals as goal

pub returns-in-Some-clause-found : goal.returns-in-Some-clause-found
returns-in-Some-clause-found g c = λ image told. boot_first image c.in-Some.record (sym c.in-Some.is ∙ c.in_ok-record.ensures.found image told)

pub returns-in-Some-2-clause-found : goal.returns-in-Some-2-clause-found
returns-in-Some-2-clause-found g c = λ image told.
    first_zone image c.in-Some-2.record
    (sym c.in_default.is ∙ c.in_ok-record.ensures.found image told)
    (sym c.in-Some-2.is ∙ c.in_ok-record-2.ensures.found image (c.boot_record.ensures.reads.bytes ∙ told))

pub returns-in-Some-3-clause-found : goal.returns-in-Some-3-clause-found
returns-in-Some-3-clause-found g c = λ image told.
    let law = laws g.met.D.Disk in
    let reads = reads_then law c.boot_record.ensures.reads c.map_record.ensures.reads in
    second_zone image c.in-Some-3.record
    (sym c.in_default.is ∙ c.in_ok-record.ensures.found image told)
    (sym c.in_default-2.is ∙ c.in_ok-record-2.ensures.found image (c.boot_record.ensures.reads.bytes ∙ told))
    (sym c.in-Some-3.is ∙ c.in_ok-record-3.ensures.found image (reads.bytes ∙ told))

pub returns-then-length-lt-MAP-clause-found : goal.returns-then-length-lt-MAP-clause-found
returns-then-length-lt-MAP-clause-found g c =
    IfOk-weaker c.old_kind.result _ _
    (λ found is image told.
    let now = c.boot_record.ensures.reads.bytes ∙ told in
    let long = g.met.D.Disk.told_length c.boot_record.new.disk image now in
    let short : length image < 1024 = omega (arith, long, c.length.ensures, c.if-length-lt-MAP.true) in
    old_last image found (sym c.in_default.is ∙ c.in_ok-record.ensures.found image told) (too_short image 0 (omega (arith, short))) (too_short image 1024 (omega (arith, short))) (is image now))
    c.old_kind.ensures.found

pub returns-clause-found : goal.returns-clause-found
returns-clause-found g c = λ image told.
    let law = laws g.met.D.Disk in
    let now = c.boot_record.ensures.reads.bytes ∙ told in
    let enough : 1024 ≤ length image = omega (arith, g.met.D.Disk.told_length c.boot_record.new.disk image now, c.length.ensures, c.if-length-lt-MAP.false) in
    let reads = reads_then law c.boot_record.ensures.reads c.map_record.ensures.reads in
    let map = map_read image c.map_record.new.sector (c.in_ok-record-2.ensures.filled image now enough) in
    old_last image c.kind_in_old_map.result
    (sym c.in_default.is ∙ c.in_ok-record.ensures.found image told)
    (sym c.in_default-2.is ∙ c.in_ok-record-2.ensures.found image now)
    (sym c.in_default-3.is ∙ c.in_ok-record-3.ensures.found image (reads.bytes ∙ told))
    (c.kind_in_old_map.ensures.value ∙ old_in_front image c.map_record.new.sector enough map)

pub returns-in-Some-2-clause-map : goal.returns-in-Some-2-clause-map
returns-in-Some-2-clause-map g c = λ image told.
    let now = c.boot_record.ensures.reads.bytes ∙ told in
    first_read image c.in-Some-2.record _ (c.in_ok-record-2.ensures.filled image now) (sym c.in-Some-2.is ∙ c.in_ok-record-2.ensures.found image now)

pub returns-in-Some-3-clause-map : goal.returns-in-Some-3-clause-map
returns-in-Some-3-clause-map g c = λ image told.
    let law = laws g.met.D.Disk in
    let reads = reads_then law c.boot_record.ensures.reads c.map_record.ensures.reads in
    second_read image c.in-Some-3.record _ (c.in_ok-record-2.ensures.filled image (c.boot_record.ensures.reads.bytes ∙ told)) (c.in_ok-record-3.ensures.filled image (reads.bytes ∙ told))
    (sym c.in-Some-3.is ∙ c.in_ok-record-3.ensures.found image (reads.bytes ∙ told))

pub returns-then-length-lt-MAP-clause-map : goal.returns-then-length-lt-MAP-clause-map
returns-then-length-lt-MAP-clause-map g c =
    IfOk-both c.old_kind.result _ _ _
    (λ found is map image told kind same.
    let now = c.boot_record.ensures.reads.bytes ∙ told in
    old_read image _ (map image now kind same) found (is image now) kind same)
    c.old_kind.ensures.found c.old_kind.ensures.map

pub returns-clause-map : goal.returns-clause-map
returns-clause-map g c = λ image told.
    let now = c.boot_record.ensures.reads.bytes ∙ told in
    let enough : 1024 ≤ length image = omega (arith, g.met.D.Disk.told_length c.boot_record.new.disk image now, c.length.ensures, c.if-length-lt-MAP.false) in
    let map = map_read image c.map_record.new.sector (c.in_ok-record-2.ensures.filled image now enough) in
    old_read image _ map c.kind_in_old_map.result (c.kind_in_old_map.ensures.value ∙ old_in_front image c.map_record.new.sector enough map)

pub returns-then-length-lt-MAP-clause-reads : goal.returns-then-length-lt-MAP-clause-reads
returns-then-length-lt-MAP-clause-reads g c = reads_then (laws g.met.D.Disk) c.boot_record.ensures.reads c.old_kind.ensures.reads

pub returns-in_err-record-2-clause-reads : goal.returns-in_err-record-2-clause-reads
returns-in_err-record-2-clause-reads g c = reads_then (laws g.met.D.Disk) c.boot_record.ensures.reads c.map_record.ensures.reads

pub returns-in-Some-2-clause-reads : goal.returns-in-Some-2-clause-reads
returns-in-Some-2-clause-reads g c = reads_then (laws g.met.D.Disk) c.boot_record.ensures.reads c.map_record.ensures.reads

pub returns-in_err-record-3-clause-reads : goal.returns-in_err-record-3-clause-reads
returns-in_err-record-3-clause-reads g c =
    let law = laws g.met.D.Disk in
    reads_then law (reads_then law c.boot_record.ensures.reads c.map_record.ensures.reads) c.map_record-2.ensures.reads

pub returns-in-Some-3-clause-reads : goal.returns-in-Some-3-clause-reads
returns-in-Some-3-clause-reads g c =
    let law = laws g.met.D.Disk in
    reads_then law (reads_then law c.boot_record.ensures.reads c.map_record.ensures.reads) c.map_record-2.ensures.reads

pub returns-clause-reads : goal.returns-clause-reads
returns-clause-reads g c =
    let law = laws g.met.D.Disk in
    reads_then law (reads_then law c.boot_record.ensures.reads c.map_record.ensures.reads) c.map_record-2.ensures.reads

pub returns-then-length-lt-MAP-clause-few : goal.returns-then-length-lt-MAP-clause-few
returns-then-length-lt-MAP-clause-few g c =
    IfOk-weaker c.old_kind.result _ _
    (λ found ten. few_calls _ _ found ten (omega (arith, c.boot_record.ensures.few, c.old_kind.ensures.few)))
    c.old_kind.ensures.calls

pub returns-clause-few : goal.returns-clause-few
returns-clause-few g c =
    few_calls _ _ c.kind_in_old_map.result c.kind_in_old_map.ensures.calls
    (omega (arith, c.boot_record.ensures.few, c.map_record.ensures.few, c.map_record-2.ensures.few))

pub returns-in_err-record-clause-most : goal.returns-in_err-record-clause-most
returns-in_err-record-clause-most g c = λ image told. omega (arith, c.boot_record.ensures.most image told, boot_within image)

pub returns-in-Some-clause-most : goal.returns-in-Some-clause-most
returns-in-Some-clause-most g c = λ image told. omega (arith, c.boot_record.ensures.most image told, boot_within image)

pub returns-then-length-lt-MAP-clause-most : goal.returns-then-length-lt-MAP-clause-most
returns-then-length-lt-MAP-clause-most g c = λ image told.
    let now = c.boot_record.ensures.reads.bytes ∙ told in
    let short : length image < 1024 = omega (arith, g.met.D.Disk.told_length c.boot_record.new.disk image now, c.length.ensures, c.if-length-lt-MAP.true) in
    omega (arith, c.boot_record.ensures.most image told, c.old_kind.ensures.most image now, old_within image (sym c.in_default.is ∙ c.in_ok-record.ensures.found image told) short)

pub returns-in_err-record-2-clause-most : goal.returns-in_err-record-2-clause-most
returns-in_err-record-2-clause-most g c = λ image told.
    let now = c.boot_record.ensures.reads.bytes ∙ told in
    let enough : 1024 ≤ length image = omega (arith, g.met.D.Disk.told_length c.boot_record.new.disk image now, c.length.ensures, c.if-length-lt-MAP.false) in
    omega (arith, c.boot_record.ensures.most image told, c.map_record.ensures.most image now, first_within image (sym c.in_default.is ∙ c.in_ok-record.ensures.found image told) enough)

pub returns-in-Some-2-clause-most : goal.returns-in-Some-2-clause-most
returns-in-Some-2-clause-most g c = λ image told.
    let now = c.boot_record.ensures.reads.bytes ∙ told in
    let enough : 1024 ≤ length image = omega (arith, g.met.D.Disk.told_length c.boot_record.new.disk image now, c.length.ensures, c.if-length-lt-MAP.false) in
    omega (arith, c.boot_record.ensures.most image told, c.map_record.ensures.most image now, first_within image (sym c.in_default.is ∙ c.in_ok-record.ensures.found image told) enough)

pub returns-in_err-record-3-clause-most : goal.returns-in_err-record-3-clause-most
returns-in_err-record-3-clause-most g c = λ image told.
    let now = c.boot_record.ensures.reads.bytes ∙ told in
    let enough : 1024 ≤ length image = omega (arith, g.met.D.Disk.told_length c.boot_record.new.disk image now, c.length.ensures, c.if-length-lt-MAP.false) in
    let later = (reads_then (laws g.met.D.Disk) c.boot_record.ensures.reads c.map_record.ensures.reads).bytes ∙ told in
    omega (
      arith,
      c.boot_record.ensures.most image told,
      c.map_record.ensures.most image now,
      c.map_record-2.ensures.most image later,
      second_within image (sym c.in_default.is ∙ c.in_ok-record.ensures.found image told) enough (sym c.in_default-2.is ∙ c.in_ok-record-2.ensures.found image now),
    )

pub returns-in-Some-3-clause-most : goal.returns-in-Some-3-clause-most
returns-in-Some-3-clause-most g c = λ image told.
    let now = c.boot_record.ensures.reads.bytes ∙ told in
    let enough : 1024 ≤ length image = omega (arith, g.met.D.Disk.told_length c.boot_record.new.disk image now, c.length.ensures, c.if-length-lt-MAP.false) in
    let later = (reads_then (laws g.met.D.Disk) c.boot_record.ensures.reads c.map_record.ensures.reads).bytes ∙ told in
    omega (
      arith,
      c.boot_record.ensures.most image told,
      c.map_record.ensures.most image now,
      c.map_record-2.ensures.most image later,
      second_within image (sym c.in_default.is ∙ c.in_ok-record.ensures.found image told) enough (sym c.in_default-2.is ∙ c.in_ok-record-2.ensures.found image now),
    )

pub returns-clause-most : goal.returns-clause-most
returns-clause-most g c = λ image told.
    let now = c.boot_record.ensures.reads.bytes ∙ told in
    let enough : 1024 ≤ length image = omega (arith, g.met.D.Disk.told_length c.boot_record.new.disk image now, c.length.ensures, c.if-length-lt-MAP.false) in
    let later = (reads_then (laws g.met.D.Disk) c.boot_record.ensures.reads c.map_record.ensures.reads).bytes ∙ told in
    omega (
      arith,
      c.boot_record.ensures.most image told,
      c.map_record.ensures.most image now,
      c.map_record-2.ensures.most image later,
      second_within image (sym c.in_default.is ∙ c.in_ok-record.ensures.found image told) enough (sym c.in_default-2.is ∙ c.in_ok-record-2.ensures.found image now),
    )
