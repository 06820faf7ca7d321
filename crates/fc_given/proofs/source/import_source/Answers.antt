use Rattle.std.proofs.Common.{[], refl, sym, subst}
use Rattle.std.proofs.lemmas.Result.{on_ok_weaker}
use Rattle.fc_device.proofs.DiskLaws.{laws}
use Rattle.fc_device.proofs.StopLemmas.{keeps_weaker}
use Rattle.fc_objects.specs.Extents.{sectors_in}
use Rattle.fc_objects.specs.Written.{AreApart}
use Rattle.fc_writing.specs.declared.ready.Source.{Source}
use Rattle.fc_writing.specs.Content.{HasContent, IsPart}
use Rattle.fc_writing.specs.Ready.{source_content, source_place}
use Rattle.fc_writing.proofs.ContentLemmas.{has_stored, has_written, part_stored, part_written}
use Rattle.fc_given.proofs.source.import_source.Goals as goal

pub returns-in-Bytes-clause-keeps : goal.returns-in-Bytes-clause-keeps
returns-in-Bytes-clause-keeps g c =
    let given = g.B.Supply.given c.import.new.from in
    keeps_weaker (laws g.met.D.Disk) c.import.ensures.keeps
    (λ was image part.
    subst (λ (f : Source). IsPart c.args.size [] (source_content c.args.size was given f) was image) (sym c.in-Bytes.is)
    (part_stored c.args.size c.in-Bytes.place.items c.deref.result.now given given was image c.deref.ensures.value refl
    (part_written c.args.size (sectors_in c.deref.result.now) given was image part)))

pub returns-in-Bytes-clause-written : goal.returns-in-Bytes-clause-written
returns-in-Bytes-clause-written g c =
    let given = g.B.Supply.given c.import.new.from in
    on_ok_weaker c.import.result
    (λ written was told image is.
    subst (λ (f : Source). HasContent c.args.size (source_content c.args.size was given f) image) (sym c.in-Bytes.is)
    (has_stored c.args.size c.in-Bytes.place.items c.deref.result.now given given image c.deref.ensures.value refl
    (subst (λ (f : Source). AreApart (source_place f)) c.in-Bytes.is c.requires.once) (λ apart. has_written c.args.size (sectors_in c.deref.result.now) given image (written apart image is))))
    c.import.ensures.written

pub returns-in-Nothing-clause-keeps : goal.returns-in-Nothing-clause-keeps
returns-in-Nothing-clause-keeps g c =
    let given = g.B.Supply.given c.import-in-Nothing.new.from in
    keeps_weaker (laws g.met.D.Disk) c.import-in-Nothing.ensures.keeps
    (λ was image part. subst (λ (f : Source). IsPart c.args.size [] (source_content c.args.size was given f) was image) (sym c.in-Nothing.is) (part_written c.args.size [] given was image part))
