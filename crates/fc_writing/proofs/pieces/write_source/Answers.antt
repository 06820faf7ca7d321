use Rattle.std.proofs.Common.{[], refl, sym, subst}
use Rattle.std.proofs.lemmas.Result.{on_ok_weaker}
use Rattle.fc_device.proofs.DiskLaws.{laws}
use Rattle.fc_device.proofs.StopLemmas.{keeps_weaker}
use Rattle.fc_writing.specs.declared.ready.Source.{Source}
use Rattle.fc_writing.specs.Content.{HasContent, IsPart}
use Rattle.fc_writing.specs.Ready.{source_content, source_place}
use Rattle.fc_objects.specs.Written.{AreApart}
use Rattle.fc_writing.proofs.ContentLemmas.{has_stored, part_stored}
use Rattle.fc_writing.proofs.pieces.write_source.Goals as goal

pub returns-in-Bytes-clause-keeps : goal.returns-in-Bytes-clause-keeps
returns-in-Bytes-clause-keeps g c =
    keeps_weaker (laws g.met.D.Disk) c.store_in.ensures.keeps
    (λ was image part.
    subst (λ (f : Source). IsPart c.args.size [] (source_content c.args.size was c.args.bytes.now f) was image) (sym c.in-Bytes.is)
    (part_stored c.args.size c.in-Bytes.place.items c.deref.result.now c.args.bytes.now c.args.bytes.now was image c.deref.ensures.value refl part))

pub returns-in-Bytes-clause-written : goal.returns-in-Bytes-clause-written
returns-in-Bytes-clause-written g c =
    on_ok_weaker c.store_in.result
    (λ written was told image is.
    subst (λ (f : Source). HasContent c.args.size (source_content c.args.size was c.args.bytes.now f) image) (sym c.in-Bytes.is)
    (has_stored c.args.size c.in-Bytes.place.items c.deref.result.now c.args.bytes.now c.args.bytes.now image c.deref.ensures.value refl
    (subst (λ (f : Source). AreApart (source_place f)) c.in-Bytes.is c.requires.once) (λ apart. written apart image is)))
    c.store_in.ensures.written

pub returns-in-Sectors-clause-keeps : goal.returns-in-Sectors-clause-keeps
returns-in-Sectors-clause-keeps g c =
    keeps_weaker (laws g.met.D.Disk) c.copy_in.ensures.keeps
    (λ was image part. subst (λ (f : Source). IsPart c.args.size [] (source_content c.args.size was c.args.bytes.now f) was image) (sym c.in-Sectors.is) part)

pub returns-in-Sectors-clause-written : goal.returns-in-Sectors-clause-written
returns-in-Sectors-clause-written g c =
    on_ok_weaker c.copy_in.result
    (λ written was told image is.
    subst (λ (f : Source). HasContent c.args.size (source_content c.args.size was c.args.bytes.now f) image) (sym c.in-Sectors.is)
    (written (subst (λ (f : Source). AreApart (source_place f)) c.in-Sectors.is c.requires.once) was told image is))
    c.copy_in.ensures.written
