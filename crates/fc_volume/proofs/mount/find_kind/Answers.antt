use Rattle.std.proofs.Common.{subst}
use Rattle.std.specs.Prelude.{Err}
use Rattle.fc_record.specs.declared.KindError.{KindError}
use Rattle.fc_record.specs.Kinds.{Answers}
use Rattle.fc_volume.proofs.MountLemmas.{no_kind, is_short}
use Rattle.fc_volume.proofs.mount.find_kind.Goals as goal

pub returns-in-Err-NoKind-clause-fault : goal.returns-in-Err-NoKind-clause-fault
returns-in-Err-NoKind-clause-fault g c = λ image told.
    no_kind image (subst (λ (e : KindError). Answers image (Err e)) c.in-Err-NoKind.field-0-is (c.in-Err-NoKind.ensures.answer image told))

pub returns-in-Err-Short-clause-fault : goal.returns-in-Err-Short-clause-fault
returns-in-Err-Short-clause-fault g c = λ image told.
    is_short c.found_fits.ensures image c.in-Err-Short.need c.in-Err-Short.have
    (subst (λ (e : KindError). Answers image (Err e)) c.in-Err-Short.field-0-is (c.in-Err-Short.ensures.answer image told))

pub returns-in-Ok-clause-fits : goal.returns-in-Ok-clause-fits
returns-in-Ok-clause-fits g c = λ image told. (c.found_fits.ensures image c.in-Ok.kind (c.in-Ok.ensures.answer image told).0).0
