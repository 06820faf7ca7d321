use Rattle.std.proofs.Common.{◌≡◌, ◌∙◌, ◌++◌, inl, inr, ⊎_elim, [], ◌∷◌, Bool, true, false, Result, Ok, Err, OnErr, refl, ap, subst, sym}
use Rattle.std.specs.Option.{ForSome}
use Rattle.std.proofs.lemmas.Result.{err_from_is_err_and}
use Rattle.fc_device.specs.declared.disk.Failed.{Failed}
use Rattle.fc_host.specs.Calls.{make_asked, remove_asked}
use Rattle.fc_host.specs.Files.{MayBeMade, is_there}
use Rattle.fc_host.specs.HostLaws.{empty_there}
use Rattle.fc_host.specs.Answers.{joined}
use Rattle.fc_objects.specs.Extents.{sectors_in}
use Rattle.fc_export.specs.declared.file.ExportFault.{ExportFault}
use Rattle.fc_export.specs.Exports.{Exports}
use Rattle.fc_export.specs.Readable.{told_bytes}
use Rattle.fc_export.proofs.ExportLemmas.{asks_all, ended_holds, leaves_empty, made_absent, made_holds, taken_or_left}
use Rattle.fc_export.proofs.file.export.Goals as goal

pub returns-in_err-make-clause-exported : goal.returns-in_err-make-clause-exported
returns-in_err-make-clause-exported g c =
    let name = c.args.name.now in
    let old = c.args.host.now in
    let new = c.make.new.self in
    let known = told_bytes g.D.Disk c.args.disk.now c.args.size (sectors_in c.args.place.now) c.args.len in
    let p = err_from_is_err_and c.from_residual.result c.from_residual.ensures.1 in
    let failed = c.in_err-make.was in
    let asked = subst (λ (r : Result Bool Failed). g.H.Host.asked new ≡ g.H.Host.asked old ++ make_asked name r ∷ []) failed c.make.ensures.asked in
    let left = subst (λ (r : Result Bool Failed). OnErr r (MayBeMade name (g.H.Host.files old) (g.H.Host.files new))) failed c.make.ensures.failed in
    subst (λ (r : Result Bool ExportFault). Exports g.H.Host name known old new r) (sym p.1)
    (make_asked name (Err c.in_err-make.field-0.0) ∷ [], asked, (inl (refl, left), leaves_empty name known (g.H.Host.files old) (g.H.Host.files new) left))

made_true : (r : Result Bool Failed) (b : Bool) → r ≡ Ok b → b ≡ true → r ≡ Ok true
made_true r b is e = is ∙ ap Ok e

pub add_object-requires-clause-there : goal.add_object-requires-clause-there
add_object-requires-clause-there g c files told =
    empty_there (g.H.Host.files c.args.host.now) (g.H.Host.files c.make.new.self) c.args.name.now
    (c.make.ensures.empty (made_true c.make.result c.in_ok-make.field-0 c.in_ok-make.was c.if-not-branch.false)) files told

pub returns-in-Err-clause-exported : goal.returns-in-Err-clause-exported
returns-in-Err-clause-exported g c =
    let name = c.args.name.now in
    let asked = g.H.Host.asked in
    let files = g.H.Host.files in
    let old = c.args.host.now in
    let made = c.make.new.self in
    let mid = c.add_object.new.host in
    let new = c.remove.new.self in
    let known = told_bytes g.D.Disk c.args.disk.now c.args.size (sectors_in c.args.place.now) c.args.len in
    let there = made_true c.make.result c.in_ok-make.field-0 c.in_ok-make.was c.if-not-branch.false in
    let own = subst (λ (r : Result Bool Failed). asked made ≡ asked old ++ make_asked name r ∷ []) there c.make.ensures.asked in
    let absent : ForSome (files old) (λ fs. is_there fs name ≡ false) = λ fs told. made_absent (is_there fs name)
    (sym c.if-not-branch.false ∙ c.in_ok-make.ensures.told fs told) in
    let begun = c.in-Err.ensures.added in
    let first = made_holds (files old) begun.between name begun.pieces (files made, (absent, c.make.ensures.empty there), begun.answered) in
    let has = ended_holds (files old) begun.between (files mid) name (joined begun.pieces) begun.piece begun.failed known first begun.ended begun.first in
    let both = taken_or_left name known (files old) (files mid) (files new) c.remove.result has c.remove.ensures.gone c.remove.ensures.failed in (
      _,
      asks_all name (asked old) (asked made) (asked mid) (asked new) begun.pieces begun.failed (remove_asked name c.remove.result ∷ []) own begun.asks c.remove.ensures.asked,
      (
        inr (record {
          pieces = begun.pieces;
          piece = begun.piece;
          failed = begun.failed;
          back = remove_asked name c.remove.result ∷ [];
          asks = refl;
          failed_is = ⊎_elim (λ none. inl none.0) (λ is. inr is.0) begun.ended;
          first = begun.first;
          taken_back = both.0;
        }),
        both.1,
      ),
    )
