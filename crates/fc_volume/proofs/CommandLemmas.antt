-- A command done to what a volume holds, as done to the volume.
use Rattle.std.proofs.Common.{◌≡◌, Bool, true, refl, sym, ap, subst, ◌∙◌}
use Rattle.std.specs.Prelude.{Err, IfErr, IsTrue, Ok, OnOk, Result}
use Rattle.fc_device.specs.declared.disk.Disk.{Ghosts}
use Rattle.fc_device.specs.Calls.{StopsAndExitsLeave}
use Rattle.fc_device.proofs.DiskLaws.{Laws}
use Rattle.fc_device.proofs.StopLemmas.{weaker}
use Rattle.fc_model.specs.Command.{Command}
use Rattle.fc_holdings.specs.declared.error.CommandError.{CommandError}
use Rattle.fc_holdings.specs.declared.error.CommandError.TheVariants.{Refused, NoMemory, DiskFault}
use Rattle.fc_holdings.specs.declared.holdings.Holdings.{Holdings}
use Rattle.fc_holdings.specs.Answers.{UnlessFault}
use Rattle.fc_holdings.specs.Holdings as held
use Rattle.fc_commands.specs.Promises.{ChangeKeeps, HasChanged, SameMap, WritesPlacesOf}
use Rattle.fc_commands.specs.Answers.{AnswersOver}
use Rattle.fc_commands.specs.Judgments.{CommandLeaves}
use Rattle.fc_volume.specs.Changing.{IsAsked}
use Rattle.fc_volume.specs.Fitness.{fit_after}
use Rattle.fc_volume.specs.Volume.{StandsFor, Volume, parts_of}

abbrev pub volume_of : Holdings → (read_only fit : Bool) → Volume
volume_of h read_only fit = record { space = h.places; copies = h.copies; tree = h.tree; owners = h.owners; read_only = read_only; fit = fit }

-- ---- fitness

fit_but : (T : Type 0) (error : CommandError) → (error ≡ DiskFault → ⊥) → fit_after {T = T} (Err error) ≡ true
fit_but T (Refused refusal) other = refl
fit_but T NoMemory other = refl
fit_but T DiskFault other = absurd (other refl)

pub fit_unless : {T : Type 0} (r : Result T CommandError) (fit : Bool) → fit ≡ fit_after r → UnlessFault r (fit ≡ true)
fit_unless (Ok value) fit is = is
fit_unless (Err (Refused refusal)) fit is = is
fit_unless (Err NoMemory) fit is = is
fit_unless (Err DiskFault) fit is = tt

-- If what a fit volume holds is as before, and the disk didn't fail, so is the volume.
unchanged : {D : Type 0} (h h' : Holdings) (read_only fit fit' : Bool) (old new : D) (r : Result (Unit {0}) CommandError) → fit' ≡ fit_after r → fit ≡ true → IfErr r (λ error. (error ≡ DiskFault → ⊥) → (h' ≡ h) × (new ≡ old))
    → IfErr r (λ error. (error ≡ DiskFault → ⊥) → (volume_of h' read_only fit' ≡ volume_of h read_only fit) × (new ≡ old))
unchanged h h' read_only fit fit' old new (Ok value) is fits same = same
unchanged h h' read_only fit fit' old new (Err error) is fits same = λ other.
    let kept = same other in
    let stays : fit' ≡ fit = is ∙ fit_but (Unit {0}) error other ∙ sym fits in
    ((λ i. volume_of (kept.0 i) read_only (stays i)), kept.1)

-- ---- a volume that holds this, and is changed to hold that

module _ (was : Volume) (h : Holdings) (read_only fit : Bool) (view : volume_of h read_only fit ≡ was) where
  pub stands : {D : Type 0} (d : Ghosts D) (disk : D) → StandsFor d was disk → held.Stands d h disk
  stands d disk s = subst (λ (v : Volume). StandsFor d v disk) (sym view) s

  pub same_map : {D : Type 0} (d : Ghosts D) (old new : D) → StopsAndExitsLeave d old new (SameMap (held.parts_of h).layout) → StopsAndExitsLeave d old new (SameMap (parts_of was).layout)
  same_map d old new kept = subst (λ (v : Volume). StopsAndExitsLeave d old new (SameMap (parts_of v).layout)) view kept

  pub asked : {D : Type 0} (d : Ghosts D) (law : Laws d) (c : Command) (h' : Holdings) (old new : D) (result : Result (Unit {0}) CommandError) (fit' : Bool) → fit' ≡ fit_after result → IsTrue was.fit
      → AnswersOver read_only c (held.parts_of h) result → OnOk result (HasChanged d c (held.parts_of h) (held.parts_of h') old new)
      → StopsAndExitsLeave d old new (WritesPlacesOf c (held.parts_of h)) → StopsAndExitsLeave d old new (CommandLeaves c (held.parts_of h)) → ChangeKeeps d old new h h' result
      → IsAsked d c was (volume_of h' read_only fit') old new result
  asked d law c h' old new result fit' fit_is fits refused changed places leaves keeps =
      let fit_was : fit ≡ true = ap (λ (v : Volume). v.fit) view ∙ fits in
      subst (λ (v : Volume). IsAsked d c v (volume_of h' read_only fit') old new result) view
      (record {
        refused = refused;
        changed = changed;
        places = places;
        leaves = leaves;
        keeps = record {
          unchanged = unchanged h h' read_only fit fit' old new result fit_is fit_was keeps.unchanged;
          stands = keeps.stands;
          settled = keeps.settled;
          fit = fit_unless result fit' fit_is;
          unfit = λ fault. fit_is ∙ ap fit_after fault;
          rights = refl;
          map = keeps.map;
          dirs = keeps.dirs;
          form = keeps.form;
          goes = weaker law _ places.stops (λ image left. tt);
          faults = keeps.faults;
          cause = keeps.cause;
        };
      })
