-- A command done to what a volume holds, by bytes that are given, as done to the volume.
use Rattle.std.proofs.Common.{◌≡◌, Bool, List, ℕ, length, true, refl, sym, ap, subst, ◌∙◌}
use Rattle.std.specs.Prelude.{Err, IfErr, IsTrue, Ok, OnOk, Result}
use Rattle.fc_device.specs.declared.disk.Disk.{Ghosts}
use Rattle.fc_device.specs.Calls.{StopsAndExitsLeave}
use Rattle.fc_device.proofs.DiskLaws.{Laws}
use Rattle.fc_device.proofs.StopLemmas.{weaker}
use Rattle.fc_host.specs.declared.supply.Supply.{Ghosts as Supplies}
use Rattle.fc_model.specs.Command.{Command}
use Rattle.fc_holdings.specs.declared.error.CommandError.TheVariants.{Refused, NoMemory, DiskFault}
use Rattle.fc_holdings.specs.declared.holdings.Holdings.{Holdings}
use Rattle.fc_holdings.specs.Holdings as held
use Rattle.fc_commands.specs.Given.{GivenKeeps, OpensAlikeOf, UnlessDiskFault, as_held, filled}
use Rattle.fc_commands.specs.Promises.{HasChanged, WritesPlacesOf}
use Rattle.fc_commands.specs.declared.given.GivenError.{GivenError}
use Rattle.fc_commands.specs.Answers.{AnswersOver}
use Rattle.fc_commands.specs.Judgments.{CommandLeaves, FillsPlace}
use Rattle.fc_volume.specs.Fitness.{fit_after_giving}
use Rattle.fc_volume.specs.Giving.{IsAskedGiving}
use Rattle.fc_volume.specs.Volume.{Volume}
use Rattle.fc_volume.proofs.CommandLemmas.{fit_unless, volume_of}

-- If what a fit volume holds is as before, and neither disk nor supply failed, so is the volume.
unchanged : {D B : Type 0} (h h' : Holdings) (read_only fit fit' : Bool) (old new : D) (before after : B) (r : Result (Unit {0}) GivenError) → fit' ≡ fit_after_giving r → fit ≡ true
    → IfErr r (λ error. (error ≡ GivenError.Command DiskFault → ⊥) → (error ≡ GivenError.Supply → ⊥) → (h' ≡ h) × (new ≡ old) × (after ≡ before))
    → IfErr r (λ error. (error ≡ GivenError.Command DiskFault → ⊥) → (error ≡ GivenError.Supply → ⊥) → (volume_of h' read_only fit' ≡ volume_of h read_only fit) × (new ≡ old) × (after ≡ before))
unchanged h h' read_only fit fit' old new before after (Ok value) is fits same = same
unchanged h h' read_only fit fit' old new before after (Err (GivenError.Command (Refused refusal))) is fits same = λ disk supply.
    let kept = same disk supply in ((λ i. volume_of (kept.0 i) read_only ((is ∙ sym fits) i)), kept.1, kept.2)
unchanged h h' read_only fit fit' old new before after (Err (GivenError.Command NoMemory)) is fits same = λ disk supply.
    let kept = same disk supply in ((λ i. volume_of (kept.0 i) read_only ((is ∙ sym fits) i)), kept.1, kept.2)
unchanged h h' read_only fit fit' old new before after (Err (GivenError.Command DiskFault)) is fits same = λ disk supply. absurd (disk refl)
unchanged h h' read_only fit fit' old new before after (Err GivenError.Supply) is fits same = λ disk supply. absurd (supply refl)

fit_unless_disk : (r : Result (Unit {0}) GivenError) (fit : Bool) → fit ≡ fit_after_giving r → UnlessDiskFault r (fit ≡ true)
fit_unless_disk (Ok done) fit is = is
fit_unless_disk (Err (GivenError.Command error)) fit is = fit_unless {T = Unit {0}} (Err error) fit is
fit_unless_disk (Err GivenError.Supply) fit is = is

module _ (was : Volume) (h : Holdings) (read_only fit : Bool) (view : volume_of h read_only fit ≡ was) where
  pub asked_giving : {D B : Type 0} (d : Ghosts D) (b : Supplies B) (law : Laws d) (len : ℕ) (command : List ℕ → Command) (h' : Holdings) (old new : D) (before after : B) (result : Result (Unit {0}) GivenError) (fit' : Bool)
      → fit' ≡ fit_after_giving result → IsTrue was.fit → ((bytes : List ℕ) → length bytes ≡ len → AnswersOver read_only (command bytes) (held.parts_of h) (as_held result)) → OnOk result (length (b.given after) ≡ len)
      → OnOk result (HasChanged d (command (b.given after)) (held.parts_of h) (held.parts_of h') old new) → StopsAndExitsLeave d old new (WritesPlacesOf (command (filled len (b.given after))) (held.parts_of h))
      → StopsAndExitsLeave d old new (CommandLeaves (command (filled len (b.given after))) (held.parts_of h))
      → (result ≡ Err GivenError.Supply → StopsAndExitsLeave d old new (FillsPlace (command (filled len (b.given after))) (held.parts_of h)))
      → (result ≡ Err GivenError.Supply → StopsAndExitsLeave d old new (OpensAlikeOf (held.parts_of h))) → GivenKeeps d b old new before after h h' result
      → IsAskedGiving d b len command was (volume_of h' read_only fit') old new before after result
  asked_giving d b law len command h' old new before after result fit' fit_is fits refused given changed places leaves stopped alike keeps =
      let fit_was : fit ≡ true = ap (λ (v : Volume). v.fit) view ∙ fits in
      subst (λ (v : Volume). IsAskedGiving d b len command v (volume_of h' read_only fit') old new before after result) view
      (record {
        refused = refused;
        given = given;
        changed = changed;
        places = places;
        leaves = leaves;
        stopped = stopped;
        alike = alike;
        keeps = record {
          unchanged = unchanged h h' read_only fit fit' old new before after result fit_is fit_was keeps.unchanged;
          stands = keeps.stands;
          settled = keeps.settled;
          fit = fit_unless_disk result fit' fit_is;
          unfit = λ fault. fit_is ∙ ap fit_after_giving fault;
          rights = refl;
          map = keeps.map;
          dirs = keeps.dirs;
          form = keeps.form;
          goes = weaker law _ places.stops (λ image left. tt);
          supply = keeps.supply;
          disk_later = keeps.disk_later;
          supply_later = keeps.supply_later;
          disk_failed = keeps.disk_failed;
          supply_failed = keeps.supply_failed;
        };
      })
