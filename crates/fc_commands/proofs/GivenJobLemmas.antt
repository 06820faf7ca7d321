-- A file's job whose bytes are given: where they go, and what its answers leave.
use Rattle.std.proofs.Common.{◌≡◌, ◌≤◌, ℕ, true, false, List, [], Option, Some, None, refl, sym, ap, subst, ◌∙◌, arith}
use Rattle.std.specs.Prelude.{Err, IsFalse, Ok, Result, Vec}
use Rattle.std.specs.declared.alloc.Global.{Global}
use Rattle.std.specs.Option.{ForSome}
use Rattle.fc_device.specs.declared.disk.Disk.{Ghosts}
use Rattle.fc_device.specs.declared.disk.Extent.{Extent}
use Rattle.fc_device.specs.Calls.{SameForm}
use Rattle.fc_device.specs.Faults.{Rose}
use Rattle.fc_host.specs.declared.supply.Supply.{Ghosts as Supplies}
use Rattle.fc_image.specs.Layout.{Layout, dir_form, is_among, sector_bytes}
use Rattle.fc_import.specs.declared.place.ImportFault.{ImportFault}
use Rattle.fc_import.specs.Imports.{HasCauses, IsSameSupply}
use Rattle.fc_tree.specs.Parts.{Parts}
use Rattle.fc_model.specs.Command.{Command}
use Rattle.fc_writing.specs.declared.copies.Copies.{Copies}
use Rattle.fc_writing.specs.declared.ready.Source.{Source}
use Rattle.fc_writing.specs.declared.ready.Source.TheVariants as sources
use Rattle.fc_writing.specs.Ready.{source_content, source_place}
use Rattle.fc_writing.proofs.ContentLemmas.{part_outside}
use Rattle.fc_writing.proofs.EarlyLemmas.{source_sectors}
use Rattle.fc_change.specs.declared.change.Turned.{Turned}
use Rattle.fc_change.specs.declared.change.Turned.TheVariants as turns
use Rattle.fc_change.specs.declared.job.Job.{Job}
use Rattle.fc_change.specs.declared.job.Job.TheVariants as jobs
use Rattle.fc_change.specs.declared.job.Wants.{Wants}
use Rattle.fc_change.specs.declared.spaces.Place.{Place}
use Rattle.fc_change.specs.declared.spaces.Spaces.{Spaces}
use Rattle.fc_change.specs.Needs.{AreWants}
use Rattle.fc_change.specs.Places.{ArePlacesOn}
use Rattle.fc_change.specs.Prepared.{IsSourceOf}
use Rattle.fc_given.specs.Law.{IsBegun, IsGivenSource}
use Rattle.fc_holdings.specs.declared.error.CommandError.{CommandError}
use Rattle.fc_holdings.specs.declared.error.CommandError.TheVariants.{DiskFault}
use Rattle.fc_holdings.specs.declared.holdings.Holdings.{Holdings}
use Rattle.fc_holdings.specs.Holdings.{IsSameKind, Stands, parts_of}
use Rattle.fc_space.specs.Space.{layout_of}
use Rattle.fc_commands.specs.declared.given.GivenError.{GivenError}
use Rattle.fc_commands.specs.declared.given.GivenError.TheVariants as errors
use Rattle.fc_commands.specs.declared.stages.Prepared.{Prepared}
use Rattle.fc_commands.specs.Answers.{AnswersShort}
use Rattle.fc_commands.specs.Given.{GivenKeeps, IsFile, IsFilling, as_held, fault_of}
use Rattle.fc_commands.specs.Promises.{object_place}
use Rattle.fc_commands.specs.Stages.{IsPreparedFor, RefusesJob}
use Rattle.fc_commands.proofs.EmptySpaceLemmas.{none_copied}
use Rattle.fc_commands.proofs.KeepLemmas.{kept_done, kept_same}

-- ---- where they go

none_on : (layout : Layout) (h : Parts) (w : Wants) (s : Spaces) → w.copied ≡ None → ArePlacesOn layout h w s → s.copied ≡ None
none_on (Layout.New m) h w s none at = none_copied (Layout.New m) h.nodes w.copied s.copied none at.copied
none_on (Layout.Old space) h w s none at = at.copied

copies_no_file : (h : Parts) (job : Job) (name : List ℕ) (w : Wants) → IsFile job → AreWants h job name w → w.copied ≡ None
copies_no_file h (jobs.File slot words) name w is are = are.copy
copies_no_file h (jobs.Directory dir) name w is are = absurd is
copies_no_file h (jobs.Removal target) name w is are = absurd is
copies_no_file h (jobs.Move r) name w is are = absurd is
copies_no_file h (jobs.Words t words) name w is are = absurd is
copies_no_file h (jobs.Marks t attrs) name w is are = absurd is

-- It isn't copied, and goes to the new object's sectors.
pub record IsGivenTo (place : Option Place) (source : Source) : Type 0 where
  pub given : IsGivenSource source
  pub within : (s : ℕ) → is_among (object_place place) s ≡ false → is_among (source_place source) s ≡ false

nothing_given : (place : Option Place) (source : Source) → source ≡ sources.Nothing → IsGivenTo place source
nothing_given place source is = subst (IsGivenTo place) (sym is) (record { given = tt; within = λ s out. refl })

bytes_given : (p : Place) (source : Source) → source ≡ sources.Bytes p.extents → IsGivenTo (Some p) source
bytes_given p source is = subst (IsGivenTo (Some p)) (sym is) (record { given = tt; within = λ s out. out })

given_to : (object : Turned) (place : Option Place) (source : Source) → IsSourceOf object place None source → IsGivenTo place source
given_to (turns.Comes dir e (Some d)) (Some p) source is = nothing_given (Some p) source is
given_to (turns.Comes dir e None) (Some p) source is = bytes_given p source is
given_to (turns.Turns n dir e) (Some p) source is = bytes_given p source is
given_to (turns.Goes n) (Some p) source is = bytes_given p source is
given_to object None source is = nothing_given None source is

module _ (h : Parts) (job : Job) (name : List ℕ) (p : Prepared) (prep : IsPreparedFor h job name p) (file : IsFile job) where
  given_place : IsGivenTo prep.spaces.object p.ready.source
  given_place =
      given_to p.change.object prep.spaces.object p.ready.source
      (subst (λ (o : Option (Vec Extent Global)). IsSourceOf p.change.object prep.spaces.object o p.ready.source)
      (none_on h.layout h prep.wants prep.spaces (copies_no_file h job name prep.wants file prep.spaced.wants) prep.spaced.places) prep.ready.source)

  pub given_within : (s : ℕ) → is_among (object_place prep.spaces.object) s ≡ false → is_among (source_place p.ready.source) s ≡ false
  given_within = given_place.within

  pub given_source : IsGivenSource p.ready.source
  given_source = given_place.given

  -- only the new object's sectors have changed
  pub filling : (given was image : List ℕ) → IsBegun (sector_bytes h.layout) p.ready given was image → IsFilling h job name was image
  filling given was image begun =
      let size = sector_bytes h.layout in
      record {
        wants = prep.wants;
        spaces = prep.spaces;
        spaced = prep.spaced;
        only = record {
          length_stays = begun.length_stays;
          outside = λ s out. part_outside size [] (source_content size was given p.ready.source) was image begun s refl
              (subst (λ (ss : List ℕ). is_among ss s ≡ false) (sym (source_sectors size was given p.ready.source)) (given_place.within s out));
        };
      }

-- ---- answers

-- a fault after the change was accepted
pub faulted : (c : Command) (h : Parts) (fault : ImportFault) → AnswersShort {T = Unit {0}} c h (Err DiskFault) → AnswersShort c h (as_held (Err (fault_of fault)))
faulted c h ImportFault.Disk answers = answers
faulted c h ImportFault.Supply answers = answers

pub given_same : {D B : Type 0} (d : Ghosts D) (b : Supplies B) (disk : D) (from : B) (was : Holdings) (error : CommandError) → Stands d was disk → IsFalse (d.pending disk) → (error ≡ DiskFault → ⊥)
    → GivenKeeps d b disk disk from from was was (Err (errors.Command error))
given_same d b disk from was error stands quiet not_fault =
    let k = kept_same d disk was error stands quiet not_fault in
    record {
      unchanged = λ disk_not supply_not. (refl, refl, refl);
      stands = k.stands;
      settled = k.settled;
      map = k.map;
      dirs = k.dirs;
      form = k.form;
      supply = record { total = refl; all = refl; goes = ([], refl) };
      disk_later = omega arith;
      supply_later = omega arith;
      disk_failed = λ e. absurd (not_fault (same error e));
      supply_failed = λ e. absurd (cc);
    }
  where
    same : (x : CommandError) → (let r : Result (Unit {0}) GivenError = Err (errors.Command x) in r) ≡ Err (errors.Command DiskFault) → x ≡ DiskFault
    same x e = cc

pub given_done : {D B : Type 0} (d : Ghosts D) (b : Supplies B) (old new : D) (before after : B) (was now : Holdings) (result : Result (Unit {0}) ImportFault) → Stands d now new → IsFalse (d.pending new)
    → IsSameKind (layout_of was.places) (layout_of now.places) → dir_form (layout_of now.places) ≡ dir_form (layout_of was.places) → SameForm d old new → IsSameSupply b before after → HasCauses d b old new before after result
    → GivenKeeps d b old new before after was now (Ok tt)
given_done d b old new before after was now result stands quiet map dirs form supply causes = record {
  unchanged = tt;
  stands = stands;
  settled = quiet;
  map = map;
  dirs = dirs;
  form = form;
  supply = supply;
  disk_later = causes.disk_later;
  supply_later = causes.supply_later;
  disk_failed = λ e. absurd (cc);
  supply_failed = λ e. absurd (cc);
}

pub given_broken : {D B : Type 0} (d : Ghosts D) (b : Supplies B) (old new : D) (before after : B) (was now : Holdings) (fault : ImportFault) → IsSameKind (layout_of was.places) (layout_of now.places) → SameForm d old new
    → IsSameSupply b before after → HasCauses {T = Unit {0}} d b old new before after (Err fault) → (fault ≡ ImportFault.Supply → Stands d now new × (dir_form (layout_of now.places) ≡ dir_form (layout_of was.places)))
    → GivenKeeps d b old new before after was now (Err (fault_of fault))
given_broken d b old new before after was now ImportFault.Disk map form supply causes still = record {
  unchanged = λ disk_not supply_not. absurd (disk_not refl);
  stands = tt;
  settled = tt;
  map = map;
  dirs = tt;
  form = form;
  supply = supply;
  disk_later = causes.disk_later;
  supply_later = causes.supply_later;
  disk_failed = λ e. causes.disk refl;
  supply_failed = λ e. absurd (cc);
}
given_broken d b old new before after was now ImportFault.Supply map form supply causes still = record {
  unchanged = λ disk_not supply_not. absurd (supply_not refl);
  stands = (still refl).0;
  settled = tt;
  map = map;
  dirs = (still refl).1;
  form = form;
  supply = supply;
  disk_later = causes.disk_later;
  supply_later = causes.supply_later;
  disk_failed = λ e. absurd (cc);
  supply_failed = λ e. causes.supply_fails refl;
}

-- it was the supply
pub supply_of : (fault : ImportFault) (error : GivenError) → error ≡ fault_of fault → (let r : Result (Unit {0}) GivenError = Err error in r) ≡ Err errors.Supply → fault ≡ ImportFault.Supply
supply_of ImportFault.Disk error is e = absurd (cc)
supply_of ImportFault.Supply error is e = refl

-- a refusal, or no memory
pub refused_not_fault : (h : Parts) (job : Job) (name : List ℕ) (error : CommandError) → RefusesJob h job name error → error ≡ DiskFault → ⊥
refused_not_fault h job name error is e = subst (RefusesJob h job name) e is
