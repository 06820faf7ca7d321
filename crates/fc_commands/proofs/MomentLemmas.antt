-- What a change leaves at any moment, in words of its job.
use Rattle.std.proofs.Common.{◌≡◌, ◌<◌, ◌++◌, ⊎_elim, inl, inr, ℕ, List, refl, sym, ap, subst, ◌∙◌}
use Rattle.std.specs.Prelude.{IsFalse}
use Rattle.std.specs.Option.{ForSome}
use Rattle.fc_device.specs.declared.disk.Disk.{Ghosts}
use Rattle.fc_device.specs.Calls.{StopsAndExitsLeave}
use Rattle.fc_device.specs.Sectors.{sector_at}
use Rattle.fc_device.proofs.DiskLaws.{Laws}
use Rattle.fc_device.proofs.StopLemmas.{keeps_weaker, started}
use Rattle.fc_oldmap.specs.OldMap.{OldMapContent}
use Rattle.fc_image.specs.Layout.{Layout, map_place, sector_bytes}
use Rattle.fc_space.specs.Space.{layout_of}
use Rattle.fc_tree.specs.Parts.{Parts}
use Rattle.fc_writing.specs.declared.copies.Copies.{Copies}
use Rattle.fc_writing.specs.declared.copies.Copies.TheVariants.{Equal, Chosen}
use Rattle.fc_writing.specs.declared.ready.MapStep.{MapStep}
use Rattle.fc_writing.specs.declared.ready.Ready.{Ready}
use Rattle.fc_writing.specs.Laws.{ChangesOnly}
use Rattle.fc_writing.specs.Old.{front_in, front_taken, sector_of}
use Rattle.fc_writing.specs.Ready.{written_place}
use Rattle.fc_writing.proofs.CopyLemmas.{chooses_first}
use Rattle.fc_writing.proofs.FrontLemmas.{HasUnits, count_of, in_front_at}
use Rattle.fc_writing.proofs.LeavesLemmas.{leaves_law}
use Rattle.fc_change.specs.declared.job.Job.{Job}
use Rattle.fc_holdings.specs.declared.holdings.Holdings.{Holdings}
use Rattle.fc_commands.specs.declared.stages.Prepared.{Prepared}
use Rattle.fc_holdings.specs.Holdings.{CopiesAre, Stands, parts_of}
use Rattle.fc_commands.specs.Promises.{IsAsBefore, IsUnderWay, JobLeaves, SameMap, StepsMap}
use Rattle.fc_commands.specs.Run.{IsMapIn}
use Rattle.fc_commands.specs.Stages.{IsPreparedFor}
use Rattle.fc_commands.specs.Written.{ChangeLeavesOn}
use Rattle.fc_commands.proofs.SaidPlaceLemmas.{written_there}

-- ---- the map

-- a sector of an old map whose bytes are these
front_at : (space : OldMapContent) → HasUnits space → (front image : List ℕ) → front_in space image ≡ front → (s : ℕ) → s < count_of space → sector_at (sector_of space) image s ≡ sector_at (sector_of space) front s
front_at space units front image same s low = sym (in_front_at space units image s low) ∙ ap (λ (f : List ℕ). sector_at (sector_of space) f s) same

steps_map : (layout : Layout) (r : Ready) (bytes was image : List ℕ) → IsMapIn layout → ChangeLeavesOn layout r bytes was image → StepsMap layout r.take r.give was image
steps_map (Layout.New m) r bytes was image is leaves = record {
  whole = λ few_take few_give. leaves_law.whole m r bytes was image few_take few_give leaves;
  still = λ no_take no_give. leaves_law.still m r bytes was image no_take no_give leaves;
}
steps_map (Layout.Old space) r bytes was image is leaves = record {
  torn = ⊎_elim (λ stage. inl (λ s low. inl (front_at space is.units (front_in space was) image stage.map s low ∙ in_front_at space is.units was s low)))
      (λ more. ⊎_elim (λ stage. inl stage.map) (λ rest. ⊎_elim (λ stage. inr (λ s low. inl (front_at space is.units (front_taken space r was) image stage.map s low))) (λ stage. inr stage.map) rest) more) leaves;
  still = λ no_take no_give. leaves_law.old_still space r bytes was image is.units no_take no_give leaves;
}

-- the map of an image of which it is known
pub known_map : (copies : Copies) (layout : Layout) (was : List ℕ) → CopiesAre copies layout was → SameMap layout was was
known_map Equal (Layout.New m) was known = chooses_first m.geometry m.zones was known
known_map (Chosen which) (Layout.New m) was known = record { which = which; chosen_one = known.counts; content = known.content }
known_map copies (Layout.Old space) was known = refl

-- ---- the sectors

only_written : (layout : Layout) (r : Ready) (bytes was image : List ℕ) → ChangeLeavesOn layout r bytes was image → ChangesOnly (sector_bytes layout) (written_place r ++ map_place layout) was image
only_written (Layout.New m) r bytes was image leaves = leaves_law.frame m r bytes was image leaves
only_written (Layout.Old space) r bytes was image leaves = leaves_law.old_frame space r bytes was image leaves

-- ---- a moment

under_way : (h : Parts) (job : Job) (name bytes : List ℕ) (p : Prepared) (was image : List ℕ) → IsMapIn h.layout → IsPreparedFor h job name p → ChangeLeavesOn h.layout p.ready bytes was image → IsUnderWay h job name was image
under_way h job name bytes p was image is_map prep leaves =
    let steps = steps_map h.layout p.ready bytes was image is_map leaves in
    record {
      wants = prep.wants;
      spaces = prep.spaces;
      change = p.change;
      spaced = prep.spaced;
      is = prep.change;
      only = written_there h p.change prep.spaces p.ready prep.ready (sector_bytes h.layout) (map_place h.layout) was image (only_written h.layout p.ready bytes was image leaves);
      map = subst (λ (step : MapStep). StepsMap h.layout prep.spaces.take step was image) prep.ready.give (subst (λ (step : MapStep). StepsMap h.layout step p.ready.give was image) prep.ready.take steps);
    }

module _ {D : Type 0} (d : Ghosts D) (law : Laws d) (was : Holdings) where
  as_before : (first : List ℕ) → CopiesAre was.copies (layout_of was.places) first → IsAsBefore (layout_of was.places) first first
  as_before first known = record { same = refl; map = known_map was.copies (layout_of was.places) first known }

  pub nothing_left : (disk : D) → Stands d was disk → IsFalse (d.pending disk) → StopsAndExitsLeave d disk disk (IsAsBefore (layout_of was.places))
  nothing_left disk stands quiet = record {
    stops = started law disk (λ image. ForSome (d.bytes disk) (λ first. IsAsBefore (layout_of was.places) first image))
        (λ image left first told. subst (IsAsBefore (layout_of was.places) first) (sym (law.settled disk quiet first told image left)) (as_before first (stands.copies first told)));
    exit = λ first told. (first, told, as_before first (stands.copies first told));
    told = λ image told. (image, told);
  }

  pub leaves_nothing : (job : Job) (name : List ℕ) (disk : D) → Stands d was disk → IsFalse (d.pending disk) → StopsAndExitsLeave d disk disk (JobLeaves (parts_of was) job name)
  leaves_nothing job name disk stands quiet = keeps_weaker law (nothing_left disk stands quiet) (λ first image left. inl left)

  pub leaves_written : (job : Job) (name bytes : List ℕ) (old new : D) (p : Prepared) → IsMapIn (layout_of was.places) → IsPreparedFor (parts_of was) job name p
      → StopsAndExitsLeave d old new (ChangeLeavesOn (layout_of was.places) p.ready bytes) → StopsAndExitsLeave d old new (JobLeaves (parts_of was) job name)
  leaves_written job name bytes old new p is_map prep keeps = keeps_weaker law keeps (λ first image left. inr (under_way (parts_of was) job name bytes p first image is_map prep left))
