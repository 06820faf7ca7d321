-- How a conversion ended, by what the source says.
use Rattle.std.proofs.Common.{append-nil, ◌≡◌, ◌⊎◌, inl, inr, ⊎_elim, ◌≤◌, ℕ, ◌+◌, ◌-◌, ◌^◌, min, Bool, true, false, List, [], ◌∷◌, ◌++◌, refl, sym, ap, subst, ◌∙◌, Option, Some, None, Ok, Err, Result, arith}
use Rattle.std.specs.Option.{ForSome, option_map}
use Rattle.fc_device.specs.declared.disk.Disk.{Ghosts}
use Rattle.fc_device.specs.declared.streams.Sink.{Ghosts as Sinks}
use Rattle.fc_device.specs.Calls.{OnlyReads, StopsAsBefore}
use Rattle.fc_device.specs.Faults.{Rose}
use Rattle.fc_device.specs.Stops.{LeavesOnly}
use Rattle.fc_device.proofs.DiskLaws.{Laws}
use Rattle.fc_device.proofs.StopLemmas.{goes_on_same, started}
use Rattle.fc_record.specs.declared.Kind.{Kind}
use Rattle.fc_names.specs.Names.{Path}
use Rattle.fc_model.specs.Tree.{Tree}
use Rattle.fc_image.specs.declared.ImageFault.{ImageFault}
use Rattle.fc_image.specs.Laws.{AcceptedLaw}
use Rattle.fc_image.specs.Objects.{tree_of}
use Rattle.fc_image.specs.Opening.{Opened, open_image}
use Rattle.fc_image.specs.effects.Effect.{State, tree_in}
use Rattle.fc_format.specs.Fresh.{format_size}
use Rattle.fc_fit.specs.declared.counts.Counts.{Counts}
use Rattle.fc_fit.specs.declared.fit.What.{What}
use Rattle.fc_fit.specs.Counts.{tree_counts}
use Rattle.fc_fit.specs.Fit.{unfit}
use Rattle.fc_program.specs.Reading.{IsUnwritten}
use Rattle.fc_program.specs.Writing.{Wrote, WrotePart}
use Rattle.fc_tree.specs.Parts.{ArePartsOf}
use Rattle.fc_volume.specs.Volume.{Volume, parts_of}
use Rattle.fc_convert.specs.declared.ending.ConvertEnd.{ConvertEnd}
use Rattle.fc_convert.specs.declared.ending.ConvertEnd.TheVariants as ends
use Rattle.fc_convert.specs.Convert.{ConvertWords, counts_line, converted_line}
use Rattle.fc_convert.specs.Converting.{ConvertsDisks, CopiesBy, FailsToOpen, ForSource, OpensAndCopies, TellsLine}
use Rattle.fc_convert.specs.Ends.{IsLine, TellsEnd, end_line, is_over_source, is_over_target}
use Rattle.fc_convert.specs.Opened.{Holds, NoSourceFor, NoTargetFor}
use Rattle.fc_convert.specs.Promise.{AsksOnce, AsksTarget, EndsByFit, EndsByOpening, EndsOnFault, EndsOver, EndsUnfit, FitsGiven, HasConverted, IsAnswer, Outside}
use Rattle.fc_convert.proofs.EndLemmas.{end_of}

module _ {D E : Type 0} (d : Ghosts D) (e : Ghosts E) (accepted : AcceptedLaw) (w : ConvertWords) (from mid from' : D) (to to' : E) (before after : Option (List ℕ)) where
  abbrev Told : ConvertEnd → Type 0
  Told end = ForSome (d.bytes from) (λ image. EndsByOpening e to to' w.format image before after (open_image image) end)

  pub free_OutFault : Told ends.OutFault
  free_OutFault image told = by (open_image image)
    where
      by_fit : (t : Tree) (o : Option (Path × What)) → EndsByFit e to to' w.format t before after o ends.OutFault
      by_fit t None = tt
      by_fit t (Some fault) = tt

      by : (opened : Result Opened ImageFault) → EndsByOpening e to to' w.format image before after opened ends.OutFault
      by (Ok view) = by_fit (tree_of image view.layout view.listings) (unfit w.format (tree_of image view.layout view.listings))
      by (Err fault) = tt

  pub free_NoMemory : Told ends.NoMemory
  free_NoMemory image told = by (open_image image)
    where
      by_fit : (t : Tree) (o : Option (Path × What)) → EndsByFit e to to' w.format t before after o ends.NoMemory
      by_fit t None = tt
      by_fit t (Some fault) = tt

      by : (opened : Result Opened ImageFault) → EndsByOpening e to to' w.format image before after opened ends.NoMemory
      by (Ok view) = by_fit (tree_of image view.layout view.listings) (unfit w.format (tree_of image view.layout view.listings))
      by (Err fault) = tt

  pub free_FromFault : Told ends.FromFault
  free_FromFault image told = by (open_image image)
    where
      by_fit : (t : Tree) (o : Option (Path × What)) → EndsByFit e to to' w.format t before after o ends.FromFault
      by_fit t None = tt
      by_fit t (Some fault) = tt

      by : (opened : Result Opened ImageFault) → EndsByOpening e to to' w.format image before after opened ends.FromFault
      by (Ok view) = by_fit (tree_of image view.layout view.listings) (unfit w.format (tree_of image view.layout view.listings))
      by (Err fault) = tt

  pub free_NoSource : Told ends.NoSource
  free_NoSource image told = by (open_image image)
    where
      by_fit : (t : Tree) (o : Option (Path × What)) → EndsByFit e to to' w.format t before after o ends.NoSource
      by_fit t None = tt
      by_fit t (Some fault) = tt

      by : (opened : Result Opened ImageFault) → EndsByOpening e to to' w.format image before after opened ends.NoSource
      by (Ok view) = by_fit (tree_of image view.layout view.listings) (unfit w.format (tree_of image view.layout view.listings))
      by (Err fault) = tt

  pub unopened_told : (end : ConvertEnd) → NoSourceFor d w.from from from' end → Told end
  unopened_told ends.Done cause = absurd cause
  unopened_told (ends.Unfit path what) cause = absurd cause
  unopened_told ends.BadWords cause = absurd cause
  unopened_told (ends.BadImage fault) cause = λ image told. subst (λ (opened : Result Opened ImageFault). EndsByOpening e to to' w.format image before after opened (ends.BadImage fault)) (sym (cause.1 image told)) refl
  unopened_told ends.FromFault cause = free_FromFault
  unopened_told ends.ToFault cause = absurd cause
  unopened_told ends.OutFault cause = absurd cause
  unopened_told ends.NoMemory cause = free_NoMemory
  unopened_told (ends.NoRoom path refusal) cause = absurd cause
  unopened_told ends.NoSource cause = free_NoSource
  unopened_told ends.NoTarget cause = absurd cause
  unopened_told (ends.BadTarget fault) cause = absurd cause

  module _ (v : Volume) (opened : ForSome (d.bytes from) (λ image. (view : Opened) × (open_image image ≡ Ok view) × ArePartsOf (parts_of v) view)) (stays : d.bytes mid ≡ d.bytes from) where
    -- what the source holds, if it tells it
    held : (image : List ℕ) (told : d.bytes from ≡ Some image) → Holds d (opened image told).0.kind (record { image = image; view = (opened image told).0 }) v mid
    held image told =
        let o = opened image told in
        record { bytes = stays ∙ told; opens = accepted image o.0 o.1; parts = o.2 }

    -- by whether all objects fit
    by_fit : (end : ConvertEnd) (image : List ℕ) (told : d.bytes from ≡ Some image) (o : Option (Path × What)) → unfit w.format (tree_of image (opened image told).0.layout (opened image told).0.listings) ≡ o
        → EndsByFit e to to' w.format (tree_of image (opened image told).0.layout (opened image told).0.listings) before after o end → EndsByOpening e to to' w.format image before after (open_image image) end
    by_fit end image told o is ends =
        subst (λ (x : Result Opened ImageFault). EndsByOpening e to to' w.format image before after x end) (sym (opened image told).1)
        (subst (λ (x : Option (Path × What)). EndsByFit e to to' w.format (tree_of image (opened image told).0.layout (opened image told).0.listings) before after x end) (sym is) ends)

    pub copied_told : (result : Result Counts ConvertEnd) → CopiesBy d e w v mid from' to to' result
        → ((counts : Counts) → result ≡ Ok counts → Wrote before after (counts_line counts.files counts.dirs)) → Told (end_of result)
    copied_told (Ok counts) by wrote = λ image told.
        (let s : State = record { image = image; view = (opened image told).0 } in
        let facts = by.3 (opened image told).0.kind s (held image told) in
        by_fit ends.Done image told None (by.0 (opened image told).0.kind s (held image told))
        (subst (λ (c : Counts). Wrote before after (counts_line c.files c.dirs)) facts.0 (wrote counts refl), facts.1))
    copied_told (Err ends.Done) by wrote = absurd by
    copied_told (Err (ends.Unfit path what)) by wrote = λ image told. by_fit (ends.Unfit path what) image told (Some (path, what)) (by.0 (opened image told).0.kind (record { image = image; view = (opened image told).0 }) (held image told)) refl
    copied_told (Err ends.BadWords) by wrote = absurd by
    copied_told (Err (ends.BadImage fault)) by wrote = absurd by
    copied_told (Err ends.FromFault) by wrote = free_FromFault
    copied_told (Err ends.ToFault) by wrote = λ image told. by_fit ends.ToFault image told None (by.0 (opened image told).0.kind (record { image = image; view = (opened image told).0 }) (held image told)) tt
    copied_told (Err ends.OutFault) by wrote = absurd by
    copied_told (Err ends.NoMemory) by wrote = free_NoMemory
    copied_told (Err (ends.NoRoom path refusal)) by wrote = λ image told. by_fit (ends.NoRoom path refusal) image told None (by.0 (opened image told).0.kind (record { image = image; view = (opened image told).0 }) (held image told)) (by.3 (opened image told).0.kind (record { image = image; view = (opened image told).0 }) (held image told))
    copied_told (Err ends.NoSource) by wrote = absurd by
    copied_told (Err ends.NoTarget) by wrote = λ image told. by_fit ends.NoTarget image told None (by.0 (opened image told).0.kind (record { image = image; view = (opened image told).0 }) (held image told)) tt
    copied_told (Err (ends.BadTarget fault)) by wrote = λ image told. by_fit (ends.BadTarget fault) image told None (by.0 (opened image told).0.kind (record { image = image; view = (opened image told).0 }) (held image told)) tt
