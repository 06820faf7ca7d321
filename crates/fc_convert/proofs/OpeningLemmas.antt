-- How opening the target ends.
use Rattle.std.proofs.Common.{◌≡◌, false, List, ℕ, refl, sym, ap, ◌∙◌, Option, Some, None, Result, Ok, Err}
use Rattle.std.specs.Option.{ForSome}
use Rattle.fc_device.specs.declared.disk.Disk.{Ghosts}
use Rattle.fc_device.specs.Faults.{Rose}
use Rattle.fc_record.specs.declared.Kind.{Kind}
use Rattle.fc_image.specs.declared.ImageFault.{ImageFault}
use Rattle.fc_image.specs.Laws.{AcceptedLaw}
use Rattle.fc_image.specs.Layout.{dir_form}
use Rattle.fc_image.specs.Opening.{Opened, open_image}
use Rattle.fc_image.specs.effects.Effect.{State}
use Rattle.fc_format.specs.declared.Format.{Format}
use Rattle.fc_format.specs.Fresh.{format_size, fresh_image, zeros}
use Rattle.fc_format.specs.Opens.{FreshLaw, form_of}
use Rattle.fc_tree.specs.Parts.{ArePartsOf}
use Rattle.fc_fit.specs.Doing.{IsFreshState}
use Rattle.fc_volume.specs.declared.lines.MountError.{MountError}
use Rattle.fc_volume.specs.declared.lines.MountError.TheVariants as mounts
use Rattle.fc_volume.specs.Answers.{IsFaultOf}
use Rattle.fc_volume.specs.Volume.{Volume, parts_of}
use Rattle.fc_convert.specs.declared.ending.ConvertEnd.TheVariants as ends
use Rattle.fc_convert.specs.Ends.{target_end}
use Rattle.fc_convert.specs.Opened.{EndsOpening, Holds}
use Rattle.fc_fit.proofs.DoingLemmas.{same_opened}

-- what mounting answers if the disk failed
abbrev failed : MountError → Result Volume MountError
failed error = Err error

module _ {E : Type 0} (e : Ghosts E) (fresh_law : FreshLaw) (accepted : AcceptedLaw) (format : Format) (old new : E)
    (made : ForSome (e.bytes old) (λ image. image ≡ fresh_image format (zeros (format_size format)))) where
  -- a fresh volume has no fault
  pub target_ends : (error : MountError) → ForSome (e.bytes old) (λ image. IsFaultOf (open_image image) error) → (failed error ≡ Err mounts.DiskFault → Rose (e.faults old) (e.faults new))
      → e.pending new ≡ false → EndsOpening e old new (target_end error)
  target_ends (mounts.Image fault) told cause settled = (by (e.bytes old) refl, settled)
    where
      by : (o : Option (List ℕ)) → e.bytes old ≡ o → o ≡ None
      by None is = refl
      by (Some image) is =
          absurd (let law = fresh_law format (zeros (format_size format)) in
          let two : Ok law.0 ≡ Err fault = sym law.1 ∙ ap open_image (sym (made image is)) ∙ told image is in cc)
  target_ends mounts.DiskFault told cause settled = cause refl
  target_ends mounts.NoMemory told cause settled = tt

  -- nor names of another form
  pub form_ends : (v : Volume) → ForSome (e.bytes old) (λ image. (view : Opened) × (open_image image ≡ Ok view) × ArePartsOf (parts_of v) view) → (dir_form (parts_of v).layout ≡ form_of format → ⊥)
      → e.pending new ≡ false → EndsOpening e old new (ends.BadTarget ImageFault.NoKind)
  form_ends v told other settled = (by (e.bytes old) refl, settled)
    where
      by : (o : Option (List ℕ)) → e.bytes old ≡ o → o ≡ None
      by None is = refl
      by (Some image) is =
          absurd (let law = fresh_law format (zeros (format_size format)) in
          let opened = told image is in
          let same : law.0 ≡ opened.0 = same_opened law.0 opened.0 (sym law.1 ∙ ap open_image (sym (made image is)) ∙ opened.1) in
          other (ap dir_form opened.2.layout ∙ ap (λ (w : Opened). dir_form w.layout) (sym same) ∙ law.3))

  pub fresh_holds : (v : Volume) → ForSome (e.bytes old) (λ image. (view : Opened) × (open_image image ≡ Ok view) × ArePartsOf (parts_of v) view) → e.bytes new ≡ e.bytes old
      → ForSome (e.bytes old) (λ image. (kind : Kind) × (s : State) × IsFreshState format kind s × Holds e kind s v new)
  fresh_holds v told stays image is =
      let opened = told image is in
      let s : State = record { image = image; view = opened.0 } in
      let opens = accepted image opened.0 opened.1 in
      (opened.0.kind, s, record { image = made image is; is_kind = refl; accepted = opened.1; opens = opens }, record { bytes = stays ∙ is; opens = opens; parts = opened.2 })
