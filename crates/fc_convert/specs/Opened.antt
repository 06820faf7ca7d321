-- Volumes that a conversion reads or writes, and how opening them ends.
use Rattle.std.specs.Prelude.{◌≡◌, ◌++◌, ◌∷◌, [], ℕ, Bool, true, false, List, Some, None, Ok, Err, IsFalse, IsTrue}
use Rattle.std.specs.Option.{ForSome}
use Rattle.fc_device.specs.declared.disk.Disk.{Ghosts}
use Rattle.fc_device.specs.Calls.{Untouched}
use Rattle.fc_device.specs.Faults.{Rose}
use Rattle.fc_record.specs.declared.Kind.{Kind}
use Rattle.fc_image.specs.Layout.{dir_form}
use Rattle.fc_image.specs.Opening.{Opened, open_image}
use Rattle.fc_image.specs.Stays.{OpensAs}
use Rattle.fc_image.specs.effects.Effect.{State}
use Rattle.fc_format.specs.Fresh.{format_size}
use Rattle.fc_tree.specs.Parts.{ArePartsOf}
use Rattle.fc_fit.specs.Doing.{IsFreshState}
use Rattle.fc_fit.specs.Fit.{form_of}
use Rattle.fc_program.specs.Reading.{IsUnwritten}
use Rattle.fc_volume.specs.Volume.{StandsFor, Volume, parts_of}
use Rattle.fc_convert.specs.declared.ending.ConvertEnd.{ConvertEnd}
use Rattle.fc_convert.specs.declared.ending.ConvertEnd.TheVariants.{BadImage, BadTarget, FromFault, NoMemory, NoSource, NoTarget, ToFault}
use Rattle.fc_convert.specs.Convert.{ConvertWords}

-- The volume stands for the disk, of which nothing is pending.
pub record IsOpen {D : Type 0} (d : Ghosts D) (read_only : Bool) (v : Volume) (disk : D) : Type 0 where
  pub attached : IsTrue (d.attached disk)
  pub settled : IsFalse (d.pending disk)
  pub fit : IsTrue v.fit
  pub rights : v.read_only ≡ read_only
  pub stands : StandsFor d v disk

-- The disk has the image of this state, and these are the volume's parts.
pub record Holds {D : Type 0} (d : Ghosts D) (kind : Kind) (s : State) (v : Volume) (disk : D) : Type 0 where
  pub bytes : d.bytes disk ≡ Some s.image
  pub opens : OpensAs s.image kind s.view
  pub parts : ArePartsOf (parts_of v) s.view

-- ---- the source

-- The source was opened as it is, as far as it tells.
abbrev pub OpensSource : {D : Type 0} → Ghosts D → List ℕ → D → Volume → Type 0
OpensSource d name old v =
    ForSome (d.gives old) (λ gives. gives name None ≡ true)
    × ForSome (d.bytes old) (λ image. (view : Opened) × (open_image image ≡ Ok view) × ArePartsOf (parts_of v) view)

-- why an image that was given wasn't
abbrev pub EndsMounting : {D : Type 0} → Ghosts D → D → D → ConvertEnd → Type 0
EndsMounting d old new (BadImage fault) = ForSome (d.bytes old) (λ image. open_image image ≡ Err fault)
EndsMounting d old new FromFault = Rose (d.faults old) (d.faults new)
EndsMounting d old new NoMemory = Unit {0}
EndsMounting d old new end = ⊥

-- why it wasn't
abbrev pub NoSourceFor : {D : Type 0} → Ghosts D → List ℕ → D → D → ConvertEnd → Type 0
NoSourceFor d name old new NoSource = ForSome (d.gives old) (λ gives. gives name None ≡ false)
NoSourceFor d name old new (BadImage fault) = ForSome (d.gives old) (λ gives. gives name None ≡ true) × ForSome (d.bytes old) (λ image. open_image image ≡ Err fault)
NoSourceFor d name old new FromFault = Rose (d.faults old) (d.faults new)
NoSourceFor d name old new NoMemory = Unit {0}
NoSourceFor d name old new end = ⊥

-- ---- the target

-- A fresh volume was made and opened, as far as the target tells.
pub record OpensTarget {E : Type 0} (e : Ghosts E) (w : ConvertWords) (old new : E) (v : Volume) : Type 0 where
  pub given : ForSome (e.gives old) (λ gives. gives w.to (Some (format_size w.format)) ≡ true)
  pub form : dir_form (parts_of v).layout ≡ form_of w.format
  pub holds : ForSome (e.bytes old) (λ image. (kind : Kind) × (s : State) × IsFreshState w.format kind s × Holds e kind s v new)

-- why a target that was made wasn't opened
abbrev pub EndsOpening : {E : Type 0} → Ghosts E → E → E → ConvertEnd → Type 0
EndsOpening e old new (BadTarget fault) = (e.bytes old ≡ None) × IsFalse (e.pending new)
EndsOpening e old new ToFault = Rose (e.faults old) (e.faults new)
EndsOpening e old new NoMemory = Unit {0}
EndsOpening e old new end = ⊥

-- why it wasn't
abbrev pub NoTargetFor : {E : Type 0} → Ghosts E → ConvertWords → E → E → ConvertEnd → Type 0
NoTargetFor e w old new NoTarget = ForSome (e.gives old) (λ gives. gives w.to (Some (format_size w.format)) ≡ false) × Untouched e old new × IsUnwritten e old new
NoTargetFor e w old new (BadTarget fault) =
    ForSome (e.gives old) (λ gives. gives w.to (Some (format_size w.format)) ≡ true) × (e.bytes old ≡ None) × IsFalse (e.pending new)
NoTargetFor e w old new ToFault = Rose (e.faults old) (e.faults new)
NoTargetFor e w old new NoMemory = Unit {0}
NoTargetFor e w old new end = ⊥
