-- What a conversion promises.
use Rattle.std.specs.Prelude.{◌≡◌, ◌⊎◌, ℕ, Bool, true, false, List, [], ◌∷◌, ◌++◌, Option, Some, None, Result, Ok, Err, IsFalse}
use Rattle.std.specs.Option.{ForSome}
use Rattle.fc_device.specs.declared.disk.Disk.{Ghosts}
use Rattle.fc_device.specs.declared.streams.Sink.{Ghosts as Sinks}
use Rattle.fc_device.specs.Calls.{Untouched}
use Rattle.fc_device.specs.Faults.{Rose}
use Rattle.fc_device.specs.Stops.{LeavesOnly}
use Rattle.fc_record.specs.declared.Kind.{Kind}
use Rattle.fc_names.specs.Names.{Path}
use Rattle.fc_model.specs.Tree.{Tree}
use Rattle.fc_image.specs.declared.ImageFault.{ImageFault}
use Rattle.fc_image.specs.Objects.{tree_of}
use Rattle.fc_image.specs.Opening.{Opened, open_image}
use Rattle.fc_image.specs.Stays.{OpensAs}
use Rattle.fc_image.specs.effects.Effect.{State}
use Rattle.fc_format.specs.declared.Format.{Format}
use Rattle.fc_format.specs.Fresh.{format_size, fresh_image, zeros}
use Rattle.fc_program.specs.Reading.{IsUnwritten}
use Rattle.fc_program.specs.Writing.{Wrote}
use Rattle.fc_convert.specs.declared.ending.ConvertEnd.{ConvertEnd}
use Rattle.fc_convert.specs.declared.ending.ConvertEnd.TheVariants.{Done, Unfit, BadWords, BadImage, FromFault, ToFault, OutFault, NoMemory, NoRoom, NoSource, NoTarget, BadTarget}
use Rattle.fc_fit.specs.declared.fit.What.{What}
use Rattle.fc_fit.specs.Doing.{HasNoRoom, IsConverted}
use Rattle.fc_fit.specs.Fit.{unfit}
use Rattle.fc_convert.specs.Convert.{ConvertWords, converted_line}
use Rattle.fc_convert.specs.Ends.{TellsEnd, is_over_source, is_over_target}

-- what is outside of a conversion: the source's disk, the target's, and the output
pub record Outside (D E K : Type 0) : Type 0 where
  pub from : D
  pub to : E
  pub out : K

-- The source is accepted. The target opens as the kind of a fresh volume of the format, and has the source's tree.
pub record HasTreeOf (format : Format) (source target : List ℕ) : Type 0 where
  pub view : Opened
  pub opened : open_image source ≡ Ok view
  pub fresh : Opened
  pub accepted : open_image (fresh_image format (zeros (format_size format))) ≡ Ok fresh
  pub now : Opened
  pub opens : OpensAs target fresh.kind now
  pub same : tree_of target now.layout now.listings ≡ tree_of source view.layout view.listings

-- ---- by the bytes of the source, if it tells them

-- All objects fit. At Done the target has the source's tree, at NoRoom the objects before the one at this path, if it told its bytes.
-- No end but these has its cause in the tree.
abbrev pub EndsOver : {E : Type 0} → Ghosts E → (old new : E) → Format → Tree → (before after : Option (List ℕ)) → ConvertEnd → Type 0
EndsOver e old new format t before after Done =
    Wrote before after (converted_line t) × ForSome (e.bytes old) (λ was. (kind : Kind) × (s : State) × IsConverted format kind t s × (e.bytes new ≡ Some s.image))
EndsOver e old new format t before after (NoRoom path refusal) =
    ForSome (e.bytes old) (λ was. (kind : Kind) × (s : State) × HasNoRoom format kind t path refusal s × (e.bytes new ≡ Some s.image))
EndsOver e old new format t before after BadWords = ⊥
EndsOver e old new format t before after (Unfit path what) = ⊥
EndsOver e old new format t before after (BadImage fault) = ⊥
EndsOver e old new format t before after end = Unit {0}

-- This object is the first that doesn't fit.
abbrev pub EndsUnfit : Path × What → ConvertEnd → Type 0
EndsUnfit fault (Unfit path what) = (path, what) ≡ fault
EndsUnfit fault OutFault = Unit {0}
EndsUnfit fault FromFault = Unit {0}
EndsUnfit fault NoMemory = Unit {0}
EndsUnfit fault NoSource = Unit {0}
EndsUnfit fault end = ⊥

-- The source isn't accepted, and this is its first fault.
abbrev pub EndsOnFault : ImageFault → ConvertEnd → Type 0
EndsOnFault fault (BadImage found) = found ≡ fault
EndsOnFault fault OutFault = Unit {0}
EndsOnFault fault FromFault = Unit {0}
EndsOnFault fault NoMemory = Unit {0}
EndsOnFault fault NoSource = Unit {0}
EndsOnFault fault end = ⊥

-- by whether all objects fit
abbrev pub EndsByFit : {E : Type 0} → Ghosts E → (old new : E) → Format → Tree → (before after : Option (List ℕ)) → Option (Path × What) → ConvertEnd → Type 0
EndsByFit e old new format t before after None end = EndsOver e old new format t before after end
EndsByFit e old new format t before after (Some fault) end = EndsUnfit fault end

-- by what the source opens as
abbrev pub EndsByOpening : {E : Type 0} → Ghosts E → (old new : E) → Format → List ℕ → (before after : Option (List ℕ)) → Result Opened ImageFault → ConvertEnd → Type 0
EndsByOpening e old new format image before after (Ok v) end =
    EndsByFit e old new format (tree_of image v.layout v.listings) before after (unfit format (tree_of image v.layout v.listings)) end
EndsByOpening e old new format image before after (Err fault) end = EndsOnFault fault end

-- ---- whatever they tell

-- The target was asked to be made, once, by this name and of the format's size.
abbrev pub AsksOnce : {E : Type 0} → Ghosts E → ConvertWords → E → E → Type 0
AsksOnce e w old new = e.asked new ≡ e.asked old ++ (w.to, Some (format_size w.format)) ∷ []

-- What is asked of the target, by how the conversion ends.
abbrev pub AsksTarget : {E : Type 0} → Ghosts E → ConvertWords → E → E → ConvertEnd → Type 0
AsksTarget e w old new BadWords = new ≡ old
AsksTarget e w old new NoSource = new ≡ old
AsksTarget e w old new (BadImage fault) = new ≡ old
AsksTarget e w old new (Unfit path what) = new ≡ old
AsksTarget e w old new NoTarget = AsksOnce e w old new × Untouched e old new × IsUnwritten e old new
AsksTarget e w old new FromFault = (new ≡ old) ⊎ AsksOnce e w old new
AsksTarget e w old new OutFault = (new ≡ old) ⊎ AsksOnce e w old new
AsksTarget e w old new NoMemory = (new ≡ old) ⊎ AsksOnce e w old new
AsksTarget e w old new end = AsksOnce e w old new

-- If the disk gives this, the conversion doesn't end for want of it; if it doesn't, it doesn't end over it.
abbrev pub FitsGiven : Bool → ConvertEnd → ConvertEnd → Bool → Type 0
FitsGiven given want end over = (end ≡ want → given ≡ false) × (over ≡ true → given ≡ true)

-- the ends that need no cause outside: it is done, or something doesn't fit, or there is no room; or memory was short
abbrev pub IsAnswer : ConvertEnd → Type 0
IsAnswer Done = Unit {0}
IsAnswer (Unfit path what) = Unit {0}
IsAnswer (NoRoom path refusal) = Unit {0}
IsAnswer NoMemory = Unit {0}
IsAnswer end = ⊥

-- A conversion for these words ended so.
pub record HasConverted {D E K : Type 0} (d : Ghosts D) (e : Ghosts E) (k : Sinks K) (w : ConvertWords) (old new : Outside D E K) (end : ConvertEnd) : Type 0 where
  pub told : ForSome (d.bytes old.from) (λ image. EndsByOpening e old.to new.to w.format image (k.taken old.out) (k.taken new.out) (open_image image) end)
  pub line : TellsEnd (k.taken old.out) (k.taken new.out) end
  pub source : IsUnwritten d old.from new.from
  pub asks_source : d.asked new.from ≡ d.asked old.from ++ (w.from, None) ∷ []
  pub asks_target : AsksTarget e w old.to new.to end
  pub source_given : ForSome (d.gives old.from) (λ gives. FitsGiven (gives w.from None) NoSource end (is_over_source end))
  pub target_given : ForSome (e.gives old.to) (λ gives. FitsGiven (gives w.to (Some (format_size w.format))) NoTarget end (is_over_target end))
  pub bad_target : (fault : ImageFault) → end ≡ BadTarget fault → e.bytes old.to ≡ None
  pub settled : is_over_target end ≡ true → IsFalse (e.pending new.to)
  pub from_fault : end ≡ FromFault → Rose (d.faults old.from) (d.faults new.from)
  pub to_fault : end ≡ ToFault → Rose (e.faults old.to) (e.faults new.to)
  pub out_fault : end ≡ OutFault → Rose (k.faults old.out) (k.faults new.out)
  pub good_words : end ≡ BadWords → ⊥
  pub goes : LeavesOnly e.moment e.left_since old.to new.to (λ image. Unit {0})
