-- What the stages of a conversion answer and leave.
use Rattle.std.specs.Prelude.{◌≡◌, ◌⊎◌, ◌++◌, ◌∷◌, [], ℕ, false, not, true, List, Option, Some, None, Result, Ok, Err, IsFalse}
use Rattle.std.specs.List.{count_by}
use Rattle.std.specs.FinMap.{entries}
use Rattle.std.specs.Option.{ForSome}
use Rattle.fc_device.specs.declared.disk.Disk.{Ghosts}
use Rattle.fc_device.specs.declared.streams.Sink.{Ghosts as Sinks}
use Rattle.fc_device.specs.Calls.{OnlyReads}
use Rattle.fc_device.specs.Faults.{Rose}
use Rattle.fc_device.specs.Stops.{LeavesOnly}
use Rattle.fc_record.specs.declared.Kind.{Kind}
use Rattle.fc_names.specs.Names.{Path}
use Rattle.fc_model.specs.Tree.{Tree, is_directory_body}
use Rattle.fc_image.specs.Layout.{Layout}
use Rattle.fc_image.specs.Objects.{tree_of}
use Rattle.fc_image.specs.Sound.{AreSound}
use Rattle.fc_image.specs.Walk.{Listing}
use Rattle.fc_image.specs.effects.Effect.{State, tree_in}
use Rattle.fc_format.specs.declared.Format.{Format}
use Rattle.fc_format.specs.Fresh.{format_size}
use Rattle.fc_tree.specs.Nodes.{HoldObjects, nodes_of}
use Rattle.fc_fit.specs.declared.counts.Counts.{Counts}
use Rattle.fc_fit.specs.Counts.{tree_counts}
use Rattle.fc_fit.specs.declared.fit.What.{What}
use Rattle.fc_fit.specs.Doing.{HasNoRoom, IsConverted}
use Rattle.fc_fit.specs.Fit.{unfit}
use Rattle.fc_fit.specs.Misfits.{first_misfit}
use Rattle.fc_fit.specs.Paths.{AreRisingPaths}
use Rattle.fc_program.specs.Reading.{IsUnwritten}
use Rattle.fc_program.specs.Writing.{Wrote, WrotePart}
use Rattle.fc_volume.specs.Volume.{Volume}
use Rattle.fc_convert.specs.declared.ending.ConvertEnd.{ConvertEnd}
use Rattle.fc_convert.specs.declared.ending.ConvertEnd.TheVariants.{BadTarget, FromFault, NoMemory, NoRoom, NoTarget, OutFault, ToFault, Unfit}
use Rattle.fc_convert.specs.Convert.{ConvertWords}
use Rattle.fc_convert.specs.Opened.{Holds, IsOpen, NoSourceFor, NoTargetFor, OpensSource}
use Rattle.fc_convert.specs.Promise.{AsksOnce}

-- ---- which objects

-- P holds of each tree whose objects the volume has, whatever bytes its files have.
abbrev pub ForTrees : Volume → (List Listing → Tree → Type 0) → Type 0
ForTrees v P = (layout : Layout) (listings : List Listing) (image : List ℕ) → AreSound layout listings → HoldObjects (nodes_of v.tree) listings → P listings (tree_of image layout listings)

-- All objects fit, and these are their paths.
abbrev pub AreFitting : Format → Volume → List Path → Type 0
AreFitting format v paths = ForTrees v (λ listings t. AreRisingPaths listings paths) × (first_misfit format (nodes_of v.tree) paths ≡ None)

-- This object is the first that doesn't, or memory was short.
abbrev pub IsUnfit : Format → Volume → ConvertEnd → Type 0
IsUnfit format v (Unfit path what) = ForTrees v (λ listings t. unfit format t ≡ Some (path, what))
IsUnfit format v NoMemory = Unit {0}
IsUnfit format v end = ⊥

-- ---- the target

-- As far as the source tells, P holds of its tree.
abbrev pub ForSource : {D : Type 0} → Ghosts D → Volume → D → (Tree → Type 0) → Type 0
ForSource d v from P = (kind : Kind) (s : State) → Holds d kind s v from → P (tree_in s)

-- The target was asked for and given, and nothing is pending.
abbrev pub IsMade : {E : Type 0} → Ghosts E → ConvertWords → E → E → Type 0
IsMade e w old new = ForSome (e.gives old) (λ gives. gives w.to (Some (format_size w.format)) ≡ true) × IsFalse (e.pending new)

-- How a volume was copied to a fresh one, or why not.
abbrev pub CopiesBy : {D E : Type 0} → Ghosts D → Ghosts E → ConvertWords → Volume → (from from' : D) → (to to' : E) → Result Counts ConvertEnd → Type 0
CopiesBy d e w v from from' to to' (Ok counts) = ForSource d v from (λ t. unfit w.format t ≡ None) × AsksOnce e w to to' × IsMade e w to to'
    × ForSource d v from (λ t. (counts ≡ tree_counts t) × ForSome (e.bytes to) (λ was. (kind : Kind) × (s : State) × IsConverted w.format kind t s × (e.bytes to' ≡ Some s.image)))
CopiesBy d e w v from from' to to' (Err (NoRoom path refusal)) = ForSource d v from (λ t. unfit w.format t ≡ None) × AsksOnce e w to to' × IsMade e w to to'
    × ForSource d v from (λ t. ForSome (e.bytes to) (λ was. (kind : Kind) × (s : State) × HasNoRoom w.format kind t path refusal s × (e.bytes to' ≡ Some s.image)))
CopiesBy d e w v from from' to to' (Err (Unfit path what)) = ForSource d v from (λ t. unfit w.format t ≡ Some (path, what)) × (to' ≡ to)
CopiesBy d e w v from from' to to' (Err (BadTarget fault)) = ForSource d v from (λ t. unfit w.format t ≡ None) × AsksOnce e w to to' × NoTargetFor e w to to' (BadTarget fault)
CopiesBy d e w v from from' to to' (Err NoTarget) = ForSource d v from (λ t. unfit w.format t ≡ None) × AsksOnce e w to to' × NoTargetFor e w to to' NoTarget
CopiesBy d e w v from from' to to' (Err ToFault) = ForSource d v from (λ t. unfit w.format t ≡ None) × AsksOnce e w to to' × Rose (e.faults to) (e.faults to')
CopiesBy d e w v from from' to to' (Err FromFault) = ForSource d v from (λ t. unfit w.format t ≡ None) × AsksOnce e w to to' × Rose (d.faults from) (d.faults from')
CopiesBy d e w v from from' to to' (Err NoMemory) = (to' ≡ to) ⊎ AsksOnce e w to to'
CopiesBy d e w v from from' to to' (Err end) = ⊥

-- A volume was copied so; the source was only read.
pub record CopiesVolume {D E : Type 0} (d : Ghosts D) (e : Ghosts E) (w : ConvertWords) (v : Volume) (from from' : D) (to to' : E) (result : Result Counts ConvertEnd) : Type 0 where
  pub copied : CopiesBy d e w v from from' to to' result
  pub reads : OnlyReads d from from'
  pub goes : LeavesOnly e.moment e.left_since to to' (λ image. Unit {0})

-- ---- both

-- The source wasn't opened, and nothing was asked of the target.
pub record FailsToOpen {D E : Type 0} (d : Ghosts D) (w : ConvertWords) (from from' : D) (to to' : E) (result : Result Counts ConvertEnd) : Type 0 where
  pub end : ConvertEnd
  pub ended : result ≡ Err end
  pub cause : NoSourceFor d w.from from from' end
  pub asked : d.asked from' ≡ d.asked from ++ (w.from, None) ∷ []
  pub unwritten : IsUnwritten d from from'
  pub target : to' ≡ to

-- The source was opened as this volume, and it was copied.
pub record OpensAndCopies {D E : Type 0} (d : Ghosts D) (e : Ghosts E) (w : ConvertWords) (from from' : D) (to to' : E) (result : Result Counts ConvertEnd) : Type 0 where
  pub volume : Volume
  pub mid : D
  pub ready : IsOpen d true volume mid
  pub opened : OpensSource d w.from from volume
  pub asked : d.asked mid ≡ d.asked from ++ (w.from, None) ∷ []
  pub unwritten : IsUnwritten d from mid
  pub copies : CopiesVolume d e w volume mid from' to to' result

abbrev pub ConvertsDisks : {D E : Type 0} → Ghosts D → Ghosts E → ConvertWords → (from from' : D) → (to to' : E) → Result Counts ConvertEnd → Type 0
ConvertsDisks d e w from from' to to' result = FailsToOpen d w from from' to to' result ⊎ OpensAndCopies d e w from from' to to' result

-- ---- the line

-- The text was written, and the end is this one; or a part of it, because the output failed; or nothing, since memory was short.
abbrev pub TellsLine : {K : Type 0} → Sinks K → (before after : K) → (end : ConvertEnd) → (text : List ℕ) → ConvertEnd → Type 0
TellsLine k before after end text result =
    ((result ≡ end) × Wrote (k.taken before) (k.taken after) text)
    ⊎ (((result ≡ OutFault) × WrotePart (k.taken before) (k.taken after) text × Rose (k.faults before) (k.faults after)) ⊎ ((result ≡ NoMemory) × (after ≡ before)))
