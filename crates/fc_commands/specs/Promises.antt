-- What a command that is done has changed, what it has written at crashes too, and what every answer leaves.
use Rattle.std.specs.Prelude.{◌≡◌, ◌≤◌, ◌⊎◌, ◌++◌, ◌==◌, ℕ, false, List, [], Option, Some, None, Result, Err, IfErr, IsFalse, if◌then◌else◌}
use Rattle.std.specs.FinMap.{get}
use Rattle.std.specs.List.{flat_map}
use Rattle.std.specs.Option.{ForSome, option_map_or, unwrap_or}
use Rattle.fc_device.specs.declared.disk.Disk.{Ghosts}
use Rattle.fc_device.specs.Calls.{SameForm}
use Rattle.fc_device.specs.Faults.{Rose}
use Rattle.fc_record.specs.declared.Kind.{Kind}
use Rattle.fc_newmap.specs.Map.{Map}
use Rattle.fc_newmap.specs.Copies.{Chooses}
use Rattle.fc_oldmap.specs.OldMap.{OldMapContent}
use Rattle.fc_objects.specs.Extents.{sectors_in}
use Rattle.fc_model.specs.Answer.{changed}
use Rattle.fc_model.specs.Command.{Command}
use Rattle.fc_image.specs.Layout.{Layout, dir_form, map_place, sector_bytes, sectors_at}
use Rattle.fc_image.specs.Walk.{object_size}
use Rattle.fc_image.specs.Objects.{tree_of}
use Rattle.fc_image.specs.Opening.{Opened}
use Rattle.fc_image.specs.Stays.{OpensAs}
use Rattle.fc_image.specs.effects.Effect.{Changes}
use Rattle.fc_tree.specs.Parts.{ArePartsOf, Parts}
use Rattle.fc_tree.specs.declared.node.Node.{Node}
use Rattle.fc_laws.specs.nodes.Edits.{Nodes}
use Rattle.fc_laws.specs.takeover.Places.{MayBeWritten}
use Rattle.fc_laws.specs.old.takeover.Places.{AreSpared, MayBeWritten as MayBeWrittenOnOld}
use Rattle.fc_writing.specs.declared.ready.MapStep.{MapStep}
use Rattle.fc_writing.specs.declared.ready.MapStep.TheVariants as steps
use Rattle.fc_writing.specs.Laws.{ChangesOnly}
use Rattle.fc_writing.specs.Old.{IsTorn, front_after, front_in}
use Rattle.fc_writing.specs.Steps.{HasStepped, is_wide}
use Rattle.fc_change.specs.declared.change.Change.{Change}
use Rattle.fc_change.specs.declared.change.Says.{Says}
use Rattle.fc_change.specs.declared.job.Job.{Job}
use Rattle.fc_change.specs.declared.job.Wants.{Wants}
use Rattle.fc_change.specs.declared.spaces.GrownPlace.{GrownPlace}
use Rattle.fc_change.specs.declared.spaces.Place.{Place}
use Rattle.fc_change.specs.declared.spaces.Spaces.{Spaces}
use Rattle.fc_change.specs.Drafts.{IsChangeOf}
use Rattle.fc_holdings.specs.declared.error.CommandError.{CommandError}
use Rattle.fc_holdings.specs.declared.error.CommandError.TheVariants.{DiskFault}
use Rattle.fc_holdings.specs.declared.holdings.Holdings.{Holdings}
use Rattle.fc_holdings.specs.Answers.{UnlessFault}
use Rattle.fc_holdings.specs.Holdings.{IsSameKind, Stands, parts_of}
use Rattle.fc_commands.specs.Stages.{IsSpaced}

-- ---- what an accepted command does

-- As each kind as which the image opens, and by each view whose parts these are, the other image has what the command promises, and
-- has the other parts.
abbrev pub ChangesParts : Command → Parts → Parts → List ℕ → List ℕ → Type 0
ChangesParts c was now image other = (kind : Kind) (view : Opened) → OpensAs image kind view → ArePartsOf was view
    → (after : Opened) × Changes kind (record { image = image; view = view }) (record { image = other; view = after }) c (changed (tree_of image view.layout view.listings) c)
    × ArePartsOf now after

-- If the disk tells its bytes, it has another image afterwards, and is changed so.
abbrev pub HasChanged : {D : Type 0} → Ghosts D → Command → Parts → Parts → D → D → Type 0
HasChanged d c was now old new = ForSome (d.bytes old) (λ image. (other : List ℕ) × (d.bytes new ≡ Some other) × ChangesParts c was now image other)

-- ---- what is written

-- No sector is one of an object other than a directory that the command may rewrite, of the boot block, or of lost space; on an old map
-- each was free or lies in such a directory.
abbrev pub MayWrite : Layout → Kind → Opened → Command → List ℕ → Type 0
MayWrite (Layout.New m) kind view c sectors = MayBeWritten kind view m c sectors
MayWrite (Layout.Old space) kind view c sectors = MayBeWrittenOnOld view space c sectors × AreSpared view space c sectors

-- Some sectors were written, and besides them only those of the map.
pub record WritesPlaces (layout : Layout) (kind : Kind) (view : Opened) (c : Command) (was image : List ℕ) : Type 0 where
  pub sectors : List ℕ
  pub only : ChangesOnly (sector_bytes layout) (sectors ++ map_place layout) was image
  pub may : MayWrite layout kind view c sectors

-- It is so as each kind as which the image opens, and by each view whose parts these are.
abbrev pub WritesPlacesOf : Command → Parts → List ℕ → List ℕ → Type 0
WritesPlacesOf c h was image = (kind : Kind) (view : Opened) → OpensAs was kind view → ArePartsOf h view → WritesPlaces h.layout kind view c was image

-- ---- the map, at crashes too

-- The map is as it was: a new one by its copy that counts, an old one byte for byte.
abbrev pub SameMap : Layout → List ℕ → List ℕ → Type 0
SameMap (Layout.New m) was image = Chooses m.geometry m.zones image
SameMap (Layout.Old space) was image = front_in space image ≡ front_in space was

-- n is the map before these two steps, after the first, or after both.
abbrev pub IsInSteps : Map → (take give : MapStep) → Map → Type 0
IsInSteps m take give n = (n ≡ m) ⊎ (HasStepped m n take ⊎ ((mid : Map) × HasStepped m mid take × HasStepped mid n give))

-- Unless a step changes more than nine zones, the copy that counts is whole, and has the zones of one of the three. If there is no step,
-- it has those of before.
pub record CountsInSteps (m : Map) (take give : MapStep) (image : List ℕ) : Type 0 where
  pub whole : is_wide take ≡ false → is_wide give ≡ false → (n : Map) × IsInSteps m take give n × Chooses m.geometry n.zones image
  pub still : take ≡ steps.Nothing → give ≡ steps.Nothing → Chooses m.geometry m.zones image

-- Each sector of an old map, which has no copy, has its bytes of before or of after the first step, or each has those of after the first
-- or of after the second. If there is no step, each has those of before.
pub record LiesInSteps (space : OldMapContent) (take give : MapStep) (was image : List ℕ) : Type 0 where
  pub torn : IsTorn space was (front_after take (front_in space was)) image
      ⊎ IsTorn space (front_after take (front_in space was)) (front_after give (front_after take (front_in space was))) image
  pub still : take ≡ steps.Nothing → give ≡ steps.Nothing → front_in space image ≡ front_in space was

abbrev pub StepsMap : Layout → (take give : MapStep) → List ℕ → List ℕ → Type 0
StepsMap (Layout.New m) take give was image = CountsInSteps m take give image
StepsMap (Layout.Old space) take give was image = LiesInSteps space take give was image

-- ---- which space is written, at crashes too

-- the sectors of the object of a node, as its entry says
abbrev pub node_place : Layout → Nodes → ℕ → List ℕ
node_place layout nodes n = option_map_or (λ (node : Node). unwrap_or (sectors_at layout node.entry.address (object_size (dir_form layout) node.entry)) []) (get nodes n) []

-- those of a directory that is told something; of one that grows, where it then lies
abbrev pub said_place : Layout → Nodes → Option GrownPlace → Says → List ℕ
said_place layout nodes None said = node_place layout nodes said.node
said_place layout nodes (Some g) said = if g.directory.node == said.node then sectors_in g.extents.items else node_place layout nodes said.node

-- those of a new object
abbrev pub object_place : Option Place → List ℕ
object_place None = []
object_place (Some p) = sectors_in p.extents.items

abbrev pub change_place : Parts → Spaces → Change → List ℕ
change_place h s change = object_place s.object ++ flat_map (said_place h.layout h.nodes s.grown) change.says.items

-- ---- a moment of a change

-- Nothing has been written, and the map is as it was known to be.
pub record IsAsBefore (layout : Layout) (was image : List ℕ) : Type 0 where
  pub same : image ≡ was
  pub map : SameMap layout was image

-- The job has this change and these spaces. Nothing is written but the map, what is new, and the directories that say something else;
-- and the map is in its steps.
pub record IsUnderWay (h : Parts) (job : Job) (name was image : List ℕ) : Type 0 where
  pub wants : Wants
  pub spaces : Spaces
  pub change : Change
  pub spaced : IsSpaced h job name wants spaces
  pub is : IsChangeOf h job name spaces change
  pub only : ChangesOnly (sector_bytes h.layout) (change_place h spaces change ++ map_place h.layout) was image
  pub map : StepsMap h.layout spaces.take spaces.give was image

-- What a crash at any moment and every exit leaves.
abbrev pub JobLeaves : Parts → Job → List ℕ → List ℕ → List ℕ → Type 0
JobLeaves h job name was image = IsAsBefore h.layout was image ⊎ IsUnderWay h job name was image

-- ---- what stays, whatever is known of the disk's bytes

-- A refusal and a lack of memory leave disk and holdings as they were. After any answer but an I/O error the holdings stand for the disk,
-- and nothing is pending. A map stays of its kind, and directories of their form.
pub record ChangeKeeps {D : Type 0} (d : Ghosts D) (old new : D) (was h : Holdings) (result : Result (Unit {0}) CommandError) : Type 0 where
  pub unchanged : IfErr result (λ error. (error ≡ DiskFault → ⊥) → (h ≡ was) × (new ≡ old))
  pub stands : UnlessFault result (Stands d h new)
  pub settled : UnlessFault result (IsFalse (d.pending new))
  pub map : IsSameKind (parts_of was).layout (parts_of h).layout
  pub dirs : UnlessFault result (dir_form (parts_of h).layout ≡ dir_form (parts_of was).layout)
  pub form : SameForm d old new
  pub faults : d.faults old ≤ d.faults new
  pub cause : result ≡ Err DiskFault → Rose (d.faults old) (d.faults new)
