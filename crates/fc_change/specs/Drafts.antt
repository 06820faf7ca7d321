-- What a job's change is.
use Rattle.std.specs.Prelude.{◌≡◌, ◌<◌, ℕ, ◌==◌, List, [], ◌∷◌, ◌++◌, Option, Some, None, if◌then◌else◌, slice_get, Contains, IsSome}
use Rattle.std.specs.Option.{option_map, unwrap_or}
use Rattle.fc_dirs.specs.declared.Entry.{Entry}
use Rattle.fc_drafts.specs.declared.draft.Draft.{Draft}
use Rattle.fc_drafts.specs.Draft.{CanAddress, CanBeCalled, directory_in}
use Rattle.fc_drafts.specs.Entries.{directory_entry, file_entry, marked_entry, renamed_entry, saved_entry, set_entry}
use Rattle.fc_image.specs.Layout.{dir_form}
use Rattle.fc_image.specs.effects.Steady.{new_directory}
use Rattle.fc_laws.specs.nodes.Edits.{Nodes}
use Rattle.fc_refusals.specs.Places.{entries_at}
use Rattle.fc_refusals.specs.declared.target.Slot.TheVariants as slots
use Rattle.fc_refusals.specs.declared.target.Target.{Target}
use Rattle.fc_tree.specs.Nodes.{is_directory_node}
use Rattle.fc_tree.specs.Parts.{Parts}
use Rattle.fc_change.specs.declared.change.Change.{Change}
use Rattle.fc_change.specs.declared.change.Regrowth.{Regrowth}
use Rattle.fc_change.specs.declared.change.Turned.{Turned}
use Rattle.fc_change.specs.declared.change.Turned.TheVariants as turns
use Rattle.fc_change.specs.declared.job.Job.{Job}
use Rattle.fc_change.specs.declared.job.Job.TheVariants as jobs
use Rattle.fc_change.specs.declared.spaces.GrownPlace.{GrownPlace}
use Rattle.fc_change.specs.declared.spaces.Place.{Place}
use Rattle.fc_change.specs.declared.spaces.Spaces.{Spaces}
use Rattle.fc_change.specs.declared.drafts.Told.{Told}
use Rattle.fc_change.specs.Directories.{CanTell, CanTellAround, IsGrownThere, Rewriting, TellAll, Tells, address_after, around, numbers}

-- ---- the object's entry

abbrev pub IsEntryOf : Nodes → Target → Entry → Type 0
IsEntryOf nodes t was = slice_get (entries_at nodes t.holder) t.at ≡ Some was

-- The entry of a target is made another.
abbrev pub IsMadeOf : Nodes → Target → (Entry → Entry) → Entry → Type 0
IsMadeOf nodes t f e = (was : Entry) × IsEntryOf nodes t was × (e ≡ f was)

-- The entry that the job makes, of an object with a new address if there is one; of one that goes its own.
abbrev pub IsMade : Parts → Job → List ℕ → Option ℕ → Entry → Type 0
IsMade h (jobs.File (slots.New dir) words) name address e = e ≡ file_entry name words.load words.exec words.len (unwrap_or address 0)
IsMade h (jobs.File (slots.Over t) words) name address e = IsMadeOf h.nodes t (λ was. saved_entry was words.load words.exec words.len (unwrap_or address 0)) e
IsMade h (jobs.Directory dir) name address e = e ≡ directory_entry (dir_form h.layout) name (unwrap_or address 0)
IsMade h (jobs.Removal t) name address e = IsMadeOf h.nodes t (λ was. was) e
IsMade h (jobs.Move r) name address e = IsMadeOf h.nodes r.target (λ was. renamed_entry was name (unwrap_or address was.address)) e
IsMade h (jobs.Words t words) name address e = IsMadeOf h.nodes t (λ was. set_entry was words.load words.exec words.access) e
IsMade h (jobs.Marks t attrs) name address e = IsMadeOf h.nodes t (λ was. marked_entry was attrs) e

-- ---- the directories

-- first the one that has the entry afterwards, or loses an object that goes
abbrev pub told_first : Job → Entry → List (ℕ × Rewriting)
told_first (jobs.File (slots.New dir) words) e = (dir, Rewriting.Enters e) ∷ []
told_first (jobs.File (slots.Over t) words) e = (t.holder, Rewriting.Replaces t.at e) ∷ []
told_first (jobs.Directory dir) e = (dir, Rewriting.Enters e) ∷ []
told_first (jobs.Removal t) e = (t.holder, Rewriting.Leaves t.at) ∷ []
told_first (jobs.Move r) e = (if r.holder == r.target.holder then (r.holder, Rewriting.Renames r.target.at e) ∷ [] else (r.holder, Rewriting.Enters e) ∷ [])
told_first (jobs.Words t words) e = (t.holder, Rewriting.Replaces t.at e) ∷ []
told_first (jobs.Marks t attrs) e = (t.holder, Rewriting.Replaces t.at e) ∷ []

-- last what is renamed, if it is a directory, and the directory that loses it
abbrev pub told_last : Nodes → Job → List ℕ → List (ℕ × Rewriting)
told_last nodes (jobs.Move r) name =
    (if is_directory_node nodes r.target.node then (r.target.node, Rewriting.Turns r.holder name) ∷ [] else [])
    ++ (if r.holder == r.target.holder then [] else (r.target.holder, Rewriting.Leaves r.target.at) ∷ [])
told_last nodes _ name = []

-- and between them those around a directory that grows
abbrev pub told : Nodes → Job → List ℕ → Option Regrowth → Entry → List (ℕ × Rewriting)
told nodes job name grown e = told_first job e ++ (around grown nodes (numbers (told_first job e ++ told_last nodes job name)) ++ told_last nodes job name)

-- ---- the object

-- what a new object says: an empty directory in the directory of a node, and a file nothing
abbrev pub IsNewIn : Parts → Option Regrowth → ℕ → List ℕ → Draft → Type 0
IsNewIn h grown dir name d = directory_in d ≡ new_directory (dir_form h.layout) (address_after grown h.nodes dir) name

abbrev pub IsTurnedBy : Parts → Job → List ℕ → Option Regrowth → Entry → Turned → Type 0
IsTurnedBy h (jobs.File (slots.New dir) words) name grown e object = object ≡ turns.Comes dir e None
IsTurnedBy h (jobs.File (slots.Over t) words) name grown e object = object ≡ turns.Turns t.node t.holder e
IsTurnedBy h (jobs.Directory dir) name grown e object = (d : Draft) × (object ≡ turns.Comes dir e (Some d)) × IsNewIn h grown dir name d
IsTurnedBy h (jobs.Removal t) name grown e object = object ≡ turns.Goes t.node
IsTurnedBy h (jobs.Move r) name grown e object = object ≡ turns.Turns r.target.node r.holder e
IsTurnedBy h (jobs.Words t words) name grown e object = object ≡ turns.Turns t.node t.holder e
IsTurnedBy h (jobs.Marks t attrs) name grown e object = object ≡ turns.Turns t.node t.holder e

-- ---- the change

abbrev pub address_in : Spaces → Option ℕ
address_in spaces = option_map (λ (p : Place). p.address) spaces.object

abbrev pub grown_in : Spaces → Option Regrowth
grown_in spaces = option_map (λ (g : GrownPlace). g.directory) spaces.grown

-- Each changed directory is told once what it says, and the object turns as the job has it.
pub record IsChangeOf (h : Parts) (job : Job) (name : List ℕ) (spaces : Spaces) (c : Change) : Type 0 where
  pub entry : Entry
  pub made : IsMade h job name (address_in spaces) entry
  pub grown : c.grown ≡ grown_in spaces
  pub tells : TellAll (grown_in spaces) h.nodes (told h.nodes job name (grown_in spaces) entry) c.says.items
  pub object : IsTurnedBy h job name (grown_in spaces) entry c.object

-- ---- what a draft needs

-- The space of a file, and of a directory, has an address.
abbrev pub IsPlaced : Job → Option ℕ → Type 0
IsPlaced (jobs.File slot words) address = IsSome address
IsPlaced (jobs.Directory dir) address = IsSome address
IsPlaced _ address = Unit {0}

-- A new directory can name its holder, and access bits are three.
abbrev pub CanBegin : Parts → Job → List ℕ → Option Regrowth → Type 0
CanBegin h (jobs.Directory dir) name grown = (parent : ℕ) → parent ≡ address_after grown h.nodes dir
    → CanAddress (new_directory (dir_form h.layout) parent name) parent × CanBeCalled (new_directory (dir_form h.layout) parent name) name
CanBegin h (jobs.Words t words) name grown = words.access < 8
CanBegin h _ name grown = Unit {0}

-- The job's entry can be made, of an object with a new address if there is one, and each directory that it names can be told what it says
-- then.
pub record CanTellJob (h : Parts) (job : Job) (name : List ℕ) (address : Option ℕ) (grown : Option Regrowth) : Type 0 where
  pub entry : Entry
  pub made : IsMade h job name address entry
  pub first : (q : ℕ × Rewriting) → Contains (told_first job entry) q → CanTell grown h.nodes q.0 q.1
  pub last : (q : ℕ × Rewriting) → Contains (told_last h.nodes job name) q → CanTell grown h.nodes q.0 q.1
  pub begins : CanBegin h job name grown

-- And so can those around a directory that grows.
pub record CanDraft (h : Parts) (job : Job) (name : List ℕ) (spaces : Spaces) : Type 0 where
  pub own : CanTellJob h job name (address_in spaces) (grown_in spaces)
  pub there : IsGrownThere h.nodes (grown_in spaces)
  pub others : CanTellAround h.nodes (grown_in spaces) (numbers (told_first job own.entry ++ told_last h.nodes job name))

-- The job has told them.
pub record IsToldBy (h : Parts) (job : Job) (name : List ℕ) (address : Option ℕ) (grown : Option Regrowth) (t : Told) : Type 0 where
  pub entry : Entry
  pub made : IsMade h job name address entry
  pub first : TellAll grown h.nodes (told_first job entry) (t.first ∷ [])
  pub last : TellAll grown h.nodes (told_last h.nodes job name) t.last.items
  pub object : IsTurnedBy h job name grown entry t.object

-- The target's directory has another entry of the same name in the place of the target's.
pub record HasReworded (nodes : Nodes) (grown : Option Regrowth) (t : Target) (e : Entry) (told : Told) : Type 0 where
  pub first : Tells grown nodes t.holder (Rewriting.Replaces t.at e) told.first
  pub last : told.last.items ≡ []
  pub object : told.object ≡ turns.Turns t.node t.holder e
