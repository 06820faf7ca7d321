-- What a job needs of the disc, as the nodes and the owners tell it.
use Rattle.std.specs.Prelude.{◌≡◌, ◌<◌, ℕ, Bool, true, false, ◌==◌, List, length, Option, Some, None, if◌then◌else◌}
use Rattle.std.specs.Option.{option_map_or}
use Rattle.std.specs.FinMap.{get}
use Rattle.fc_alloc.specs.declared.owner.Owner.{Owner}
use Rattle.fc_dirs.specs.Directory.{Directory, entries_of}
use Rattle.fc_drafts.specs.Gains.{GetsName, GetsNameFor, HasRoom}
use Rattle.fc_drafts.specs.Rewriting.{IsAt}
use Rattle.fc_drafts.specs.declared.room.Room.{Room}
use Rattle.fc_drafts.specs.declared.room.Room.TheVariants as rooms
use Rattle.fc_dirs.specs.declared.Entry.{Entry}
use Rattle.fc_image.specs.Layout.{Layout, dir_form}
use Rattle.fc_image.specs.effects.Short.{Gain, new_dir_size}
use Rattle.fc_laws.specs.nodes.Edits.{Nodes}
use Rattle.fc_placing.specs.Copying.{copied_among}
use Rattle.fc_refusals.specs.declared.target.Renaming.{Renaming}
use Rattle.fc_refusals.specs.declared.target.Slot.TheVariants as slots
use Rattle.fc_refusals.specs.declared.target.Target.{Target}
use Rattle.fc_tree.specs.Nodes.{body_in}
use Rattle.fc_tree.specs.Parts.{Parts}
use Rattle.fc_tree.specs.declared.node.Node.{Node}
use Rattle.fc_change.specs.declared.job.Growth.{Growth}
use Rattle.fc_change.specs.declared.job.Job.{Job}
use Rattle.fc_change.specs.declared.job.Job.TheVariants as jobs
use Rattle.fc_change.specs.declared.job.Wants.{Wants}

-- ---- a new object

-- A node's object is copied if it goes to a directory. No two objects of an old map have one identifier.
abbrev pub copied_on : Layout → List Owner → ℕ → ℕ → Bool
copied_on (Layout.New m) owners node dir = copied_among owners node dir
copied_on (Layout.Old space) owners node dir = false

abbrev pub is_copied : Parts → Renaming → Bool
is_copied h r = copied_on h.layout h.owners r.target.node r.holder

-- the bytes of a node's object, as its entry says
abbrev pub len_at : Nodes → ℕ → ℕ
len_at nodes n = option_map_or (λ (node : Node). node.entry.len) (get nodes n) 0

abbrev pub bytes_wanted : Parts → Job → ℕ
bytes_wanted h (jobs.File slot words) = words.len
bytes_wanted h (jobs.Directory dir) = new_dir_size (dir_form h.layout)
bytes_wanted h (jobs.Move r) = if is_copied h r then len_at h.nodes r.target.node else 0
bytes_wanted h _ = 0

-- the directory whose files may leave slack: a new directory, and a copy, never take any
abbrev pub slack_wanted : Job → Option ℕ
slack_wanted (jobs.File (slots.New dir) words) = Some dir
slack_wanted (jobs.File (slots.Over target) words) = Some target.holder
slack_wanted _ = None

abbrev pub copy_wanted : Parts → Job → Option ℕ
copy_wanted h (jobs.Move r) = if is_copied h r then Some r.target.node else None
copy_wanted h _ = None

-- the node of an object that goes, or in whose place another comes
abbrev pub node_left : Job → Option ℕ
node_left (jobs.File (slots.Over target) words) = Some target.node
node_left (jobs.Removal target) = Some target.node
node_left _ = None

-- ---- room in a directory

-- The directory of a node says this.
pub record SaysAt (nodes : Nodes) (n : ℕ) (content : Directory) : Type 0 where
  pub node : Node
  pub there : get nodes n ≡ Some node
  pub says : node.body ≡ body_in content

-- It has this room for a name more.
abbrev pub HasRoomFor : Nodes → ℕ → List ℕ → Room → Type 0
HasRoomFor nodes n name room = (content : Directory) (gain : Gain) → SaysAt nodes n content → GetsName content name gain → HasRoom content gain room

-- It has this room for a name in place of that of its entry of a number.
pub record HasRoomInPlace (nodes : Nodes) (t : Target) (name : List ℕ) (room : Room) : Type 0 where
  pub kept : (content : Directory) (was : Entry) → SaysAt nodes t.holder content → IsAt (entries_of content) t.at was → was.name ≡ name → room ≡ rooms.Fits
  pub respelled : (content : Directory) (was : Entry) (gain : Gain) → SaysAt nodes t.holder content → IsAt (entries_of content) t.at was → (was.name ≡ name → ⊥)
      → GetsNameFor content was.name name gain → HasRoom content gain room

abbrev pub HasRoomToMove : Bool → Nodes → Renaming → List ℕ → Room → Type 0
HasRoomToMove true nodes r name room = HasRoomInPlace nodes r.target name room
HasRoomToMove false nodes r name room = HasRoomFor nodes r.holder name room

-- the room of the directory that the job gives a name
abbrev pub HasRoomOf : Nodes → Job → List ℕ → Room → Type 0
HasRoomOf nodes (jobs.File (slots.New dir) words) name room = HasRoomFor nodes dir name room
HasRoomOf nodes (jobs.Directory dir) name room = HasRoomFor nodes dir name room
HasRoomOf nodes (jobs.Move r) name room = HasRoomToMove (r.holder == r.target.holder) nodes r name room
HasRoomOf nodes _ name room = room ≡ rooms.Fits

-- the directory that it gives a name
abbrev pub named_dir : Job → ℕ
named_dir (jobs.File (slots.New dir) words) = dir
named_dir (jobs.Directory dir) = dir
named_dir (jobs.Move r) = r.holder
named_dir _ = 0

-- it fits, or grows
abbrev pub room_of : Option Growth → Room
room_of None = rooms.Fits
room_of (Some growth) = rooms.Grows growth.len

abbrev pub IsGrowthOf : ℕ → Option Growth → Type 0
IsGrowthOf dir None = Unit {0}
IsGrowthOf dir (Some growth) = growth.node ≡ dir

-- ---- what has to be known

-- The target's directory has its entry.
abbrev pub SaysEntry : Nodes → Target → Type 0
SaysEntry nodes t = (content : Directory) → SaysAt nodes t.holder content → t.at < length (entries_of content)

abbrev pub CanWant : Nodes → Job → Type 0
CanWant nodes (jobs.Move r) = SaysEntry nodes r.target
CanWant nodes _ = Unit {0}

-- ---- all of it

pub record AreWants (h : Parts) (job : Job) (name : List ℕ) (w : Wants) : Type 0 where
  pub bytes : w.bytes ≡ bytes_wanted h job
  pub slack : w.shares ≡ slack_wanted job
  pub copy : w.copied ≡ copy_wanted h job
  pub left : w.goes ≡ node_left job
  pub room : HasRoomOf h.nodes job name (room_of w.grows)
  pub grown : IsGrowthOf (named_dir job) w.grows
