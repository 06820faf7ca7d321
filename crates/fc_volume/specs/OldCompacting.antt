-- What compaction of a volume with an old map makes ready and leaves, in memory and on the disk.
use Rattle.std.specs.Prelude.{◌≡◌, ◌<◌, ◌≤◌, ◌++◌, ◌∷◌, ◌^◌, ◌==◌, ℕ, Bool, true, false, not, List, [], zero, suc, length, map, Option, Some, slice_get, slice_set, IsPermutation}
use Rattle.std.specs.Ordering.{nat_cmp}
use Rattle.std.specs.FinMap.{FinMap, get, len}
use Rattle.std.specs.Option.{ForSome, option_map, option_map_or}
use Rattle.std.specs.Str.{bytes_eq}
use Rattle.fc_names.specs.declared.name.NameForm.{NameForm}
use Rattle.fc_dirs.specs.declared.Entry.{Entry}
use Rattle.fc_dirs.specs.Small.{SmallDir, tail_of}
use Rattle.fc_dirs.specs.SmallBytes.{IsWrittenSmall}
use Rattle.fc_device.specs.declared.disk.Disk.{Ghosts}
use Rattle.fc_device.specs.Sectors.{sector_at}
use Rattle.fc_image.specs.Layout.{Layout, bytes_in, dir_form, hole_sectors, is_among, sector_bytes}
use Rattle.fc_image.specs.Objects.{objects_of}
use Rattle.fc_image.specs.Opening.{Opened}
use Rattle.fc_image.specs.Stays.{HasSectorsOf, OpensAs}
use Rattle.fc_image.specs.Walk.{Object, object_size}
use Rattle.std.specs.List.{flat_map, range_with_len}
use Rattle.fc_image.specs.effects.Settled.{has_same_places}
use Rattle.fc_image.specs.effects.Steady.{lost_sectors}
use Rattle.fc_tree.specs.declared.node.Body.{Body}
use Rattle.fc_tree.specs.declared.node.Body.TheVariants as bodies
use Rattle.fc_tree.specs.declared.node.Node.{Node}
use Rattle.fc_tree.specs.Counts.{address_in}
use Rattle.fc_oldlaws.specs.moves.After.{Slide, entry_after, readdressed, start_after}
use Rattle.fc_oldmap.specs.OldMap.{OldMapContent}
use Rattle.fc_changes.specs.old.Owed.{IsWritten}
use Rattle.fc_record.specs.declared.Kind.{Kind}
use Rattle.fc_tree.specs.Parts.{ArePartsOf, Parts}
use Rattle.fc_alloc.specs.declared.owner.Owner.{Owner}
use Rattle.fc_oldlaws.specs.moves.Laws.{AgreedLaw, BehindLaw, DirectoriesLaw, ReadyLaw, RewrittenLaw, SlidingLaw, TakenOverLaw}
use Rattle.fc_oldlaws.specs.moves.Nodes.{AreMoved, AreRemade, body_after, remade, sliding_below}
use Rattle.std.specs.List.Sorted.{IsNonDecreasingBy}
use Rattle.fc_space.specs.Space.{layout_of}
use Rattle.fc_tree.specs.Nodes.{nodes_of}
use Rattle.fc_volume.specs.Volume.{Volume}
use Rattle.fc_writing.specs.declared.copies.Copies.TheVariants.{Equal}
use Rattle.fc_volume.specs.declared.old.compacting.Ready.{Ready}
use Rattle.fc_volume.specs.declared.old.compacting.moves.Moves.{Moves}
use Rattle.fc_volume.specs.OldWriting.{IsMapWritten}
use Rattle.fc_oldlaws.specs.moves.Writes.{AreDirectoriesWritten, IsDirAt, MarkChanges, row_of}
use Rattle.fc_image.specs.declared.effects.Owned.{Owned}
use Rattle.fc_image.specs.effects.Moves.{Squashed, SquashedBytes, is_in_body, is_in_hole}
use Rattle.fc_squash.specs.Squashing.{KeepsBodies}
use Rattle.fc_volume.specs.declared.old.compacting.directories.Spare.{Spare}

-- ---- addresses

-- What moves fits the field of an address.
pub record IsLow (move : ℕ → ℕ) : Type 0 where
  pub stays : (a : ℕ) → a < 2 ^ 24 → move a < 2 ^ 24
  pub moved : (a : ℕ) → (a == move a) ≡ false → move a < 2 ^ 24

-- The objects are sorted by where they begin.
abbrev pub AreSorted : List Owned → Type 0
AreSorted owned = IsNonDecreasingBy (λ o. o.start) owned

-- ---- copies of entries

-- the entries of a small directory
abbrev pub said_again : Body → List Entry
said_again bodies.File = []
said_again (bodies.Small dir) = dir.entries
said_again (bodies.Big dir) = []

abbrev pub entries_at : Option Node → List Entry
entries_at o = option_map_or (λ (node : Node). said_again node.body) o []

-- On a disc with an old map no directory is big.
abbrev pub IsNotBig : Body → Type 0
IsNotBig bodies.File = Unit {0}
IsNotBig (bodies.Small dir) = Unit {0}
IsNotBig (bodies.Big dir) = ⊥

-- The copies of one node stand after the others.
pub record HasSpare (o : Option Node) (old new : List Spare) : Type 0 where
  pub spare : Spare
  pub is : new ≡ old ++ spare ∷ []
  pub entries : spare.entries.items ≡ entries_at o
  pub idle : spare.changed ≡ false

-- For each number below the bound there are the copies of its node.
pub record AreSpares (nodes : FinMap nat_cmp Node) (bound : ℕ) (spares : List Spare) : Type 0 where
  pub many : length spares ≡ bound
  pub each : (n : ℕ) (spare : Spare) → slice_get spares n ≡ Some spare → (spare.entries.items ≡ entries_at (get nodes n)) × (spare.changed ≡ false)

-- Of the entries of a directory the last ones have become f of them, and copies of the others are left. Whether an address of the
-- last ones has changed is the answer.
pub record IsReaddressing (f : Entry → Entry) (old now : SmallDir) (spare : Spare) : Type 0 where
  pub front : List Entry
  pub back : List Entry
  pub was : old.entries ≡ front ++ back
  pub is : now ≡ record old { entries = front ++ map f back }
  pub left : spare.entries.items ≡ front
  pub told : spare.changed ≡ not (bytes_eq (map (λ (e : Entry). e.address) (map f back)) (map (λ (e : Entry). e.address) back))

-- ---- nodes

-- what a node says afterwards, with the entry that it had
abbrev pub readdressed_node : NameForm → (ℕ → ℕ) → FinMap nat_cmp Node → Node → Node
readdressed_node form move nodes node = record node { body = body_after form move (address_in nodes node.holder) node.body }

-- Something changes in the directory.
abbrev pub is_changed : NameForm → (ℕ → ℕ) → ℕ → Body → Bool
is_changed form move holder bodies.File = false
is_changed form move holder (bodies.Small dir) = not (has_same_places dir (readdressed form move holder dir))
is_changed form move holder (bodies.Big dir) = false

abbrev pub changes_at : NameForm → (ℕ → ℕ) → FinMap nat_cmp Node → Option Node → Bool
changes_at form move nodes o = option_map_or (λ (node : Node). is_changed form move (address_in nodes node.holder) node.body) o false

-- a node with its new address
abbrev pub addressed : NameForm → (ℕ → ℕ) → Node → Node
addressed form move node = record node { entry = entry_after form move node.entry }

-- The nodes below a number say what they say afterwards, and the answer says of each whether something has changed; the others are as before.
pub record AreReaddressed (form : NameForm) (move : ℕ → ℕ) (nodes nodes' : FinMap nat_cmp Node) (spares : List Spare) (k : ℕ) : Type 0 where
  pub done : (n : ℕ) → n < k → get nodes' n ≡ option_map (readdressed_node form move nodes) (get nodes n)
  pub left : (n : ℕ) → k ≤ n → get nodes' n ≡ get nodes n
  pub many : len nodes' ≡ len nodes
  pub told : (n : ℕ) (spare : Spare) → n < k → slice_get spares n ≡ Some spare → spare.changed ≡ changes_at form move nodes (get nodes n)

-- what is kept for those that are left
pub record AreLeft (nodes : FinMap nat_cmp Node) (spares : List Spare) (bound k : ℕ) : Type 0 where
  pub many : length spares ≡ bound
  pub each : (n : ℕ) (spare : Spare) → k ≤ n → slice_get spares n ≡ Some spare → (spare.entries.items ≡ entries_at (get nodes n)) × (spare.changed ≡ false)

-- The nodes below a number have their new addresses; the others are as before.
pub record AreAddressed (form : NameForm) (move : ℕ → ℕ) (nodes nodes' : FinMap nat_cmp Node) (k : ℕ) : Type 0 where
  pub done : (n : ℕ) → n < k → get nodes' n ≡ option_map (addressed form move) (get nodes n)
  pub left : (n : ℕ) → k ≤ n → get nodes' n ≡ get nodes n
  pub many : len nodes' ≡ len nodes

-- ---- owners

-- Owner number k has been made anew.
abbrev pub IsRemade : OldMapContent → FinMap nat_cmp Node → List Owner → List Owner → ℕ → Type 0
IsRemade space nodes old new k = (o : Owner) → slice_get old k ≡ Some o → new ≡ slice_set old k (remade space nodes o)

-- the first ones changed
unfoldable pub first_changed : {X : Type 0} → (X → X) → ℕ → List X → List X
first_changed f zero xs = xs
first_changed f (suc k) [] = []
first_changed f (suc k) (x ∷ xs) = f x ∷ first_changed f k xs

-- ---- directories on the disk

-- whether the directory of a number is marked
abbrev pub marks : List Spare → ℕ → Bool
marks spares n = option_map_or (λ (spare : Spare). spare.changed) (slice_get spares n) false

-- A row of sectors has the bytes of a directory, and no other sector has changed.
pub record IsDirWritten (size first sectors : ℕ) (dir : SmallDir) (was image : List ℕ) : Type 0 where
  pub length_stays : length image ≡ length was
  pub says : IsWrittenSmall (bytes_in size image (range_with_len first sectors) (tail_of dir.form).size) dir
  pub others : (t : ℕ) → is_among (range_with_len first sectors) t ≡ false → sector_at size image t ≡ sector_at size was t

abbrev pub DirWrittenBy : {D : Type 0} → Ghosts D → D → D → ℕ → ℕ → SmallDir → Type 0
DirWrittenBy d old new first sectors dir =
    ForSome (d.bytes old) (λ was. (image : List ℕ) × (d.bytes new ≡ Some image) × IsDirWritten (d.sector_size old) first sectors dir was image)

-- The directory of one number is written.
pub record IsNumberWritten (space : OldMapContent) (nodes : FinMap nat_cmp Node) (n : ℕ) (was image : List ℕ) : Type 0 where
  pub length_stays : length image ≡ length was
  pub written : (node : Node) (dir : SmallDir) → IsDirAt nodes n node dir
      → IsWrittenSmall (bytes_in (sector_bytes (Layout.Old space)) image (row_of space node.entry) (object_size (dir_form (Layout.Old space)) node.entry)) dir
  pub others : (t : ℕ) → ((node : Node) (dir : SmallDir) → IsDirAt nodes n node dir → is_among (row_of space node.entry) t ≡ false)
      → sector_at (sector_bytes (Layout.Old space)) image t ≡ sector_at (sector_bytes (Layout.Old space)) was t

abbrev pub AreRowsWritten : {D : Type 0} → Ghosts D → D → D → OldMapContent → FinMap nat_cmp Node → ℕ → Type 0
AreRowsWritten d old new space nodes n = ForSome (d.bytes old) (λ was. (image : List ℕ) × (d.bytes new ≡ Some image) × IsNumberWritten space nodes n was image)

-- All that are marked are written.
abbrev pub DirectoriesWrittenBy : {D : Type 0} → Ghosts D → D → D → OldMapContent → FinMap nat_cmp Node → (ℕ → Bool) → ℕ → Type 0
DirectoriesWrittenBy d old new space nodes changed bound =
    ForSome (d.bytes old) (λ was. (image : List ℕ) × (d.bytes new ≡ Some image) × AreDirectoriesWritten space nodes changed bound was image)

-- ---- which sectors are written

-- the slide of a volume, by its map before and after and by the objects
abbrev pub slide_by : OldMapContent → OldMapContent → List Owned → List Owned → Slide
slide_by space space' was now = record { space = space; holes = space'.holes; was = was; now = now }

-- These sectors have the directories of the nodes.
abbrev pub HaveDirectories : OldMapContent → FinMap nat_cmp Node → List ℕ → Type 0
HaveDirectories space nodes sectors = (n : ℕ) (node : Node) (dir : SmallDir) → IsDirAt nodes n node dir → (t : ℕ) → is_among (row_of space node.entry) t ≡ true → is_among sectors t ≡ true

-- They have all holes, the objects that slide, and the directories wherever those slide to.
pub record IsRoom (space : OldMapContent) (nodes : FinMap nat_cmp Node) (was : List Owned) (sectors : List ℕ) : Type 0 where
  pub holes : (t : ℕ) → is_in_hole space.sector_units space.holes t ≡ true → is_among sectors t ≡ true
  pub objects : (t : ℕ) → is_in_body space.sector_units was t ≡ true → is_among sectors t ≡ true
  pub directories : (space' : OldMapContent) (now : List Owned) (nodes' : FinMap nat_cmp Node) → KeepsBodies space space' was now → Squashed space space' was now
      → AreMoved (slide_by space space' was now) nodes nodes' → HaveDirectories space' nodes' sectors

-- the sectors of all holes and of all objects
abbrev pub room_of : Opened → OldMapContent → List ℕ
room_of view space = hole_sectors (Layout.Old space) ++ flat_map (λ (o : Object). o.sectors) (objects_of view.listings)

-- At every exit, also after an I/O error: no sectors are written but those of the map, of holes and of objects. So lost space stays.
pub record WritesOnlyRoom (view : Opened) (space : OldMapContent) (image other : List ℕ) : Type 0 where
  pub written : IsWritten space (room_of view space) image other
  pub lost : HasSectorsOf (sector_bytes (Layout.Old space)) (lost_sectors space (objects_of view.listings)) image other

-- It is so if the disk tells its bytes.
abbrev pub CompactsOnlyRoom : {D : Type 0} → Ghosts D → Parts → D → D → Type 0
CompactsOnlyRoom d was old new = ForSome (d.bytes old) (λ image. (other : List ℕ) × (d.bytes new ≡ Some other)
    × ((kind : Kind) (view : Opened) (space : OldMapContent) → OpensAs image kind view → ArePartsOf was view → view.layout ≡ Layout.Old space → WritesOnlyRoom view space image other))

abbrev pub slide_of : OldMapContent → OldMapContent → Moves → Slide
slide_of space space' moves = slide_by space space' moves.before.items moves.after.items

-- ---- directories that are rewritten

-- The copies of the nodes' entries are there, the objects are sorted by where they began, what moves fits the field of an address, and no directory is big.
pub record CanRewrite (nodes : FinMap nat_cmp Node) (bound : ℕ) (ready : Ready) : Type 0 where
  pub spares : AreSpares nodes bound ready.spares.items
  pub sorted : AreSorted ready.moves.before.items
  pub low : IsLow (start_after ready.moves.before.items ready.moves.after.items)
  pub small : (n : ℕ) (node : Node) → get nodes n ≡ Some node → IsNotBig node.body

-- The nodes are as the moves leave them, and of each it is told whether it says something else.
pub record HasReaddressed (layout : Layout) (map : OldMapContent) (moves : Moves) (nodes nodes' : FinMap nat_cmp Node) (spares : List Spare) : Type 0 where
  pub moved : (disc : OldMapContent) → layout ≡ Layout.Old disc → AreMoved (slide_of disc map moves) nodes nodes'
  pub marked : (disc : OldMapContent) → layout ≡ Layout.Old disc → MarkChanges (slide_of disc map moves) nodes (marks spares)

-- ---- all of it

-- All is done in memory: the objects have slid, the nodes say so, and marked is each directory in which something changes.
pub record HasSlidInMemory (space space' : OldMapContent) (was : List Owned) (moves : Moves) (nodes nodes' : FinMap nat_cmp Node) (changed : ℕ → Bool) : Type 0 where
  pub before : moves.before.items ≡ was
  pub squashed : Squashed space space' was moves.after.items
  pub kept : KeepsBodies space space' was moves.after.items
  pub moved : AreMoved (slide_by space space' was moves.after.items) nodes nodes'
  pub marked : MarkChanges (slide_by space space' was moves.after.items) nodes changed

-- And on the disk, if it tells its bytes: the objects, the directories, the map.
abbrev pub HasSlidOnDisk : {D : Type 0} → Ghosts D → D → D → OldMapContent → OldMapContent → Moves → FinMap nat_cmp Node → (ℕ → Bool) → ℕ → Type 0
HasSlidOnDisk d old new space space' moves nodes changed bound =
    ForSome (d.bytes old) (λ was. (slid : List ℕ) × (mid : List ℕ) × (image : List ℕ) × (d.bytes new ≡ Some image) × SquashedBytes was slid space moves.before.items moves.after.items
    × AreDirectoriesWritten space' nodes changed bound slid mid × IsMapWritten space' mid image)

-- All memory is there, and the objects are sorted by where they begin.
pub record IsReadyToCompact (layout : Layout) (nodes : FinMap nat_cmp Node) (bound : ℕ) (r : Ready) : Type 0 where
  pub all : (space : OldMapContent) → layout ≡ Layout.Old space → IsPermutation (sliding_below space nodes bound) r.moves.before.items
  pub sorted : AreSorted r.moves.before.items
  pub resting : r.moves.after.items ≡ r.moves.before.items
  pub spares : AreSpares nodes bound r.spares.items

-- The directories are written, and then the map.
abbrev pub IsRewrittenBy : {D : Type 0} → Ghosts D → D → D → OldMapContent → FinMap nat_cmp Node → (ℕ → Bool) → ℕ → Type 0
IsRewrittenBy d old new space nodes changed bound =
    ForSome (d.bytes old) (λ was. (mid : List ℕ) × (image : List ℕ) × (d.bytes new ≡ Some image) × AreDirectoriesWritten space nodes changed bound was mid × IsMapWritten space mid image)

-- The volume has this map, and the owners are those of its nodes.
pub record HasSquashed (v v' : Volume) (map : OldMapContent) : Type 0 where
  pub layout : layout_of v'.space ≡ Layout.Old map
  pub copies : v'.copies ≡ Equal
  pub owners : AreRemade map (nodes_of v.tree) v.owners v'.owners
  pub tree : v'.tree ≡ v.tree
  pub rights : v'.read_only ≡ v.read_only
  pub fit : v'.fit ≡ v.fit

-- the laws of compaction
pub record MoveLaws : Type 0 where
  pub sliding : SlidingLaw
  pub ready : ReadyLaw
  pub agreed : AgreedLaw
  pub behind : BehindLaw
  pub directories : DirectoriesLaw
  pub rewritten : RewrittenLaw
  pub over : TakenOverLaw
