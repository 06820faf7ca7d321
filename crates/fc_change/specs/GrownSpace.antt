-- Where a directory that grows is to lie on a new map, what is taken for it, and what goes back.
use Rattle.std.specs.Prelude.{◌≡◌, ◌<◌, ℕ, ◌+◌, ◌*◌, Bool, true, false, not, ◌&&◌, ◌||◌, ◌==◌, List, [], ◌∷◌, ◌++◌, take, if◌then◌else◌, Option, Some, None, Contains}
use Rattle.std.specs.Int.{div_ceil}
use Rattle.std.specs.List.{find, list_any}
use Rattle.std.specs.Option.{option_and_then, option_to_list}
use Rattle.fc_alloc.specs.declared.owner.Owner.{Owner}
use Rattle.fc_alloc.specs.Owners.{is_node}
use Rattle.fc_record.specs.declared.Geometry.{Geometry}
use Rattle.fc_newmap.specs.Map.{Map, hole_runs, sectors_of}
use Rattle.fc_image.specs.Layout.{Layout, hole_sectors, id_of, is_among, is_object_id, sectors_at}
use Rattle.fc_image.specs.effects.Placed.{IsPlan, holes_left}
use Rattle.fc_image.specs.effects.Sharing.{new_ids, units}
use Rattle.fc_objects.specs.Extents.{sectors_in}
use Rattle.fc_placing.specs.Extents.{parts_met}
use Rattle.fc_plan.specs.declared.plan.Part.{Part}
use Rattle.fc_plan.specs.declared.plan.Plan.{Plan}
use Rattle.fc_plan.specs.Applied.{IsOther, IsTakenIn, parts_in}
use Rattle.fc_plan.specs.Parts.{fronts}
use Rattle.fc_tree.specs.Counts.{address_in}
use Rattle.fc_tree.specs.Parts.{Parts}
use Rattle.fc_writing.specs.declared.ready.RootPlace.{RootPlace}
use Rattle.fc_change.specs.declared.job.Growth.{Growth}
use Rattle.fc_change.specs.declared.job.Wants.{Wants}
use Rattle.fc_change.specs.declared.spaces.GrownPlace.{GrownPlace}
use Rattle.fc_change.specs.Shortage.{has_room_by, is_alone_by, is_grown_alone}

-- ---- the directory as it is

-- It has room where it lies.
abbrev pub has_room : Map → Parts → Growth → Bool
has_room m h g = has_room_by m h.owners g.node (address_in h.nodes g.node) g.len

-- It is alone in its identifier.
abbrev pub is_alone : Parts → Growth → Bool
is_alone h g = is_alone_by h.owners g.node (address_in h.nodes g.node)

-- ---- the sectors of a plan

-- those of its parts once they are runs of its identifier, in the order of the object's bytes
abbrev pub plan_sectors : Geometry → Plan → List ℕ
plan_sectors g plan = sectors_of g (parts_met g plan.id true (fronts plan.parts.items)) ++ sectors_of g (parts_met g plan.id false (fronts plan.parts.items))

-- those of so many bytes
abbrev pub place_of_plan : Geometry → Plan → ℕ → List ℕ
place_of_plan g plan bytes = take (div_ceil bytes g.sector) (plan_sectors g plan)

-- On each map of the geometry on which the plan's parts are all the runs of its identifier, which an object may have, these are the
-- sectors of so many bytes that begin there.
abbrev pub LeadsTo : Map → ℕ → Plan → List ℕ → Type 0
LeadsTo m bytes plan sectors = (m' : Map) (low : ℕ) → m'.geometry ≡ m.geometry → IsTakenIn m' plan → is_object_id m plan.id ≡ true → low < 2
    → sectors_at (Layout.New m') (256 * plan.id + low) bytes ≡ Some sectors

-- They are free.
abbrev pub AreFree : Map → List ℕ → Type 0
AreFree m sectors = (s : ℕ) → is_among sectors s ≡ true → is_among (hole_sectors (Layout.New m)) s ≡ true

-- ---- new space

-- the identifier of new space: that of the address for a directory alone in it, else a new one that the object hasn't
abbrev pub IsIdFor : Map → Bool → ℕ → Option Plan → ℕ → Type 0
IsIdFor m true address object id = id ≡ id_of address
IsIdFor m false address object id = Contains (new_ids m) id × IsOther id object

-- A directory at this address gets new space, from what the object's space leaves.
pub record IsNewSpace (m : Map) (object : Option Plan) (alone : Bool) (address len : ℕ) (plan : Plan) : Type 0 where
  pub plan_is : IsPlan m.geometry (holes_left (hole_runs m) (parts_in object)) (units m.geometry len) (fronts plan.parts.items)
  pub id : IsIdFor m alone address object plan.id

-- its address then: with another identifier it begins with that
abbrev pub address_moved : Bool → ℕ → Plan → ℕ
address_moved true address plan = address
address_moved false address plan = 256 * plan.id

-- ---- where it lies

-- It has room where it lies, and keeps its address: nothing is taken for it.
pub record GrowsThere (m : Map) (h : Parts) (g : Growth) (p : GrownPlace) : Type 0 where
  pub room : has_room m h g ≡ true
  pub directory : p.directory ≡ record { node = g.node; address = address_in h.nodes g.node; len = g.len }
  pub stays : p.moves ≡ false
  pub sectors : sectors_at (Layout.New m) (address_in h.nodes g.node) g.len ≡ Some (sectors_in p.extents.items)

-- It has none, and gets new space for all its bytes.
pub record GrowsInto (m : Map) (h : Parts) (object : Option Plan) (g : Growth) (plan : Plan) (p : GrownPlace) : Type 0 where
  pub no_room : has_room m h g ≡ false
  pub space : IsNewSpace m object (is_alone h g) (address_in h.nodes g.node) g.len plan
  pub directory : p.directory ≡ record { node = g.node; address = address_moved (is_alone h g) (address_in h.nodes g.node) plan; len = g.len }
  pub moves : p.moves ≡ true
  pub sectors : sectors_in p.extents.items ≡ place_of_plan m.geometry plan g.len
  pub leads : LeadsTo m g.len plan (sectors_in p.extents.items)
  pub free : AreFree m (sectors_in p.extents.items)

abbrev pub IsGrownAt : Map → Parts → Option Plan → Growth → Option Plan → GrownPlace → Type 0
IsGrownAt m h object g None p = GrowsThere m h g p
IsGrownAt m h object g (Some plan) p = GrowsInto m h object g plan p

-- Beside an object with this plan the directory that grows, if one does, has this plan and lies there.
abbrev pub IsGrown : Map → Parts → Option Plan → Option Growth → Option Plan → Option GrownPlace → Type 0
IsGrown m h object None plan place = (plan ≡ None) × (place ≡ None)
IsGrown m h object (Some g) plan None = ⊥
IsGrown m h object (Some g) plan (Some p) = IsGrownAt m h object g plan p

-- ---- what is taken by one step, and goes back at once

-- the object's plan, and then the directory's
abbrev pub plans_of : Option Plan → Option Plan → List Plan
plans_of object None = option_to_list object
plans_of object (Some plan) = option_to_list object ++ plan ∷ []

-- A directory that keeps its identifier gives its old runs back at once, since only the new ones may have it; these are kept.
abbrev pub gone_at_once : Option Plan → (alone : Bool) → List ℕ
gone_at_once None alone = []
gone_at_once (Some plan) true = plan.id ∷ []
gone_at_once (Some plan) false = []

abbrev pub kept_parts : Option Plan → (alone : Bool) → List Part
kept_parts None alone = []
kept_parts (Some plan) true = plan.parts.items
kept_parts (Some plan) false = []

-- The record of the disc gets the root's new place, if it is the root that grows.
abbrev pub root_of : Option GrownPlace → Option RootPlace
root_of None = None
root_of (Some p) = if p.directory.node == 0 then Some (record { address = p.directory.address; len = p.directory.len }) else None

-- ---- what goes back at last

-- The node is that of the file that is copied, if one is.
abbrev pub is_file : Option ℕ → ℕ → Bool
is_file None node = false
is_file (Some file) node = node == file

-- An owner of another node has the identifier, and keeps it: a file that is copied leaves it.
abbrev pub has_rest : List Owner → ℕ → Option ℕ → ℕ → Bool
has_rest owners node copied id = list_any (λ (o : Owner). (o.id == id) && (not (o.node == node) && not (is_file copied o.node))) owners

-- the owner's identifier, unless it is the map's, or another keeps it
abbrev pub left_of : List Owner → ℕ → Option ℕ → Owner → Option ℕ
left_of owners node copied own = if (own.id == 2) || has_rest owners node copied own.id then None else Some own.id

-- what a directory leaves that gets another identifier
abbrev pub left_by_growth : List Owner → ℕ → Option ℕ → Option ℕ
left_by_growth owners node copied = option_and_then (left_of owners node copied) (find (is_node node) owners)

-- So one does that has new space, and wasn't alone.
abbrev pub left_if : Option Plan → (alone : Bool) → List Owner → Wants → Option ℕ
left_if None alone owners w = None
left_if (Some plan) true owners w = None
left_if (Some plan) false owners w = option_and_then (λ (g : Growth). left_by_growth owners g.node w.copied) w.grows

-- It gives its identifier back at last, once nothing names it, unless others keep that.
abbrev pub freed : Parts → Wants → Option Plan → List ℕ
freed h w plan = option_to_list (left_if plan (is_grown_alone h w.grows) h.owners w)
