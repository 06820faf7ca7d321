-- A change in the safe mode, whatever its edit: parts with a new map, an image of theirs, and another one, to which it is written.
use Rattle.std.specs.Prelude.{◌≡◌, ◌<◌, ℕ, Bool, true, List, [], map, Some, Contains}
use Rattle.fc_record.specs.declared.DiscRecord.{DiscRecord}
use Rattle.fc_record.specs.declared.Kind.{Kind}
use Rattle.fc_record.specs.Kinds.{map_record}
use Rattle.fc_newmap.specs.Map.{Map, ZoneRun, is_used, sector_of}
use Rattle.fc_newmap.specs.NewMap.{IsNewMap}
use Rattle.fc_newmap.specs.Copies.{Chooses, HoldsCopies}
use Rattle.fc_model.specs.Command.{Command}
use Rattle.fc_alloc.specs.declared.owner.Owner.{Owner}
use Rattle.fc_image.specs.Layout.{Layout, is_among}
use Rattle.fc_image.specs.Walk.{Listing, Object}
use Rattle.fc_image.specs.Objects.{is_movable, objects_of}
use Rattle.fc_image.specs.Opening.{Opened}
use Rattle.fc_image.specs.Stays.{IsNewKind, OpensAs}
use Rattle.fc_image.specs.effects.Steady.{KeepsOrWritesLinks, ZoneSteady, holes_with, runs_that, zone_holes}
use Rattle.fc_image.specs.safe.SafeShort.{changed_ids, fitted_needs, places_given_up}
use Rattle.fc_image.specs.safe.SafeSteady.{HaveRuns, holes_unneeded}
use Rattle.fc_plan.specs.Giving.{is_one_of}
use Rattle.fc_tree.specs.declared.node.Node.{Node}
use Rattle.fc_laws.specs.nodes.Edits.{Nodes}
use Rattle.fc_laws.specs.agree.Agreed.{AgreeOn}
use Rattle.fc_edits.specs.NewPlaces.{IsSpaceChange, Taking, ids_of, is_taken}
use Rattle.fc_safelaws.specs.Free.{ChangesFree, IsFreeSector}
use Rattle.fc_safeedits.specs.SafePlaces.{moves_by}

-- Parts of a volume with a new map, and those after a change, with no image at hand. Parts of holes are taken for `takings`, of which the
-- identifiers that had runs move, and the identifiers `gone` go back: m is the map before, and m' the one afterwards. `root` is the
-- root's node, and `top` its object.
pub record MovedParts : Type 0 where
  pub kind : Kind
  pub m : Map
  pub m' : Map
  pub nodes : Nodes
  pub nodes' : Nodes
  pub owners : List Owner
  pub owners' : List Owner
  pub root : Node
  pub top : Object
  pub listings : List Listing
  pub takings : List Taking
  pub gone : List ℕ
  pub agreed : AgreeOn kind m nodes owners root listings
  pub top_in : Contains (objects_of listings) top
  pub top_path : top.path ≡ []
  pub is_map : IsNewMap m'
  pub geometry : m'.geometry ≡ m.geometry
  pub space : IsSpaceChange m m' takings gone
  pub movable : (k : ℕ) → moves_by m takings k ≡ true → is_movable (objects_of listings) k ≡ true

-- the identifiers that move
abbrev pub moves_in : MovedParts → ℕ → Bool
moves_in x = moves_by x.m x.takings

-- the view that they are of
abbrev pub view_before : MovedParts → Opened
view_before x = record { kind = x.kind; layout = Layout.New x.m; listings = x.listings }

-- An image with these parts, and another one, in which the map afterwards counts. Beside the map the sectors `written` are written, in which
-- nothing lay.
pub record SafeChange : Type 0 where
  pub parts : MovedParts
  pub r : DiscRecord
  pub image : List ℕ
  pub image' : List ℕ
  pub written : List ℕ
  pub new_kind : IsNewKind parts.kind r
  pub opens : OpensAs image parts.kind (record { kind = parts.kind; layout = Layout.New parts.m; listings = parts.listings })
  pub changes : ChangesFree parts.m.geometry written image image'
  pub free : (s : ℕ) → is_among written s ≡ true → IsFreeSector parts.m (objects_of parts.listings) s
  pub chosen : Chooses parts.m.geometry parts.m'.zones image'

-- ---- a command that makes no object, and no directory grow

-- The parts that are taken are those of its needs, and all are for identifiers that hold a changed directory. What goes back makes the holes
-- that the command's own makes.
pub record TakesForChanged (x : MovedParts) (c : Command) : Type 0 where
  pub parts : List (List ZoneRun)
  pub fitted : fitted_needs x.m (view_before x) c ≡ Some parts
  pub takes : map (λ (t : Taking). t.parts) x.takings ≡ parts
  pub ids : ids_of x.takings ≡ changed_ids x.m (view_before x) c
  pub used : (k : ℕ) → is_taken x.takings k ≡ true → is_used x.m k ≡ true
  pub needs_met : HaveRuns x.m' (changed_ids x.m (view_before x) c) parts
  pub back : (z : ℕ) → z < x.m.geometry.zones
      → holes_with (zone_holes (holes_unneeded x.m parts) z) (zone_holes (runs_that (is_one_of x.gone) x.m) z)
      ≡ holes_with (zone_holes (holes_unneeded x.m parts) z) (zone_holes (places_given_up x.m (view_before x) c) z)

-- Both copies of the map are the new map. It is the old one but for its runs, FreeLink and the checks.
pub record IsWholeMap (x : SafeChange) : Type 0 where
  pub copies : HoldsCopies x.parts.m.geometry x.parts.m'.zones x.image'
  pub zones : (z : ℕ) → z < x.parts.m.geometry.zones → ZoneSteady x.parts.m.geometry z (sector_of x.parts.m z) (sector_of x.parts.m' z)
  pub links : (z : ℕ) → z < x.parts.m.geometry.zones → KeepsOrWritesLinks x.parts.m x.parts.m' z

-- The record of the map stays, with the root's place.
abbrev pub KeepsRecord : MovedParts → Type 0
KeepsRecord x = map_record (sector_of x.m' 0) ≡ map_record (sector_of x.m 0)
