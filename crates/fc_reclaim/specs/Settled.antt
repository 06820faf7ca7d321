-- An edit of a map that lost identifiers need not survive.
use Rattle.std.specs.Prelude.{◌≡◌, ℕ, false, List, None}
use Rattle.fc_record.specs.declared.DiscRecord.{DiscRecord}
use Rattle.fc_record.specs.declared.Kind.{Kind}
use Rattle.fc_record.specs.Kinds.{map_record}
use Rattle.fc_newmap.specs.Map.{IsMap, Map, sector_of}
use Rattle.fc_newmap.specs.Copies.{ChangesCopies, Chooses}
use Rattle.fc_image.specs.Layout.{Layout}
use Rattle.fc_image.specs.Objects.{is_lost, objects_of}
use Rattle.fc_image.specs.Opening.{Opened, misplaced_sector}
use Rattle.fc_image.specs.Stays.{IsNewKind, OpensAs, stored_objects}
use Rattle.fc_image.specs.effects.Steady.{keeps_runs}

-- what is opened, by another map with the same objects at the same places
abbrev pub by_map : Kind → Opened → Map → Opened
by_map kind v m = record { kind = kind; layout = Layout.New m; listings = v.listings }

-- The other image has the map m', and differs in nothing but the copies of the map. Each identifier that isn't lost keeps its
-- runs, and no sector that is reserved lies in a hole or in an identifier that may move.
pub record IsSettledEdit (kind : Kind) (v : Opened) (m m' : Map) (image other : List ℕ) : Type 0 where
  pub geometry_stays : m'.geometry ≡ m.geometry
  pub record_stays : map_record (sector_of m' 0) ≡ map_record (sector_of m 0)
  pub is_map : IsMap m'
  pub chosen_map : Chooses m.geometry m'.zones other
  pub frame : ChangesCopies m.geometry image other
  pub owned : (id : ℕ) → is_lost (objects_of v.listings) id ≡ false → keeps_runs m m' id
  pub placed : misplaced_sector kind (Layout.New m') (objects_of v.listings) ≡ None

-- Then it opens with the same directories and objects, each stored as before.
abbrev pub SettledLaw : Type 0
SettledLaw = (image other : List ℕ) (kind : Kind) (r : DiscRecord) (v : Opened) (m m' : Map) → IsNewKind kind r → OpensAs image kind v → v.layout ≡ Layout.New m
    → IsSettledEdit kind v m m' image other → OpensAs other kind (by_map kind v m') × (stored_objects other (by_map kind v m') ≡ stored_objects image v)
