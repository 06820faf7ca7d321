-- Where new space is taken, and which address an object gets.
use Rattle.std.specs.Prelude.{◌≡◌, ◌<◌, ◌≤◌, ◌⊎◌, ℕ, ◌+◌, ◌-◌, ◌*◌, ◌/◌, ◌%◌, Bool, true, false, ◌&&◌, ◌==◌, nat_lt, nat_le, List, [], ◌∷◌, length, if◌then◌else◌, Option, Some, None, IfSome, IsSomeAnd, Contains, All}
use Rattle.std.specs.List.{flat_map, find, items_where_true, count_by, AllPairs}
use Rattle.std.specs.Option.{option_map_or}
use Rattle.std.specs.Int.{next_multiple_of}
use Rattle.fc_names.specs.Names.{Path}
use Rattle.fc_record.specs.declared.Geometry.{Geometry}
use Rattle.fc_oldmap.specs.Holes.{first_fit_place}
use Rattle.fc_oldmap.specs.OldMap.{OldMapContent}
use Rattle.fc_newmap.specs.Map.{Map, ZoneRun, hole_runs, id_runs, bits_in, is_used}
use Rattle.fc_model.specs.Command.{Command}
use Rattle.fc_image.specs.Layout.{Layout, id_of, low_of}
use Rattle.fc_image.specs.Walk.{Object, is_directory_object}
use Rattle.fc_image.specs.Objects.{objects_of, object_at}
use Rattle.fc_image.specs.Opening.{Opened}
use Rattle.fc_image.specs.effects.Sharing.{units, new_ids}
use Rattle.fc_image.specs.effects.Short.{Growth, new_length, slack_for, old_need, growth_in, moved_growth, is_alone, object_units}

-- ---- taking from holes

-- The second run begins where the first does.
abbrev pub stands_at : ZoneRun → ZoneRun → Bool
stands_at p q = (p.0 == q.0) && (p.1.start == q.1.start)

-- what a part leaves of a hole: all, nothing, or what is after it
abbrev pub left_behind : ZoneRun → Option ZoneRun → List ZoneRun
left_behind hole None = hole ∷ []
left_behind hole (Some part) =
    if part.1.len == hole.1.len then []
    else (hole.0, record hole.1 { start = hole.1.start + part.1.len; len = hole.1.len - part.1.len }) ∷ []

-- what is left of holes when parts are taken from their fronts, at most one from each; what is taken after them is
-- taken from what is left
abbrev pub holes_left : List ZoneRun → List ZoneRun → List ZoneRun
holes_left holes parts = flat_map (λ hole. left_behind hole (find (stands_at hole) parts)) holes

-- the front bits of a hole; all of it, if less than min would stay
abbrev pub front_of : Geometry → ℕ → ZoneRun → ZoneRun
front_of g bits hole = if nat_lt hole.1.len (bits + g.min) then hole else (hole.0, record hole.1 { len = bits })

-- the front of a hole, so that nothing is left of it, or at least min
pub record IsFront (g : Geometry) (hole part : ZoneRun) : Type 0 where
  pub at_front : stands_at hole part ≡ true
  pub within : part.1.len ≤ hole.1.len
  pub rest : (part.1.len ≡ hole.1.len) ⊎ (part.1.len + g.min ≤ hole.1.len)

-- the bits of the holes whose flags are true
abbrev pub chosen_bits : List Bool → List ZoneRun → ℕ
chosen_bits flags holes = bits_in (items_where_true flags holes)

-- so many holes have enough bits, and no fewer do
pub record IsFewest (holes : List ZoneRun) (bits count : ℕ) : Type 0 where
  pub some : (flags : List Bool) × (length flags ≡ length holes) × (count_by (λ b. b) flags ≡ count) × (bits ≤ chosen_bits flags holes)
  pub no_fewer : (flags : List Bool) → length flags ≡ length holes → bits ≤ chosen_bits flags holes → count ≤ count_by (λ b. b) flags

-- the parts are taken from as few holes as can be, and are hardly more than so many bits
pub record IsTaken (g : Geometry) (holes : List ZoneRun) (bits : ℕ) (parts : List ZoneRun) : Type 0 where
  pub fronts : All (λ part. (hole : ZoneRun) × Contains holes hole × IsFront g hole part) parts
  pub enough : bits ≤ bits_in parts
  pub few_more : bits_in parts < bits + 2 * g.min
  pub fewest : IsFewest holes bits (length parts)

-- A run may have this length: some whole sectors, and no less than the least.
abbrev pub HasRunLength : Geometry → ZoneRun → Type 0
HasRunLength g part = (g.min ≤ part.1.len) × (part.1.len % g.q ≡ 0)

-- The first begins before the second: in an earlier zone, or earlier in the same.
abbrev pub BeginsBefore : ZoneRun → ZoneRun → Type 0
BeginsBefore p q = (p.0 < q.0) ⊎ ((p.0 ≡ q.0) × (p.1.start < q.1.start))

-- A plan: a taking whose parts rise over the disc, so that no hole is used twice, and have lengths that runs may have. `IsTaken`
-- alone is enough for the runs of an opened image, which have such lengths and places anyway. Parts in memory need all of it.
pub record IsPlan (g : Geometry) (holes : List ZoneRun) (bits : ℕ) (parts : List ZoneRun) : Type 0 where
  pub taken : IsTaken g holes bits parts
  pub long : All (HasRunLength g) parts
  pub rising : AllPairs BeginsBefore parts

-- ---- low bytes

-- after a file of `len` bytes, `space` bytes have another whole share unit, and its number fits in a low byte
abbrev pub has_spare_share : Geometry → ℕ → ℕ → Bool
has_spare_share g space len =
    let end = next_multiple_of len g.share in nat_le (end + g.share) space && nat_le (end / g.share) 254

-- the low byte of a file in new space
abbrev pub file_low : Geometry → ℕ → ℕ → ℕ
file_low g space len = if has_spare_share g space len then 1 else 0

-- ---- the new object

-- the path under which the command puts an object
abbrev pub new_object_path : Command → Option Path
new_object_path (Command.Save path load exec bytes) = Some path
new_object_path (Command.Create path load exec len) = Some path
new_object_path (Command.Cdir path) = Some path
new_object_path (Command.Rename from to) = Some to
new_object_path _ = None

-- a file of no bytes is written at address 0
abbrev pub is_written_empty : Command → Bool
is_written_empty (Command.Save path load exec bytes) = length bytes == 0
is_written_empty (Command.Create path load exec len) = len == 0
is_written_empty _ = false

-- the runs that an identifier has, but had not
pub record IsNewId (m m' : Map) (id : ℕ) : Type 0 where
  pub free : Contains (new_ids m) id
  pub used : is_used m' id ≡ true

-- the low byte of an object that begins a new identifier
abbrev pub first_low : Map → Object → List ZoneRun → ℕ
first_low m o parts = if is_directory_object o then 0 else file_low m.geometry (bits_in parts * m.geometry.bit_bytes) o.entry.len

-- an object of n bytes stands in new space
pub record StandsInNewSpace (m m' : Map) (n : ℕ) (o : Object) : Type 0 where
  pub id : IsNewId m m' (id_of o.entry.address)
  pub space : IsTaken m.geometry (hole_runs m) (units m.geometry n) (id_runs m' (id_of o.entry.address))
  pub low : low_of o.entry.address ≡ first_low m' o (id_runs m' (id_of o.entry.address))

-- The object is there and has this address.
abbrev pub HasAddress : Option Object → ℕ → Type 0
HasAddress o address = IsSomeAnd o (λ o. o.entry.address ≡ address)

-- on a new map: in slack, or in new space, or as before
abbrev pub NewObjectPlaced : Map → Map → ℕ → Option (ℕ × ℕ) → Option Object → Type 0
NewObjectPlaced m m' n (Some share) o = HasAddress o (256 * share.0 + share.1)
NewObjectPlaced m m' n None o = 0 < n → IsSomeAnd o (StandsInNewSpace m m' n)

-- on an old map: at the front of the first hole that is long enough
abbrev pub OldObjectPlaced : OldMapContent → ℕ → Option Object → Type 0
OldObjectPlaced space n o = 0 < n → IsSomeAnd o (λ o. first_fit_place (old_need space n) space.holes ≡ Some o.entry.address)

-- where a new object lies
abbrev pub ObjectPlaced : Layout → Layout → ℕ → Option (ℕ × ℕ) → Option Object → Type 0
ObjectPlaced (Layout.New m) (Layout.New m') n share o = NewObjectPlaced m m' n share o
ObjectPlaced (Layout.Old space) (Layout.Old space') n share o = OldObjectPlaced space n o
ObjectPlaced _ _ n share o = ⊥

-- ---- the grown directory

-- the runs that were taken for the new object
abbrev pub object_parts : Map → Map → Opened → Command → Option Object → List ZoneRun
object_parts m m' v c None = []
object_parts m m' v c (Some o) = if nat_lt 0 (object_units m v c) then id_runs m' (id_of o.entry.address) else []

-- A directory alone in its identifier keeps address and identifier, which has new runs. Another gets a new identifier.
abbrev pub KeepsOrGetsId : Bool → Map → Map → Object → Object → Type 0
KeepsOrGetsId true m m' old new = new.entry.address ≡ old.entry.address
KeepsOrGetsId false m m' old new = IsNewId m m' (id_of new.entry.address) × (low_of new.entry.address ≡ 0)

-- a grown directory that needs new space has it, taken after that of the new object
pub record GrownPlaced (m m' : Map) (v : Opened) (c : Command) (growth : Growth) (made : Option Object) (new : Object) : Type 0 where
  pub id : KeepsOrGetsId (is_alone (objects_of v.listings) growth.0) m m' growth.0 new
  pub space : IsTaken m.geometry (holes_left (hole_runs m) (object_parts m m' v c made)) (units m.geometry growth.1) (id_runs m' (id_of new.entry.address))
  pub other_id : IfSome made (λ o. 0 < object_units m v c → id_of o.entry.address ≡ id_of new.entry.address → ⊥)

-- a directory that grows where it lies keeps its address
abbrev pub GrowthPlaced : Layout → Layout → Opened → Command → Option Object → Object → Option Growth → Option Growth → Type 0
GrowthPlaced layout layout' v c made new None moved = Unit {0}
GrowthPlaced layout layout' v c made new (Some growth) None = (new.entry.len ≡ growth.1) × (new.entry.address ≡ growth.0.entry.address)
GrowthPlaced (Layout.New m) (Layout.New m') v c made new (Some growth) (Some moved) = (new.entry.len ≡ growth.1) × GrownPlaced m m' v c growth made new
GrowthPlaced _ _ v c made new (Some growth) (Some moved) = ⊥

-- the object that the command makes, and the object at the grown directory's path
abbrev pub made_object : Opened → Command → Option Object
made_object w c = option_map_or (object_at w.listings) (new_object_path c) None

-- the grown directory, if there is one, is there and lies right
abbrev pub GrowthPlacedIn : Opened → Opened → Command → Option Growth → Type 0
GrowthPlacedIn v w c None = Unit {0}
GrowthPlacedIn v w c (Some growth) =
    IsSomeAnd (object_at w.listings growth.0.path) (λ new. GrowthPlaced v.layout w.layout v c (made_object w c) new (Some growth) (moved_growth v c))

-- what the command takes, if it is accepted: v is the opened image before it, and w after it
pub record Placed (v w : Opened) (c : Command) : Type 0 where
  pub object : ObjectPlaced v.layout w.layout (new_length v c) (slack_for v c) (made_object w c)
  pub empty : is_written_empty c ≡ true → HasAddress (made_object w c) 0
  pub growth : GrowthPlacedIn v w c (growth_in v c)
