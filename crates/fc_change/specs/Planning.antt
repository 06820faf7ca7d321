-- How a directory that grows is judged, and the plans for it and for an object, while they are placed on a new map.
use Rattle.std.specs.Prelude.{◌≡◌, ◌<◌, ◌≤◌, ℕ, Bool, true, false, List, [], ◌∷◌, Option, Some, None, Contains}
use Rattle.fc_image.specs.Layout.{id_of}
use Rattle.fc_image.specs.effects.Placed.{IsPlan, holes_left}
use Rattle.fc_image.specs.effects.Sharing.{units}
use Rattle.fc_newmap.specs.Map.{Map, bits_in}
use Rattle.fc_objects.specs.Extents.{sectors_in}
use Rattle.fc_placing.specs.Places.{IsOwnPlan}
use Rattle.fc_plan.specs.declared.plan.Plan.{Plan}
use Rattle.fc_plan.specs.Parts.{fronts}
use Rattle.fc_plan.specs.Supply.{Stock}
use Rattle.fc_tree.specs.Counts.{address_in}
use Rattle.fc_tree.specs.Parts.{Parts}
use Rattle.fc_change.specs.declared.job.Growth.{Growth}
use Rattle.fc_change.specs.declared.placing.growth.Growing.{Growing}
use Rattle.fc_change.specs.declared.placing.growth.Growing.TheVariants as growings
use Rattle.fc_change.specs.declared.placing.growth.Plans.{Plans}
use Rattle.fc_change.specs.declared.spaces.GrownPlace.{GrownPlace}
use Rattle.fc_change.specs.GrownSpace.{AreFree, GrowsThere, IsNewSpace, LeadsTo, address_moved, has_room, is_alone, place_of_plan}

-- ---- the directory

-- It needs new space: it lies at this address, and may be alone in its identifier.
pub record IsMoving (m : Map) (h : Parts) (g growth : Growth) (address : ℕ) (alone : Bool) : Type 0 where
  pub no_room : has_room m h g ≡ false
  pub growth_is : growth ≡ g
  pub address_is : address ≡ address_in h.nodes g.node
  pub alone_is : alone ≡ is_alone h g

abbrev pub IsJudged : Map → Parts → Option Growth → Growing → Type 0
IsJudged m h None x = x ≡ growings.Nothing
IsJudged m h (Some g) growings.Nothing = ⊥
IsJudged m h (Some g) (growings.There p) = GrowsThere m h g p
IsJudged m h (Some g) (growings.Moves growth address alone) = IsMoving m h g growth address alone

-- the bytes for which it needs new space, and whether it is alone
abbrev pub len_moved : Growing → ℕ
len_moved growings.Nothing = 0
len_moved (growings.There p) = 0
len_moved (growings.Moves growth address alone) = growth.len

abbrev pub alone_in : Growing → Bool
alone_in growings.Nothing = true
alone_in (growings.There p) = true
alone_in (growings.Moves growth address alone) = alone

-- It grows to some bytes.
abbrev pub IsLonger : Growing → Type 0
IsLonger growings.Nothing = Unit {0}
IsLonger (growings.There p) = Unit {0}
IsLonger (growings.Moves growth address alone) = 0 < growth.len

-- ---- what is taken from what is not spoken for

-- The holes have the bits of so many bytes.
abbrev pub HasBits : Stock → ℕ → Type 0
HasBits left bytes = units left.geometry bytes ≤ bits_in left.holes

-- An identifier is left, too.
pub record HasSpace (left : Stock) (bytes : ℕ) : Type 0 where
  pub ids : left.ids ≡ [] → ⊥
  pub bits : HasBits left bytes

-- So it is for a directory of some bytes, which needs no identifier if it is alone in its own.
pub record HasSpaceFor (left : Stock) (alone : Bool) (len : ℕ) : Type 0 where
  pub some : 0 < len
  pub ids : alone ≡ false → left.ids ≡ [] → ⊥
  pub bits : HasBits left len

abbrev pub HasSpaceIf : Stock → Growing → Type 0
HasSpaceIf left growings.Nothing = Unit {0}
HasSpaceIf left (growings.There p) = Unit {0}
HasSpaceIf left (growings.Moves growth address alone) = HasSpaceFor left alone growth.len

pub record IsPlannedFrom (old new : Stock) (bytes : ℕ) (taken : Plan) : Type 0 where
  pub some : 0 < bytes
  pub plan : IsPlan old.geometry old.holes (units old.geometry bytes) (fronts taken.parts.items)
  pub id : old.ids ≡ taken.id ∷ new.ids
  pub rest : new ≡ record old { holes = holes_left old.holes (fronts taken.parts.items); ids = new.ids }

-- an object, if it has some bytes
abbrev pub IsObjectTaken : Stock → Stock → ℕ → Option Plan → Type 0
IsObjectTaken old new bytes None = (bytes ≡ 0) × (new ≡ old)
IsObjectTaken old new bytes (Some plan) = IsPlannedFrom old new bytes plan

-- the identifier of a directory's new space: its own, if it is alone in it, else one of these
abbrev pub IsIdFrom : List ℕ → Bool → ℕ → ℕ → Type 0
IsIdFrom ids true address id = id ≡ id_of address
IsIdFrom ids false address id = Contains ids id

pub record IsTakenFrom (left : Stock) (alone : Bool) (address len : ℕ) (taken : Plan) : Type 0 where
  pub plan : IsPlan left.geometry left.holes (units left.geometry len) (fronts taken.parts.items)
  pub id : IsIdFrom left.ids alone address taken.id

-- a directory, if it needs some
abbrev pub IsGrowthTaken : Stock → Growing → Option Plan → Type 0
IsGrowthTaken left growings.Nothing plan = plan ≡ None
IsGrowthTaken left (growings.There p) plan = plan ≡ None
IsGrowthTaken left (growings.Moves growth address alone) None = ⊥
IsGrowthTaken left (growings.Moves growth address alone) (Some plan) = IsTakenFrom left alone address growth.len plan

-- ---- what is taken from the map

abbrev pub IsObjectPlan : Map → ℕ → Option Plan → Type 0
IsObjectPlan m bytes None = bytes ≡ 0
IsObjectPlan m bytes (Some plan) = IsOwnPlan m bytes plan

abbrev pub IsGrowthPlan : Map → Option Plan → Growing → Option Plan → Type 0
IsGrowthPlan m object growings.Nothing plan = plan ≡ None
IsGrowthPlan m object (growings.There p) plan = plan ≡ None
IsGrowthPlan m object (growings.Moves growth address alone) None = ⊥
IsGrowthPlan m object (growings.Moves growth address alone) (Some plan) = IsNewSpace m object alone address growth.len plan

pub record ArePlanned (m : Map) (bytes : ℕ) (x : Growing) (p : Plans) : Type 0 where
  pub object : IsObjectPlan m bytes p.object
  pub dir : IsGrowthPlan m p.object x p.dir

-- The directory has this plan, which was made after that of an object.
pub record IsNewSpaceOf (m : Map) (growth : Growth) (address : ℕ) (alone : Bool) (plan : Plan) : Type 0 where
  pub bytes : ℕ
  pub object : Option Plan
  pub own : IsObjectPlan m bytes object
  pub longer : 0 < growth.len
  pub space : IsNewSpace m object alone address growth.len plan

-- ---- where the directory is to lie

-- in its new space
pub record IsMovedTo (m : Map) (growth : Growth) (address : ℕ) (alone : Bool) (plan : Plan) (p : GrownPlace) : Type 0 where
  pub directory : p.directory ≡ record { node = growth.node; address = address_moved alone address plan; len = growth.len }
  pub moves : p.moves ≡ true
  pub sectors : sectors_in p.extents.items ≡ place_of_plan m.geometry plan growth.len
  pub leads : LeadsTo m growth.len plan (sectors_in p.extents.items)
  pub free : AreFree m (sectors_in p.extents.items)

abbrev pub IsMovedIf : Map → Growth → ℕ → Bool → Option Plan → Option GrownPlace → Type 0
IsMovedIf m growth address alone (Some plan) (Some p) = IsMovedTo m growth address alone plan p
IsMovedIf m growth address alone _ _ = ⊥

abbrev pub IsGrownTo : Map → Growing → Option Plan → Option GrownPlace → Type 0
IsGrownTo m growings.Nothing plan place = place ≡ None
IsGrownTo m (growings.There p) plan place = place ≡ Some p
IsGrownTo m (growings.Moves growth address alone) plan place = IsMovedIf m growth address alone plan place

-- The directory has the plan that is made after that of an object of so many bytes.
pub record IsPlannedAfter (m : Map) (x : Growing) (dir : Option Plan) : Type 0 where
  pub bytes : ℕ
  pub object : Option Plan
  pub own : IsObjectPlan m bytes object
  pub longer : IsLonger x
  pub plan : IsGrowthPlan m object x dir
