-- Places for what a job wants.
use Rattle.std.specs.Prelude.{◌≡◌, ◌<◌, ◌^◌, ◌⊎◌, ℕ, ◌*◌, ◌==◌, Bool, true, false, List, [], ◌++◌, Option, Some, None, Vec, IsFalse, IsSome, is_none, ◌&&◌}
use Rattle.std.specs.declared.alloc.Global.{Global}
use Rattle.std.specs.Option.{option_map}
use Rattle.std.specs.FinMap.{get}
use Rattle.fc_alloc.specs.declared.owner.Owner.{Owner}
use Rattle.fc_device.specs.declared.disk.Extent.{Extent}
use Rattle.fc_newmap.specs.Map.{Map}
use Rattle.fc_oldmap.specs.Holes.{first_fit_place}
use Rattle.fc_oldmap.specs.OldMap.{OldMapContent}
use Rattle.fc_image.specs.Layout.{Layout, dir_form, sectors_at}
use Rattle.fc_image.specs.Walk.{object_size}
use Rattle.fc_image.specs.effects.Short.{old_need}
use Rattle.fc_objects.specs.Extents.{sectors_in}
use Rattle.fc_placing.specs.Leaving.{LeavesIds, LeavesUsed}
use Rattle.fc_placing.specs.Places.{IsOwnPlan, address_in, shared_id, slack_left}
use Rattle.fc_placing.specs.declared.share.Share.{Share}
use Rattle.fc_placing.specs.Slack.{place_in}
use Rattle.fc_placing.specs.declared.placing.Placing.{Placing}
use Rattle.fc_placing.specs.declared.placing.Placing.TheVariants as placings
use Rattle.fc_plan.specs.declared.plan.Plan.{Plan}
use Rattle.fc_tree.specs.Parts.{Parts}
use Rattle.fc_tree.specs.declared.node.Node.{Node}
use Rattle.fc_laws.specs.nodes.Edits.{Nodes}
use Rattle.fc_change.specs.declared.job.Growth.{Growth}
use Rattle.fc_change.specs.declared.job.Wants.{Wants}
use Rattle.fc_writing.specs.declared.ready.MapStep.{MapStep}
use Rattle.fc_writing.specs.declared.ready.MapStep.TheVariants as steps
use Rattle.fc_change.specs.declared.spaces.Place.{Place}
use Rattle.fc_change.specs.declared.spaces.Spaces.{Spaces}
use Rattle.fc_change.specs.OldSpace.{CanFree, IsMapNow, LieBehind, map_given, map_taken, units_given}
use Rattle.fc_change.specs.declared.placing.old.Taken.{Taken}
use Rattle.fc_change.specs.GrownSpace.{IsGrown, freed, gone_at_once, kept_parts, place_of_plan, plans_of, root_of}
use Rattle.fc_change.specs.Prepared.{HasPlace}
use Rattle.fc_change.specs.Shortage.{is_grown_alone}
use Rattle.fc_change.specs.Steps.{IsStep}

-- ---- an object, on a new map

-- in slack of its directory's files if it may and there is some, else in a new identifier; without bytes nowhere
abbrev pub IsPlacingFor : Map → List Owner → Wants → Placing → Type 0
IsPlacingFor m owners w placings.Nowhere = w.bytes ≡ 0
IsPlacingFor m owners w (placings.Shared share) = (dir : ℕ) × (w.shares ≡ Some dir) × (slack_left m owners dir w.bytes ≡ Some (place_in share))
IsPlacingFor m owners w (placings.New plan) = ((dir : ℕ) → w.shares ≡ Some dir → slack_left m owners dir w.bytes ≡ None) × IsOwnPlan m w.bytes plan

-- that of a file in slack, or of an object with this plan
abbrev pub placing_of : Option Share → Option Plan → Placing
placing_of (Some share) own = placings.Shared share
placing_of None None = placings.Nowhere
placing_of None (Some plan) = placings.New plan

-- what is taken for an object that is placed so
abbrev pub plan_in : Placing → Option Plan
plan_in placings.Nowhere = None
plan_in (placings.Shared share) = None
plan_in (placings.New plan) = Some plan

-- The object is a directory: it may share no slack, and is no copy.
abbrev pub is_directory : Wants → Bool
is_directory w = is_none w.shares && is_none w.copied

-- Its address: a directory begins with its identifier.
abbrev pub own_address : Bool → Map → ℕ → Plan → ℕ
own_address true m bytes plan = 256 * plan.id
own_address false m bytes plan = address_in m (placings.New plan) bytes

abbrev pub address_for : Map → Wants → Placing → ℕ
address_for m w placings.Nowhere = 0
address_for m w (placings.Shared share) = address_in m (placings.Shared share) w.bytes
address_for m w (placings.New plan) = own_address (is_directory w) m w.bytes plan

-- These are the sectors of so many bytes: those of its address, or those that a plan is to take.
abbrev pub AreSectors : Map → ℕ → Placing → ℕ → List ℕ → Type 0
AreSectors m bytes (placings.New plan) address sectors = sectors ≡ place_of_plan m.geometry plan bytes
AreSectors m bytes _ address sectors = sectors_at (Layout.New m) address bytes ≡ Some sectors

abbrev pub HasSectorsAt : Map → Placing → ℕ → ℕ → Type 0
HasSectorsAt m (placings.New plan) address bytes = IsOwnPlan m bytes plan
HasSectorsAt m _ address bytes = IsSome (sectors_at (Layout.New m) address bytes)

-- There are bytes, or a file is saved: nothing else has a place.
abbrev pub WantsPlace : Wants → Type 0
WantsPlace w = IsFalse (w.bytes == 0 && is_none w.shares)

-- where it lies; nothing lies nowhere but a file without bytes
abbrev pub IsPlaceFor : Map → Wants → Placing → Option Place → Type 0
IsPlaceFor m w placing (Some p) = (p.address ≡ address_for m w placing) × AreSectors m w.bytes placing p.address (sectors_in p.extents.items) × WantsPlace w
IsPlaceFor m w placing None = (w.bytes ≡ 0) × (w.shares ≡ None)

-- ---- what is copied, and what goes back

-- where the object of a node lies
abbrev pub IsPlaceOf : Layout → Nodes → ℕ → List Extent → Type 0
IsPlaceOf layout nodes n extents = (node : Node) → get nodes n ≡ Some node → sectors_at layout node.entry.address (object_size (dir_form layout) node.entry) ≡ Some (sectors_in extents)

abbrev pub IsCopiedFrom : Layout → Nodes → Option ℕ → Option (List Extent) → Type 0
IsCopiedFrom layout nodes (Some n) (Some extents) = IsPlaceOf layout nodes n extents
IsCopiedFrom layout nodes None None = Unit {0}
IsCopiedFrom layout nodes _ _ = ⊥

abbrev pub extents_in : Option (Vec Extent Global) → Option (List Extent)
extents_in places = option_map (λ (v : Vec Extent Global). v.items) places

-- The identifier of an object that goes, unless another owner has it, or it is the one that the new object shares.
abbrev pub AreLeft : List Owner → Option ℕ → Option ℕ → List ℕ → Type 0
AreLeft owners None shared gone = gone ≡ []
AreLeft owners (Some node) shared gone = LeavesIds owners node shared gone × LeavesUsed owners gone

-- ---- all of it, on a new map

-- The object is placed first, and then a directory that grows, whose plan is `dir` if it gets new space. Both plans are taken by one
-- step, with the root's new place; what nothing names any more goes back by another.
pub record ArePlaced (m : Map) (h : Parts) (w : Wants) (s : Spaces) : Type 0 where
  pub placing : Placing
  pub dir : Option Plan
  pub gone : List ℕ
  pub is : IsPlacingFor m h.owners w placing
  pub object : IsPlaceFor m w placing s.object
  pub copied : IsCopiedFrom (Layout.New m) h.nodes w.copied (extents_in s.copied)
  pub grown : IsGrown m h (plan_in placing) w.grows dir s.grown
  pub take : IsStep m (plans_of (plan_in placing) dir) (gone_at_once dir (is_grown_alone h w.grows)) (kept_parts dir (is_grown_alone h w.grows)) (root_of s.grown) s.take
  pub left : AreLeft h.owners w.goes (shared_id placing) gone
  pub give : IsStep m [] (freed h w dir ++ gone) [] None s.give

-- ---- on an old map

-- The step leads from one map to the other; nothing is done if they are the same.
abbrev pub IsOldStep : OldMapContent → OldMapContent → MapStep → Type 0
IsOldStep was now (steps.Old space) = IsMapNow was now (Some space)
IsOldStep was now (steps.New s) = ⊥
IsOldStep was now steps.Nothing = IsMapNow was now None

-- The step is that to this map, if there is one, and nothing is done else.
pub record IsStepTo (map : Option OldMapContent) (step : MapStep) : Type 0 where
  pub leads : (was now : OldMapContent) → IsMapNow was now map → IsOldStep was now step
  pub none : map ≡ None → step ≡ steps.Nothing

-- some bytes at the front of the first hole that is long enough for them, and none at address 0
pub record IsOldAt (space : OldMapContent) (w : Wants) (p : Place) : Type 0 where
  pub address : ((0 < w.bytes) × (first_fit_place (old_need space w.bytes) space.holes ≡ Some p.address)) ⊎ ((w.bytes ≡ 0) × (p.address ≡ 0))
  pub short : p.address < 2 ^ 24
  pub sectors : sectors_at (Layout.Old space) p.address w.bytes ≡ Some (sectors_in p.extents.items)
  pub wanted : WantsPlace w

-- a file, or a directory; without bytes a file has a place too
abbrev pub IsOldPlaced : OldMapContent → Wants → Option Place → Type 0
IsOldPlaced space w (Some p) = IsOldAt space w p
IsOldPlaced space w None = (w.bytes ≡ 0) × (w.shares ≡ None)

-- A file without bytes has a place, too.
abbrev pub IsPlaceWithout : Wants → Option Place → Type 0
IsPlaceWithout w (Some p) = (p.address ≡ 0) × (sectors_in p.extents.items ≡ []) × IsFalse (is_none w.shares)
IsPlaceWithout w None = w.shares ≡ None

-- The object's place, and the map without its space; no bytes take none.
pub record IsTakenFor (space : OldMapContent) (w : Wants) (t : Taken) : Type 0 where
  pub place : IsOldPlaced space w t.place
  pub map : IsMapNow space (map_taken space w.bytes) t.map
  pub none : w.bytes ≡ 0 → t.map ≡ None
  pub behind : (now : OldMapContent) → t.map ≡ Some now → LieBehind now

-- Where there is nothing to take, or nothing with space goes, nothing is done to the map.
pub record ArePlacedOld (space : OldMapContent) (h : Parts) (w : Wants) (s : Spaces) : Type 0 where
  pub object : IsOldPlaced space w s.object
  pub copied : s.copied ≡ None
  pub grown : s.grown ≡ None
  pub take : IsOldStep space (map_taken space w.bytes) s.take
  pub give : IsOldStep (map_taken space w.bytes) (map_given space h.nodes w.goes (map_taken space w.bytes)) s.give
  pub takes_none : w.bytes ≡ 0 → s.take ≡ steps.Nothing
  pub gives_none : units_given space h.nodes w.goes ≡ 0 → s.give ≡ steps.Nothing

-- ---- on either

abbrev pub ArePlacesOn : Layout → Parts → Wants → Spaces → Type 0
ArePlacesOn (Layout.New m) h w s = ArePlaced m h w s
ArePlacesOn (Layout.Old space) h w s = ArePlacedOld space h w s

abbrev pub ArePlacesFor : Parts → Wants → Spaces → Type 0
ArePlacesFor h w s = ArePlacesOn h.layout h w s

-- ---- what has to be known

-- A copied file has a place, and a directory grows to some bytes. On an old map none grows, and space can be given back.
pub record CanPlace (h : Parts) (w : Wants) : Type 0 where
  pub few : w.bytes < 2 ^ 32
  pub grows : (g : Growth) → w.grows ≡ Some g → 0 < g.len
  pub copied : (n : ℕ) → w.copied ≡ Some n → HasPlace h n
  pub no_growth : (space : OldMapContent) → h.layout ≡ Layout.Old space → w.grows ≡ None
  pub behind : (space : OldMapContent) → h.layout ≡ Layout.Old space → LieBehind space
  pub free : (space : OldMapContent) (n : ℕ) → h.layout ≡ Layout.Old space → w.goes ≡ Some n → CanFree space w.bytes h.nodes n
