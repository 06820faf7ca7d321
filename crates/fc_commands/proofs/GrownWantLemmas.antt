-- What comes to a directory that grows by it, on a new map: what is wanted, and where both are placed.
use Rattle.std.proofs.Common.{◌≡◌, ℕ, ◌++◌, Bool, true, false, List, [], refl, sym, ap, ap₂, subst, ◌∙◌, arith, Option, Some, None}
use Rattle.std.specs.Prelude.{IfSome}
use Rattle.std.specs.Option.{option_and_then, option_to_list}
use Rattle.fc_alloc.specs.declared.owner.Owner.{Owner}
use Rattle.fc_newmap.specs.Map.{Map}
use Rattle.fc_drafts.specs.declared.room.Room.TheVariants as rooms
use Rattle.fc_image.specs.Layout.{Layout, dir_form}
use Rattle.fc_laws.specs.agree.Agreed.{parts_with}
use Rattle.fc_laws.specs.nodes.Edits.{Nodes}
use Rattle.fc_placing.specs.Leaving.{left_among}
use Rattle.fc_placing.specs.Places.{IsOwnPlan, shared_id}
use Rattle.fc_placing.specs.declared.placing.Placing.{Placing}
use Rattle.fc_placing.specs.declared.placing.Placing.TheVariants as placings
use Rattle.fc_plan.specs.declared.plan.Plan.{Plan}
use Rattle.fc_tree.specs.Parts.{Parts}
use Rattle.fc_change.specs.declared.job.Growth.{Growth}
use Rattle.fc_change.specs.declared.job.Wants.{Wants}
use Rattle.fc_change.specs.declared.spaces.GrownPlace.{GrownPlace}
use Rattle.fc_change.specs.declared.spaces.Place.{Place}
use Rattle.fc_change.specs.declared.spaces.Spaces.{Spaces}
use Rattle.fc_change.specs.GrownSpace.{IsGrown, IsGrownAt as IsGrownPlace, freed, gone_at_once, kept_parts, left_by_growth, left_if, plans_of, root_of}
use Rattle.fc_change.specs.Needs.{AreWants, HasRoomFor, IsGrowthOf, room_of}
use Rattle.fc_change.specs.Places.{AreLeft, ArePlaced, IsPlaceFor, IsPlacingFor, plan_in}
use Rattle.fc_change.specs.Shortage.{is_grown_alone}
use Rattle.fc_change.specs.Steps.{IsStep}
use Rattle.fc_commands.proofs.GrownSpaceLemmas.{left_is}
use Rattle.fc_commands.proofs.ArrivalLemmas.{Arrival, bytes_of, job_of}
use Rattle.fc_commands.proofs.ArrivalPlaceLemmas.{dir_some, shares_of}
use Rattle.fc_commands.proofs.GrownMoveWantLemmas.{grown_node}

-- What comes wants its bytes, in slack if it is a file, and room for its name in the directory that grows, if one does.
pub record IsItsWant (h : Parts) (dir : ℕ) (x : Arrival) (name : List ℕ) (w : Wants) : Type 0 where
  pub bytes : w.bytes ≡ bytes_of (dir_form h.layout) x
  pub slack : w.shares ≡ shares_of dir x
  pub copy : w.copied ≡ None
  pub left : w.goes ≡ None
  pub room : HasRoomFor h.nodes dir name (room_of w.grows)
  pub grown : IsGrowthOf dir w.grows

pub its_want : (h : Parts) (dir : ℕ) (x : Arrival) (name : List ℕ) (w : Wants) → AreWants h (job_of dir x) name w → IsItsWant h dir x name w
its_want h dir Arrival.Makes name w are = record { bytes = are.bytes; slack = are.slack; copy = are.copy; left = are.left; room = are.room; grown = are.grown }
its_want h dir (Arrival.Saves words) name w are = record { bytes = are.bytes; slack = are.slack; copy = are.copy; left = are.left; room = are.room; grown = are.grown }

-- What is wanted of the disc has this space.
pub record IsGrownWanted (m : Map) (nodes : Nodes) (owners : List Owner) (dir : ℕ) (x : Arrival) (name : List ℕ) (w : Wants) (s : Spaces) : Type 0 where
  pub wants : AreWants (parts_with m nodes owners) (job_of dir x) name w
  pub placed : ArePlaced m (parts_with m nodes owners) w s
  pub growth : Growth
  pub some : w.grows ≡ Some growth

module _ (m : Map) (nodes : Nodes) (owners : List Owner) (dir : ℕ) (x : Arrival) (name : List ℕ) (w : Wants) (s : Spaces) (is : IsGrownWanted m nodes owners dir x name w s) where
  abbrev h : Parts
  h = parts_with m nodes owners

  abbrev placed : ArePlaced m (parts_with m nodes owners) w s
  placed = is.placed

  pub want : IsItsWant (parts_with m nodes owners) dir x name w
  want = its_want h dir x name w is.wants

  pub node_is : is.growth.node ≡ dir
  node_is = subst (IsGrowthOf dir) is.some want.grown

  pub room_is : HasRoomFor nodes dir name (rooms.Grows is.growth.len)
  room_is = subst (λ (g : Option Growth). HasRoomFor nodes dir name (room_of g)) is.some want.room

  -- ---- the object

  abbrev pub placing : Placing
  placing = is.placed.placing

  abbrev pub plan : Option Plan
  plan = plan_in is.placed.placing

  own_in : (q : Placing) → IsPlacingFor m owners w q → IfSome (plan_in q) (IsOwnPlan m w.bytes)
  own_in placings.Nowhere at = tt
  own_in (placings.Shared share) at = tt
  own_in (placings.New plan) at = at.1

  pub own : IfSome (plan_in is.placed.placing) (IsOwnPlan m w.bytes)
  own = own_in is.placed.placing is.placed.is

  wants_some : (y : Arrival) → w.bytes ≡ bytes_of (dir_form (Layout.New m)) y → w.shares ≡ shares_of dir y → w.bytes ≡ 0 → w.shares ≡ None → ⊥
  wants_some Arrival.Makes bytes slack none alone = let some = dir_some (dir_form (Layout.New m)) in omega (arith, some, bytes, none)
  wants_some (Arrival.Saves words) bytes slack none alone = absurd (let there = sym slack ∙ alone in cc)

  place_of : (q : Placing) (o : Option Place) → IsPlaceFor m w q o → (p : Place) × (o ≡ Some p)
  place_of q None at = absurd (wants_some x want.bytes want.slack at.0 at.1)
  place_of q (Some p) at = (p, refl)

  pub object : (p : Place) × (s.object ≡ Some p)
  object = place_of is.placed.placing s.object is.placed.object

  -- it lies where its placing says
  pub object_at : IsPlaceFor m w is.placed.placing (Some object.0)
  object_at = subst (IsPlaceFor m w is.placed.placing) object.1 is.placed.object

  -- ---- the directory that grows

  grown_of : (o : Option GrownPlace) → IsGrown m h (plan_in is.placed.placing) (Some is.growth) is.placed.dir o
      → (p : GrownPlace) × (o ≡ Some p) × IsGrownPlace m h (plan_in is.placed.placing) is.growth is.placed.dir p
  grown_of None at = absurd at
  grown_of (Some p) at = (p, refl, at)

  pub grown : (p : GrownPlace) × (s.grown ≡ Some p) × IsGrownPlace m h (plan_in is.placed.placing) is.growth is.placed.dir p
  grown = grown_of s.grown (subst (λ (g : Option Growth). IsGrown m h (plan_in is.placed.placing) g is.placed.dir s.grown) is.some is.placed.grown)

  pub dir_is : grown.0.directory.node ≡ dir
  dir_is = grown_node m h (plan_in is.placed.placing) is.growth is.placed.dir grown.0 grown.2 ∙ node_is

  -- ---- the steps of the map

  abbrev alone : Bool
  alone = is_grown_alone h (Some is.growth)

  -- what goes back at last
  pub back : List ℕ
  back = freed h w is.placed.dir ++ is.placed.gone

  none_gone : is.placed.gone ≡ []
  none_gone = subst (λ (o : Option ℕ). AreLeft owners o (shared_id is.placed.placing) is.placed.gone) want.left is.placed.left

  alone_is : is_grown_alone h w.grows ≡ is_grown_alone (parts_with m nodes owners) (Some is.growth)
  alone_is = ap (is_grown_alone h) is.some

  pub takes : IsStep m (plans_of (plan_in is.placed.placing) is.placed.dir) (gone_at_once is.placed.dir (is_grown_alone (parts_with m nodes owners) (Some is.growth)))
      (kept_parts is.placed.dir (is_grown_alone (parts_with m nodes owners) (Some is.growth))) (root_of (Some grown.0)) s.take
  takes =
      subst (λ (a : Bool). IsStep m (plans_of (plan_in is.placed.placing) is.placed.dir) (gone_at_once is.placed.dir a) (kept_parts is.placed.dir a) (root_of (Some grown.0)) s.take) alone_is
      (subst (λ (q : Option GrownPlace). IsStep m (plans_of (plan_in is.placed.placing) is.placed.dir) (gone_at_once is.placed.dir (is_grown_alone h w.grows)) (kept_parts is.placed.dir (is_grown_alone h w.grows)) (root_of q) s.take)
      grown.1 is.placed.take)

  pub gives : IsStep m [] back [] None s.give
  unfolding back
  gives = is.placed.give

  -- which is nothing if it is alone, or has room
  back_by : (d : Option Plan) (a : Bool) → is.placed.dir ≡ d → is_grown_alone (parts_with m nodes owners) (Some is.growth) ≡ a → back ≡ option_to_list (left_if d a owners w)
  unfolding back
  back_by d a same same_alone =
      ap₂ (λ (x : Option Plan) (gone : List ℕ). option_to_list (left_if x (is_grown_alone h w.grows) owners w) ++ gone) same none_gone
      ∙ ap (λ (b : Bool). option_to_list (left_if d b owners w) ++ []) (alone_is ∙ same_alone) ∙ by (left_if d a owners w)
    where
      by : (o : Option ℕ) → option_to_list o ++ [] ≡ option_to_list o
      by None = refl
      by (Some id) = refl

  pub none_there : is.placed.dir ≡ None → back ≡ []
  none_there same = back_by None (is_grown_alone (parts_with m nodes owners) (Some is.growth)) same refl

  pub none_alone : is_grown_alone (parts_with m nodes owners) (Some is.growth) ≡ true → back ≡ []
  none_alone e = by is.placed.dir refl
    where
      by : (d : Option Plan) → is.placed.dir ≡ d → back ≡ []
      by None same = none_there same
      by (Some q) same = back_by (Some q) true same e

  pub left_then : (q : Plan) → is.placed.dir ≡ Some q → is_grown_alone (parts_with m nodes owners) (Some is.growth) ≡ false → back ≡ option_to_list (left_among owners is.growth.node None)
  left_then q same e =
      back_by (Some q) false same e
      ∙ (λ i. option_to_list (option_and_then (λ (g : Growth). left_by_growth owners g.node (want.copy i)) (is.some i)))
      ∙ ap (λ (o : Option ℕ). option_to_list o) (left_is owners is.growth.node)
