-- `rename` by which a directory grows, on a new map: what is wanted, where the directory lies then, and, as it is placed beside a copy if there
-- is one, the steps of the map. `GrownRename` is what is known of it however it is placed; all laws of such a rename are about one.
use Rattle.fc_alloc.specs.declared.owner.Owner.{Owner}
use Rattle.fc_change.specs.GrownSpace.{IsGrown, IsGrownAt as IsGrownPlace, freed, gone_at_once, kept_parts, left_by_growth, left_if, plans_of, root_of}
use Rattle.fc_change.specs.Needs.{AreWants, HasRoomOf, IsGrowthOf, is_copied, len_at, room_of}
use Rattle.fc_change.specs.Places.{AreLeft, ArePlaced, IsCopiedFrom, IsPlaceFor, IsPlacingFor, extents_in, plan_in}
use Rattle.fc_change.specs.Shortage.{is_grown_alone}
use Rattle.fc_change.specs.Steps.{IsStep}
use Rattle.fc_change.specs.declared.change.Regrowth.{Regrowth}
use Rattle.fc_change.specs.declared.job.Growth.{Growth}
use Rattle.fc_change.specs.declared.job.Job.TheVariants as jobs
use Rattle.fc_change.specs.declared.job.Wants.{Wants}
use Rattle.fc_change.specs.declared.spaces.GrownPlace.{GrownPlace}
use Rattle.fc_change.specs.declared.spaces.Place.{Place}
use Rattle.fc_change.specs.declared.spaces.Spaces.{Spaces}
use Rattle.fc_commands.proofs.GrownSpaceLemmas.{left_is}
use Rattle.fc_commands.proofs.MoveLemmas.{IsSeen}
use Rattle.fc_device.specs.declared.disk.Extent.{Extent}
use Rattle.fc_drafts.specs.declared.room.Room.TheVariants as rooms
use Rattle.fc_image.specs.Layout.{Layout}
use Rattle.fc_image.specs.Walk.{Listing}
use Rattle.fc_laws.specs.agree.Agreed.{AgreeOn, parts_with}
use Rattle.fc_laws.specs.nodes.Edits.{Nodes}
use Rattle.fc_names.specs.Names.{Path}
use Rattle.fc_newmap.specs.Map.{Map}
use Rattle.fc_placing.specs.Leaving.{left_among}
use Rattle.fc_placing.specs.Places.{shared_id}
use Rattle.fc_placing.specs.declared.placing.Placing.{Placing}
use Rattle.fc_placing.specs.declared.placing.Placing.TheVariants as placings
use Rattle.fc_plan.specs.declared.plan.Plan.{Plan}
use Rattle.fc_record.specs.declared.Kind.{Kind}
use Rattle.fc_refusals.specs.declared.target.Renaming.{Renaming}
use Rattle.fc_tree.specs.Parts.{Parts}
use Rattle.fc_tree.specs.declared.node.Node.{Node}
use Rattle.std.proofs.Common.{Bool, List, None, Option, Some, [], ap, ap₂, arith, cond, false, refl, subst, sym, true, ℕ, ◌&&◌, ◌++◌, ◌==◌, ◌∙◌, ◌≡◌}
use Rattle.std.specs.Option.{option_and_then, option_to_list}
use Rattle.std.specs.Prelude.{Vec, is_none}
use Rattle.std.specs.declared.alloc.Global.{Global}

-- What is wanted of the disc, the place of the directory that grows, and a walk of the parts before it, which agree.
pub record GrownRename : Type 0 where
  pub kind : Kind
  pub m : Map
  pub nodes : Nodes
  pub owners : List Owner
  pub root : Node
  pub listings : List Listing
  pub from : Path
  pub to : Path
  pub r : Renaming
  pub name : List ℕ
  pub wants : Wants
  pub spaces : Spaces
  pub growth : Growth
  pub agreed : AgreeOn kind m nodes owners root listings
  pub seen : IsSeen (Layout.New m) nodes listings from to r name
  pub are : AreWants (parts_with m nodes owners) (jobs.Move r) name wants
  pub some : wants.grows ≡ Some growth
  -- where a copy lies, if there is one, and where the directory does
  pub placing : Placing
  pub object : IsPlaceFor m wants placing spaces.object
  pub read : IsCopiedFrom (Layout.New m) nodes wants.copied (extents_in spaces.copied)
  pub place : GrownPlace
  pub place_is : spaces.grown ≡ Some place
  pub node : place.directory.node ≡ growth.node
  pub len : place.directory.len ≡ growth.len

-- It is placed as a job is outside the safe mode.
abbrev pub IsPlacedRename : GrownRename → Type 0
IsPlacedRename q = ArePlaced q.m (parts_with q.m q.nodes q.owners) q.wants q.spaces

-- The grown directory is that of its growth, and as long.
grown_as : (m : Map) (h : Parts) (object : Option Plan) (g : Growth) (dir : Option Plan) (p : GrownPlace) → IsGrownPlace m h object g dir p → (p.directory.node ≡ g.node) × (p.directory.len ≡ g.len)
grown_as m h object g None p at = (ap (λ (d : Regrowth). d.node) at.directory, ap (λ (d : Regrowth). d.len) at.directory)
grown_as m h object g (Some plan) p at = (ap (λ (d : Regrowth). d.node) at.directory, ap (λ (d : Regrowth). d.len) at.directory)

pub grown_node : (m : Map) (h : Parts) (object : Option Plan) (g : Growth) (dir : Option Plan) (p : GrownPlace) → IsGrownPlace m h object g dir p → p.directory.node ≡ g.node
grown_node m h object g dir p at = (grown_as m h object g dir p at).0

-- So placed it has a place.
pub record IsPlaceOfGrowth (m : Map) (h : Parts) (g : Growth) (s : Spaces) : Type 0 where
  pub place : GrownPlace
  pub place_is : s.grown ≡ Some place
  pub node : place.directory.node ≡ g.node
  pub len : place.directory.len ≡ g.len

pub place_of : (m : Map) (h : Parts) (w : Wants) (s : Spaces) (g : Growth) → w.grows ≡ Some g → ArePlaced m h w s → IsPlaceOfGrowth m h g s
place_of m h w s g some placed = by s.grown refl (subst (λ (o : Option Growth). IsGrown m h (plan_in placed.placing) o placed.dir s.grown) some placed.grown)
  where
    by : (o : Option GrownPlace) → s.grown ≡ o → IsGrown m h (plan_in placed.placing) (Some g) placed.dir o → IsPlaceOfGrowth m h g s
    by None same at = absurd at
    by (Some p) same at =
        let both = grown_as m h (plan_in placed.placing) g placed.dir p at in
        record { place = p; place_is = same; node = both.0; len = both.1 }

module _ (q : GrownRename) where
  abbrev pub h : Parts
  h = parts_with q.m q.nodes q.owners

  pub node_is : q.growth.node ≡ q.r.holder
  node_is = subst (IsGrowthOf q.r.holder) q.some q.are.grown

  pub room_is : HasRoomOf q.nodes (jobs.Move q.r) q.name (rooms.Grows q.growth.len)
  room_is = subst (λ (g : Option Growth). HasRoomOf q.nodes (jobs.Move q.r) q.name (room_of g)) q.some q.are.room

  -- ---- the directory that grows

  abbrev pub grown : (p : GrownPlace) × (q.spaces.grown ≡ Some p)
  grown = (q.place, q.place_is)

  pub dir_is : q.place.directory.node ≡ q.r.holder
  dir_is = q.node ∙ node_is

-- ---- as it is placed

module _ (q : GrownRename) (pl : IsPlacedRename q) where
  -- the plans of a copy, if there is one, and of the directory, if it gets new space
  abbrev pub object : Option Plan
  object = plan_in pl.placing

  abbrev pub dir : Option Plan
  dir = pl.dir

  pub grown_at : IsGrownPlace q.m (parts_with q.m q.nodes q.owners) (plan_in pl.placing) q.growth pl.dir q.place
  grown_at =
      subst (λ (o : Option GrownPlace). IsGrown q.m (h q) object (Some q.growth) dir o) q.place_is
      (subst (λ (g : Option Growth). IsGrown q.m (h q) object g dir q.spaces.grown) q.some pl.grown)

  -- ---- the steps of the map

  abbrev pub alone : Bool
  alone = is_grown_alone (h q) (Some q.growth)

  alone_is : is_grown_alone (h q) q.wants.grows ≡ is_grown_alone (parts_with q.m q.nodes q.owners) (Some q.growth)
  alone_is = ap (is_grown_alone (h q)) q.some

  -- what goes back at last
  pub back : List ℕ
  back = freed (h q) q.wants dir ++ pl.gone

  none_gone : pl.gone ≡ []
  none_gone = subst (λ (o : Option ℕ). AreLeft q.owners o (shared_id pl.placing) pl.gone) q.are.left pl.left

  pub takes : IsStep q.m (plans_of (plan_in pl.placing) pl.dir) (gone_at_once pl.dir (is_grown_alone (parts_with q.m q.nodes q.owners) (Some q.growth)))
      (kept_parts pl.dir (is_grown_alone (parts_with q.m q.nodes q.owners) (Some q.growth))) (root_of (Some q.place)) q.spaces.take
  takes =
      subst (λ (a : Bool). IsStep q.m (plans_of object dir) (gone_at_once dir a) (kept_parts dir a) (root_of (Some q.place)) q.spaces.take) alone_is
      (subst (λ (o : Option GrownPlace). IsStep q.m (plans_of object dir) (gone_at_once dir (is_grown_alone (h q) q.wants.grows)) (kept_parts dir (is_grown_alone (h q) q.wants.grows)) (root_of o) q.spaces.take)
      q.place_is pl.take)

  pub gives : IsStep q.m [] back [] None q.spaces.give
  unfolding back
  gives = pl.give

  -- which is nothing if the directory is alone, or has room
  back_by : (d : Option Plan) (a : Bool) → pl.dir ≡ d → is_grown_alone (parts_with q.m q.nodes q.owners) (Some q.growth) ≡ a → back ≡ option_to_list (left_if d a q.owners q.wants)
  unfolding back
  back_by d a same same_alone =
      ap₂ (λ (x : Option Plan) (gone : List ℕ). option_to_list (left_if x (is_grown_alone (h q) q.wants.grows) q.owners q.wants) ++ gone) same none_gone
      ∙ ap (λ (b : Bool). option_to_list (left_if d b q.owners q.wants) ++ []) (alone_is ∙ same_alone) ∙ by (left_if d a q.owners q.wants)
    where
      by : (o : Option ℕ) → option_to_list o ++ [] ≡ option_to_list o
      by None = refl
      by (Some id) = refl

  pub none_there : pl.dir ≡ None → back ≡ []
  none_there same = back_by None (is_grown_alone (parts_with q.m q.nodes q.owners) (Some q.growth)) same refl

  pub none_alone : is_grown_alone (parts_with q.m q.nodes q.owners) (Some q.growth) ≡ true → back ≡ []
  none_alone e = by pl.dir refl
    where
      by : (d : Option Plan) → pl.dir ≡ d → back ≡ []
      by None same = none_there same
      by (Some plan) same = back_by (Some plan) true same e

  pub left_then : (plan : Plan) → pl.dir ≡ Some plan → is_grown_alone (parts_with q.m q.nodes q.owners) (Some q.growth) ≡ false
      → back ≡ option_to_list (left_by_growth q.owners q.growth.node q.wants.copied)
  left_then plan same e = back_by (Some plan) false same e ∙ (λ i. option_to_list (option_and_then (λ (g : Growth). left_by_growth q.owners g.node q.wants.copied) (q.some i)))

-- ---- without a copy

-- Nothing has a place but the directory.
module _ (q : GrownRename) (plain : is_copied (parts_with q.m q.nodes q.owners) q.r ≡ false) where
  pub no_bytes : q.wants.bytes ≡ 0
  no_bytes = q.are.bytes ∙ ap (λ (b : Bool). cond b (len_at q.nodes q.r.target.node) 0) plain

  pub no_copy : q.wants.copied ≡ None
  no_copy = q.are.copy ∙ ap (λ (b : Bool). let o : Option ℕ = cond b (Some q.r.target.node) None in o) plain

  pub no_place : q.spaces.object ≡ None
  no_place = by q.spaces.object q.object
    where
      by : (o : Option Place) → IsPlaceFor q.m q.wants q.placing o → o ≡ None
      by None is = refl
      by (Some x) is = absurd (let wanted = is.2 in let both : true ≡ false = sym (ap₂ (λ (n : ℕ) (y : Option ℕ). (n == 0) && is_none y) no_bytes q.are.slack) ∙ wanted in cc)

  pub none_copied : q.spaces.copied ≡ None
  none_copied = by q.wants.copied q.spaces.copied no_copy q.read
    where
      by : (c : Option ℕ) (v : Option (Vec Extent Global)) → c ≡ None → IsCopiedFrom (Layout.New q.m) q.nodes c (extents_in v) → v ≡ None
      by None None e is = refl
      by None (Some v) e is = absurd is
      by (Some n) v e is = absurd (cc)

module _ (q : GrownRename) (pl : IsPlacedRename q) (plain : is_copied (parts_with q.m q.nodes q.owners) q.r ≡ false) where
  pub nowhere : pl.placing ≡ placings.Nowhere
  nowhere = by pl.placing pl.is
    where
      by : (x : Placing) → IsPlacingFor q.m q.owners q.wants x → x ≡ placings.Nowhere
      by placings.Nowhere is = refl
      by (placings.Shared share) is = absurd (let there = sym is.1 ∙ q.are.slack in cc)
      by (placings.New plan) is = absurd (let some = is.1.some in let none = no_bytes q plain in omega (arith, some, none))

  pub no_plan : plan_in pl.placing ≡ None
  no_plan = ap plan_in nowhere

  pub left_plain : (plan : Plan) → pl.dir ≡ Some plan → is_grown_alone (parts_with q.m q.nodes q.owners) (Some q.growth) ≡ false
      → back q pl ≡ option_to_list (left_among q.owners q.growth.node None)
  left_plain plan same e =
      left_then q pl plan same e ∙ ap (λ (c : Option ℕ). option_to_list (left_by_growth q.owners q.growth.node c)) (no_copy q plain) ∙ ap (λ (o : Option ℕ). option_to_list o) (left_is q.owners q.growth.node)
