-- What a copied file wants, and its place: new space of its own. The map takes it, and nothing goes back.
use Rattle.std.proofs.Common.{◌≡◌, ◌<◌, ℕ, Bool, true, false, cond, List, [], ◌∷◌, refl, sym, ap, subst, ◌∙◌, arith, Option, Some, None}
use Rattle.std.specs.Prelude.{◌&&◌, Vec, is_none}
use Rattle.std.specs.declared.alloc.Global.{Global}
use Rattle.std.specs.Option.{option_to_list}
use Rattle.fc_alloc.specs.declared.owner.Owner.{Owner}
use Rattle.fc_device.specs.declared.disk.Extent.{Extent}
use Rattle.fc_drafts.specs.declared.room.Room.TheVariants as rooms
use Rattle.fc_newmap.specs.Map.{Map}
use Rattle.fc_image.specs.Layout.{Layout}
use Rattle.fc_laws.specs.nodes.Edits.{Nodes}
use Rattle.fc_laws.specs.agree.Agreed.{parts_with}
use Rattle.fc_objects.specs.Extents.{sectors_in}
use Rattle.fc_placing.specs.Places.{IsOwnPlan, address_in, shared_id}
use Rattle.fc_placing.specs.declared.placing.Placing.{Placing}
use Rattle.fc_placing.specs.declared.placing.Placing.TheVariants as placings
use Rattle.fc_plan.specs.declared.plan.Plan.{Plan}
use Rattle.fc_refusals.specs.declared.target.Renaming.{Renaming}
use Rattle.fc_tree.specs.Parts.{Parts}
use Rattle.fc_change.specs.declared.job.Growth.{Growth}
use Rattle.fc_change.specs.declared.job.Job.TheVariants as jobs
use Rattle.fc_change.specs.declared.job.Wants.{Wants}
use Rattle.fc_change.specs.declared.spaces.GrownPlace.{GrownPlace}
use Rattle.fc_change.specs.declared.spaces.Place.{Place}
use Rattle.fc_change.specs.declared.spaces.Spaces.{Spaces}
use Rattle.fc_change.specs.GrownSpace.{IsGrown, place_of_plan}
use Rattle.fc_change.specs.Needs.{AreWants, HasRoomOf, is_copied, len_at, room_of}
use Rattle.fc_change.specs.Places.{AreLeft, ArePlaced, IsCopiedFrom, IsPlaceFor, IsPlaceOf, IsPlacingFor, extents_in, is_directory, own_address, plan_in}
use Rattle.fc_change.specs.Steps.{IsStep}
use Rattle.fc_commands.proofs.RoomyLemmas.{NoneGrows}
use Rattle.fc_commands.proofs.NewSpotLemmas.{gives, takes}

module _ (m : Map) (nodes : Nodes) (owners : List Owner) (r : Renaming) (name : List ℕ) where
  abbrev h : Parts
  h = parts_with m nodes owners

  -- as many bytes as it has, never in slack, for a copy
  pub record IsCopyWanted (w : Wants) : Type 0 where
    pub bytes : w.bytes ≡ len_at nodes r.target.node
    pub slack : w.shares ≡ None
    pub copy : w.copied ≡ Some r.target.node
    pub goes : w.goes ≡ None
    pub grows : w.grows ≡ None
    pub room : HasRoomOf nodes (jobs.Move r) name rooms.Fits

  pub copy_wanted : (w : Wants) → NoneGrows (parts_with m nodes owners) (jobs.Move r) name → is_copied (parts_with m nodes owners) r ≡ true → AreWants (parts_with m nodes owners) (jobs.Move r) name w → IsCopyWanted w
  copy_wanted w grows copied are = record {
    bytes = are.bytes ∙ ap (λ (b : Bool). let n : ℕ = cond b (len_at nodes r.target.node) 0 in n) copied;
    slack = are.slack;
    copy = are.copy ∙ ap (λ (b : Bool). let n : Option ℕ = cond b (Some r.target.node) None in n) copied;
    goes = are.left;
    grows = grows w are;
    room = subst (λ (g : Option Growth). HasRoomOf nodes (jobs.Move r) name (room_of g)) (grows w are) are.room;
  }

  -- ---- where it lies

  -- Its new space, and where it is copied from.
  pub record IsCopyPlaced (w : Wants) (s : Spaces) (q : Placing) : Type 0 where
    pub plan : Plan
    pub plan_is : q ≡ placings.New plan
    pub own : IsOwnPlan m w.bytes plan
    pub place : Place
    pub object : s.object ≡ Some place
    pub address : place.address ≡ address_in m (placings.New plan) w.bytes
    pub sectors : sectors_in place.extents.items ≡ place_of_plan m.geometry plan w.bytes
    pub from : Vec Extent Global
    pub copied : s.copied ≡ Some from
    pub lies : IsPlaceOf (Layout.New m) nodes r.target.node from.items
    pub grown : s.grown ≡ None
    pub take : IsStep m (plan ∷ []) [] [] None s.take
    pub give : IsStep m [] [] [] None s.give

  module _ (w : Wants) (is : IsCopyWanted w) (some : 0 < w.bytes) where
    plan_of : (q : Placing) → IsPlacingFor m owners w q → (plan : Plan) × (q ≡ placings.New plan) × IsOwnPlan m w.bytes plan
    plan_of placings.Nowhere at = absurd (omega (arith, some, at))
    plan_of (placings.Shared share) at = absurd (let there = sym at.1 ∙ is.slack in cc)
    plan_of (placings.New plan) at = (plan, refl, at.1)

    no_folder : is_directory w ≡ false
    no_folder = ap (λ (o : Option ℕ). is_none w.shares && is_none o) is.copy ∙ ap (λ (o : Option ℕ). is_none o && false) is.slack

    place_at : (plan : Plan) (o : Option Place) → IsPlaceFor m w (placings.New plan) o
        → (p : Place) × (o ≡ Some p) × (p.address ≡ address_in m (placings.New plan) w.bytes) × (sectors_in p.extents.items ≡ place_of_plan m.geometry plan w.bytes)
    place_at plan (Some p) at = (p, refl, at.0 ∙ ap (λ (b : Bool). own_address b m w.bytes plan) no_folder, at.1)
    place_at plan None at = absurd (omega (arith, some, at.0))

    from_at : (n : Option ℕ) (o : Option (Vec Extent Global)) → n ≡ Some r.target.node → IsCopiedFrom (Layout.New m) nodes n (extents_in o)
        → (v : Vec Extent Global) × (o ≡ Some v) × IsPlaceOf (Layout.New m) nodes r.target.node v.items
    from_at (Some n) (Some v) same at = (v, refl, subst (λ (k : ℕ). IsPlaceOf (Layout.New m) nodes k v.items) (one n r.target.node same) at)
      where
        one : (a b : ℕ) → (let q : Option ℕ = Some a in q) ≡ Some b → a ≡ b
        one a b e = cc
    from_at (Some n) None same at = absurd at
    from_at None o same at = absurd (cc)

    none_grown : (object dir : Option Plan) (place : Option GrownPlace) → IsGrown m h object w.grows dir place → (dir ≡ None) × (place ≡ None)
    none_grown object dir place at = subst (λ (g : Option Growth). IsGrown m h object g dir place) is.grows at

    pub copy_placed : (s : Spaces) (placed : ArePlaced m (parts_with m nodes owners) w s) → IsCopyPlaced w s placed.placing
    copy_placed s placed =
        let p = plan_of placed.placing placed.is in
        let o = place_at p.0 s.object (subst (λ (q : Placing). IsPlaceFor m w q s.object) p.1 placed.object) in
        let from = from_at w.copied s.copied is.copy placed.copied in
        let none = none_grown (plan_in placed.placing) placed.dir s.grown placed.grown in
        let left : placed.gone ≡ [] = subst (λ (n : Option ℕ). AreLeft owners n (shared_id placed.placing) placed.gone) is.goes placed.left in
        record {
          plan = p.0;
          plan_is = p.1;
          own = p.2;
          place = o.0;
          object = o.1;
          address = o.2;
          sectors = o.3;
          from = from.0;
          copied = from.1;
          lies = from.2;
          grown = none.1;
          take = subst (λ (q : Placing). IsStep m (option_to_list (plan_in q)) [] [] None s.take) p.1 (takes m h w s placed none.0 none.1);
          give = subst (λ (gs : List ℕ). IsStep m [] gs [] None s.give) left (gives m h w s placed none.0 none.1);
        }
