-- The place of what comes on a new map, as the placer found it: its steps, and what it is among the objects.
use Rattle.std.proofs.Common.{◌≡◌, ◌<◌, ◌+◌, ◌*◌, ◌++◌, ◌⊎◌, inl, inr, ℕ, Bool, true, false, cond, List, [], refl, sym, ap, subst, ◌∙◌, arith, Option, Some, None}
use Rattle.std.specs.Option.{option_to_list}
use Rattle.fc_names.specs.Names.{Path}
use Rattle.fc_alloc.specs.declared.owner.Owner.{Owner}
use Rattle.fc_record.specs.declared.Geometry.{Geometry}
use Rattle.fc_newmap.specs.Map.{Map, bits_in}
use Rattle.fc_newmap.specs.NewMap.{IsNewMap}
use Rattle.fc_image.specs.Layout.{Layout, id_of, sectors_at}
use Rattle.fc_image.specs.Objects.{objects_of}
use Rattle.fc_image.specs.Sound.{AreSound}
use Rattle.fc_image.specs.Walk.{Listing, Object}
use Rattle.fc_image.specs.effects.Placed.{file_low, has_spare_share}
use Rattle.fc_image.specs.effects.Sharing.{slack}
use Rattle.fc_changes.specs.Changed.{IsFileAt, IsInNewSpace}
use Rattle.fc_changes.proofs.PlacedLemmas.{is_shared}
use Rattle.fc_laws.specs.nodes.Edits.{Nodes}
use Rattle.fc_objects.specs.Extents.{sectors_in}
use Rattle.fc_placing.specs.Places.{IsFilePlace, address_in, id_in, parts_in, slack_left}
use Rattle.fc_placing.specs.declared.placing.Placing.{Placing}
use Rattle.fc_placing.specs.declared.placing.Placing.TheVariants as placings
use Rattle.fc_placing.proofs.PlacedLemmas.{place_law}
use Rattle.fc_placing.proofs.SlackLemmas.{same_slack}
use Rattle.fc_plan.specs.declared.plan.Plan.{Plan}
use Rattle.fc_plan.specs.Parts.{fronts}
use Rattle.fc_placing.specs.declared.share.Share.{Share}
use Rattle.fc_placing.specs.Slack.{place_in}
use Rattle.fc_tree.specs.Nodes.{HoldObjects, number_of}
use Rattle.fc_tree.specs.Parts.{AreOwners, Parts}
use Rattle.fc_change.specs.declared.job.Wants.{Wants}
use Rattle.fc_change.specs.declared.spaces.GrownPlace.{GrownPlace}
use Rattle.fc_change.specs.declared.spaces.Place.{Place}
use Rattle.fc_change.specs.declared.spaces.Spaces.{Spaces}
use Rattle.fc_change.specs.GrownSpace.{freed, gone_at_once, kept_parts, plans_of, root_of}
use Rattle.fc_change.specs.Places.{ArePlaced, IsPlaceFor, IsPlacingFor, address_for, is_directory, own_address, plan_in}
use Rattle.fc_change.specs.Shortage.{is_grown_alone}
use Rattle.fc_change.specs.Steps.{IsStep}
use Rattle.fc_commands.proofs.NewPlaceLemmas.{LiesBy}
use Rattle.fc_commands.proofs.SpaceLemmas.{CanTakeIf}
use Rattle.fc_commands.proofs.StepLemmas.{StaysTaken}
use Rattle.fc_changes.proofs.NewPlaceLemmas.{none_at}

-- ---- steps without growth

-- On a new map no directory grows: only the object's plan is taken, and nothing goes back but what it leaves.
module _ (m : Map) (h : Parts) (w : Wants) (s : Spaces) (placed : ArePlaced m h w s) (no_plan : placed.dir ≡ None) (no_place : s.grown ≡ None) where
  pub takes : IsStep m (option_to_list (plan_in placed.placing)) [] [] None s.take
  takes =
      let alone = is_grown_alone h w.grows in
      let object = plan_in placed.placing in
      subst (λ (d : Option Plan). IsStep m (plans_of object d) (gone_at_once d alone) (kept_parts d alone) None s.take) no_plan
      (subst (λ (g : Option GrownPlace). IsStep m (plans_of object placed.dir) (gone_at_once placed.dir alone) (kept_parts placed.dir alone) (root_of g) s.take) no_place placed.take)

  pub gives : IsStep m [] placed.gone [] None s.give
  gives = subst (λ (d : Option Plan). IsStep m [] (freed h w d ++ placed.gone) [] None s.give) no_plan placed.give

-- ---- plans and places

can_take_if : (m : Map) (owners : List Owner) (w : Wants) (q : Placing) → IsPlacingFor m owners w q → CanTakeIf m (plan_in q)
can_take_if m owners w placings.Nowhere is = tt
can_take_if m owners w (placings.Shared share) is = tt
can_take_if m owners w (placings.New plan) is = is.1.can

stays_if : (q : Placing) → StaysTaken (plan_in q) []
stays_if placings.Nowhere = tt
stays_if (placings.Shared share) = tt
stays_if (placings.New plan) = refl

pub can_take_it : (m : Map) (h : Parts) (w : Wants) (s : Spaces) (placed : ArePlaced m h w s) → CanTakeIf m (plan_in placed.placing)
can_take_it m h w s placed = can_take_if m h.owners w placed.placing placed.is

-- If nothing goes back, what is taken stays.
pub stays_taken : (q : Placing) (gone : List ℕ) → gone ≡ [] → StaysTaken (plan_in q) gone
stays_taken q gone none = subst (StaysTaken (plan_in q)) (sym none) (stays_if q)

one_or_none : (b : Bool) → (let n : ℕ = cond b 1 0 in n) < 2
one_or_none true = omega arith
one_or_none false = omega arith

pub low_two : (g : Geometry) (room bytes : ℕ) → file_low g room bytes < 2
low_two g room bytes = one_or_none (has_spare_share g room bytes)

-- how far into its identifier an object of its own begins
own_low : (m : Map) (bytes : ℕ) (plan : Plan) (b : Bool) → (low : ℕ) × (low < 2) × (own_address b m bytes plan ≡ 256 * plan.id + low)
own_low m bytes plan true = (0, omega arith, omega arith)
own_low m bytes plan false = (
  file_low m.geometry (bits_in (fronts plan.parts.items) * m.geometry.bit_bytes) bytes,
  low_two m.geometry (bits_in (fronts plan.parts.items) * m.geometry.bit_bytes) bytes,
  refl,
)

-- ---- among the objects of a walk

module _ (m : Map) (nodes : Nodes) (owners : List Owner) (is : IsNewMap m) (listings : List Listing) (sound : AreSound (Layout.New m) listings) (held : HoldObjects nodes listings)
    (owned : AreOwners owners nodes (Layout.New m) (objects_of listings)) (near : Path) (dir : ℕ) (numbered : number_of nodes near ≡ Some dir) (w : Wants) where
  -- the slack is that of the directory that lists it
  share_left : w.shares ≡ Some dir → (share : Share) → IsPlacingFor m owners w (placings.Shared share) → slack_left m owners dir w.bytes ≡ Some (place_in share)
  share_left shares share at = subst (λ (d : ℕ). slack_left m owners d w.bytes ≡ Some (place_in share)) (same at.0 dir (sym at.1 ∙ shares)) at.2
    where
      same : (a b : ℕ) → (let q : Option ℕ = Some a in q) ≡ Some b → a ≡ b
      same a b e = cc

  pub share_there : w.shares ≡ Some dir → (share : Share) → IsPlacingFor m owners w (placings.Shared share) → slack m (objects_of listings) near w.bytes ≡ Some (place_in share)
  share_there shares share at = sym (same_slack m nodes listings owners near dir w.bytes is sound held owned numbered) ∙ share_left shares share at

  share_id : (id low : ℕ) → low < 256 → id_of (256 * id + low) ≡ id
  share_id id low small = omega (arith, small)

  -- it lies where its placing says
  pub lies_by : (q : Placing) (p : Place) → (w.shares ≡ None) ⊎ (w.shares ≡ Some dir) → IsPlacingFor m owners w q → IsPlaceFor m w q (Some p) → LiesBy m w.bytes q p.address (sectors_in p.extents.items)
  lies_by placings.Nowhere p shares at place =
      (at, none_at (Layout.New m) p.address (sectors_in p.extents.items) (subst (λ (n : ℕ). sectors_at (Layout.New m) p.address n ≡ Some (sectors_in p.extents.items)) at place.1))
  lies_by (placings.Shared share) p (inl alone) at place = absurd (let some = sym at.1 ∙ alone in cc)
  lies_by (placings.Shared share) p (inr shares) at place =
      let sh = is_shared m (objects_of listings) near w.bytes (place_in share) (share_there shares share at) in
      (ap id_of place.0 ∙ share_id share.id share.low sh.low, place.1)
  lies_by (placings.New plan) p shares at place = let low = own_low m w.bytes plan (is_directory w) in (at.1, (low.0, low.1, place.0 ∙ low.2), place.1)

  -- a file is where files are that come to this directory
  pub file_place : w.shares ≡ Some dir → (q : Placing) → IsPlacingFor m owners w q → IsFilePlace m owners dir w.bytes q
  file_place shares placings.Nowhere at = at
  file_place shares (placings.Shared share) at = share_left shares share at
  file_place shares (placings.New plan) at = (at.0 dir shares, at.1)

  pub file_address : is_directory w ≡ false → (q : Placing) → address_for m w q ≡ address_in m q w.bytes
  file_address file placings.Nowhere = refl
  file_address file (placings.Shared share) = refl
  file_address file (placings.New plan) = ap (λ (b : Bool). own_address b m w.bytes plan) file

  pub file_spot : (q : Placing) (o : Object) → w.shares ≡ Some dir → is_directory w ≡ false → IsPlacingFor m owners w q → o.entry.address ≡ address_for m w q → IsFileAt m (objects_of listings) near w.bytes (id_in q) (parts_in q) o
  file_spot q o shares file at address = place_law.file m nodes listings owners near dir w.bytes q o is sound held owned numbered (file_place shares q at) (address ∙ file_address file q)

-- a directory is in new space
pub directory_spot : (m : Map) (owners : List Owner) (w : Wants) (q : Placing) (o : Object) → w.shares ≡ None → (w.bytes ≡ 0 → ⊥) → is_directory w ≡ true → IsPlacingFor m owners w q → o.entry.address ≡ address_for m w q
    → IsInNewSpace m w.bytes 0 (id_in q) (parts_in q) o
directory_spot m owners w placings.Nowhere o alone some directory at address = absurd (some at)
directory_spot m owners w (placings.Shared share) o alone some directory at address = absurd (let there = sym at.1 ∙ alone in cc)
directory_spot m owners w (placings.New plan) o alone some directory at address =
    place_law.alone m w.bytes 0 plan o at.1 (address ∙ ap (λ (b : Bool). own_address b m w.bytes plan) directory ∙ (let n : 256 * plan.id ≡ 256 * plan.id + 0 = omega arith in n))
