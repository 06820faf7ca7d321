-- A new object's place by its placing in the safe mode, if a directory grows: what lies there, whose identifier it has, and where it is once
-- the map has it.
use Rattle.std.proofs.Common.{◌≡◌, ◌<◌, ◌≤◌, ◌+◌, ◌*◌, ◌==◌, ◌&&◌, ◌||◌, ◌⊎◌, inl, inr, ⊎_elim, ℕ, zero, suc, Bool, true, false, not, cond, List, [], ◌∷◌, ◌++◌, length, map, take, refl, sym, ap, ap₂, subst, ◌∙◌, arith, eq-eqb, Option, Some, None}
use Rattle.std.specs.Prelude.{Contains, drop, is_none, is_some, nat_lt}
use Rattle.std.specs.List.{range_with_len}
use Rattle.std.specs.Option.{option_and_then, option_map}
use Rattle.std.specs.Int.{div_ceil}
use Rattle.std.specs.List.{list_any}
use Rattle.fc_alloc.specs.Owners.{owns}
use Rattle.std.proofs.lemmas.Bool.{and_parts, eqb-true, le-leb, ltb-true, ne_eqb}
use Rattle.fc_names.specs.Names.{Path}
use Rattle.fc_record.specs.declared.Geometry.{Geometry}
use Rattle.fc_record.specs.Record.{id_limit}
use Rattle.fc_newmap.specs.Map.{Map, ZoneRun, bits_in, hole_runs, id_runs, is_used, map_sectors, sectors_of}
use Rattle.fc_image.specs.Edits.{IsAt}
use Rattle.fc_image.specs.Layout.{Layout, dir_form, disc_sectors, hole_sectors, id_of, id_sectors, is_among, is_apart, low_of, sectors_at}
use Rattle.fc_image.specs.Objects.{has_sectors, is_movable, is_owner_of, objects_of}
use Rattle.fc_image.specs.Walk.{Object, is_directory_object, object_size}
use Rattle.fc_image.specs.effects.Placed.{file_low, first_low}
use Rattle.fc_image.specs.effects.Sharing.{new_ids, slack, units}
use Rattle.fc_image.specs.safe.SafeSteady.{SafeObjectPlaced}
use Rattle.fc_image.proofs.HolesLemmas.{apart_at, apart_from, in_id}
use Rattle.fc_changes.proofs.BasicLemmas.{clash}
use Rattle.fc_changes.proofs.ChangeLemmas.{a_sector}
use Rattle.fc_changes.proofs.NewPlaceLemmas.{none_at, some_there}
use Rattle.fc_changes.proofs.PlacedLemmas.{IsShared, is_shared}
use Rattle.fc_laws.proofs.lemmas.agree.BeforeLemmas.{agreed_law, new_shape, no_hole}
use Rattle.fc_laws.proofs.lemmas.takeover.WriteLemmas.{apart_of}
use Rattle.fc_objects.specs.Extents.{sectors_in}
use Rattle.fc_objects.specs.Written.{AreApart}
use Rattle.fc_plan.specs.declared.plan.Part.{Part}
use Rattle.fc_plan.specs.declared.plan.Plan.{Plan}
use Rattle.fc_plan.specs.Applied.{IsTakenIn, unless_gone}
use Rattle.fc_plan.specs.Giving.{is_one_of}
use Rattle.fc_plan.specs.Parts.{fronts}
use Rattle.fc_placing.specs.Extents.{parts_met}
use Rattle.fc_placing.specs.Leaving.{is_kept}
use Rattle.fc_placing.specs.Places.{slack_left}
use Rattle.fc_placing.specs.declared.placing.Placing.{Placing}
use Rattle.fc_placing.specs.declared.placing.Placing.TheVariants as placings
use Rattle.fc_placing.proofs.PlacedLemmas.{place_law}
use Rattle.fc_placing.specs.declared.share.Share.{Share}
use Rattle.fc_placing.specs.Slack.{place_in}
use Rattle.fc_alloc.specs.declared.owner.Owner.{Owner}
use Rattle.fc_tree.specs.Nodes.{number_of}
use Rattle.fc_tree.specs.Parts.{owner_of}
use Rattle.fc_tree.proofs.MemberLemmas.{contains_here}
use Rattle.fc_tree.proofs.WalkedLemmas.{listed_directory, same_some}
use Rattle.fc_edits.specs.NewNodes.{AreDistinct}
use Rattle.fc_edits.specs.NewPlaces.{is_taken}
use Rattle.fc_change.specs.declared.job.Growth.{Growth}
use Rattle.fc_change.specs.declared.job.Wants.{Wants}
use Rattle.fc_change.specs.declared.spaces.Place.{Place}
use Rattle.fc_change.specs.declared.spaces.Spaces.{Spaces}
use Rattle.fc_change.specs.GrownSpace.{place_of_plan, plan_sectors}
use Rattle.fc_change.specs.Places.{IsPlaceFor, IsPlacingFor, address_for, is_directory, own_address}
use Rattle.fc_change.specs.Shortage.{bytes_left, slack_for}
use Rattle.fc_change.proofs.LeadsLemmas.{IsPlaceable, leads}
use Rattle.fc_commands.proofs.NewPlaceLemmas.{IsRoomBeside, at_none, hole_apart, hole_on_disc, room_beside}
use Rattle.fc_commands.proofs.NewSpotLemmas.{file_spot, lies_by, low_two, share_there}
use Rattle.fc_safe.specs.FirstNeeds.{first_gone, moving_out, need_of, out_need, own_need, shared_by}
use Rattle.fc_safe.specs.Needs.{AreMet, HaveIds, IsIdOf, bits_of, parts_of}
use Rattle.fc_safe.specs.declared.needs.Need.{Need}
use Rattle.fc_safe.specs.FirstSpace.{ArePlacedFirst, IsFirstOf, IsFirstPlacing, IsLastIf}
use Rattle.fc_safe.specs.Gone.{is_lost_by}
use Rattle.fc_safe.specs.Staying.{remains}
use Rattle.fc_safe.proofs.ListLemmas.{any_of}
use Rattle.fc_edits.proofs.lemmas.IdentifierLemmas.{used_of}
use Rattle.fc_safeedits.specs.SafePlaces.{moves_by}
use Rattle.fc_safeedits.specs.SafeSpace.{takings_of}
use Rattle.fc_safecommands.proofs.PlansApartLemmas.{place_free, place_once}
use Rattle.fc_safecommands.proofs.SpotLemmas.{bits_taken, id_no_hole, no_slack, slack_files}
use Rattle.fc_safecommands.proofs.GrownChangeLemmas.{moved_is}
use Rattle.fc_safecommands.proofs.GrownLaidLemmas.{Stretch, at_address, grown, grown_leaves, grown_new, grown_stays, laid, laid_at, leaves_plan}
use Rattle.fc_safecommands.proofs.GrownSpotLemmas as spots
use Rattle.fc_safecommands.proofs.GrownSpotLemmas.{IsThere, spot, spot_free}
use Rattle.fc_safecommands.proofs.StretchLemmas.{stretch_beside}
use Rattle.fc_safecommands.proofs.GrownStirLemmas.{GrowingJob, changed_moves, changed_object, end, h, ids, leaving, moves, moves_high, moves_of, own_bytes, sound, y}
use Rattle.fc_safecommands.proofs.GrownOwnPlanLemmas.{IsFirstPlan, beside_own, directory_of, first_plan, fresh, grown_id, grown_moves, never_last}
use Rattle.fc_safecommands.proofs.GrownPutLemmas.{LiesBeside}
use Rattle.fc_safecommands.proofs.FitLemmas.{first_enough}
use Rattle.fc_safecommands.proofs.GrownSpaceLemmas.{can, once, out_is, placeable, plan_at, plan_bounds, unused, used}
use Rattle.fc_safecommands.proofs.StirredSpaceLemmas.{can_member, first_of as first_fits, range_once, rest_in}
use Rattle.fc_safecommands.proofs.GrownStepLemmas.{gone_is, grown_at, shared}

module _ (x : GrowingJob) (s : Spaces) (placed : ArePlacedFirst x.m (h x) x.job x.wants s) where
  abbrev w : Wants
  w = x.wants

  -- the map after the step
  pub record IsMapThen (m' : Map) : Type 0 where
    pub geometry : m'.geometry ≡ x.m.geometry
    pub taken : (q : Plan) → Contains placed.plans q → IsTakenIn m' q
    pub others : (k : ℕ) → is_taken (takings_of placed.plans) k ≡ false → id_runs m' k ≡ unless_gone (first_gone x.m (h x) x.job x.wants) k (id_runs x.m k)

  -- Nothing lies there, and its identifier doesn't move: it is new, or that of files whose slack it shares. There it lies by the map after
  -- the step.
  pub record IsSpot (o : Object) : Type 0 where
    pub lies : LiesBeside x s placed o.sectors
    pub still : moves_by x.m (takings_of placed.plans) (id_of o.entry.address) ≡ false
    pub goes_to : (k : ℕ) → is_used x.m k ≡ true → is_owner_of k o ≡ is_kept (shared x) k
    pub may : (k : ℕ) → is_owner_of k o ≡ true → is_used x.m k ≡ true → is_movable (objects_of x.listings) k ≡ true
    pub at : (m' : Map) → IsMapThen m' → IsAt (Layout.New m') o
    pub first : 0 < own_bytes x → (rest : List ℕ) × (new_ids x.m ≡ id_of o.entry.address ∷ rest)
    pub empty : x.wants.bytes ≡ 0 → o.entry.address ≡ 0
    pub object : (m' : Map) → IsMapThen m' → SafeObjectPlaced x.m m' (units x.m.geometry (own_bytes x)) (slack_for x.m x.owners x.wants) (Some o)
    pub other : id_of o.entry.address ≡ id_of (grown_at x s placed).0.directory.address → ⊥

  -- no slack without bytes, and no identifier is shared without slack
  slack_none : x.wants.bytes ≡ 0 → slack_for x.m x.owners x.wants ≡ None
  slack_none none = by x.wants.shares
    where
      by : (d : Option ℕ) → option_and_then (λ (dir : ℕ). slack_left x.m x.owners dir x.wants.bytes) d ≡ None
      by None = refl
      by (Some dir) = no_slack _ x.m _ dir x.wants.bytes none

  none_shared : slack_for x.m x.owners x.wants ≡ None → (k : ℕ) → is_kept (shared x) k ≡ false
  none_shared none k = ap (λ (o : Option (ℕ × ℕ)). is_kept (option_map (λ (share : ℕ × ℕ). share.0) o) k) none

  own_all : slack_for x.m x.owners x.wants ≡ None → own_bytes x ≡ x.wants.bytes
  own_all none = ap (λ (o : Option (ℕ × ℕ)). let n : ℕ = cond (is_some o) 0 x.wants.bytes in n) none

  own_none : (share : ℕ × ℕ) → slack_for x.m x.owners x.wants ≡ Some share → own_bytes x ≡ 0
  own_none share some = ap (λ (o : Option (ℕ × ℕ)). let n : ℕ = cond (is_some o) 0 x.wants.bytes in n) some

  none_moves : (k : ℕ) → (moves x k ≡ true → ⊥) → moves_by x.m (takings_of placed.plans) k ≡ false
  none_moves k none = by (moves_by x.m (takings_of placed.plans) k) refl
    where
      by : (b : Bool) → moves_by x.m (takings_of placed.plans) k ≡ b → b ≡ false
      by false e = refl
      by true e = absurd (none (moved_is x s placed k e))

  false_of : (b : Bool) → (b ≡ true → ⊥) → b ≡ false
  false_of true never = absurd (never refl)
  false_of false never = refl

  module _ (o : Object) (p : Place) (address : o.entry.address ≡ p.address) (sectors : o.sectors ≡ sectors_in p.extents.items) (size : object_size (dir_form (Layout.New x.m)) o.entry ≡ x.wants.bytes) where
    size_then : (m' : Map) → m'.geometry ≡ x.m.geometry → object_size (dir_form (Layout.New m')) o.entry ≡ x.wants.bytes
    size_then m' same = ap (λ (f : Geometry). object_size (dir_form (Layout.New (record { geometry = f; zones = [] }))) o.entry) same ∙ size

    -- ---- nowhere

    pub nowhere : x.wants.bytes ≡ 0 → IsPlaceFor x.m x.wants placings.Nowhere (Some p) → IsSpot o
    nowhere none place = record {
      lies = record {
        free = λ u e. absurd (off u e);
        room = record {
          low = λ u e. absurd (off u e);
          once = subst AreApart (sym empty_is) (λ i j less low same. omega (arith, low));
          beside = apart_from o.sectors (map_sectors x.m.geometry) (λ u e f. off u e);
        };
        apart = λ q at. apart_from q.sectors o.sectors (λ u e f. off u f);
        beside = λ q st u e f. off u e;
      };
      still = none_moves (id_of o.entry.address) (λ e. (let high = (moves_high x (id_of o.entry.address) e).0 in let id : id_of o.entry.address ≡ 0 = ap id_of at_zero in omega (arith, high, id)));
      goes_to = λ k has. not_owner k ∙ sym (none_shared (slack_none none) k);
      may = λ k owns has. absurd (let no = not_owner k in cc);
      at = λ m' after. at_none (Layout.New m') o.entry.address (object_size (dir_form (Layout.New m')) o.entry) o.sectors (size_then m' after.geometry ∙ none) empty_is;
      first = λ some. absurd (let all = own_all (slack_none none) in omega (arith, some, all, none));
      empty = λ e. at_zero;
      other = λ same. (let low = (plan_bounds x s placed (grown_at x s placed).2.plan (grown_at x s placed).2.among).0 in
          let id : id_of o.entry.address ≡ 0 = ap id_of at_zero in
          let plan = (grown_at x s placed).2.id in omega (arith, low, id, same, plan));
      object = λ m' after.
          subst (λ (share : Option (ℕ × ℕ)). SafeObjectPlaced x.m m' (units x.m.geometry (own_bytes x)) share (Some o)) (sym (slack_none none))
          (λ some. absurd (no_units (own_bytes x) (own_all (slack_none none) ∙ none) some));
    }
      where
        at_zero : o.entry.address ≡ 0
        at_zero = address ∙ place.0

        empty_is : o.sectors ≡ []
        empty_is = sectors ∙ none_at (Layout.New x.m) p.address (sectors_in p.extents.items) (subst (λ (n : ℕ). sectors_at (Layout.New x.m) p.address n ≡ Some (sectors_in p.extents.items)) none place.1)

        off : (u : ℕ) → is_among o.sectors u ≡ true → ⊥
        off u e = let no : is_among [] u ≡ true = ap (λ (ss : List ℕ). is_among ss u) (sym empty_is) ∙ e in cc

        not_owner : (k : ℕ) → is_owner_of k o ≡ false
        not_owner k = ap (λ (ss : List ℕ). nat_lt 0 (length ss) && (id_of o.entry.address == k)) empty_is

        no_units : (n : ℕ) → n ≡ 0 → 0 < units x.m.geometry n → ⊥
        no_units n zero' some = let z : units x.m.geometry n ≡ 0 = ap (units x.m.geometry) zero' in omega (arith, z, some)

    -- ---- in slack

    module _ (near : Path) (dir : ℕ) (numbered : number_of x.nodes near ≡ Some dir) (shares : x.wants.shares ≡ Some dir) (share : Share) (some : slack_for x.m x.owners x.wants ≡ Some (place_in share))
        (place : IsPlaceFor x.m x.wants (placings.Shared share) (Some p)) where
      placing_for : IsPlacingFor x.m x.owners x.wants (placings.Shared share)
      placing_for = (dir, shares, sym (ap (λ (d : Option ℕ). option_and_then (λ (k : ℕ). slack_left x.m x.owners k x.wants.bytes) d) shares) ∙ some)

      there : slack x.m (objects_of x.listings) near x.wants.bytes ≡ Some (place_in share)
      there = share_there x.m x.nodes x.owners x.agreed.is_map x.listings (sound x) x.agreed.walked.held x.agreed.owned near dir numbered x.wants shares share placing_for

      sh : IsShared x.m (objects_of x.listings) x.wants.bytes (place_in share)
      sh = is_shared x.m (objects_of x.listings) near x.wants.bytes (place_in share) there

      id_is : id_of o.entry.address ≡ share.id
      id_is = ap id_of (address ∙ place.0) ∙ own_id share.id share.low sh.low
        where
          own_id : (id low : ℕ) → low < 256 → id_of (256 * id + low) ≡ id
          own_id id low small = omega (arith, small)

      at_now : sectors_at (Layout.New x.m) o.entry.address x.wants.bytes ≡ Some o.sectors
      at_now = ap (λ (a : ℕ). sectors_at (Layout.New x.m) a x.wants.bytes) address ∙ place.1 ∙ ap (λ (ss : List ℕ). let r : Option (List ℕ) = Some ss in r) (sym sectors)

      has_some : has_sectors o ≡ true
      has_some = let t = a_sector x.m o.entry.address x.wants.bytes o.sectors sh.some (new_shape x.m x.agreed.is_map).some at_now in some_there o.sectors t.0 t.1

      room : IsRoomBeside x.m (objects_of x.listings) o.sectors
      room =
          room_beside x.kind x.m x.nodes x.owners x.root x.listings x.agreed o near x.wants.bytes (placings.Shared share) size (id_is, at_now)
          (inl (file_spot x.m x.nodes x.owners x.agreed.is_map x.listings (sound x) x.agreed.walked.held x.agreed.owned near dir numbered x.wants (placings.Shared share) o shares
          (ap (λ (d : Option ℕ). is_none d && is_none x.wants.copied) shares) placing_for (address ∙ place.0)))

      movable : is_movable (objects_of x.listings) share.id ≡ true
      movable = ap₂ (λ (a b : Bool). ((share.id == 2) || a) && b) (any_of (is_owner_of share.id) (objects_of x.listings) sh.owner sh.owner_in sh.owns) (le-leb 3 share.id sh.high) ∙ or_yes (share.id == 2)
        where
          or_yes : (b : Bool) → ((b || true) && true) ≡ true
          or_yes true = refl
          or_yes false = refl

      -- no directory lies there, so that it doesn't move
      stays : moves x share.id ≡ true → ⊥
      stays e =
          let r = directory_of x s placed share.id e in
          let file = slack_files x.m (objects_of x.listings) near x.wants.bytes (place_in share) there r.0 r.1 (ap₂ (λ (a b : Bool). a && b) r.2 (eq-eqb (id_of r.0.entry.address) share.id r.4)) in
          let dir = r.3 in cc

      in_its_id : (u : ℕ) → is_among o.sectors u ≡ true → is_among (id_sectors x.m share.id) u ≡ true
      in_its_id u e = subst (λ (k : ℕ). is_among (id_sectors x.m k) u ≡ true) id_is (in_id x.m o.entry.address x.wants.bytes o.sectors u at_now e)

      kept : (k : ℕ) → is_kept (shared x) k ≡ (share.id == k)
      kept k = ap (λ (r : Option (ℕ × ℕ)). is_kept (option_map (λ (q : ℕ × ℕ). q.0) r) k) some

      not_gone : is_one_of (first_gone x.m (h x) x.job x.wants) share.id ≡ false
      not_gone =
          gone_is x share.id
          ∙ ap₂ (λ (a b : Bool). nat_lt share.id (id_limit x.m.geometry) && (a || (list_any (owns share.id) x.owners && (nat_lt 2 share.id && (not b && not (list_any (remains (leaving x) share.id) x.owners))))))
          (false_of (moves x share.id) stays) (kept share.id ∙ eq-eqb share.id share.id refl)
          ∙ none (nat_lt share.id (id_limit x.m.geometry)) (list_any (owns share.id) x.owners) (nat_lt 2 share.id)
        where
          none : (a b c : Bool) → (a && (false || (b && (c && false)))) ≡ false
          none true true true = refl
          none true true false = refl
          none true false c = refl
          none false b c = refl

      owned : is_used x.m share.id ≡ true
      owned = used_of x.kind x.m x.nodes x.owners x.root x.listings x.agreed sh.owner sh.owner_in share.id sh.owns

      pub in_slack : IsSpot o
      in_slack = record {
        lies = record {
          free = λ u e. inr (share.id, movable, in_its_id u e, λ q at. false_of (is_among q.sectors u) (λ f. (let no = apart_at q.sectors o.sectors u (room.apart q at) f in cc)));
          room = room.room;
          apart = room.apart;
          beside = λ q st u e f. id_no_hole x.m x.agreed.is_map share.id u (in_its_id u e) (spot_free x s placed q st u f);
        };
        still = none_moves (id_of o.entry.address) (λ e. stays (subst (λ (k : ℕ). moves x k ≡ true) id_is e));
        goes_to = λ k has. ap₂ (λ (a : Bool) (n : ℕ). a && (n == k)) has_some id_is ∙ sym (kept k);
        may = λ k owns has. subst (λ (j : ℕ). is_movable (objects_of x.listings) j ≡ true) (sym id_is ∙ eqb-true (id_of o.entry.address) k (and_parts (has_sectors o) (id_of o.entry.address == k) owns).1) movable;
        at = λ m' after.
            ap (λ (n : ℕ). sectors_at (Layout.New m') o.entry.address n) (size_then m' after.geometry)
            ∙ place_law.stays x.m m' o.entry.address x.wants.bytes after.geometry (runs_stay m' after) ∙ at_now;
        first = λ more. absurd (let none = own_none (place_in share) some in omega (arith, more, none));
        empty = λ none. absurd (let more = sh.some in omega (arith, more, none));
        object = λ m' after. subst (λ (r : Option (ℕ × ℕ)). SafeObjectPlaced x.m m' (units x.m.geometry (own_bytes x)) r (Some o)) (sym some) (address ∙ place.0);
        other = λ same. elim (grown_id x s placed) [
          | inl own ↦ stays (subst (λ (k : ℕ). moves x k ≡ true) (sym own.1 ∙ sym same ∙ id_is) (grown_moves x s placed own.0))
          | inr new ↦
              (let no = unused x (grown_at x s placed).2.plan.id (grown_new x s placed new.0 new.1) in
              let yes : is_used x.m (grown_at x s placed).2.plan.id ≡ true = ap (is_used x.m) (sym new.2 ∙ sym same ∙ id_is) ∙ owned in cc)
        ];
      }
        where
          runs_stay : (m' : Map) → IsMapThen m' → id_runs m' (id_of o.entry.address) ≡ id_runs x.m (id_of o.entry.address)
          runs_stay m' after =
              ap (id_runs m') id_is ∙ after.others share.id untaken ∙ ap (λ (b : Bool). cond b [] (id_runs x.m share.id)) not_gone ∙ ap (id_runs x.m) (sym id_is)
            where
              untaken : is_taken (takings_of placed.plans) share.id ≡ false
              untaken = false_of (is_taken (takings_of placed.plans) share.id) (λ e. stays (moved_is x s placed share.id (ap₂ (λ (a b : Bool). a && b) e owned)))

    -- ---- in the space of the first plan

    module _ (plan : Plan) (none : slack_for x.m x.owners x.wants ≡ None) (from : IsFirstOf placed.plans plan) (some : 0 < x.wants.bytes) (place : IsPlaceFor x.m x.wants (placings.New plan) (Some p)) where
      own_some : 0 < own_bytes x
      own_some = let all = own_all none in omega (arith, all, some)

      abbrev first : (q : Plan) × IsFirstPlan x s placed plan own_some from q
      first = first_plan x s placed plan own_some from

      abbrev q : Plan
      q = first.0

      at_q : Contains placed.plans q
      at_q = first.1.among

      is_fresh : is_used x.m q.id ≡ false
      is_fresh = fresh x s placed plan own_some from

      fits : (units x.m.geometry x.wants.bytes ≤ bits_in (fronts q.parts.items)) × (2 ≤ q.id) × (q.id < id_limit x.m.geometry)
      fits =
          let bound = plan_bounds x s placed q at_q in
          (subst (λ (n : ℕ). units x.m.geometry n ≤ bits_in (fronts q.parts.items)) (own_all none) first.1.enough, bound.0, bound.1)

      fit : IsPlaceable x.m x.wants.bytes q
      fit = placeable x s placed x.wants.bytes q at_q some fits.0 fits.1 fits.2

      sectors_are : o.sectors ≡ place_of_plan x.m.geometry q x.wants.bytes
      sectors_are =
          sectors ∙ place.1
          ∙ ap₂ (λ (id : ℕ) (ps : List Part). take (div_ceil x.wants.bytes x.m.geometry.sector) (sectors_of x.m.geometry (parts_met x.m.geometry id true (fronts ps)) ++ sectors_of x.m.geometry (parts_met x.m.geometry id false (fronts ps)))) first.1.id first.1.parts

      -- its address is in the identifier, at its begin
      low : (b : Bool) → (n : ℕ) × (n < 2) × (own_address b x.m x.wants.bytes plan ≡ 256 * plan.id + n)
      low true = (0, omega arith, omega arith)
      low false = (
        file_low x.m.geometry (bits_in (fronts plan.parts.items) * x.m.geometry.bit_bytes) x.wants.bytes,
        low_two x.m.geometry (bits_in (fronts plan.parts.items) * x.m.geometry.bit_bytes) x.wants.bytes,
        refl,
      )

      its_id : id_of o.entry.address ≡ q.id
      its_id = let l = low (is_directory x.wants) in ap id_of (address ∙ place.0 ∙ l.2) ∙ at_low plan.id l.0 l.1 ∙ first.1.id
        where
          at_low : (id n : ℕ) → n < 2 → id_of (256 * id + n) ≡ id
          at_low id n small = omega (arith, small)

      low_small : low_of o.entry.address < 2
      low_small = let l = low (is_directory x.wants) in subst (λ (a : ℕ). low_of a < 2) (sym (address ∙ place.0 ∙ l.2)) (at_low plan.id l.0 l.1)
        where
          at_low : (id n : ℕ) → n < 2 → low_of (256 * id + n) < 2
          at_low id n small = omega (arith, small)

      in_hole : (u : ℕ) → is_among o.sectors u ≡ true → is_among (hole_sectors (Layout.New x.m)) u ≡ true
      in_hole u e = place_free x.m x.agreed.is_map placed.plans (can x s placed) q x.wants.bytes u at_q (subst (λ (ss : List ℕ). is_among ss u ≡ true) sectors_are e)

      not_owner : (k : ℕ) → is_used x.m k ≡ true → is_owner_of k o ≡ false
      not_owner k has = false_of (is_owner_of k o) (λ e.
          (let same = eqb-true (id_of o.entry.address) k (and_parts (has_sectors o) (id_of o.entry.address == k) e).1 in
          let there : is_used x.m q.id ≡ true = ap (is_used x.m) (sym its_id ∙ same) ∙ has in
          let no = is_fresh in cc))

      module _ (folder : is_directory x.wants ≡ is_directory_object o) (len : is_directory_object o ≡ false → o.entry.len ≡ x.wants.bytes) where
        first_low_is : (m' : Map) → IsMapThen m' → low_of o.entry.address ≡ first_low m' o (id_runs m' (id_of o.entry.address))
        first_low_is m' after = by (is_directory x.wants) refl
          where
            bits : bits_in (id_runs m' (id_of o.entry.address)) ≡ bits_in (fronts plan.parts.items)
            bits = ap (λ (k : ℕ). bits_in (id_runs m' k)) its_id ∙ bits_taken q.id (fronts q.parts.items) (id_runs m' q.id) (after.taken q at_q).all ∙ ap (λ (ps : List Part). bits_in (fronts ps)) (sym first.1.parts)

            at_low : (id n : ℕ) → n < 2 → low_of (256 * id + n) ≡ n
            at_low id n small = omega (arith, small)

            by : (b : Bool) → is_directory x.wants ≡ b → low_of o.entry.address ≡ first_low m' o (id_runs m' (id_of o.entry.address))
            by true e =
                ap low_of (address ∙ place.0 ∙ ap (λ (b : Bool). own_address b x.m x.wants.bytes plan) e) ∙ (let z : low_of (256 * plan.id) ≡ 0 = omega arith in z)
                ∙ sym (ap (λ (b : Bool). cond b 0 (file_low m'.geometry (bits_in (id_runs m' (id_of o.entry.address)) * m'.geometry.bit_bytes) o.entry.len)) (sym folder ∙ e))
            by false e =
                let two = low_two x.m.geometry (bits_in (fronts plan.parts.items) * x.m.geometry.bit_bytes) x.wants.bytes in
                ap low_of (address ∙ place.0 ∙ ap (λ (b : Bool). own_address b x.m x.wants.bytes plan) e)
                ∙ at_low plan.id (file_low x.m.geometry (bits_in (fronts plan.parts.items) * x.m.geometry.bit_bytes) x.wants.bytes) two
                ∙ sym (ap (λ (b : Bool). cond b 0 (file_low m'.geometry (bits_in (id_runs m' (id_of o.entry.address)) * m'.geometry.bit_bytes) o.entry.len)) (sym folder ∙ e)
                ∙ ap₂ (λ (g : Geometry) (n : ℕ). file_low g (n * g.bit_bytes) o.entry.len) after.geometry bits
                ∙ ap (file_low x.m.geometry (bits_in (fronts plan.parts.items) * x.m.geometry.bit_bytes)) (len (sym folder ∙ e)))

        pub in_new_space : IsSpot o
        in_new_space = record {
          lies = record {
            free = λ u e. inl (in_hole u e);
            room = record {
              low = λ u e. hole_on_disc x.m x.agreed.is_map u (in_hole u e);
              once = subst AreApart (sym sectors_are) (apart_of (place_of_plan x.m.geometry q x.wants.bytes) (place_once x.m x.agreed.is_map placed.plans (can x s placed) q x.wants.bytes at_q (can_member x.m.geometry (hole_runs x.m) placed.plans q (can x s placed) at_q).1.rising));
              beside = hole_apart x.kind x.m x.nodes x.owners x.root x.listings x.agreed o.sectors in_hole;
            };
            apart = λ r at. apart_from r.sectors o.sectors (λ u e f.
                (let no = apart_at r.sectors (hole_sectors (Layout.New x.m)) u (no_hole x.kind x.m x.nodes x.owners x.root x.listings x.agreed r at) e in let has = in_hole u f in cc));
            beside = λ r there u e f. beside_own x s placed plan own_some from x.wants.bytes fit r there u f (subst (λ (ss : List ℕ). is_among ss u ≡ true) sectors_are e);
          };
          still = none_moves (id_of o.entry.address) (λ e. (let has = used x (id_of o.entry.address) e in let no = is_fresh in let there : is_used x.m q.id ≡ true = ap (is_used x.m) (sym its_id) ∙ has in cc));
          goes_to = λ k has. not_owner k has ∙ sym (none_shared none k);
          may = λ k owns has. absurd (let no = not_owner k has in cc);
          at = λ m' after.
              ap (λ (n : ℕ). sectors_at (Layout.New m') o.entry.address n) (size_then m' after.geometry)
              ∙ leads x.m m' x.agreed.is_map after.geometry x.wants.bytes q fit (after.taken q at_q) o.entry.address its_id low_small
              ∙ ap (λ (ss : List ℕ). let r : Option (List ℕ) = Some ss in r) (sym sectors_are);
          first = λ more. (first.1.others, first.1.new ∙ ap (λ (k : ℕ). k ∷ first.1.others) (sym its_id));
          empty = λ zero'. absurd (omega (arith, zero', some));
          object = λ m' after. subst (λ (r : Option (ℕ × ℕ)). SafeObjectPlaced x.m m' (units x.m.geometry (own_bytes x)) r (Some o)) (sym none) (λ more. first_low_is m' after);
          other = λ same. elim (grown_id x s placed) [
            | inl stay ↦
                (let no = is_fresh in
                let has = used x (id_of (spots.d x).entry.address) (grown_moves x s placed stay.0) in
                let there : is_used x.m q.id ≡ true = ap (is_used x.m) (sym its_id ∙ same ∙ stay.1) ∙ has in cc)
            | inr new ↦ never_last x s placed plan own_some from new.0 new.1 (sym its_id ∙ same ∙ new.2)
          ];
        }
