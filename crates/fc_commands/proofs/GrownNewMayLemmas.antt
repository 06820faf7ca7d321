-- What comes to a directory that grows by it, on a new map, at any moment: nothing else was written but what the command may write.
use Rattle.std.proofs.Common.{◌≡◌, ⊎_elim, ℕ, ◌==◌, ◌||◌, Bool, true, false, cond, List, [], ◌∷◌, ◌++◌, refl, sym, ap, subst, ◌∙◌, eq-eqb, Option, Some, None, ◌&&◌}
use Rattle.std.specs.Prelude.{Contains}
use Rattle.std.proofs.lemmas.List.Elements.{Contains-append_cases, Contains-append_left, Contains-append_right}
use Rattle.fc_alloc.specs.declared.owner.Owner.{Owner}
use Rattle.fc_names.specs.Names.{Path}
use Rattle.fc_record.specs.declared.Kind.{Kind}
use Rattle.fc_newmap.specs.Map.{Map, is_used}
use Rattle.fc_newmap.specs.NewMap.{IsNewMap}
use Rattle.fc_model.specs.Command.{Command}
use Rattle.fc_model.specs.Tree.{holder, last_name}
use Rattle.fc_image.specs.Layout.{Layout, dir_form, id_of}
use Rattle.fc_image.specs.Objects.{is_owner_of, objects_of, is_owned}
use Rattle.fc_image.specs.Opening.{Opened}
use Rattle.fc_image.specs.Sound.{AreSound}
use Rattle.fc_image.specs.Stays.{OpensAs}
use Rattle.fc_image.specs.Walk.{Listing, Object}
use Rattle.fc_image.specs.effects.Steady.{has_grown, has_new_holder, holds_named, is_renamed_by, may_be_rewritten}
use Rattle.fc_changes.proofs.BasicLemmas.{any_in}
use Rattle.fc_laws.specs.nodes.Edits.{Nodes}
use Rattle.fc_laws.specs.agree.Agreed.{AgreeOn, parts_with}
use Rattle.fc_laws.specs.takeover.Places.{MayBeWritten, OpensBy}
use Rattle.fc_laws.proofs.lemmas.agree.BeforeLemmas.{agreed_law}
use Rattle.fc_laws.proofs.lemmas.takeover.ApartLemmas.{places_law}
use Rattle.fc_objects.specs.Extents.{sectors_in}
use Rattle.fc_plan.specs.declared.plan.Plan.{Plan}
use Rattle.fc_refusals.specs.Targets.{IsVacant}
use Rattle.fc_tree.specs.declared.node.Node.{Node}
use Rattle.fc_tree.proofs.MemberLemmas.{contains_here, no_element}
use Rattle.fc_tree.proofs.WalkedLemmas.{listed_directory}
use Rattle.fc_change.specs.declared.job.Growth.{Growth}
use Rattle.fc_change.specs.GrownSpace.{IsGrownAt as IsGrownPlace}
use Rattle.fc_writing.specs.Ready.{written_place}
use Rattle.fc_commands.specs.declared.stages.Prepared.{Prepared}
use Rattle.fc_commands.specs.Stages.{IsPreparedFor}
use Rattle.fc_commands.proofs.GrownAroundLemmas.{IsCutAround}
use Rattle.fc_commands.proofs.GrownAskedLemmas as asked
use Rattle.fc_commands.proofs.GrownAskedLemmas.{view_with}
use Rattle.fc_commands.proofs.ArrivalLemmas.{Arrival, Brings, address_is, gain_same, job_of, may_rewrite}
use Rattle.fc_commands.proofs.GrownNewLemmas as new
use Rattle.fc_commands.proofs.GrownNewPutLemmas as put
use Rattle.fc_commands.proofs.GrownPutLemmas.{places}
use Rattle.fc_commands.proofs.NewDoneLemmas.{placed_as}
use Rattle.fc_commands.proofs.NewPlaceLemmas.{LiesBy, may_be_written}
use Rattle.fc_placing.specs.Places.{id_in as placed_id, parts_in as placed_parts}
use Rattle.fc_commands.proofs.GrownMayLemmas.{there_may}
use Rattle.fc_commands.proofs.GrownSpaceLemmas as space_of
use Rattle.fc_commands.proofs.VacantLemmas.{gains}
use Rattle.fc_commands.proofs.GrownWalkLemmas as walk
use Rattle.std.proofs.lemmas.List.Sorted.{Contains-permutation, IsPermutation-sym}
use Rattle.fc_change.specs.declared.spaces.GrownPlace.{GrownPlace}
use Rattle.fc_edits.specs.GrownPlaces.{IsGrownAt}
use Rattle.fc_commands.proofs.GrownWantLemmas.{IsGrownWanted}
use Rattle.fc_commands.proofs.GrownSpaceLemmas.{IsToGrow, growing_of}
use Rattle.fc_image.specs.effects.Short.{growth_in, growth_of, gain_of}
use Rattle.fc_plan.specs.Applied.{id_in, parts_in}
use Rattle.fc_tree.specs.Nodes.{number_of}
use Rattle.std.specs.Option.{option_and_then}
use Rattle.fc_commands.proofs.GrownChangeLemmas.{taking_of}
use Rattle.fc_edits.specs.Placing.{takings_of}
use Rattle.std.proofs.lemmas.Bool.{or_left, or_right as or_second}
use Rattle.fc_placing.proofs.LowLemmas.{or_true}
use Rattle.fc_image.proofs.EntriesLemmas.{later as contains_later}

module _ (m : Map) (nodes : Nodes) (owners : List Owner) (dir : ℕ) (x : Arrival) (path : Path) (pr : Prepared) (prep : IsPreparedFor (parts_with m nodes owners) (job_of dir x) (last_name path) pr)
    (growth : Growth) (some : prep.wants.grows ≡ Some growth) (is_map : IsNewMap m)
    (kind : Kind) (was : List ℕ) (listings : List Listing) (opens : OpensAs was kind (record { kind = kind; layout = Layout.New m; listings = listings })) (root : Node) (agreed : AgreeOn kind m nodes owners root listings)
    (spot : IsVacant nodes listings path dir) (c : Command) (bytes : List ℕ) (brings : Brings x path bytes c) where
  abbrev view : Opened
  view = view_with kind m listings

  abbrev l : Listing
  l = spot.listing

  abbrev P : GrownPlace
  P = new.p m nodes owners dir x path pr prep growth some is_map

  abbrev is : IsGrownWanted m nodes owners dir x (last_name path) prep.wants prep.spaces
  is = new.is m nodes owners dir x path pr prep growth some is_map

  abbrev plan : Option Plan
  plan = new.plan m nodes owners dir x path pr prep growth some is_map

  abbrev sound : AreSound (Layout.New m) listings
  sound = agreed_law.sound kind m nodes owners root listings agreed

  abbrev at : number_of nodes spot.listing.object.path ≡ Some P.directory.node
  at = walk.number m nodes owners dir x path prep.wants prep.spaces is kind root listings agreed spot

  abbrev stay : List Object
  stay = walk.stay m nodes owners dir x path prep.wants prep.spaces is kind root listings agreed spot

  abbrev to : IsToGrow m nodes owners listings spot.listing.object stay growth plan prep.spaced.places.dir P
  to = walk.to m nodes owners dir x path prep.wants prep.spaces is kind root listings agreed spot

  by_it : OpensBy kind was (view_with kind m listings) m
  by_it = record { opens = opens; layout = refl }

  -- the directory that gets the name
  its_may : may_be_rewritten (view_with kind m listings) c spot.listing.object.path ≡ true
  its_may = may_rewrite x path bytes c brings view spot.listing.object.path spot.above

  -- ---- the grown one, at its place

  owned : is_owned (objects_of listings) (id_of spot.listing.object.entry.address) ≡ true
  owned =
      let id = id_of l.object.entry.address in
      ap (λ (b : Bool). (id == 2) || b)
      (any_in (is_owner_of id) (objects_of listings) l.object (listed_directory (Layout.New m) listings sound l spot.listed).0
      (ap (λ (b : Bool). b && (id == id)) (space_of.o_some m nodes owners listings l.object stay growth plan prep.spaced.places.dir P to) ∙ eq-eqb id id refl))
      ∙ or_true (id == 2)

  grown_may : MayBeWritten kind (view_with kind m listings) m c (sectors_in P.extents.items)
  grown_may = by prep.spaced.places.dir to.grown
    where
      by : (q : Option Plan) → IsGrownPlace m (parts_with m nodes owners) plan growth q P → MayBeWritten kind view m c (sectors_in P.extents.items)
      by None there =
          there_may kind m nodes owners root listings agreed l growth.len (sectors_in P.extents.items)
          (record {
            listed = spot.listed;
            owns = owned;
            object = space_of.own_object_id m nodes owners listings l.object stay growth plan prep.spaced.places.dir P to;
            room = space_of.room_same m nodes owners listings l.object stay growth plan prep.spaced.places.dir P to
                ∙ sym (space_of.room_as m nodes owners listings l.object stay growth plan prep.spaced.places.dir P to) ∙ there.room;
            placed = space_of.there_at m nodes owners listings l.object stay growth plan prep.spaced.places.dir P to there;
            long = to.longer;
          })
          view was c refl by_it its_may
      by (Some q) into = places_law.holes kind was view m c (sectors_in P.extents.items) by_it into.free

  -- ---- the others

  abbrev around : (tops kids left : List Listing) × IsCutAround listings spot.listing tops kids left
  around = put.around m nodes owners dir x path pr prep growth some is_map kind root listings agreed spot

  growth_is : growth_in (view_with kind m listings) c ≡ Some (spot.listing.object, P.directory.len)
  growth_is =
      ap (option_and_then growth_of) (sym (gain_same x path bytes c brings view) ∙ gains (Layout.New m) nodes listings sound path dir spot view refl)
      ∙ (walk.room m nodes owners dir x path prep.wants prep.spaces is kind root listings agreed spot (gain_of path spot.listing) (record { name_is = refl; names_are = refl })).1 spot.listing.object

  may_of : (p : Path) → (has_grown (view_with kind m listings) c p || has_new_holder (view_with kind m listings) c p) ≡ true → may_be_rewritten (view_with kind m listings) c p ≡ true
  may_of p told = by (has_grown view c p) refl told
    where
      by : (b : Bool) → has_grown view c p ≡ b → (b || has_new_holder view c p) ≡ true → may_be_rewritten view c p ≡ true
      by true e f = or_left (holds_named c p || is_renamed_by c p || has_grown view c p) (has_new_holder view c p) (or_second (holds_named c p || is_renamed_by c p) (has_grown view c p) e)
      by false e f = or_second (holds_named c p || is_renamed_by c p || has_grown view c p) (has_new_holder view c p) f

  abbrev stays : Bool
  stays = l.object.entry.address == P.directory.address

  -- a directory that is told
  told_may : (k : Listing) → Contains (around.0 ++ cond stays [] around.1) k → Contains listings k × (may_be_rewritten (view_with kind m listings) c k.object.path ≡ true)
  told_may k there = (in_all, may_of k.object.path told)
    where
      in_all : Contains listings k
      in_all =
          Contains-permutation (l ∷ (around.0 ++ (around.1 ++ around.2))) listings k (IsPermutation-sym listings (l ∷ (around.0 ++ (around.1 ++ around.2))) around.3.all)
          (contains_later l k (around.0 ++ (around.1 ++ around.2))
          (⊎_elim (λ top. Contains-append_left around.0 (around.1 ++ around.2) k top)
          (λ kid. Contains-append_right around.0 (around.1 ++ around.2) k (Contains-append_left around.1 around.2 k (kid_in stays kid))) (Contains-append_cases around.0 (cond stays [] around.1) k there)))
        where
          kid_in : (b : Bool) → Contains (cond b [] around.1) k → Contains around.1 k
          kid_in true none = absurd (no_element k none)
          kid_in false kid = kid

      told : (has_grown view c k.object.path || has_new_holder view c k.object.path) ≡ true
      told =
          ⊎_elim
          (λ top. asked.top_told kind m listings l P c growth_is [] [] None [] _ _ lies used nodes sound agreed.walked.held spot.listed around.0 around.1 around.2 around.3 k top)
          (λ kid. by_stays stays refl kid) (Contains-append_cases around.0 (cond stays [] around.1) k there)
        where
          lies : IsGrownAt m (objects_of listings) (takings_of (id_in plan) (parts_in plan)) (growing_of l.object P [] [] None []) (taking_of prep.spaced.places.dir)
          lies = space_of.lies m nodes owners listings l.object stay growth plan prep.spaced.places.dir P to [] [] None []

          used : is_used m (id_of l.object.entry.address) ≡ true
          used = space_of.own_used m nodes owners listings l.object stay growth plan prep.spaced.places.dir P to

          by_stays : (b : Bool) → stays ≡ b → Contains (cond b [] around.1) k → (has_grown view c k.object.path || has_new_holder view c k.object.path) ≡ true
          by_stays true e none = absurd (no_element k none)
          by_stays false e kid =
              asked.kid_told kind m listings l P c growth_is [] [] None [] _ _ lies used nodes sound agreed.walked.held spot.listed around.0 around.1 around.2 around.3 k kid e

  -- ---- all that is written

  -- the object
  own_may : MayBeWritten kind (view_with kind m listings) m c (new.sectors m nodes owners dir x path pr prep growth some is_map)
  own_may =
      let o = new.o m nodes owners dir x path pr prep growth some is_map kind root listings agreed spot in
      let q = prep.spaced.places.placing in
      may_be_written kind was view m c by_it is_map o (holder path) prep.wants.bytes q (new.size m nodes owners dir x path pr prep growth some is_map)
      (subst (λ (a : ℕ). LiesBy m prep.wants.bytes q a (new.sectors m nodes owners dir x path pr prep growth some is_map))
      (sym (address_is (dir_form (Layout.New m)) x (last_name path) (new.place m nodes owners dir x path pr prep growth some is_map).address))
      (new.lying m nodes owners dir x path pr prep growth some is_map kind root listings agreed spot))
      (placed_as x m (objects_of listings) (holder path) prep.wants.bytes (placed_id q) (placed_parts q) o (new.spot_by m nodes owners dir x path pr prep growth some is_map kind root listings agreed spot))

  told_all : (ks : List Listing) → ((k : Listing) → Contains ks k → Contains listings k × (may_be_rewritten (view_with kind m listings) c k.object.path ≡ true)) → MayBeWritten kind (view_with kind m listings) m c (places ks)
  told_all [] each = places_law.none kind view m c
  told_all (k ∷ ks) each =
      let own = each k (contains_here k ks) in
      places_law.both kind view m c k.object.sectors (places ks) (places_law.directory kind was view m c k by_it own.0 own.1) (told_all ks (λ j at. each j (contains_later k j ks at)))

  pub all_may : MayBeWritten kind (view_with kind m listings) m c (written_place pr.ready)
  all_may =
      let others = around.0 ++ cond stays [] around.1 in
      subst (λ (ss : List ℕ). MayBeWritten kind view m c ss) (sym (put.written_is m nodes owners dir x path pr prep growth some is_map kind root listings agreed spot))
      (places_law.both kind view m c (new.sectors m nodes owners dir x path pr prep growth some is_map) (sectors_in P.extents.items ++ places others) own_may
      (places_law.both kind view m c (sectors_in P.extents.items) (places others) grown_may (told_all others told_may)))
