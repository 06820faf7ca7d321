-- What comes to a directory that grows by it, on a new map: what is written of it, and that it can be.
use Rattle.std.proofs.Common.{◌≡◌, ◌<◌, ◌≤◌, ◌==◌, ◌++◌, ℕ, Bool, true, cond, List, [], ◌∷◌, flat_map, refl, sym, ap, ap₂, subst, ◌∙◌, arith, append_assoc, All, Option, Some}
use Rattle.std.specs.Prelude.{Contains}
use Rattle.std.proofs.lemmas.List.{append-nil}
use Rattle.std.proofs.lemmas.List.Elements.{All-nil}
use Rattle.fc_alloc.specs.declared.owner.Owner.{Owner}
use Rattle.fc_device.specs.declared.disk.Extent.{Extent}
use Rattle.fc_names.specs.Names.{Path}
use Rattle.fc_record.specs.declared.Kind.{Kind}
use Rattle.fc_newmap.specs.Map.{Map, map_sectors}
use Rattle.fc_newmap.specs.NewMap.{IsNewMap}
use Rattle.fc_model.specs.Tree.{holder, last_name}
use Rattle.fc_image.specs.Layout.{Layout, dir_form, disc_sectors, is_apart}
use Rattle.fc_image.specs.Objects.{objects_of}
use Rattle.fc_image.specs.Sound.{AreSound}
use Rattle.fc_image.specs.Walk.{Listing, Object}
use Rattle.fc_laws.specs.nodes.Edits.{Nodes}
use Rattle.fc_laws.specs.agree.Agreed.{AgreeOn, parts_with}
use Rattle.fc_laws.proofs.lemmas.agree.BeforeLemmas.{agreed_law}
use Rattle.fc_objects.specs.Extents.{sectors_in}
use Rattle.fc_plan.specs.declared.plan.Plan.{Plan}
use Rattle.fc_refusals.specs.Targets.{IsVacant}
use Rattle.fc_tree.specs.declared.node.Node.{Node}
use Rattle.fc_tree.specs.Nodes.{HoldObjects, number_of}
use Rattle.fc_change.specs.declared.change.Says.{Says}
use Rattle.fc_change.specs.declared.job.Growth.{Growth}
use Rattle.fc_change.specs.declared.spaces.GrownPlace.{GrownPlace}
use Rattle.fc_change.specs.GrownSpace.{root_of}
use Rattle.fc_change.specs.Places.{IsPlacingFor, plan_in}
use Rattle.fc_drafts.specs.declared.draft.Draft.{Draft}
use Rattle.fc_placing.specs.declared.placing.Placing.{Placing}
use Rattle.fc_placing.specs.declared.placing.Placing.TheVariants as placings
use Rattle.fc_placing.specs.Places.{id_in as placed_id, parts_in as placed_parts}
use Rattle.fc_writing.specs.declared.ready.Piece.{Piece}
use Rattle.fc_writing.specs.declared.ready.Transfer.{Transfer}
use Rattle.fc_writing.specs.New.{CanWrite}
use Rattle.fc_writing.specs.Ready.{CanPut, IsEnough, copied_place, from_of, place_of, source_place, to_of, written_place}
use Rattle.fc_writing.specs.Steps.{CanStep, HasStepped}
use Rattle.fc_commands.specs.declared.stages.Prepared.{Prepared}
use Rattle.fc_holdings.specs.Holdings.{TellsVersion}
use Rattle.fc_commands.specs.Stages.{IsPreparedFor}
use Rattle.fc_commands.proofs.GrownAroundLemmas.{IsCutAround, cut_around}
use Rattle.fc_commands.proofs.GrownCanLemmas as can
use Rattle.fc_commands.proofs.ArrivalLemmas.{Arrival, address_is, job_of}
use Rattle.fc_commands.proofs.GrownNewLemmas as new
use Rattle.fc_commands.proofs.GrownComerLemmas.{WritesIt, copies_none}
use Rattle.fc_commands.proofs.GrownNewRootLemmas as rooted
use Rattle.fc_commands.proofs.GrownPieceLemmas.{IsGrownReady}
use Rattle.fc_commands.proofs.GrownPreparedLemmas.{IsGrownChange, ready_around}
use Rattle.fc_commands.proofs.GrownPutLemmas.{all_room, apart_own, apart_shared, in_order, may_have, places}
use Rattle.fc_commands.proofs.GrownReadyLemmas.{AreReady}
use Rattle.fc_commands.proofs.GrownRootLemmas.{version_of}
use Rattle.fc_commands.proofs.GrownSpaceLemmas.{IsToGrow}
use Rattle.fc_commands.proofs.GrownWalkLemmas as walk
use Rattle.fc_commands.proofs.GrownWantLemmas.{IsGrownWanted}
use Rattle.fc_commands.proofs.GrownWantLemmas as wanted
use Rattle.fc_commands.proofs.NewDoneLemmas.{placed_as}
use Rattle.fc_commands.proofs.NewPlaceLemmas.{IsRoomBeside, LiesBy, room_beside}
use Rattle.fc_commands.proofs.PutLemmas.{CopiesNone}
use Rattle.fc_commands.proofs.PieceLemmas.{all_low, enough, no_from}
use Rattle.fc_commands.proofs.TwoPieceLemmas.{AreRoom}
use Rattle.fc_tree.specs.Agree.{HasForm}

-- the sectors of pieces for directories are those of the directories
places_are : (layout : Layout) (nodes : Nodes) (listings : List Listing) (sound : AreSound layout listings) (held : HoldObjects nodes listings) (l : Listing) (listed : Contains listings l) (p : GrownPlace)
    (number : number_of nodes l.object.path ≡ Some p.directory.node) (forms : (k : Listing) → Contains listings k → HasForm (dir_form layout) k.object.entry.len k.content)
    (ks : List Listing) (ss : List Says) (ps : List Piece) → AreReady layout nodes listings sound held l listed p.directory number forms (sectors_in p.extents.items) ks ss ps → flat_map place_of ps ≡ places ks
places_are layout nodes listings sound held l listed p number forms [] [] [] are = refl
places_are layout nodes listings sound held l listed p number forms [] [] (q ∷ ps) are = absurd are
places_are layout nodes listings sound held l listed p number forms [] (s ∷ ss) ps are = absurd are
places_are layout nodes listings sound held l listed p number forms (k ∷ ks) [] ps are = absurd are
places_are layout nodes listings sound held l listed p number forms (k ∷ ks) (s ∷ ss) [] are = absurd are
places_are layout nodes listings sound held l listed p number forms (k ∷ ks) (s ∷ ss) (q ∷ ps) are =
    ap₂ (λ (a b : List ℕ). a ++ b) are.0.place (places_are layout nodes listings sound held l listed p number forms ks ss ps are.1)

module _ (m : Map) (nodes : Nodes) (owners : List Owner) (dir : ℕ) (x : Arrival) (path : Path) (pr : Prepared) (prep : IsPreparedFor (parts_with m nodes owners) (job_of dir x) (last_name path) pr)
    (growth : Growth) (some : prep.wants.grows ≡ Some growth) (is_map : IsNewMap m)
    (kind : Kind) (root : Node) (listings : List Listing) (agreed : AgreeOn kind m nodes owners root listings) (spot : IsVacant nodes listings path dir) where
  abbrev P : GrownPlace
  P = new.p m nodes owners dir x path pr prep growth some is_map

  abbrev ss : List ℕ
  ss = new.sectors m nodes owners dir x path pr prep growth some is_map

  abbrev is : IsGrownWanted m nodes owners dir x (last_name path) prep.wants prep.spaces
  is = new.is m nodes owners dir x path pr prep growth some is_map

  abbrev plan : Option Plan
  plan = new.plan m nodes owners dir x path pr prep growth some is_map

  abbrev l : Listing
  l = spot.listing

  abbrev sound : AreSound (Layout.New m) listings
  sound = agreed_law.sound kind m nodes owners root listings agreed

  abbrev ch : IsGrownChange nodes (new.e m nodes owners dir x path pr prep growth some is_map) P.directory pr.change
  ch = new.change m nodes owners dir x path pr prep growth some is_map

  abbrev rd : IsGrownReady (Layout.New m) nodes P ch.said ch.others prep.ready.made pr.ready
  rd = new.ready m nodes owners dir x path pr prep growth some is_map

  abbrev at : number_of nodes spot.listing.object.path ≡ Some P.directory.node
  at = walk.number m nodes owners dir x path prep.wants prep.spaces is kind root listings agreed spot

  abbrev stay : List Object
  stay = walk.stay m nodes owners dir x path prep.wants prep.spaces is kind root listings agreed spot

  abbrev to : IsToGrow m nodes owners listings spot.listing.object stay growth plan prep.spaced.places.dir P
  to = walk.to m nodes owners dir x path prep.wants prep.spaces is kind root listings agreed spot

  pub around : (tops kids left : List Listing) × IsCutAround listings spot.listing tops kids left
  around = cut_around (Layout.New m) listings sound l spot.listed

  abbrev pub stays : Bool
  stays = spot.listing.object.entry.address == P.directory.address

  abbrev pub others : List Listing
  others = around.0 ++ cond stays [] around.1

  -- ---- what is written

  own_first : source_place pr.ready.source ++ flat_map place_of prep.ready.made ≡ ss
  own_first = by x (new.own m nodes owners dir x path pr prep growth some is_map) (new.writes m nodes owners dir x path pr prep growth some is_map)
    where
      by : (y : Arrival) (own : Option Draft) → WritesIt y own (new.place m nodes owners dir x path pr prep growth some is_map) prep.ready.made pr.ready.source → source_place pr.ready.source ++ flat_map place_of prep.ready.made ≡ ss
      by Arrival.Makes own is' =
          (λ i. source_place (is'.6 i) ++ flat_map place_of (is'.3 i)) ∙ append-nil (place_of is'.2) ∙ ap (λ (xs : List Extent). sectors_in xs) is'.4
      by (Arrival.Saves words) own is' = (λ i. source_place (is'.1 i) ++ flat_map place_of (is'.0 i)) ∙ append-nil ss

  others_place : flat_map place_of rd.pieces ≡ places others
  others_place =
      places_are (Layout.New m) nodes listings sound agreed.walked.held l spot.listed P at agreed.walked.forms others ch.others rd.pieces
      (ready_around (Layout.New m) nodes listings sound agreed.walked.held l spot.listed P at agreed.walked.forms around.0 around.1 around.2 around.3 ch.others rd.pieces ch.tell rd.are)

  pub written_is : written_place pr.ready ≡ new.sectors m nodes owners dir x path pr prep growth some is_map ++ (sectors_in (new.p m nodes owners dir x path pr prep growth some is_map).extents.items ++ places others)
  written_is =
      ap (λ (ts : List Transfer). (source_place pr.ready.source ++ (flat_map to_of ts ++ flat_map place_of pr.ready.early.items)) ++ flat_map place_of pr.ready.late.items) prep.ready.carried
      ∙ append_assoc (source_place pr.ready.source) (flat_map place_of pr.ready.early.items) (flat_map place_of pr.ready.late.items)
      ∙ ap (λ (xs : List ℕ). source_place pr.ready.source ++ xs) (in_order (Layout.New m) nodes P ch.said ch.others prep.ready.made pr.ready rd)
      ∙ sym (append_assoc (source_place pr.ready.source) (flat_map place_of prep.ready.made) (sectors_in P.extents.items ++ flat_map place_of rd.pieces))
      ∙ ap₂ (λ (a b : List ℕ). a ++ (sectors_in P.extents.items ++ b)) own_first others_place

  plain : CopiesNone pr.ready.source
  plain =
      copies_none x (new.own m nodes owners dir x path pr prep growth some is_map) (new.place m nodes owners dir x path pr prep growth some is_map) prep.ready.made pr.ready.source
      (new.writes m nodes owners dir x path pr prep growth some is_map)

  copied_none : copied_place pr.ready ≡ []
  copied_none = ap₂ (λ (a b : List ℕ). a ++ b) (no_from pr.ready.source plain) (ap (flat_map from_of) prep.ready.carried)

  -- ---- its sectors

  abbrev q : Placing
  q = prep.spaced.places.placing

  abbrev o : Object
  o = new.o m nodes owners dir x path pr prep growth some is_map kind root listings agreed spot

  pub its_room : IsRoomBeside m (objects_of listings) (new.sectors m nodes owners dir x path pr prep growth some is_map)
  its_room =
      room_beside kind m nodes owners root listings agreed o (holder path) prep.wants.bytes q (new.size m nodes owners dir x path pr prep growth some is_map)
      (subst (λ (a : ℕ). LiesBy m prep.wants.bytes q a ss) (sym (address_is (dir_form (Layout.New m)) x (last_name path) (new.place m nodes owners dir x path pr prep growth some is_map).address))
      (new.lying m nodes owners dir x path pr prep growth some is_map kind root listings agreed spot))
      (placed_as x m (objects_of listings) (holder path) prep.wants.bytes (placed_id q) (placed_parts q) o (new.spot_by m nodes owners dir x path pr prep growth some is_map kind root listings agreed spot))

  -- None is the grown directory's.
  apart : is_apart ss (sectors_in P.extents.items) ≡ true
  apart = by q refl prep.spaced.places.is (new.lying m nodes owners dir x path pr prep growth some is_map kind root listings agreed spot)
    where
      by : (z : Placing) → q ≡ z → IsPlacingFor m owners prep.wants z → LiesBy m prep.wants.bytes z (new.place m nodes owners dir x path pr prep growth some is_map).address ss → is_apart ss (sectors_in P.extents.items) ≡ true
      by placings.Nowhere same at here = ap (λ (xs : List ℕ). is_apart xs (sectors_in P.extents.items)) here.1
      by (placings.Shared share) same at here =
          let others' = new.is_others m nodes owners dir x path pr prep growth some is_map kind root listings agreed spot share at here in
          apart_shared kind m nodes owners root listings agreed l stay growth plan prep.spaced.places.dir P to (new.place m nodes owners dir x path pr prep growth some is_map).address prep.wants.bytes ss here.1 (λ e. others'.apart (sym here.0 ∙ e))
      by (placings.New k) same at here =
          subst (λ (xs : List ℕ). is_apart xs (sectors_in P.extents.items) ≡ true) (sym here.2)
          (apart_own kind m nodes owners root listings agreed l stay growth k prep.spaced.places.dir P
          (subst (λ (y : Option Plan). IsToGrow m nodes owners listings l.object stay growth y prep.spaced.places.dir P) (ap plan_in same) to) prep.wants.bytes here.0)

  all_there : AreRoom (disc_sectors (Layout.New m)) (map_sectors m.geometry) (written_place pr.ready)
  all_there =
      subst (AreRoom (disc_sectors (Layout.New m)) (map_sectors m.geometry)) (sym written_is)
      (all_room kind m nodes owners root listings agreed l spot.listed around.0 around.1 around.2 around.3 stays ss (sectors_in P.extents.items) its_room
      (may_have kind m nodes owners root listings agreed l spot.listed stay growth plan prep.spaced.places.dir P to) apart)

  can_put : (n : ℕ) → disc_sectors (Layout.New m) ≤ n → CanPut n (map_sectors m.geometry) pr.ready
  can_put n most = record {
    on_disk = all_low n (written_place pr.ready) (λ s e. let low = all_there.low s e in omega (arith, low, most));
    from_disk = subst (λ (xs : List ℕ). All (λ s. s < n) xs) (sym copied_none) (All-nil (λ s. s < n));
    once = all_there.once;
    beside = all_there.beside;
    others = subst (λ (xs : List ℕ). is_apart xs (written_place pr.ready) ≡ true) (sym copied_none) refl;
    unmapped = subst (λ (xs : List ℕ). is_apart xs (map_sectors m.geometry) ≡ true) (sym copied_none) refl;
    source_enough = enough pr.ready.source plain;
    enough = subst (λ (ts : List Transfer). All IsEnough ts) (sym prep.ready.carried) (All-nil IsEnough);
  }

  -- ---- the steps of the map

  -- The record of a disc whose directories grow can have the root's new place.
  pub can_write : TellsVersion (Layout.New m) → (n : ℕ) → disc_sectors (Layout.New m) ≤ n → CanWrite n m pr.ready
  can_write tells n most =
      let d = prep.spaced.places.dir in
      let alone = walk.alone m nodes owners dir x path prep.wants prep.spaces is kind root listings agreed spot in
      let back = walk.back m nodes owners dir x path prep.wants prep.spaces is kind root listings agreed spot in
      let fit = walk.fit m nodes owners dir x path prep.wants prep.spaces is kind root listings agreed spot in
      let takes = walk.takes m nodes owners dir x path prep.wants prep.spaces is kind root listings agreed spot in
      let gives = wanted.gives m nodes owners dir x (last_name path) prep.wants prep.spaces is in
      let version = version_of m tells (walk.form m nodes owners dir x path prep.wants prep.spaces is kind root listings agreed spot) in
      record {
        put = can_put n most;
        take = subst (CanStep m) (sym prep.ready.take)
            (can.can_take m plan d alone back fit (root_of (Some P)) is_map prep.spaces.take takes (rooted.rooted m nodes owners dir x path pr prep growth some is_map kind root listings agreed spot version));
        give = λ mid done. subst (CanStep mid) (sym prep.ready.give)
            (can.can_give m plan d alone back fit (root_of (Some P)) is_map mid prep.spaces.take prep.spaces.give takes gives (subst (HasStepped m mid) prep.ready.take done));
      }
