-- Where what comes lies on a new map: before the map has its space, and afterwards.
use Rattle.std.proofs.Common.{◌≡◌, ◌<◌, ◌+◌, ◌*◌, inl, inr, ℕ, Bool, true, false, cond, List, [], ◌∷◌, refl, sym, ap, subst, ◌∙◌, arith, Option, Some, None}
use Rattle.std.specs.Prelude.{Contains}
use Rattle.std.specs.Option.{option_to_list}
use Rattle.fc_names.specs.Names.{Path}
use Rattle.fc_record.specs.declared.Kind.{Kind}
use Rattle.fc_newmap.specs.Map.{Map, ZoneRun, all_runs, hole_runs, id_runs, is_hole, map_sectors}
use Rattle.fc_newmap.specs.NewMap.{IsNewMap}
use Rattle.fc_newmap.proofs.CoverLemmas.{run_on_disc}
use Rattle.fc_newmap.proofs.PlaceLemmas.{filter_in, holder_of, in_front}
use Rattle.fc_alloc.specs.declared.owner.Owner.{Owner}
use Rattle.fc_image.specs.Layout.{Layout, dir_form, disc_sectors, hole_sectors, id_of, is_among, is_apart, sectors_at}
use Rattle.fc_image.specs.Edits.{IsAt}
use Rattle.fc_image.specs.Objects.{objects_of}
use Rattle.fc_image.specs.Opening.{Opened, boot_place, reserved_in}
use Rattle.fc_model.specs.Command.{Command}
use Rattle.fc_image.specs.Walk.{Listing, Object, object_size}
use Rattle.fc_image.proofs.HolesLemmas.{apart_at, apart_from, no_hole_in}
use Rattle.fc_changes.specs.Changed.{IsFileAt}
use Rattle.fc_changes.specs.Owed.{GivesBack, IsSpaceEdit}
use Rattle.fc_changes.proofs.BasicLemmas.{clash}
use Rattle.fc_laws.specs.nodes.Edits.{Nodes}
use Rattle.fc_laws.specs.agree.Agreed.{AgreeOn, IsMapChange}
use Rattle.fc_laws.proofs.lemmas.agree.BeforeLemmas.{disc_holds, new_facts, new_shape, no_hole, tight}
use Rattle.fc_laws.proofs.lemmas.agree.NewPlaceLemmas.{IsFreePlace, file_place}
use Rattle.fc_laws.specs.takeover.Places.{IsNewObject, MayBeWritten, OpensBy}
use Rattle.fc_laws.proofs.lemmas.takeover.ApartLemmas.{places_law}
use Rattle.fc_laws.proofs.lemmas.takeover.WriteLemmas.{written_bytes_law}
use Rattle.fc_edits.specs.Placing.{IsPlaced}
use Rattle.fc_edits.proofs.lemmas.AdditionLawLemmas.{addition_law}
use Rattle.fc_edits.proofs.lemmas.NewSpaceLemmas.{parts_some}
use Rattle.fc_placing.specs.Places.{IsOwnPlan, id_in, parts_in, shared_id}
use Rattle.fc_changes.specs.Space.{IsMapEdited}
use Rattle.fc_placing.specs.declared.placing.Placing.{Placing}
use Rattle.fc_placing.specs.declared.placing.Placing.TheVariants as placings
use Rattle.fc_placing.proofs.PlacedLemmas.{place_law}
use Rattle.fc_changes.proofs.StepsLemmas.{steps_law}
use Rattle.fc_plan.specs.declared.plan.Plan.{Plan}
use Rattle.fc_plan.specs.Giving.{is_one_of}
use Rattle.fc_tree.specs.declared.node.Node.{Node}
use Rattle.fc_writing.specs.declared.ready.MapStep.{MapStep}
use Rattle.fc_writing.specs.Steps.{HasStepped}
use Rattle.fc_change.specs.GrownSpace.{place_of_plan}
use Rattle.fc_change.specs.Places.{plan_in}
use Rattle.fc_change.specs.Steps.{IsStep}
use Rattle.fc_commands.proofs.PlanPlaceLemmas.{plan_free, plan_leads, plan_once}
use Rattle.fc_commands.proofs.StepLemmas.{IsTakenBy, IsTwoStepped, StaysTaken, both_steps, first_step, nothing_edit, second_step}
use Rattle.fc_commands.proofs.TwoPieceLemmas.{AreRoom}

-- Some bytes lie there: nowhere, in slack by this map, or in the sectors of a plan of their own.
abbrev pub LiesBy : Map → ℕ → Placing → (address : ℕ) → List ℕ → Type 0
LiesBy m bytes placings.Nowhere address sectors = (bytes ≡ 0) × (sectors ≡ [])
LiesBy m bytes (placings.Shared share) address sectors = (id_of address ≡ share.id) × (sectors_at (Layout.New m) address bytes ≡ Some sectors)
LiesBy m bytes (placings.New plan) address sectors = IsOwnPlan m bytes plan × ((low : ℕ) × (low < 2) × (address ≡ 256 * plan.id + low)) × (sectors ≡ place_of_plan m.geometry plan bytes)

pub at_none : (layout : Layout) (address bytes : ℕ) (sectors : List ℕ) → bytes ≡ 0 → sectors ≡ [] → sectors_at layout address bytes ≡ Some sectors
unfolding sectors_at
at_none layout address bytes sectors none empty = ap (λ (n : ℕ). sectors_at layout address n) none ∙ ap (λ (xs : List ℕ). let r : Option (List ℕ) = Some xs in r) (sym empty)

pub id_at : (id low : ℕ) → low < 2 → id_of (256 * id + low) ≡ id
id_at id low small = omega (arith, small)

-- Sectors that an object may have beside these, by a map and its boot block.
pub record IsRoomBeside (m : Map) (objects : List Object) (sectors : List ℕ) : Type 0 where
  pub room : AreRoom (disc_sectors (Layout.New m)) (map_sectors m.geometry) sectors
  pub apart : (p : Object) → Contains objects p → is_apart p.sectors sectors ≡ true

-- ---- holes

-- holes lie on the disc,
pub hole_on_disc : (m : Map) → IsNewMap m → (s : ℕ) → is_among (hole_sectors (Layout.New m)) s ≡ true → s < disc_sectors (Layout.New m)
hole_on_disc m is s i =
    let facts = new_facts m is in
    let p = holder_of m.geometry (hole_runs m) s i in
    run_on_disc m (new_shape m is) is.right facts.zones facts.begun p.0 s (filter_in (λ (q : ZoneRun). is_hole q.1.kind) (all_runs m) p.0 p.1.0).0 p.1.1

module _ (kind : Kind) (m : Map) (nodes : Nodes) (owners : List Owner) (root : Node) (listings : List Listing) (agreed : AgreeOn kind m nodes owners root listings) where
  -- and apart from the map.
  pub hole_apart : (sectors : List ℕ) → ((s : ℕ) → is_among sectors s ≡ true → is_among (hole_sectors (Layout.New m)) s ≡ true) → is_apart sectors (map_sectors m.geometry) ≡ true
  hole_apart sectors holes =
      apart_from sectors (map_sectors m.geometry)
      (λ s i j. clash (is_among (hole_sectors (Layout.New m)) s) (holes s i)
      (no_hole_in m (objects_of listings) (reserved_in kind (Layout.New m)) (tight kind m nodes owners root listings agreed) s (in_front (map_sectors m.geometry) (boot_place kind m.geometry.sector) s j)))

  pub hole_room : (bytes : ℕ) (plan : Plan) → IsOwnPlan m bytes plan → IsRoomBeside m (objects_of listings) (place_of_plan m.geometry plan bytes)
  hole_room bytes plan own =
      let sectors = place_of_plan m.geometry plan bytes in
      let free = plan_free m agreed.is_map bytes plan own in
      record {
        room = record { low = λ s e. hole_on_disc m agreed.is_map s (free s e); once = plan_once m agreed.is_map bytes plan own; beside = hole_apart sectors free };
        apart = λ p at.
            apart_from p.sectors sectors
            (λ s i j. clash (is_among (hole_sectors (Layout.New m)) s) (free s j) (apart_at p.sectors (hole_sectors (Layout.New m)) s (no_hole kind m nodes owners root listings agreed p at) i));
      }

  -- ---- in slack, or nowhere

  module _ (o : Object) (near : Path) (bytes id : ℕ) (size : object_size (dir_form (Layout.New m)) o.entry ≡ bytes) (at : IsAt (Layout.New m) o) (place : IsFileAt m (objects_of listings) near bytes id [] o) where
    pub unchanged : IsMapChange m m id [] [] (objects_of listings) (o ∷ objects_of listings)
    unchanged = record {
      is_map = agreed.is_map;
      geometry = refl;
      space = steps_law.given m m id [] (nothing_edit m);
      gives = addition_law.none_goes m o (objects_of listings);
    }

    free : IsFreePlace kind m (objects_of listings) id [] o
    free = file_place kind m m nodes owners root listings agreed bytes id [] [] o (objects_of listings) unchanged at size near place

    pub there_room : IsRoomBeside m (objects_of listings) o.sectors
    there_room = record {
      room = record {
        low = λ s e. disc_holds m o agreed.is_map at s e;
        once = written_bytes_law.apart m o agreed.is_map at;
        beside = apart_from o.sectors (map_sectors m.geometry)
            (λ s i j. clash (is_among (reserved_in kind (Layout.New m)) s) (in_front (map_sectors m.geometry) (boot_place kind m.geometry.sector) s j)
            (apart_at o.sectors (reserved_in kind (Layout.New m)) s free.free i));
      };
      apart = free.apart;
    }

-- by a map that stays as it is
still : (m : Map) (objects : List Object) (view : Opened) (o : Object) (bytes id : ℕ) → IsNewMap m → object_size (dir_form (Layout.New m)) o.entry ≡ bytes → IsAt (Layout.New m) o → objects ≡ objects_of view.listings
    → IsNewObject view m m bytes id [] [] o objects
still m objects view o bytes id is size at same = record {
  is_map = is;
  geometry = refl;
  space = steps_law.given m m id [] (nothing_edit m);
  gives = subst (λ (os : List Object). GivesBack m [] (objects_of view.listings) (o ∷ os)) (sym same) (addition_law.none_goes m o (objects_of view.listings));
  at = at;
  size = size;
}

-- Wherever something lies it has room beside what is there.
pub room_beside : (kind : Kind) (m : Map) (nodes : Nodes) (owners : List Owner) (root : Node) (listings : List Listing) (agreed : AgreeOn kind m nodes owners root listings) (o : Object) (near : Path) (bytes : ℕ)
    (placing : Placing) → object_size (dir_form (Layout.New m)) o.entry ≡ bytes → LiesBy m bytes placing o.entry.address o.sectors → IsPlaced m (objects_of listings) near bytes (id_in placing) (parts_in placing) o
    → IsRoomBeside m (objects_of listings) o.sectors
room_beside kind m nodes owners root listings agreed o near bytes placings.Nowhere size lies (inl file) =
    there_room kind m nodes owners root listings agreed o near bytes 0 size (ap (sectors_at (Layout.New m) o.entry.address) size ∙ at_none (Layout.New m) o.entry.address bytes o.sectors lies.0 lies.1) file
room_beside kind m nodes owners root listings agreed o near bytes placings.Nowhere size lies (inr new) = absurd (let some = parts_some m bytes 0 0 [] o agreed.is_map new in omega (arith, some))
room_beside kind m nodes owners root listings agreed o near bytes (placings.Shared share) size lies (inl file) =
    there_room kind m nodes owners root listings agreed o near bytes share.id size (ap (sectors_at (Layout.New m) o.entry.address) size ∙ lies.1) file
room_beside kind m nodes owners root listings agreed o near bytes (placings.Shared share) size lies (inr new) = absurd (let some = parts_some m bytes 0 share.id [] o agreed.is_map new in omega (arith, some))
room_beside kind m nodes owners root listings agreed o near bytes (placings.New plan) size lies place =
    subst (IsRoomBeside m (objects_of listings)) (sym lies.2) (hole_room kind m nodes owners root listings agreed bytes plan lies.0)

-- So it may be written at any moment.
pub may_be_written : (kind : Kind) (was : List ℕ) (view : Opened) (m : Map) (c : Command) → OpensBy kind was view m → IsNewMap m → (o : Object) (near : Path) (bytes : ℕ) (placing : Placing)
    → object_size (dir_form (Layout.New m)) o.entry ≡ bytes → LiesBy m bytes placing o.entry.address o.sectors → IsPlaced m (objects_of view.listings) near bytes (id_in placing) (parts_in placing) o
    → MayBeWritten kind view m c o.sectors
may_be_written kind was view m c by is o near bytes placings.Nowhere size lies (inl file) =
    places_law.file kind was view m m c near bytes 0 [] [] o (objects_of view.listings) by
    (still m (objects_of view.listings) view o bytes 0 is size (ap (sectors_at (Layout.New m) o.entry.address) size ∙ at_none (Layout.New m) o.entry.address bytes o.sectors lies.0 lies.1) refl) file
may_be_written kind was view m c by is o near bytes placings.Nowhere size lies (inr new) = absurd (let some = parts_some m bytes 0 0 [] o is new in omega (arith, some))
may_be_written kind was view m c by is o near bytes (placings.Shared share) size lies (inl file) =
    places_law.file kind was view m m c near bytes share.id [] [] o (objects_of view.listings) by
    (still m (objects_of view.listings) view o bytes share.id is size (ap (sectors_at (Layout.New m) o.entry.address) size ∙ lies.1) refl) file
may_be_written kind was view m c by is o near bytes (placings.Shared share) size lies (inr new) = absurd (let some = parts_some m bytes 0 share.id [] o is new in omega (arith, some))
may_be_written kind was view m c by is o near bytes (placings.New plan) size lies place =
    places_law.holes kind was view m c o.sectors by (λ s e. plan_free m is bytes plan lies.0 s (subst (λ (ss : List ℕ). is_among ss s ≡ true) lies.2 e))

-- ---- both steps of the map

-- What is taken, and what goes back.
module _ (m m' : Map) (placing : Placing) (gone : List ℕ) (take give : MapStep) (is : IsNewMap m) (takes : IsStep m (option_to_list (plan_in placing)) [] [] None take) (gives : IsStep m [] gone [] None give)
    (mid : Map) (first : HasStepped m mid take) (second : HasStepped mid m' give) (stays : StaysTaken (plan_in placing) gone) where
  pub two : IsTwoStepped m m' (plan_in placing) gone
  two = both_steps m mid m' (plan_in placing) gone take give is takes gives first second stays

  -- the change of space
  pub space : IsSpaceEdit m m' (id_in placing) (parts_in placing) gone
  space = by placing two
    where
      by : (x : Placing) → IsTwoStepped m m' (plan_in x) gone → IsSpaceEdit m m' (id_in x) (parts_in x) gone
      by placings.Nowhere t = t.space
      by (placings.Shared share) t = steps_law.given m m' share.id gone t.space
      by (placings.New plan) t = t.space

  -- It lies there then, if no identifier goes back that it shares.
  pub lies : (address bytes : ℕ) (sectors : List ℕ) → LiesBy m bytes placing address sectors → ((id : ℕ) → shared_id placing ≡ Some id → is_one_of gone id ≡ false) → sectors_at (Layout.New m') address bytes ≡ Some sectors
  lies address bytes sectors there kept = by placing there kept two taken.1 stays
    where
      taken : IsMapEdited m mid × IsTakenBy m mid (plan_in placing)
      taken = first_step m mid (plan_in placing) take is takes first

      given : IsMapEdited mid m' × IsSpaceEdit mid m' 0 [] gone
      given = second_step m mid m' gone give taken.0.is_map gives second

      by : (x : Placing) → LiesBy m bytes x address sectors → ((id : ℕ) → shared_id x ≡ Some id → is_one_of gone id ≡ false) → IsTwoStepped m m' (plan_in x) gone → IsTakenBy m mid (plan_in x) → StaysTaken (plan_in x) gone
          → sectors_at (Layout.New m') address bytes ≡ Some sectors
      by placings.Nowhere at still t took stay = at_none (Layout.New m') address bytes sectors at.0 at.1
      by (placings.Shared share) at still t took stay =
          place_law.stays m m' address bytes t.edited.geometry
          (t.space.others (id_of address) (λ some same. absurd (omega (arith, some))) ∙ ap (λ (b : Bool). cond b [] (id_runs m (id_of address))) (ap (is_one_of gone) at.0 ∙ still share.id refl)) ∙ at.1
      by (placings.New plan) at still t took stay =
          let low = at.1.0 in
          let id : id_of address ≡ plan.id = ap id_of at.1.2 ∙ id_at plan.id low at.1.1 in
          place_law.stays mid m' address bytes given.0.geometry
          (given.1.others (id_of address) (λ some same. absurd (omega (arith, some))) ∙ ap (λ (b : Bool). cond b [] (id_runs mid (id_of address))) (ap (is_one_of gone) id ∙ stay))
          ∙ ap (λ (a : ℕ). sectors_at (Layout.New mid) a bytes) at.1.2 ∙ plan_leads m is bytes plan at.0 mid low took at.1.1 ∙ ap (λ (xs : List ℕ). let r : Option (List ℕ) = Some xs in r) (sym at.2)
