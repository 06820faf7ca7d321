-- `rename` that copies its file into a directory that grows by it: it can be written, and at any moment nothing else was written but what the
-- command may write.
use Rattle.fc_change.specs.GrownSpace.{place_of_plan, plan_sectors}
use Rattle.fc_change.specs.Places.{plan_in}
use Rattle.fc_changes.proofs.BasicLemmas.{clash}
use Rattle.fc_commands.proofs.CopyingFileLemmas.{IsCopiedFile}
use Rattle.fc_commands.proofs.GrownAskedLemmas.{view_with}
use Rattle.fc_commands.proofs.GrownCopyMadeLemmas.{MadeCopy, copying_of, placed_copy}
use Rattle.fc_commands.proofs.GrownCopyWantLemmas.{CopiedRename, IsCopyAt, bytes_is, copy_at, file, from_is, source, spotted}
use Rattle.fc_commands.proofs.GrownMoveMadeLemmas.{EditedRename, IsPlacedEdit}
use Rattle.fc_commands.proofs.GrownMoveMayLemmas as may
use Rattle.fc_commands.proofs.GrownMovePutLemmas as put
use Rattle.fc_commands.proofs.GrownMoveRestLemmas.{it_among}
use Rattle.fc_commands.proofs.GrownMoveSaidLemmas.{it, l, layout, listed}
use Rattle.fc_commands.proofs.GrownMoveWalkLemmas as walk
use Rattle.fc_commands.proofs.GrownMoveWantLemmas.{GrownRename}
use Rattle.fc_commands.proofs.GrownMoveWantLemmas as want
use Rattle.fc_commands.proofs.GrownPutLemmas.{apart_own, may_have, places}
use Rattle.fc_commands.proofs.GrownSpaceLemmas.{IsToGrow}
use Rattle.fc_commands.proofs.MovePieceLemmas.{all_apart, among_flat}
use Rattle.fc_commands.proofs.NewPlaceLemmas.{IsRoomBeside, hole_room}
use Rattle.fc_commands.proofs.PieceLemmas.{all_low}
use Rattle.fc_commands.proofs.PlanPlaceLemmas.{plan_free}
use Rattle.fc_commands.proofs.StayingLemmas.{count}
use Rattle.fc_commands.proofs.TargetLemmas as target_of
use Rattle.fc_commands.proofs.TwoPieceLemmas.{AreRoom, apart_both, room_both}
use Rattle.fc_holdings.specs.Holdings.{TellsVersion}
use Rattle.fc_edits.proofs.lemmas.LeavingLemmas.{one_of_sector}
use Rattle.fc_edits.specs.Edit.{Amended}
use Rattle.fc_image.proofs.EditLemmas.{apart_turned as flipped}
use Rattle.fc_image.proofs.HolesLemmas.{apart_at, apart_from}
use Rattle.fc_image.specs.Edits.{IsAt}
use Rattle.fc_image.specs.Layout.{Layout, dir_form, disc_sectors, hole_sectors, is_among, is_apart}
use Rattle.fc_image.specs.Objects.{objects_of}
use Rattle.fc_image.specs.Opening.{boot_place, reserved_in}
use Rattle.fc_image.specs.Stays.{OpensAs}
use Rattle.fc_image.specs.Walk.{Listing, is_directory_object, object_size}
use Rattle.fc_laws.proofs.lemmas.agree.BeforeLemmas.{agreed_law, disc_holds}
use Rattle.fc_laws.proofs.lemmas.takeover.ApartLemmas.{places_law}
use Rattle.fc_laws.proofs.lemmas.takeover.SaidLemmas.{apart_front}
use Rattle.fc_laws.specs.takeover.Places.{MayBeWritten}
use Rattle.fc_model.specs.Command.{Command}
use Rattle.fc_newmap.specs.Map.{map_sectors}
use Rattle.fc_objects.specs.Extents.{sectors_in}
use Rattle.fc_objects.specs.Written.{AreApart}
use Rattle.fc_plan.specs.declared.plan.Plan.{Plan}
use Rattle.fc_tree.proofs.MemberLemmas.{from_map}
use Rattle.fc_tree.proofs.WalkedLemmas.{listed_directory}
use Rattle.fc_writing.specs.New.{CanWrite}
use Rattle.fc_writing.specs.Ready.{CanPut, IsEnough, IsSourceEnough, copied_place, source_from, source_place, written_place}
use Rattle.fc_writing.specs.declared.ready.Source.{Source}
use Rattle.fc_writing.specs.declared.ready.Source.TheVariants as from
use Rattle.fc_writing.specs.declared.ready.Transfer.{Transfer}
use Rattle.std.proofs.Common.{All, List, Option, Some, ap, arith, length, map, refl, subst, sym, true, ℕ, ⊎_elim, ◌++◌, ◌<◌, ◌∙◌, ◌≡◌, ◌≤◌}
use Rattle.std.proofs.lemmas.List.{length-take}
use Rattle.std.proofs.lemmas.List.Elements.{All-nil}
use Rattle.std.specs.Int.{div_ceil}
use Rattle.std.specs.Prelude.{Contains}

module _ (w : CopiedRename) (md : MadeCopy (spotted w)) where
  abbrev q : GrownRename
  q = w.q

  abbrev e : EditedRename
  e = copying_of (spotted w) md.c

  abbrev pl : IsPlacedEdit (copying_of (spotted w) md.c)
  pl = placed_copy w md.c

  abbrev at : IsCopyAt w.q w.placed
  at = copy_at w.q w.placed w.copied

  abbrev its : IsCopiedFile w.q.m w.q.nodes w.q.listings w.q.from w.q.to w.q.r w.q.seen.known.target.object
  its = file w.q w.copied

  abbrev new : List ℕ
  new = sectors_in at.place.extents.items

  abbrev mapped : List ℕ
  mapped = map_sectors w.q.m.geometry

  t : (t : Transfer) × (w.pr.ready.source ≡ from.Sectors t) × (t.from.items ≡ at.from.items) × (t.to.items ≡ at.place.extents.items)
  t = source (spotted w)

  -- ---- what is written, and what is read

  written_is : written_place w.pr.ready ≡ new ++ put.dirs_place e md.part
  written_is = put.written_is e md.part ∙ ap (λ (s : Source). source_place s ++ put.dirs_place e md.part) t.1 ∙ ap (λ (ss : List ℕ). ss ++ put.dirs_place e md.part) (ap sectors_in t.3)

  copied_is : copied_place w.pr.ready ≡ w.q.seen.known.target.object.sectors
  copied_is = put.copied_is e md.part ∙ ap source_from t.1 ∙ ap sectors_in t.2 ∙ from_is (spotted w)

  -- ---- the sectors

  new_free : (s : ℕ) → is_among new s ≡ true → is_among (hole_sectors (Layout.New w.q.m)) s ≡ true
  new_free s here = plan_free q.m q.agreed.is_map q.wants.bytes at.plan at.own s (subst (λ (ss : List ℕ). is_among ss s ≡ true) at.sectors here)

  new_room : IsRoomBeside w.q.m (objects_of w.q.listings) new
  new_room = subst (IsRoomBeside q.m (objects_of q.listings)) (sym at.sectors) (hole_room q.kind q.m q.nodes q.owners q.root q.listings q.agreed q.wants.bytes at.plan at.own)

  abbrev grown : List ℕ
  grown = sectors_in (want.grown w.q).0.extents.items

  abbrev others : List Listing
  others = map (λ (a : Amended). a.was) (put.first e md.part).1

  others_listed : (d : Listing) → Contains others d → Contains w.q.listings d
  others_listed d there = let a = from_map (λ (y : Amended). y.was) (put.first e md.part).1 d there in subst (Contains q.listings) a.2 (put.among_listed e md.part a.0 a.1)

  -- sectors that are none of any directory are none of these
  dirs_apart : (ss : List ℕ) → ((d : Listing) → Contains w.q.listings d → is_apart d.object.sectors ss ≡ true) → is_apart ss (places others) ≡ true
  dirs_apart ss each =
      apart_from ss (places others)
      (λ s here there. let d = among_flat (λ (y : Listing). y.object.sectors) others s there in clash (is_among ss s) here (apart_at d.0.object.sectors ss s (each d.0 (others_listed d.0 d.1)) d.2))

  among : (d : Listing) → Contains w.q.listings d → Contains (objects_of w.q.listings) d.object
  among d listed = (listed_directory (layout q) q.listings q.seen.sound d listed).0

  plan_is : plan_in w.placed.placing ≡ Some at.plan
  plan_is = ap plan_in at.plan_is

  grown_apart : is_apart new grown ≡ true
  grown_apart =
      subst (λ (ss : List ℕ). is_apart ss grown ≡ true) (sym at.sectors)
      (subst (λ (o : Option Plan). IsToGrow q.m q.nodes q.owners q.listings (l q).object (walk.cut q).0 q.growth o w.placed.dir (want.grown q).0 → is_apart (place_of_plan q.m.geometry at.plan q.wants.bytes) grown ≡ true) (sym plan_is)
      (λ to. apart_own q.kind q.m q.nodes q.owners q.root q.listings q.agreed (l q) (walk.cut q).0 q.growth at.plan w.placed.dir (want.grown q).0 to q.wants.bytes at.own) (walk.to_grow q w.placed))

  all_room : AreRoom (disc_sectors (Layout.New w.q.m)) (map_sectors w.q.m.geometry) (new ++ put.dirs_place e md.part)
  all_room =
      room_both (disc_sectors (layout q)) mapped new (put.dirs_place e md.part) new_room.room (put.dirs_there e pl md.part)
      (flipped (put.dirs_place e md.part) new (apart_both grown (places others) new (flipped new grown grown_apart) (flipped new (places others) (dirs_apart new (λ d listed. new_room.apart d.object (among d listed))))))

  -- a directory is another object than the file
  file_apart : (d : Listing) → Contains w.q.listings d → is_apart d.object.sectors w.q.seen.known.target.object.sectors ≡ true
  file_apart d listed =
      let there = listed_directory (layout q) q.listings q.seen.sound d listed in
      apart_from d.object.sectors (it q).sectors (λ s here other.
      let same = one_of_sector (reserved_in q.kind (layout q)) (objects_of q.listings) d.object (it q) s (all_apart q.kind (layout q) q.nodes q.root q.listings q.agreed.walked) there.0 (it_among q) here other in
      clash (is_directory_object (it q)) (ap is_directory_object (sym same) ∙ there.1) its.file)

  it_grown : is_apart w.q.seen.known.target.object.sectors grown ≡ true
  it_grown =
      let has = may_have q.kind q.m q.nodes q.owners q.root q.listings q.agreed (l q) (listed q) (walk.cut q).0 q.growth (plan_in w.placed.placing) w.placed.dir (want.grown q).0 (walk.to_grow q w.placed) in
      ⊎_elim (λ same. absurd (clash (is_directory_object (it q)) (ap is_directory_object same ∙ (listed_directory (layout q) q.listings q.seen.sound (l q) (listed q)).1) its.file)) (λ apart. apart) (has.beside (it q) (it_among q))

  its_apart : is_apart w.q.seen.known.target.object.sectors (new ++ put.dirs_place e md.part) ≡ true
  its_apart =
      flipped (new ++ put.dirs_place e md.part) (it q).sectors
      (apart_both new (put.dirs_place e md.part) (it q).sectors (flipped (it q).sectors new (new_room.apart (it q) (it_among q)))
      (apart_both grown (places others) (it q).sectors (flipped (it q).sectors grown it_grown) (flipped (it q).sectors (places others) (dirs_apart (it q).sectors file_apart))))

  abbrev placed : IsAt (Layout.New w.q.m) w.q.seen.known.target.object
  placed = target_of.placed (Layout.New q.m) q.nodes q.listings q.seen.sound q.seen.held q.from q.r.target q.seen.known.target

  long_enough : length new ≤ length w.q.seen.known.target.object.sectors
  long_enough =
      let there = count (layout q) (it q).entry.address (object_size (dir_form (layout q)) (it q).entry) (it q).sectors placed in
      let same = ap (λ (n : ℕ). div_ceil n q.m.geometry.sector) (bytes_is q w.copied ∙ sym its.size) in
      let cut = ap (λ (ss : List ℕ). length ss) at.sectors in
      let fits = plan_long at.plan q.wants.bytes in
      omega (arith, there, same, cut, fits)
    where
      plan_long : (plan : Plan) (bytes : ℕ) → length (place_of_plan w.q.m.geometry plan bytes) ≤ div_ceil bytes w.q.m.geometry.sector
      plan_long plan bytes = let cut = length-take (div_ceil bytes w.q.m.geometry.sector) (plan_sectors w.q.m.geometry plan) in omega (arith, cut)

  can_put : (n : ℕ) → disc_sectors (Layout.New w.q.m) ≤ n → CanPut n (map_sectors w.q.m.geometry) w.pr.ready
  can_put n most = record {
    on_disk = subst (λ (ss : List ℕ). All (λ s. s < n) ss) (sym written_is) (all_low n (new ++ put.dirs_place e md.part) (λ s here. let low = all_room.low s here in omega (arith, low, most)));
    from_disk = subst (λ (ss : List ℕ). All (λ s. s < n) ss) (sym copied_is) (all_low n (it q).sectors (λ s here. (let low = disc_holds q.m (it q) q.agreed.is_map placed s here in omega (arith, low, most))));
    once = subst AreApart (sym written_is) all_room.once;
    beside = subst (λ (ss : List ℕ). is_apart ss mapped ≡ true) (sym written_is) all_room.beside;
    others = subst (λ (ss : List ℕ). is_apart ss (written_place w.pr.ready) ≡ true) (sym copied_is) (subst (λ (ss : List ℕ). is_apart (it q).sectors ss ≡ true) (sym written_is) its_apart);
    unmapped = subst (λ (ss : List ℕ). is_apart ss mapped ≡ true) (sym copied_is)
        (apart_front (it q).sectors mapped (boot_place q.kind q.m.geometry.sector) (agreed_law.placed q.kind q.m q.nodes q.owners q.root q.listings q.agreed (it q) (it_among q)).1);
    source_enough = subst IsSourceEnough (sym t.1) (subst (λ (ts : List ℕ). length ts ≤ length (sectors_in t.0.from.items)) (sym (ap sectors_in t.3))
        (subst (λ (fs : List ℕ). length new ≤ length fs) (sym (ap sectors_in t.2 ∙ from_is (spotted w))) long_enough));
    enough = subst (λ (ts : List Transfer). All IsEnough ts) (sym w.ready.carried) (All-nil IsEnough);
  }

  pub can_write : TellsVersion (Layout.New w.q.m) → (n : ℕ) → disc_sectors (Layout.New w.q.m) ≤ n → CanWrite n w.q.m w.pr.ready
  can_write tells n most = put.writes e pl md.part tells n (can_put n most)

  -- ---- at any moment

  pub all_may : (was : List ℕ) → OpensAs was w.q.kind (record { kind = w.q.kind; layout = Layout.New w.q.m; listings = w.q.listings })
      → MayBeWritten w.q.kind (view_with w.q.kind w.q.m w.q.listings) w.q.m (Command.Rename w.q.from w.q.to) (written_place w.pr.ready)
  all_may was opens =
      let view = view_with q.kind q.m q.listings in
      let c = Command.Rename q.from q.to in
      may.all_may e pl md.part was opens
      (subst (λ (s : Source). MayBeWritten q.kind view q.m c (source_place s)) (sym t.1)
      (subst (λ (ss : List ℕ). MayBeWritten q.kind view q.m c ss) (sym (ap sectors_in t.3)) (places_law.holes q.kind was view q.m c new (record { opens = opens; layout = refl }) new_free)))
