-- `rename` that copies its file into a directory that grows, in the safe mode: the edit with its parts, which agree afterwards.
use Rattle.std.proofs.Common.{◌≡◌, ◌<◌, ◌≤◌, ◌*◌, ◌==◌, ◌&&◌, ◌||◌, ⊎_elim, ℕ, suc, zero, Bool, true, false, not, cond, filter, length, map, List, [], ◌∷◌, ◌++◌, refl, sym, ap, ap₂, subst, ◌∙◌, arith, eq-eqb, ne_eqb, Option, Some, None, inr}
use Rattle.std.specs.Prelude.{Contains, IsPermutation, nat_lt}
use Rattle.std.specs.Int.{div_ceil}
use Rattle.std.specs.List.{list_any}
use Rattle.std.specs.Option.{option_and_then, option_map, option_map_or, unwrap_or}
use Rattle.std.proofs.lemmas.Bool.{eqb-true, lt-ltb}
use Rattle.std.proofs.lemmas.Grind.{div_ceil_times}
use Rattle.std.proofs.lemmas.List.Sorted.{list_any-IsPermutation}
use Rattle.fc_alloc.specs.declared.owner.Owner.{Owner}
use Rattle.fc_names.specs.Names.{is_same_path, is_directory}
use Rattle.fc_names.specs.declared.name.NameForm.{NameForm}
use Rattle.fc_names.specs.declared.name.NameForm.TheVariants as forms
use Rattle.fc_record.specs.declared.Geometry.{Geometry}
use Rattle.fc_newmap.specs.Map.{Map, is_used, bits_in, id_runs}
use Rattle.fc_image.specs.Edits.{IsAt}
use Rattle.fc_image.specs.Layout.{Layout, dir_form, id_of, sectors_at, is_among, low_of}
use Rattle.fc_image.specs.Objects.{has_sectors, is_owner_of, objects_of}
use Rattle.fc_image.specs.Walk.{Object, is_directory_object, object_size}
use Rattle.fc_image.proofs.PathsLemmas.{itself}
use Rattle.fc_changes.proofs.BasicLemmas.{clash}
use Rattle.fc_plan.specs.Giving.{is_one_of}
use Rattle.fc_tree.specs.Agree.{Agree}
use Rattle.fc_tree.specs.Parts.{owner_of}
use Rattle.fc_tree.proofs.MemberLemmas.{contains_here}
use Rattle.fc_image.proofs.EntriesLemmas.{later as contains_later}
use Rattle.fc_tree.proofs.WalkedLemmas.{listed_directory, same_some}
use Rattle.fc_dirs.specs.declared.Entry.{Entry}
use Rattle.fc_edits.specs.Edit.{Amended, owners_left, owners_joined}
use Rattle.fc_edits.specs.NewPlaces.{GivesBack, is_taken, LiesAgain}
use Rattle.fc_image.specs.effects.Steady.{is_given_back}
use Rattle.fc_placing.specs.Leaving.{is_kept}
use Rattle.fc_placing.specs.Places.{slack_left}
use Rattle.fc_placing.proofs.LeavingLemmas.{any_owner}
use Rattle.fc_edits.specs.Growing.{Growing, at_place, grown as grown_edit_of, EditGrowing, up_of}
use Rattle.fc_edits.specs.Copying.{Copying, copied, edit}
use Rattle.fc_dirs.specs.Directory.{directory_size}
use Rattle.fc_laws.specs.nodes.Edits.{Nodes, OwnersEdited, owners_with, owner_with}
use Rattle.fc_laws.proofs.lemmas.agree.BeforeLemmas.{new_shape}
use Rattle.fc_laws.specs.agree.Agreed.{parts_with}
use Rattle.fc_writing.specs.New.{IsTaken}
use Rattle.fc_change.specs.After.{AreOwnersAfter, nodes_after, owners_admitted, IsRegrownOwner, IsTurnedOwner}
use Rattle.fc_change.specs.declared.change.Regrowth.{Regrowth}
use Rattle.fc_change.specs.declared.job.Growth.{Growth}
use Rattle.fc_change.specs.declared.job.Job.TheVariants as jobs
use Rattle.fc_change.specs.declared.spaces.Spaces.{Spaces}
use Rattle.fc_change.specs.Drafts.{IsChangeOf}
use Rattle.fc_commands.specs.declared.stages.Prepared.{Prepared}
use Rattle.fc_commands.proofs.GrownMoveNodeLemmas as node_of
use Rattle.fc_commands.proofs.GrownMoveNodeLemmas.{growing_in}
use Rattle.fc_commands.proofs.GrownMoveDoneLemmas.{found_all}
use Rattle.fc_commands.proofs.GrownMoveReadyLemmas.{node_other}
use Rattle.fc_commands.proofs.GrownMoveRestLemmas as rest_of
use Rattle.fc_commands.proofs.GrownMoveSaidLemmas.{anew, it}
use Rattle.fc_commands.proofs.StayingLemmas.{count as sector_count}
use Rattle.fc_safe.specs.FirstNeeds.{moving_out, node_of as nodes_out}
use Rattle.fc_safe.specs.FirstSpace.{ArePlacedFirst}
use Rattle.fc_safe.proofs.PlannedLemmas.{grows_out}
use Rattle.fc_safe.specs.Staying.{remains}
use Rattle.fc_safeedits.specs.Relocation.{is_moved}
use Rattle.fc_safeedits.specs.SafeChange.{MovedParts, moves_in}
use Rattle.fc_safeedits.specs.SafeSpace.{SafeSpaceLaw}
use Rattle.fc_safeedits.specs.SafeGrownCopying.{GrownCopiedParts, SafeGrownCopyingLaw}
use Rattle.fc_edits.specs.Places.{Stays}
use Rattle.fc_tree.specs.Nodes.{number_of}
use Rattle.fc_image.proofs.HolesLemmas.{apart_at, apart_from}
use Rattle.fc_edits.proofs.lemmas.CopyingLemmas.{is_copy}
use Rattle.fc_drafts.specs.Entries.{renamed_entry}
use Rattle.fc_commands.proofs.GrownCopyEditLemmas.{entry_at}
use Rattle.fc_change.specs.GrownSpace.{place_of_plan}
use Rattle.fc_plan.specs.Applied.{IsTakenIn}
use Rattle.fc_plan.specs.declared.plan.Plan.{Plan}
use Rattle.fc_change.specs.Owned.{owner_if, IsOwnerNow, entry_owner}
use Rattle.fc_edits.proofs.lemmas.CopiesLemmas as memory
use Rattle.fc_edits.proofs.lemmas.GrownMemberLemmas as members
use Rattle.fc_change.specs.declared.change.Turned.TheVariants as turns
use Rattle.fc_commands.proofs.CopyingOwnerLemmas as mover
use Rattle.fc_commands.proofs.TargetLemmas as target_of
use Rattle.fc_safeedits.specs.SafeGrowth.{IsGrownSafely}
use Rattle.fc_image.specs.effects.Placed.{file_low, first_low}
use Rattle.fc_alloc.specs.Owners.{with_changed}
use Rattle.fc_change.specs.declared.change.Turned.{Turned}
use Rattle.fc_tree.specs.declared.node.Node.{Node}
use Rattle.std.specs.FinMap.{get}
use Rattle.fc_commands.proofs.NodeLemmas as its_of
use Rattle.fc_safecommands.proofs.CopyGrownStageLemmas as stage
use Rattle.fc_drafts.specs.Entries.{regrown as regrown_by}
use Rattle.fc_safelaws.specs.Relaid.{Reaches}
use Rattle.fc_safecommands.specs.Anew.{IsReadyAnew}
use Rattle.fc_safecommands.proofs.GrownImageLemmas as image_of
use Rattle.fc_safecommands.proofs.GrownLaidLemmas.{grown, grown_new, is_grown, staying}
use Rattle.fc_safecommands.proofs.CopyGrownEditLemmas as edit_of
use Rattle.fc_safecommands.proofs.CopyGrownEditLemmas.{ShownCopy}
use Rattle.fc_safecommands.proofs.CopyGrownLemmas.{GrownCopy, bytes_is, file, form, growing, h, leaving_is, leaves_two, number as number_at, node_is}
use Rattle.fc_safecommands.proofs.CopyGrownPlaceLemmas as lies_at
use Rattle.fc_safecommands.proofs.GrownReachLemmas.{grown_is_at}
use Rattle.fc_safecommands.proofs.GrownSafelyLemmas as safely_of
use Rattle.fc_safecommands.proofs.GrownSpaceLemmas.{unused}
use Rattle.fc_safecommands.proofs.GrownSpotLemmas.{d, grown_is, grower}
use Rattle.fc_safecommands.proofs.GrownChangeLemmas.{exactly}
use Rattle.fc_safecommands.proofs.GrownStepLemmas as step_of
use Rattle.fc_safecommands.proofs.GrownStirLemmas.{GrowingJob, leaving, long}
use Rattle.fc_safecommands.proofs.GrownWrittenLemmas.{TellsThese}
use Rattle.fc_safecommands.proofs.OldPlaceLemmas.{one_by_one_is}

-- It is made ready; where it has room, its growth is told by the old map.
pub record CopyRun : Type 0 where
  pub a : GrownCopy
  pub s : Spaces
  pub placed : ArePlacedFirst a.m (h a) (jobs.Move a.r) a.wants s
  pub p : Prepared
  pub change : IsChangeOf (h a) (jobs.Move a.r) a.name s p.change
  pub ready : IsReadyAnew a.m (h a) a.wants p.change s p.ready

abbrev pub shown_of : CopyRun → ShownCopy
shown_of w = record { a = w.a; s = w.s; placed = w.placed; p = w.p; change = w.change; ready = w.ready; shown = safely_of.shown (growing w.a) w.s w.placed; few = safely_of.few (growing w.a) w.s w.placed }

module _ (w : CopyRun) where
  abbrev pub x : GrowingJob
  x = growing w.a

  abbrev pub tells : TellsThese (growing w.a) w.p.change
  tells = edit_of.tells (shown_of w)

  -- the directory that grows
  abbrev pub g : Growing
  g = growing_in (edit_of.e (shown_of w)) (edit_of.md (shown_of w)).part

  l_in : Contains (objects_of w.a.listings) w.a.seen.known.destination.listing.object
  l_in = (listed_directory (Layout.New w.a.m) w.a.listings w.a.seen.sound w.a.seen.known.destination.listing w.a.seen.known.destination.listed).0

  pub its : w.a.seen.known.destination.listing.object ≡ d (growing w.a)
  its =
      sym (grown_is (growing w.a) w.a.seen.known.destination.listing.object l_in
      (eq-eqb (owner_of w.a.nodes (Layout.New w.a.m) w.a.seen.known.destination.listing.object).node w.a.growth.node (ap (λ (n : Option ℕ). unwrap_or n 0) (number_at w.a))))

  pub len_is : g.len ≡ w.a.growth.len
  len_is = ap (λ (r : Regrowth). r.len) (step_of.grown_at (growing w.a) w.s w.placed).2.directory

  pub size : object_size (dir_form (Layout.New w.a.m)) (at_place g g.o).entry ≡ w.a.growth.len
  size =
      ap₂ (λ (b : Bool) (f : NameForm). cond b (directory_size f g.len) g.len) (listed_directory (Layout.New w.a.m) w.a.listings w.a.seen.sound w.a.seen.known.destination.listing w.a.seen.known.destination.listed).1 (form w.a)
      ∙ len_is

  sectors_are : g.sectors ≡ safely_of.shown (growing w.a) w.s w.placed
  sectors_are = one_by_one_is (safely_of.shown (growing w.a) w.s w.placed)

  -- an object that isn't at its path isn't it
  pub none_grown : (o : Object) → Contains (objects_of w.a.listings) o → is_same_path g.o.path o.path ≡ false → is_grown (growing w.a) o ≡ false
  none_grown o at other = by (is_grown (growing w.a) o) refl
    where
      by : (b : Bool) → is_grown (growing w.a) o ≡ b → b ≡ false
      by false e = refl
      by true e = absurd (let same : g.o ≡ o = its ∙ grown_is (growing w.a) o at e in let no : true ≡ false = sym (itself g.o.path) ∙ ap (λ (p : Object). is_same_path g.o.path p.path) same ∙ other in cc)

  -- and stays in its identifier, if it isn't the file
  pub stays_in : (o : Object) → is_grown (growing w.a) o ≡ false → ((owner_of w.a.nodes (Layout.New w.a.m) o).node ≡ w.a.r.target.node → ⊥) → (k : ℕ) → id_of o.entry.address ≡ k → remains (leaving (growing w.a)) k (owner_of w.a.nodes (Layout.New w.a.m) o) ≡ true
  stays_in o other no_file k same =
      ap₂ (λ (b c : Bool). b && not c) (eq-eqb (id_of o.entry.address) k same) (by (is_one_of (leaving (growing w.a)) (owner_of w.a.nodes (Layout.New w.a.m) o).node) refl)
    where
      by : (b : Bool) → is_one_of (leaving (growing w.a)) (owner_of w.a.nodes (Layout.New w.a.m) o).node ≡ b → b ≡ false
      by false e = refl
      by true e = ⊎_elim (λ file'. absurd (no_file file')) (λ is. absurd (clash (is_grown (growing w.a) o) (eq-eqb (owner_of w.a.nodes (Layout.New w.a.m) o).node w.a.growth.node is) other)) (leaves_two w.a (owner_of w.a.nodes (Layout.New w.a.m) o).node e)

  -- ---- the copy

  abbrev pub cp : Copying
  cp = (edit_of.md (shown_of w)).c

  abbrev pub copy : Object
  copy = copied (edit_of.md (shown_of w)).c (edit_of.md (shown_of w)).c.o

  abbrev then : Object
  then = (edit_of.e (shown_of w)).then

  pub then_is : copied (edit_of.md (shown_of w)).c w.a.seen.known.target.object ≡ copied (edit_of.md (shown_of w)).c (edit_of.md (shown_of w)).c.o
  then_is = ap (copied (edit_of.md (shown_of w)).c) (sym (edit_of.md (shown_of w)).o_is)

  pub entry_then : (copied (edit_of.md (shown_of w)).c (edit_of.md (shown_of w)).c.o).entry ≡ renamed_entry w.a.seen.known.target.object.entry w.a.name (lies_at.spot w.a w.s w.placed).place.address
  entry_then = ap (λ (o : Object). o.entry) (sym then_is) ∙ (edit_of.md (shown_of w)).part.entry ∙ entry_at (edit_of.spotted (shown_of w))

  pub sectors_then : (copied (edit_of.md (shown_of w)).c (edit_of.md (shown_of w)).c.o).sectors ≡ place_of_plan w.a.m.geometry (lies_at.spot w.a w.s w.placed).plan w.a.wants.bytes
  sectors_then = ap (λ (o : Object). o.sectors) (is_copy (edit_of.md (shown_of w)).c) ∙ (edit_of.md (shown_of w)).sectors ∙ (lies_at.spot w.a w.s w.placed).sectors

  pub id_now : id_of (copied (edit_of.md (shown_of w)).c (edit_of.md (shown_of w)).c.o).entry.address ≡ (lies_at.spot w.a w.s w.placed).plan.id
  id_now = ap (λ (y : Entry). id_of y.address) entry_then ∙ lies_at.id_is w.a w.s w.placed

  pub not_owner : (k : ℕ) → is_used w.a.m k ≡ true → is_owner_of k (copied (edit_of.md (shown_of w)).c (edit_of.md (shown_of w)).c.o) ≡ false
  not_owner k used = ap (λ (b : Bool). has_sectors copy && b) (ne_eqb (id_of copy.entry.address) k (λ same.
      (let no = lies_at.new_unused w.a w.s w.placed in let yes : is_used w.a.m (lies_at.spot w.a w.s w.placed).plan.id ≡ true = ap (is_used w.a.m) (sym id_now ∙ same) ∙ used in cc))) ∙ and_none (has_sectors copy)
    where
      and_none : (b : Bool) → (b && false) ≡ false
      and_none true = refl
      and_none false = refl

  -- what stays in its directory
  abbrev eg : EditGrowing
  eg = record {
    nodes = w.a.nodes;
    layout = Layout.New w.a.m;
    listings = w.a.listings;
    edit = edit (edit_of.md (shown_of w)).c;
    growing = g;
    held = record { sound = w.a.seen.sound; held = w.a.seen.held };
    is_edit = memory.is_edit w.a.nodes (Layout.New w.a.m) w.a.listings (edit_of.md (shown_of w)).c (record { sound = w.a.seen.sound; held = w.a.seen.held }) (edit_of.md (shown_of w)).copies;
    has_numbers = memory.has_numbers w.a.nodes (Layout.New w.a.m) w.a.listings (edit_of.md (shown_of w)).c (record { sound = w.a.seen.sound; held = w.a.seen.held }) (edit_of.md (shown_of w)).copies;
    grows = (edit_of.md (shown_of w)).part.grows;
  }

  file_number : (edit_of.md (shown_of w)).c.number ≡ w.a.r.target.node
  file_number = same_some (edit_of.md (shown_of w)).c.number w.a.r.target.node (sym (edit_of.md (shown_of w)).copies.number_is ∙ ap (λ (o : Object). number_of w.a.nodes o.path) (edit_of.md (shown_of w)).o_is ∙ w.a.seen.known.target.node_is)

  dir_number : g.dir ≡ w.a.growth.node
  dir_number = same_some g.dir w.a.growth.node (sym (edit_of.md (shown_of w)).part.grows.dir_is ∙ number_at w.a)

  pub owner_number : (o : Object) → (st : Stays w.a.nodes w.a.listings (grown_edit_of (edit (edit_of.md (shown_of w)).c) g) o) → (owner_of w.a.nodes (Layout.New w.a.m) o).node ≡ st.number
  owner_number o st = ap (λ (n : Option ℕ). unwrap_or n 0) st.number_is

  pub stays_plain : (o : Object) → Stays w.a.nodes w.a.listings (grown_edit_of (edit (edit_of.md (shown_of w)).c) g) o → is_grown (growing w.a) o ≡ false
  stays_plain o st = ne_eqb (owner_of w.a.nodes (Layout.New w.a.m) o).node w.a.growth.node (λ same. members.stays_other eg o st (sym (owner_number o st) ∙ same ∙ sym dir_number))

  pub stays_unfiled : (o : Object) → Stays w.a.nodes w.a.listings (grown_edit_of (edit (edit_of.md (shown_of w)).c) g) o → (owner_of w.a.nodes (Layout.New w.a.m) o).node ≡ w.a.r.target.node → ⊥
  stays_unfiled o st same =
      let before = members.stayed eg o st in
      before.stays (subst (Contains ((edit_of.md (shown_of w)).c.number ∷ [])) (file_number ∙ sym same ∙ ap (λ (n : Option ℕ). unwrap_or n 0) before.number_is) (contains_here (edit_of.md (shown_of w)).c.number []))

  -- ---- by a map after the step

  module _ (m' : Map) (taken : IsTaken w.a.m w.p.ready m') (law : SafeSpaceLaw) where
    pub geometry_then : m'.geometry ≡ w.a.m.geometry
    geometry_then = image_of.geometry (growing w.a) w.s w.placed w.p.change (edit_of.tells (shown_of w)) w.p.ready w.ready m' taken

    plans_taken : (q : Plan) → Contains w.placed.plans q → IsTakenIn m' q
    plans_taken = step_of.taken (growing w.a) w.s w.placed m' (image_of.done (growing w.a) w.s w.placed w.p.change (edit_of.tells (shown_of w)) w.p.ready w.ready m' taken) law

    same_form : dir_form (Layout.New m') ≡ dir_form (Layout.New w.a.m)
    same_form = ap (λ (k : Geometry). let f : NameForm = cond (k.version == 0) forms.Ten forms.Long in f) geometry_then

    pub size_then : object_size (dir_form (Layout.New m')) (copied (edit_of.md (shown_of w)).c (edit_of.md (shown_of w)).c.o).entry ≡ w.a.seen.known.target.object.entry.len
    size_then = ap (object_size (dir_form (Layout.New m'))) entry_then ∙ ap (λ (f : NameForm). object_size f w.a.seen.known.target.object.entry) same_form ∙ (file w.a).size

    -- It lies at its address,
    pub lies_then : IsAt (Layout.New m') (copied (edit_of.md (shown_of w)).c (edit_of.md (shown_of w)).c.o)
    lies_then =
        ap₂ (λ (b n : ℕ). sectors_at (Layout.New m') b n) (ap (λ (y : Entry). y.address) entry_then) (size_then ∙ sym (bytes_is w.a))
        ∙ lies_at.leads_there w.a w.s w.placed m' geometry_then plans_taken
        ∙ ap (λ (ss : List ℕ). let y : Option (List ℕ) = Some ss in y) (sym sectors_then)

    -- the lowest where files begin,
    pub low_then : low_of copy.entry.address ≡ first_low m' (copied (edit_of.md (shown_of w)).c (edit_of.md (shown_of w)).c.o) (id_runs m' (id_of (copied (edit_of.md (shown_of w)).c (edit_of.md (shown_of w)).c.o).entry.address))
    low_then =
        let at : copy.entry.address ≡ (lies_at.spot w.a w.s w.placed).place.address = ap (λ (y : Entry). y.address) entry_then in
        let len : w.a.wants.bytes ≡ copy.entry.len = bytes_is w.a ∙ sym (ap (λ (y : Entry). y.len) entry_then) in
        let no : is_directory_object copy ≡ false = ap (λ (y : Entry). is_directory y.attrs) entry_then ∙ (file w.a).file in
        ap low_of at ∙ lies_at.low_then w.a w.s w.placed m' geometry_then plans_taken
        ∙ ap₂ (λ (b n : ℕ). file_low m'.geometry (bits_in (id_runs m' (id_of b)) * m'.geometry.bit_bytes) n) (sym at) len
        ∙ sym (ap (λ (b : Bool). let n : ℕ = cond b 0 (file_low m'.geometry (bits_in (id_runs m' (id_of copy.entry.address)) * m'.geometry.bit_bytes) copy.entry.len) in n) no)

    -- and has as many sectors as before.
    pub long_then : length (copied (edit_of.md (shown_of w)).c (edit_of.md (shown_of w)).c.o).sectors ≡ length w.a.seen.known.target.object.sectors
    long_then =
        sector_count (Layout.New m') copy.entry.address (object_size (dir_form (Layout.New m')) copy.entry) copy.sectors lies_then
        ∙ ap₂ (λ (n : ℕ) (k : Geometry). div_ceil n k.sector) (size_then ∙ sym (file w.a).size) geometry_then
        ∙ sym (sector_count (Layout.New w.a.m) w.a.seen.known.target.object.entry.address (object_size (dir_form (Layout.New w.a.m)) w.a.seen.known.target.object.entry) w.a.seen.known.target.object.sectors
        (target_of.placed (Layout.New w.a.m) w.a.nodes w.a.listings w.a.seen.sound w.a.seen.held w.a.from w.a.r.target w.a.seen.known.target))

    -- ---- there are owners after it

    some_there : has_sectors (copied (edit_of.md (shown_of w)).c w.a.seen.known.target.object) ≡ true
    some_there = ap (λ (o : Object). has_sectors o) then_is ∙ lt-ltb 0 (length copy.sectors) (by (length copy.sectors) (sector_count (Layout.New m') copy.entry.address (object_size (dir_form (Layout.New m')) copy.entry) copy.sectors lies_then
        ∙ ap₂ (λ (n : ℕ) (k : Geometry). div_ceil n k.sector) size_then geometry_then))
      where
        by : (n : ℕ) → n ≡ div_ceil w.a.seen.known.target.object.entry.len w.a.m.geometry.sector → 0 < n
        by zero e = absurd (
            let some = (file w.a).some in
            let t = (div_ceil_times w.a.seen.known.target.object.entry.len w.a.m.geometry.sector (new_shape w.a.m w.a.agreed.is_map).some).0 in
            let none : div_ceil w.a.seen.known.target.object.entry.len w.a.m.geometry.sector * w.a.m.geometry.sector ≡ 0 * w.a.m.geometry.sector = ap (λ (k : ℕ). k * w.a.m.geometry.sector) (sym e) in
            omega (arith, some, t, none))
        by (suc n) e = omega arith

    abbrev own_then : Owner
    own_then = owner_with (Layout.New m') w.a.r.holder w.a.r.target.node then

    owner_is : owner_if (Layout.New m') w.a.r.target.node w.a.r.holder then.entry ≡ Some (owner_with (Layout.New m') w.a.r.holder w.a.r.target.node then)
    owner_is =
        mover.last_is w.a.m m' geometry_then w.a.nodes w.a.listings w.a.from w.a.to w.a.r w.a.name w.a.seen w.a.owners w.a.agreed.owned then (subst (IsAt (Layout.New m')) (sym then_is) lies_then) (ap (λ (o : Object). length o.sectors) then_is ∙ long_then)
        ∙ ap (λ (b : Bool). let o : Option Owner = cond b (Some (owner_with (Layout.New m') w.a.r.holder w.a.r.target.node then)) None in o) (ap (nat_lt 0) (sym (ap (λ (o : Object). length o.sectors) then_is ∙ long_then)) ∙ some_there)

    pub owners_there : (number : ℕ) → (owners' : List Owner) × AreOwnersAfter (Layout.New m') w.a.nodes w.p.change (owners_admitted (Layout.New w.a.m) w.p.change.object number w.a.owners) owners'
    owners_there number =
        let part = (edit_of.md (shown_of w)).part in
        let was = owners_admitted (Layout.New w.a.m) w.p.change.object number w.a.owners in
        let r = (stage.p w.a w.s w.placed).directory in
        let dir = its_of.there w.a.nodes (Layout.New w.a.m) w.a.listings w.a.seen.sound w.a.seen.held w.a.seen.known.destination.listing w.a.seen.known.destination.listed w.a.r.holder w.a.seen.known.destination.holder_is in
        let node = its_of.node w.a.nodes (Layout.New w.a.m) w.a.listings w.a.seen.sound w.a.seen.held w.a.seen.known.destination.listing w.a.seen.known.destination.listed w.a.r.holder w.a.seen.known.destination.holder_is in
        let middle = with_changed (entry_owner (Layout.New m') r.node node.holder (regrown_by node.entry r.address r.len)) was in (
          with_changed own_then middle,
          record {
            middle = middle;
            grown = subst (λ (q : Option Regrowth). IsRegrownOwner (Layout.New m') w.a.nodes q was middle) (sym part.grown)
                (λ k at. ap (λ (n : Node). with_changed (entry_owner (Layout.New m') r.node n.holder (regrown_by n.entry r.address r.len)) was) (same_some node k (sym dir ∙ ap (get w.a.nodes) (sym holder_is) ∙ at)));
            object = subst (λ (y : Turned). IsTurnedOwner (Layout.New m') y middle (with_changed own_then middle)) (sym (part.turned ∙ ap (turns.Turns w.a.r.target.node w.a.r.holder) (sym part.entry)))
                (subst (λ (o : Option Owner). IsOwnerNow w.a.r.target.node o middle (with_changed own_then middle)) (sym owner_is) refl);
          },
        )
      where
        holder_is : (stage.p w.a w.s w.placed).directory.node ≡ w.a.r.holder
        holder_is = ap (λ (k : Regrowth). k.node) (step_of.grown_at (growing w.a) w.s w.placed).2.directory ∙ node_is w.a

  module _ (m' : Map) (taken : IsTaken w.a.m w.p.ready m') (law : SafeSpaceLaw) (number : ℕ) (owners' : List Owner)
      (after : AreOwnersAfter (Layout.New m') w.a.nodes w.p.change (owners_admitted (Layout.New w.a.m) w.p.change.object number w.a.owners) owners') where
    abbrev pub nodes_now : Nodes
    nodes_now = nodes_after w.p.change number w.a.nodes

    abbrev pub moved : MovedParts
    moved = image_of.moved (growing w.a) w.s w.placed w.p.change (edit_of.tells (shown_of w)) w.p.ready w.ready m' taken law (nodes_after w.p.change number w.a.nodes) owners'

    pub geometry : m'.geometry ≡ w.a.m.geometry
    geometry = image_of.geometry (growing w.a) w.s w.placed w.p.change (edit_of.tells (shown_of w)) w.p.ready w.ready m' taken

    -- ---- its owner

    new_at : sectors_at (Layout.New m') g.address (object_size (dir_form (Layout.New m')) (at_place g g.o).entry) ≡ Some (grown (growing w.a) w.s w.placed)
    new_at =
        grown_is_at (growing w.a) w.s w.placed m' geometry
        (step_of.taken (growing w.a) w.s w.placed m' (image_of.done (growing w.a) w.s w.placed w.p.change (edit_of.tells (shown_of w)) w.p.ready w.ready m' taken) law) (at_place g g.o) size refl

    count : length (grown (growing w.a) w.s w.placed) ≡ div_ceil w.a.growth.len w.a.m.geometry.sector
    count =
        sector_count (Layout.New m') g.address (object_size (dir_form (Layout.New m')) (at_place g g.o).entry) (grown (growing w.a) w.s w.placed) new_at
        ∙ ap₂ (λ (n : ℕ) (k : Geometry). div_ceil n k.sector) (ap (λ (k : Geometry). object_size (dir_form (Layout.New (record { geometry = k; zones = [] }))) (at_place g g.o).entry) geometry ∙ size) geometry

    many : length g.sectors ≡ div_ceil w.a.growth.len w.a.m.geometry.sector
    many = ap (λ (ss : List ℕ). length ss) sectors_are ∙ safely_of.shown_many (growing w.a) w.s w.placed count

    some_sectors : has_sectors (at_place g g.o) ≡ true
    some_sectors = lt-ltb 0 (length g.sectors) (by (length g.sectors) many)
      where
        by : (n : ℕ) → n ≡ div_ceil w.a.growth.len w.a.m.geometry.sector → 0 < n
        by zero e = absurd (let low = long (growing w.a) in let t = (div_ceil_times w.a.growth.len w.a.m.geometry.sector (new_shape w.a.m w.a.agreed.is_map).some).0 in let none : div_ceil w.a.growth.len w.a.m.geometry.sector * w.a.m.geometry.sector ≡ 0 * w.a.m.geometry.sector = ap (λ (k : ℕ). k * w.a.m.geometry.sector) (sym e) in omega (arith, low, t, none))
        by (suc n) e = omega arith

    its_owner : node_of.IsGrownOwner (edit_of.e (shown_of w)) (edit_of.md (shown_of w)).part m'
    its_owner = node_of.grown_owner (edit_of.e (shown_of w)) (edit_of.md (shown_of w)).part m' (grown (growing w.a) w.s w.placed) (count ∙ sym many) new_at

    -- ---- what goes back

    abbrev q_it : Object
    q_it = it (edit_of.q (shown_of w))

    abbrev stay : List Object
    stay = (rest_of.rest (edit_of.q (shown_of w))).0

    -- An object that isn't the grown one owns its identifier if it stays in it.
    owns_as : (k : ℕ) (o : Object) → is_grown (growing w.a) o ≡ false → ((owner_of w.a.nodes (Layout.New w.a.m) o).node ≡ w.a.r.target.node → ⊥) → (has_sectors o && remains (leaving (growing w.a)) k (owner_of w.a.nodes (Layout.New w.a.m) o)) ≡ is_owner_of k o
    owns_as k o other no_file = ap (λ (b : Bool). has_sectors o && b) (by (id_of o.entry.address == k) refl)
      where
        by : (b : Bool) → (id_of o.entry.address == k) ≡ b → remains (leaving (growing w.a)) k (owner_of w.a.nodes (Layout.New w.a.m) o) ≡ (id_of o.entry.address == k)
        by true e = stays_in o other no_file k (eqb-true (id_of o.entry.address) k e) ∙ sym e
        by false e = ap (λ (b : Bool). b && not (is_one_of (leaving (growing w.a)) (owner_of w.a.nodes (Layout.New w.a.m) o).node)) e ∙ sym e

    -- So does the grown one at its new place.
    grown_owns : (k : ℕ) → is_used w.a.m k ≡ true
        → (has_sectors w.a.seen.known.destination.listing.object && remains (leaving (growing w.a)) k (owner_of w.a.nodes (Layout.New w.a.m) w.a.seen.known.destination.listing.object)) ≡ is_owner_of k (anew (edit_of.q (shown_of w)))
    grown_owns k used = by (moving_out w.a.m (h w.a) (Some w.a.growth)) refl
      where
        l : Object
        l = w.a.seen.known.destination.listing.object

        l_some : has_sectors l ≡ true
        l_some = ap has_sectors its ∙ (grower (growing w.a)).2.some

        l_node : (owner_of w.a.nodes (Layout.New w.a.m) l).node ≡ w.a.growth.node
        l_node = ap (λ (n : Option ℕ). unwrap_or n 0) (number_at w.a)

        left : (o : Option Growth) → moving_out w.a.m (h w.a) (Some w.a.growth) ≡ o → is_one_of (leaving (growing w.a)) (owner_of w.a.nodes (Layout.New w.a.m) l).node ≡ is_one_of (nodes_out o) w.a.growth.node
        left o e = ap (is_one_of (leaving (growing w.a))) l_node ∙ ap (λ (ns : List ℕ). is_one_of ns w.a.growth.node) (leaving_is w.a)
            ∙ ap (λ (b : Bool). b || is_one_of (nodes_out (moving_out w.a.m (h w.a) (Some w.a.growth))) w.a.growth.node) (ne_eqb w.a.r.target.node w.a.growth.node (λ same. node_other (edit_of.q (shown_of w)) (same ∙ sym (ap (λ (r : Regrowth). r.node) (step_of.grown_at (growing w.a) w.s w.placed).2.directory))))
            ∙ ap (λ (r : Option Growth). is_one_of (nodes_out r) w.a.growth.node) e

        by : (o : Option Growth) → moving_out w.a.m (h w.a) (Some w.a.growth) ≡ o → (has_sectors l && remains (leaving (growing w.a)) k (owner_of w.a.nodes (Layout.New w.a.m) l)) ≡ is_owner_of k (anew (edit_of.q (shown_of w)))
        by None e =
            ap₂ (λ (b c : Bool). b && ((id_of l.entry.address == k) && not c)) (l_some ∙ sym some_sectors) (left None e)
            ∙ ap (λ (b : Bool). has_sectors (at_place g g.o) && b) (and_true (id_of l.entry.address == k))
            ∙ ap (λ (n : ℕ). has_sectors (at_place g g.o) && (id_of n == k)) (sym (safely_of.address_by (growing w.a) w.s w.placed None e ∙ ap (λ (o : Object). o.entry.address) (sym its)))
          where
            and_true : (b : Bool) → (b && true) ≡ b
            and_true true = refl
            and_true false = refl
        by (Some r) e =
            let plan = (step_of.grown_at (growing w.a) w.s w.placed).2.plan in
            let fresh = unused (growing w.a) plan.id (grown_new (growing w.a) w.s w.placed r e) in
            let id : id_of g.address ≡ plan.id = ap id_of (safely_of.address_by (growing w.a) w.s w.placed (Some r) e) ∙ (let z : id_of (256 * plan.id) ≡ plan.id = omega arith in z) in
            let goes : is_one_of (nodes_out (Some r)) w.a.growth.node ≡ true =
            ap (λ (b : Bool). b || false) (eq-eqb r.node w.a.growth.node (ap (λ (o : Option Growth). option_map_or (λ (j : Growth). j.node) o 0) (sym (grows_out w.a.m (h w.a) (Some w.a.growth) r e)))) in
            ap (λ (c : Bool). has_sectors l && ((id_of l.entry.address == k) && not c)) (left (Some r) e ∙ goes)
            ∙ none (has_sectors l) (id_of l.entry.address == k)
            ∙ sym (ap (λ (b : Bool). has_sectors (at_place g g.o) && b) (ne_eqb (id_of g.address) k (λ same. clash (is_used w.a.m k) used (ap (is_used w.a.m) (sym same ∙ id) ∙ fresh))) ∙ and_none (has_sectors (at_place g g.o)))
          where
            none : (b c : Bool) → (b && (c && false)) ≡ false
            none true true = refl
            none true false = refl
            none false c = refl

            and_none : (b : Bool) → (b && false) ≡ false
            and_none true = refl
            and_none false = refl

    -- The identifiers that lose their objects, and those that move, go back.
    pub gives : GivesBack w.a.m moved.takings moved.gone w.a.listings (grown_edit_of (edit (edit_of.md (shown_of w)).c) g)
    gives = record {
      stay = stay;
      others = subst (λ (os : List Object). IsPermutation (objects_of w.a.listings) (os ++ stay)) (sym (edit_of.md (shown_of w)).part.leave) (rest_of.beside (edit_of.q (shown_of w)));
      exactly = λ k used.
          exactly (growing w.a) w.s w.placed (anew (edit_of.q (shown_of w)) ∷ then ∷ stay) k used (owned k used)
          ∙ ap (λ (os : List Object). is_given_back (objects_of w.a.listings) (os ++ stay) k || is_taken moved.takings k) (sym (edit_of.md (shown_of w)).part.join);
    }
      where
        owns : ℕ → Object → Bool
        owns k o = has_sectors o && remains (leaving (growing w.a)) k (owner_of w.a.nodes (Layout.New w.a.m) o)

        not_l : (o : Object) → Contains stay o → is_grown (growing w.a) o ≡ false
        not_l o at = ap (λ (n : ℕ). (owner_of w.a.nodes (Layout.New w.a.m) o).node == n) (sym (ap (λ (r : Regrowth). r.node) (step_of.grown_at (growing w.a) w.s w.placed).2.directory)) ∙ rest_of.other_l (edit_of.q (shown_of w)) o at

        no_file : (o : Object) → Contains stay o → (owner_of w.a.nodes (Layout.New w.a.m) o).node ≡ w.a.r.target.node → ⊥
        no_file o at same = clash ((owner_of w.a.nodes (Layout.New w.a.m) o).node == w.a.r.target.node) (eq-eqb (owner_of w.a.nodes (Layout.New w.a.m) o).node w.a.r.target.node same) (rest_of.other_node (edit_of.q (shown_of w)) o at)

        -- The file leaves, whichever its identifier.
        it_leaves : (k : ℕ) → owns k q_it ≡ false
        it_leaves k =
            ap (λ (ns : List ℕ). has_sectors q_it && remains ns k (owner_of w.a.nodes (Layout.New w.a.m) q_it)) (leaving_is w.a)
            ∙ ap (λ (b : Bool). has_sectors q_it && ((id_of q_it.entry.address == k) && not (b || is_one_of (nodes_out (moving_out w.a.m (h w.a) (Some w.a.growth))) (owner_of w.a.nodes (Layout.New w.a.m) q_it).node)))
            (eq-eqb w.a.r.target.node (owner_of w.a.nodes (Layout.New w.a.m) q_it).node (sym (ap (λ (n : Option ℕ). unwrap_or n 0) w.a.seen.known.target.node_is)))
            ∙ none (has_sectors q_it) (id_of q_it.entry.address == k)
          where
            none : (b c : Bool) → (b && (c && false)) ≡ false
            none true true = refl
            none true false = refl
            none false c = refl

        all : (k : ℕ) (os : List Object) → ((o : Object) → Contains os o → is_grown (growing w.a) o ≡ false) → ((o : Object) → Contains os o → (owner_of w.a.nodes (Layout.New w.a.m) o).node ≡ w.a.r.target.node → ⊥) → list_any (owns k) os ≡ list_any (is_owner_of k) os
        all k [] each none = refl
        all k (o ∷ os) each none = ap₂ (λ (b c : Bool). b || c) (owns_as k o (each o (contains_here o os)) (none o (contains_here o os))) (all k os (λ r at. each r (contains_later o r os at)) (λ r at. none r (contains_later o r os at)))

        owned : (k : ℕ) → is_used w.a.m k ≡ true → list_any (is_owner_of k) (anew (edit_of.q (shown_of w)) ∷ then ∷ stay) ≡ (is_kept (step_of.shared (growing w.a)) k || list_any (remains (leaving (growing w.a)) k) w.a.owners)
        owned k used = sym (
            ap (λ (o : Option ℕ). is_kept o k || list_any (remains (leaving (growing w.a)) k) w.a.owners) none_shared
            ∙ list_any-IsPermutation (remains (leaving (growing w.a)) k) w.a.owners (map (owner_of w.a.nodes (Layout.New w.a.m)) (filter has_sectors (objects_of w.a.listings))) w.a.agreed.owned
            ∙ any_owner (remains (leaving (growing w.a)) k) (owner_of w.a.nodes (Layout.New w.a.m)) (objects_of w.a.listings)
            ∙ list_any-IsPermutation (owns k) (objects_of w.a.listings) (w.a.seen.known.destination.listing.object ∷ q_it ∷ stay) (rest_of.beside (edit_of.q (shown_of w)))
            ∙ ap₂ (λ (b c : Bool). b || c) (grown_owns k used) (ap₂ (λ (b c : Bool). b || c) (it_leaves k ∙ sym (ap (is_owner_of k) then_is ∙ not_owner k used)) (all k stay not_l no_file)))
          where
            none_shared : step_of.shared (growing w.a) ≡ None
            none_shared = ap (λ (o : Option ℕ). option_map (λ (share : ℕ × ℕ). share.0) (option_and_then (λ (n : ℕ). slack_left w.a.m w.a.owners n w.a.wants.bytes) o)) w.a.are.slack

    -- ---- where the copy lies

    pub lies_now : IsAt (Layout.New m') (copied (edit_of.md (shown_of w)).c (edit_of.md (shown_of w)).c.o)
    lies_now = lies_then m' taken law

    as_long : length copy.sectors ≡ length w.a.seen.known.target.object.sectors
    as_long = long_then m' taken law

    pub owned_then : node_of.IsOwnedThen (edit_of.e (shown_of w)) (edit_of.md (shown_of w)).part m'
    owned_then = record {
      some = ap (λ (o : Object). has_sectors o) then_is ∙ ap (nat_lt 0) as_long;
      now = ap (owner_if (Layout.New m') w.a.r.target.node w.a.r.holder) (sym (edit_of.md (shown_of w)).part.entry)
          ∙ mover.last_is w.a.m m' geometry w.a.nodes w.a.listings w.a.from w.a.to w.a.r w.a.name w.a.seen w.a.owners w.a.agreed.owned then (subst (IsAt (Layout.New m')) (sym then_is) lies_now) (ap (λ (o : Object). length o.sectors) then_is ∙ as_long);
      admitted = λ n. ap (λ (y : Entry). owners_admitted (Layout.New w.a.m) (turns.Turns w.a.r.target.node w.a.r.holder y) n w.a.owners) (sym (edit_of.md (shown_of w)).part.entry)
          ∙ mover.admitted w.a.m m' geometry w.a.nodes w.a.listings w.a.from w.a.to w.a.r w.a.name w.a.seen w.a.owners w.a.agreed.owned then (subst (IsAt (Layout.New m')) (sym then_is) lies_now) (ap (λ (o : Object). length o.sectors) then_is ∙ as_long) n;
    }

    -- ---- the parts

    pub told_moves : (b : Amended) → Contains (grown_edit_of (edit (edit_of.md (shown_of w)).c) g).amended b → is_same_path g.o.path b.was.object.path ≡ false → is_moved (moves_in moved) b.was.object ≡ true
    told_moves b at other =
        let order = (edit_of.md (shown_of w)).part.among b at in
        let found = found_all (edit_of.e (shown_of w)) (edit_of.md (shown_of w)).part b at in
        let there = (listed_directory (Layout.New w.a.m) w.a.listings w.a.seen.sound b.was found).0 in
        image_of.dir_moves (growing w.a) w.s w.placed w.p.change (edit_of.tells (shown_of w)) w.p.ready w.ready m' taken law nodes_now owners' b.was.object
        (edit_of.in_tells (shown_of w) b order) (none_grown b.was.object there other)

    pub elsewhere : is_moved (moves_in moved) (copied (edit_of.md (shown_of w)).c (edit_of.md (shown_of w)).c.o) ≡ false
    elsewhere = ap (λ (b : Bool). is_taken moved.takings (id_of copy.entry.address) && b) (ap (is_used w.a.m) id_now ∙ lies_at.new_unused w.a w.s w.placed) ∙ and_none (is_taken moved.takings (id_of copy.entry.address))
      where
        and_none : (b : Bool) → (b && false) ≡ false
        and_none true = refl
        and_none false = refl

    pub lies_again : LiesAgain w.a.m w.a.nodes w.a.listings (edit (edit_of.md (shown_of w)).c) (copied (edit_of.md (shown_of w)).c (edit_of.md (shown_of w)).c.o)
    lies_again = inr (
      λ j owns used. absurd (clash (is_owner_of j copy) owns (not_owner j used)),
      λ o st same. apart_from copy.sectors o.sectors (λ u i j.
          clash (is_among (place_of_plan w.a.m.geometry (lies_at.spot w.a w.s w.placed).plan w.a.wants.bytes) u) (sym (ap (λ (ss : List ℕ). is_among ss u) sectors_then) ∙ i)
          (apart_at o.sectors (place_of_plan w.a.m.geometry (lies_at.spot w.a w.s w.placed).plan w.a.wants.bytes) u ((lies_at.beside w.a w.s w.placed).apart o st.among) j)),
    )

    pub reaches : (o : Object) → Stays w.a.nodes w.a.listings (grown_edit_of (edit (edit_of.md (shown_of w)).c) g) o → is_moved (moves_in moved) o ≡ true → Reaches m' o
    reaches o st moves =
        image_of.each_reaches (growing w.a) w.s w.placed w.p.change (edit_of.tells (shown_of w)) w.p.ready w.ready m' taken law nodes_now owners' o st.among moves
        (λ some. (
          stays_plain o st,
          staying (growing w.a) o st.among some
              (image_of.it_moves (growing w.a) w.s w.placed w.p.change (edit_of.tells (shown_of w)) w.p.ready w.ready m' taken law nodes_now owners' o moves) (stays_in o (stays_plain o st) (stays_unfiled o st) (id_of o.entry.address) refl),
        ))

    pub lies_grown : IsGrownSafely moved g
    lies_grown = safely_of.safely (growing w.a) w.s w.placed w.p.change (edit_of.tells (shown_of w)) w.p.ready w.ready m' taken law nodes_now owners' g its refl len_is sectors_are size

    pub owners_edited : OwnersEdited w.a.owners owners' (owners_with (Layout.New w.a.m) (up_of g.holder) g.dir g.o ++ owners_left (Layout.New w.a.m) (edit (edit_of.md (shown_of w)).c))
        (owners_with (Layout.New m') (up_of g.holder) g.dir (at_place g g.o) ++ owners_joined (Layout.New m') (edit (edit_of.md (shown_of w)).c))
    owners_edited = node_of.owners_edited (edit_of.e (shown_of w)) (edit_of.md (shown_of w)).part m' owned_then its_owner some_sectors number owners' after

    pub grows_some : 0 < g.len
    grows_some = subst (λ (n : ℕ). 0 < n) (sym len_is) (let low = long (growing w.a) in omega (arith, low))

    pub other_id : id_of (copied (edit_of.md (shown_of w)).c (edit_of.md (shown_of w)).c.o).entry.address ≡ id_of g.address → ⊥
    other_id same = lies_at.other_id w.a w.s w.placed (sym id_now ∙ same)

    abbrev pub parts : GrownCopiedParts moved
    parts = record {
      c = (edit_of.md (shown_of w)).c;
      growing = g;
      copies = (edit_of.md (shown_of w)).copies;
      grows = (edit_of.md (shown_of w)).part.grows;
      nodes_edited = node_of.nodes_edited (edit_of.e (shown_of w)) (edit_of.md (shown_of w)).part number;
      owners_edited = owners_edited;
      gives = gives;
      some = grows_some;
      lies_grown = lies_grown;
      moves = told_moves;
      elsewhere = elsewhere;
      at = lies_now;
      lies = lies_again;
      other = other_id;
      reaches = reaches;
    }

    -- They agree afterwards.
    pub agrees : SafeGrownCopyingLaw → Agree w.a.kind (parts_with m' (nodes_after w.p.change number w.a.nodes) owners')
    agrees copying = copying.agrees moved parts
