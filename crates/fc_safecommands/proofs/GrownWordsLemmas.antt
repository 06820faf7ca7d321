-- An entry comes to a directory that grows, in the safe mode: what the command asks of its edit.
use Rattle.std.proofs.Common.{◌≡◌, ◌<◌, ◌==◌, ◌&&◌, ◌||◌, ◌⊎◌, ◌++◌, inl, inr, ℕ, Bool, true, false, not, cond, List, [], ◌∷◌, length, map, refl, sym, ap, ap₂, subst, ◌∙◌, arith, eq-eqb, Option, Some, None}
use Rattle.std.specs.Prelude.{Contains}
use Rattle.std.specs.FinMap.{get}
use Rattle.std.specs.Option.{option_and_then}
use Rattle.std.proofs.lemmas.Bool.{eqb-true}
use Rattle.fc_names.specs.Names.{is_same_path}
use Rattle.fc_dirs.specs.Directory.{entries_of}
use Rattle.fc_dirs.specs.Entries.{with_entry}
use Rattle.fc_drafts.specs.Draft.{directory_in}
use Rattle.fc_newmap.specs.Map.{is_used}
use Rattle.fc_model.specs.Command.{Command}
use Rattle.fc_model.specs.Tree.{last_name}
use Rattle.fc_image.specs.Layout.{Layout, dir_form, id_of}
use Rattle.fc_image.specs.Objects.{objects_of}
use Rattle.fc_image.specs.Opening.{Opened}
use Rattle.fc_image.specs.Walk.{Listing, Object, object_size}
use Rattle.fc_image.specs.effects.Short.{Growth as Grown, gain_of, growth_in, growth_of, has_room, is_alone}
use Rattle.fc_image.specs.effects.Steady.{AreWritten, IsRewritten, replaced_entry}
use Rattle.fc_changes.proofs.BasicLemmas.{clash}
use Rattle.fc_laws.proofs.lemmas.agree.BeforeLemmas.{agreed_law}
use Rattle.fc_edits.specs.Edit.{Amended}
use Rattle.fc_edits.specs.GrownAddition.{grown_edit}
use Rattle.fc_edits.proofs.lemmas.IdentifierLemmas.{used_of}
use Rattle.fc_outcomes.specs.Addition.{HasEntry}
use Rattle.fc_outcomes.specs.Growth.{Grows, holder_now}
use Rattle.fc_change.specs.declared.change.Regrowth.{Regrowth}
use Rattle.fc_change.specs.declared.job.Growth.{Growth}
use Rattle.fc_change.specs.GrownSpace.{has_room as has_room_there, is_alone as is_alone_there}
use Rattle.fc_commands.proofs.ArrivalLemmas.{Arrival, Brings, gain_same, no_last, renames_none, size_is}
use Rattle.fc_commands.proofs.GrownAskedLemmas.{IsKnownByRoom, grows_by}
use Rattle.fc_commands.proofs.GrownOutcomeLemmas as told
use Rattle.fc_commands.proofs.GrownPreparedLemmas as prepared
use Rattle.fc_commands.proofs.GrownStoredLemmas.{AreItsBytes, IsItsGrown, filled_by, its_bytes, its_grown}
use Rattle.fc_commands.proofs.VacantLemmas.{at_path, gains}
use Rattle.fc_safe.specs.FirstNeeds.{moving_out}
use Rattle.fc_safeedits.specs.SafeGrownAddition.{IsItsGrownObject}
use Rattle.fc_safecommands.proofs.GrownAddedLemmas.{l_at, l_dir, of}
use Rattle.fc_safecommands.proofs.GrownArrivalLemmas.{form, growing, h, has_room as room_has, sound}
use Rattle.fc_safecommands.proofs.GrownArrivalStageLemmas.{first, number_then}
use Rattle.fc_safecommands.proofs.GrownComesLemmas.{GrownRun, absent, e, into, named, o, own, owns, p, place, room, sectors, tells, writes}
use Rattle.fc_safecommands.proofs.GrownEditionLemmas.{around, c_add, children, ge, grows}
use Rattle.fc_safecommands.proofs.GrownLaidLemmas.{at_address, first as laid_first, grown_new}
use Rattle.fc_safecommands.proofs.GrownOldLemmas.{p', r', ready}
use Rattle.fc_safecommands.proofs.GrownSpaceLemmas.{unused}
use Rattle.fc_safecommands.proofs.GrownWaysLemmas as safely

module _ (w : GrownRun) (number : ℕ) (bytes : List ℕ) (brings : Brings w.a.x w.a.path bytes w.a.command) where
  abbrev view : Opened
  view = record { kind = w.a.kind; layout = Layout.New w.a.m; listings = w.a.listings }

  abbrev l : Listing
  l = w.a.spot.listing

  len_is : (p w).directory.len ≡ w.a.growth.len
  len_is = ap (λ (d : Regrowth). d.len) (first w.a w.s w.placed).directory

  -- The command makes the directory grow.
  growth_is : growth_in view w.a.command ≡ Some (w.a.spot.listing.object, (p w).directory.len)
  growth_is =
      ap (option_and_then growth_of) (sym (gain_same w.a.x w.a.path bytes w.a.command brings view) ∙ gains (Layout.New w.a.m) w.a.nodes w.a.listings (sound w.a) w.a.path w.a.dir w.a.spot view refl)
      ∙ (room_has w.a (gain_of w.a.path l) (record { name_is = refl; names_are = refl })).1 l.object
      ∙ ap (λ (n : ℕ). let g : Option Grown = Some (l.object, n) in g) (sym len_is)

  used_id : is_used w.a.m (id_of w.a.spot.listing.object.entry.address) ≡ true
  used_id =
      used_of w.a.kind w.a.m w.a.nodes w.a.owners w.a.root w.a.listings w.a.agreed l.object (of w).there (id_of l.object.entry.address)
      (ap₂ (λ (a b : Bool). a && b) (of w).some (eq-eqb (id_of l.object.entry.address) (id_of l.object.entry.address) refl))

  known : IsKnownByRoom w.a.kind w.a.m w.a.listings w.a.spot.listing (p' w) w.a.command growth_is
  known = record { there = there (has_room_there w.a.m (h w.a) w.a.growth) (is_alone_there (h w.a) w.a.growth) refl refl; elsewhere = elsewhere (has_room_there w.a.m (h w.a) w.a.growth) (is_alone_there (h w.a) w.a.growth) refl refl }
    where
      room_as : has_room (Layout.New w.a.m) (objects_of w.a.listings) (l.object, (p w).directory.len) ≡ has_room_there w.a.m (h w.a) w.a.growth
      room_as = safely.room_as (growing w.a) w.s w.placed l.object (of w) (l_at w) (l_dir w)

      alone_as : is_alone (objects_of w.a.listings) l.object ≡ is_alone_there (h w.a) w.a.growth
      alone_as = safely.alone_as (growing w.a) w.s w.placed l.object (of w) (l_at w) (l_dir w)

      goes : has_room_there w.a.m (h w.a) w.a.growth ≡ false → is_alone_there (h w.a) w.a.growth ≡ false → moving_out w.a.m (h w.a) (Some w.a.growth) ≡ Some w.a.growth
      goes r a = ap₂ (λ (b c : Bool). let q : Option Growth = cond (b || c) None (Some w.a.growth) in q) r a

      there : (r a : Bool) → has_room_there w.a.m (h w.a) w.a.growth ≡ r → is_alone_there (h w.a) w.a.growth ≡ a → (l.object.entry.address == (p w).directory.address) ≡ true
          → (has_room (Layout.New w.a.m) (objects_of w.a.listings) (l.object, (p w).directory.len) ≡ true) ⊎ (is_alone (objects_of w.a.listings) l.object ≡ true)
      there true a r_is a_is same = inl (room_as ∙ r_is)
      there false true r_is a_is same = inr (alone_as ∙ a_is)
      there false false r_is a_is same = absurd (
          let fresh = unused (growing w.a) (laid_first (growing w.a) w.s w.placed).plan.id (grown_new (growing w.a) w.s w.placed w.a.growth (goes r_is a_is)) in
          let id : id_of l.object.entry.address ≡ (laid_first (growing w.a) w.s w.placed).plan.id = ap id_of (eqb-true l.object.entry.address (p w).directory.address same) ∙ sym (laid_first (growing w.a) w.s w.placed).id in
          clash (is_used w.a.m (id_of l.object.entry.address)) used_id (ap (is_used w.a.m) id ∙ fresh))

      stays : moving_out w.a.m (h w.a) (Some w.a.growth) ≡ None → (l.object.entry.address == (p w).directory.address) ≡ false → ⊥
      stays none other = clash (l.object.entry.address == (p w).directory.address) (eq-eqb l.object.entry.address (p w).directory.address (sym (at_address (growing w.a) w.s w.placed l.object (of w) (l_at w) None none))) other

      elsewhere : (r a : Bool) → has_room_there w.a.m (h w.a) w.a.growth ≡ r → is_alone_there (h w.a) w.a.growth ≡ a → (l.object.entry.address == (p w).directory.address) ≡ false
          → (has_room (Layout.New w.a.m) (objects_of w.a.listings) (l.object, (p w).directory.len) ≡ false) × (is_alone (objects_of w.a.listings) l.object ≡ false)
      elsewhere true a r_is a_is other = absurd (stays (ap (λ (b : Bool). let q : Option Growth = cond (b || is_alone_there (h w.a) w.a.growth) None (Some w.a.growth) in q) r_is) other)
      elsewhere false true r_is a_is other = absurd (stays (ap₂ (λ (b c : Bool). let q : Option Growth = cond (b || c) None (Some w.a.growth) in q) r_is a_is) other)
      elsewhere false false r_is a_is other = (room_as ∙ r_is, alone_as ∙ a_is)

  pub it_grows : Grows view w.a.command (grows w number)
  it_grows =
      grows_by w.a.kind w.a.m w.a.listings l (p' w) w.a.command growth_is known w.a.nodes (sound w.a) w.a.agreed.walked.held w.a.spot.listed (around w number).0 (around w number).1 (around w number).2 (around w number).3
      (ge w number).again (ge w number).same (ge w number).holder (ge w number).others (ge w number).told_by (ge w number).kept_by

  -- ---- what it has

  pub its : AreItsBytes (dir_form (Layout.New w.a.m)) (p w).directory.address w.a.x (last_name w.a.path) (o w) (sectors w) w.ready.early.made w.r.source bytes
  its =
      its_bytes (dir_form (Layout.New w.a.m)) (p w).directory.address w.a.x (last_name w.a.path) (o w) (own w) (place w) w.ready.early.made w.r.source bytes (owns w) (writes w)
      (filled_by w.a.x w.a.path bytes w.a.command brings)

  pub stored_long : length its.stored ≡ object_size (dir_form (Layout.New w.a.m)) (e w)
  stored_long = its.long ∙ sym (size_is (dir_form (Layout.New w.a.m)) w.a.x (last_name w.a.path) (place w).address)

  pub path_is : is_same_path w.a.path (o w).path ≡ true
  path_is = at_path w.a.path l.object.path (e w).name w.a.spot.no_root w.a.spot.above (named w)

  pub entry : HasEntry None w.a.path (c_add w number)
  entry = (
    (prepared.entered (Layout.New w.a.m) w.a.nodes w.a.listings (agreed_law.sound w.a.kind w.a.m w.a.nodes w.a.owners w.a.root w.a.listings w.a.agreed) w.a.agreed.walked.held l w.a.spot.listed (p' w) (number_then w.a w.s w.placed)
        w.a.agreed.walked.forms (form w.a) (e w) w.c (tells w) (room w) [] (r' w) (ready w)).entries
        ∙ ap (λ (b : Bool). cond b (map (replaced_entry (e w)) (entries_of l.content)) (with_entry (e w) (entries_of l.content))) (absent w),
    named w,
    no_last (dir_form (Layout.New w.a.m)) w.a.x (last_name w.a.path) (place w).address,
  )

  pub is_its : IsItsGrownObject w.a.command w.a.path (Layout.New w.a.m) (c_add w number) (grows w number) its.stored
  is_its =
      by w.a.x brings
      (its_grown w.a.x w.a.command (Layout.New w.a.m) w.a.path l.object.path (place w).address (p w).directory.address (sectors w) l (directory_in (tells w).said.draft) (children w number)
      ((around w number).0 ++ ((around w number).1 ++ (around w number).2)) (p w).directory.node number (grows w number) its.stored refl (its.made_of w.a.command w.a.path brings))
    where
      by : (y : Arrival) → Brings y w.a.path bytes w.a.command → IsItsGrown y w.a.command w.a.path (Layout.New w.a.m) (c_add w number) (grows w number) its.stored
          → IsItsGrownObject w.a.command w.a.path (Layout.New w.a.m) (c_add w number) (grows w number) its.stored
      by Arrival.Makes cdir is = inr (is.0, is.1, cdir)
      by (Arrival.Saves words) save is = inl (words.load, words.exec, is)

  pub says : (am : Amended) → Contains (grown_edit (c_add w number) (grows w number)).amended am
      → IsRewritten w.a.command am.was.object.path (holder_now w.a.listings (grows w number) am.was.object.path) am.was.content am.content
  says =
      told.says (Layout.New w.a.m) w.a.nodes w.a.listings (agreed_law.sound w.a.kind w.a.m w.a.nodes w.a.owners w.a.root w.a.listings w.a.agreed) w.a.agreed.walked.held l w.a.spot.listed (p' w) (number_then w.a w.s w.placed)
      w.a.agreed.walked.forms (directory_in (tells w).said.draft) (children w number) (o w) (into w) number (around w number).0 (around w number).1 (around w number).2 (tells w).said (tells w).others [] (r' w) (ready w)
      (ge w number) w.a.command (renames_none w.a.x w.a.path bytes w.a.command brings)

  pub says_own : (d : Listing) → Contains (into w) d → AreWritten its.stored d.content
  says_own = its.says
