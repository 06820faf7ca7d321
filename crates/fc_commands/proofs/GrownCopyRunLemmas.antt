-- `rename` that copies its file into a directory that grows by it, as it ran: the copy lies in its new space, the edit with its parts, and they
-- agree afterwards.
use Rattle.fc_alloc.specs.declared.owner.Owner.{Owner}
use Rattle.fc_change.specs.After.{AreOwnersAfter, nodes_after, owners_admitted}
use Rattle.fc_change.specs.GrownSpace.{gone_at_once, root_of}
use Rattle.fc_change.specs.Owned.{owner_if}
use Rattle.fc_change.specs.Places.{plan_in}
use Rattle.fc_change.specs.declared.change.Turned.TheVariants as turns
use Rattle.fc_changes.proofs.BasicLemmas.{and_false, clash}
use Rattle.fc_changes.specs.Changed.{IsInNewSpace}
use Rattle.fc_commands.proofs.CopyingFileLemmas.{IsCopiedFile}
use Rattle.fc_commands.proofs.CopyingOwnerLemmas as mover
use Rattle.fc_commands.proofs.CopyingSlackLemmas.{no_slack}
use Rattle.fc_commands.proofs.GrownChangeLemmas.{IsGrownStepped, taking_of, takings}
use Rattle.fc_commands.proofs.GrownCopyBackLemmas as back_of
use Rattle.fc_commands.proofs.GrownCopyEditLemmas.{entry_at}
use Rattle.fc_commands.proofs.GrownCopyMadeLemmas.{MadeCopy, copying_of, placed_copy}
use Rattle.fc_commands.proofs.GrownCopyWantLemmas.{CopiedRename, IsCopyAt, bytes_is, copy_at, file, spotted}
use Rattle.fc_commands.proofs.GrownMoveGrowsLemmas.{lies_now as grown_lies}
use Rattle.fc_commands.proofs.GrownMoveMadeLemmas.{EditedRename, IsPlacedEdit}
use Rattle.fc_commands.proofs.GrownMoveNodeLemmas.{growing_in}
use Rattle.fc_commands.proofs.GrownMoveNodeLemmas as move_of
use Rattle.fc_commands.proofs.GrownMoveRestLemmas as rest_of
use Rattle.fc_commands.proofs.GrownMoveRunLemmas.{grown_at, grown_some, kept, stepped}
use Rattle.fc_commands.proofs.GrownMoveSaidLemmas.{anew, it, layout}
use Rattle.fc_commands.proofs.GrownMoveWalkLemmas as walk
use Rattle.fc_commands.proofs.GrownMoveWantLemmas.{GrownRename}
use Rattle.fc_commands.proofs.GrownMoveWantLemmas as want
use Rattle.fc_commands.proofs.NewPlaceLemmas.{id_at}
use Rattle.fc_commands.proofs.NewSpotLemmas.{low_two}
use Rattle.fc_commands.proofs.PlanPlaceLemmas.{plan_leads}
use Rattle.fc_commands.proofs.StayingLemmas.{count}
use Rattle.fc_commands.proofs.TargetLemmas as target_of
use Rattle.fc_dirs.specs.declared.Entry.{Entry}
use Rattle.fc_drafts.specs.Entries.{renamed_entry}
use Rattle.fc_edits.proofs.lemmas.CopyingLemmas.{is_copy}
use Rattle.fc_edits.proofs.lemmas.GrownCopyingLemmas.{grown_copying_law}
use Rattle.fc_edits.specs.Copying.{copied}
use Rattle.fc_edits.specs.Growing.{Growing}
use Rattle.fc_edits.specs.GrownCopying.{NewGrownCopying, grown_edit}
use Rattle.fc_edits.specs.GrownPlaces.{IsGrownAt}
use Rattle.fc_edits.specs.NewPlaces.{GivesBack, IsSpaceChange, is_taken}
use Rattle.fc_edits.specs.Placing.{IsPlaced, takings_of}
use Rattle.fc_image.specs.Edits.{IsAt}
use Rattle.fc_image.specs.Layout.{Layout, dir_form, id_of, sectors_at}
use Rattle.fc_image.specs.Objects.{has_sectors, is_owner_of, objects_of}
use Rattle.fc_image.specs.Walk.{Object, object_size}
use Rattle.fc_image.specs.effects.Placed.{file_low}
use Rattle.fc_image.specs.effects.Steady.{is_given_back}
use Rattle.fc_laws.proofs.lemmas.agree.BeforeLemmas.{agreed_law}
use Rattle.fc_laws.specs.agree.Agreed.{parts_with}
use Rattle.fc_names.specs.declared.name.NameForm.{NameForm}
use Rattle.fc_names.specs.declared.name.NameForm.TheVariants as forms
use Rattle.fc_newmap.specs.Map.{Map, ZoneRun, bits_in, id_runs, is_used}
use Rattle.fc_objects.specs.Extents.{sectors_in}
use Rattle.fc_placing.proofs.PlacedLemmas.{place_law}
use Rattle.fc_changes.specs.Space.{HasTaken}
use Rattle.fc_plan.specs.Applied.{IsTakenIn, id_in, parts_in, parts_in_order}
use Rattle.fc_plan.specs.Parts.{fronts}
use Rattle.fc_plan.specs.Taking.{as_runs}
use Rattle.fc_plan.specs.declared.plan.Plan.{Plan}
use Rattle.fc_record.specs.declared.Geometry.{Geometry}
use Rattle.fc_tree.specs.Agree.{Agree}
use Rattle.fc_writing.specs.New.{IsGiven}
use Rattle.std.proofs.Common.{Bool, List, Option, Some, ap, ap₂, cond, false, inl, inr, length, subst, sym, true, ℕ, ◌&&◌, ◌*◌, ◌++◌, ◌<◌, ◌==◌, ◌||◌, ◌∙◌, ◌∷◌, ◌≡◌, refl}
use Rattle.std.proofs.lemmas.Bool.{ne_eqb}
use Rattle.std.specs.Int.{div_ceil}
use Rattle.std.specs.Prelude.{IfSome, IsPermutation, nat_lt}

module _ (w : CopiedRename) (md : MadeCopy (spotted w)) (m' : Map) (given : IsGiven w.q.m w.pr.ready m') where
  abbrev q : GrownRename
  q = w.q

  abbrev e : EditedRename
  e = copying_of (spotted w) md.c

  abbrev pl : IsPlacedEdit (copying_of (spotted w) md.c)
  pl = placed_copy w md.c

  abbrev at : IsCopyAt w.q w.placed
  at = copy_at w.q w.placed w.copied

  abbrev its : IsCopiedFile w.q.m w.q.nodes w.q.listings w.q.from w.q.to w.q.r w.q.seen.known.target.object
  its = file w.q w.copied

  abbrev then : Object
  then = copied md.c w.q.seen.known.target.object

  abbrev gr : Growing
  gr = growing_in (copying_of (spotted w) md.c) md.part

  abbrev id : ℕ
  id = at.plan.id

  abbrev runs : List ZoneRun
  runs = fronts at.plan.parts.items

  abbrev bytes : ℕ
  bytes = w.q.wants.bytes

  abbrev room : ℕ
  room = bits_in (fronts at.plan.parts.items) * w.q.m.geometry.bit_bytes

  abbrev low : ℕ
  low = file_low w.q.m.geometry room w.q.wants.bytes

  pub st : IsGrownStepped w.q.m m' (plan_in w.placed.placing) w.placed.dir (walk.alone w.q w.placed) (root_of (Some (want.grown w.q).0)) (want.back w.q w.placed)
  st = stepped e pl m' given

  plan_is : plan_in w.placed.placing ≡ Some at.plan
  plan_is = ap plan_in at.plan_is

  same_form : dir_form (Layout.New m') ≡ dir_form (Layout.New w.q.m)
  same_form = ap (λ (g : Geometry). let f : NameForm = cond (g.version == 0) forms.Ten forms.Long in f) st.geometry

  -- ---- the copy

  entry_then : then.entry ≡ renamed_entry w.q.seen.known.target.object.entry w.q.name at.place.address
  entry_then = md.part.entry ∙ entry_at (spotted w)

  pub then_is : then ≡ copied md.c md.c.o
  then_is = ap (copied md.c) (sym md.o_is)

  pub sectors_then : (copied md.c w.q.seen.known.target.object).sectors ≡ sectors_in (copy_at w.q w.placed w.copied).place.extents.items
  sectors_then = ap (λ (o : Object). o.sectors) (then_is ∙ is_copy md.c) ∙ md.sectors

  pub size_now : object_size (dir_form (Layout.New m')) (copied md.c w.q.seen.known.target.object).entry ≡ w.q.wants.bytes
  size_now = ap (object_size (dir_form (Layout.New m'))) entry_then ∙ ap (λ (f : NameForm). object_size f (it q).entry) same_form ∙ its.size ∙ sym (bytes_is q w.copied)

  at_id : id_of at.place.address ≡ id
  at_id = ap id_of at.address ∙ id_at id low (low_two q.m.geometry room bytes)

  lies_there : sectors_at (Layout.New m') at.place.address bytes ≡ Some (sectors_in at.place.extents.items)
  lies_there =
      let first = subst (λ (o : Option Plan). IfSome o (λ (p : Plan). (n : Map) × HasTaken q.m n p.id (fronts p.parts.items) × IsTakenIn n p)) plan_is st.object_first in
      let taken = subst (λ (o : Option Plan). IfSome o (IsTakenIn m')) plan_is st.object_taken in
      place_law.stays first.0 m' at.place.address bytes (st.geometry ∙ sym first.1.geometry)
      (ap (id_runs m') at_id ∙ taken.runs ∙ ap (λ (g : Geometry). as_runs id (parts_in_order g at.plan)) (st.geometry ∙ sym first.1.geometry) ∙ sym first.2.runs ∙ ap (id_runs first.0) (sym at_id))
      ∙ ap (λ (a : ℕ). sectors_at (Layout.New first.0) a bytes) at.address ∙ plan_leads q.m q.agreed.is_map bytes at.plan at.own first.0 low first.1 (low_two q.m.geometry room bytes)
      ∙ ap (λ (xs : List ℕ). let r : Option (List ℕ) = Some xs in r) (sym at.sectors)

  pub lies_now : IsAt (Layout.New m') (copied md.c w.q.seen.known.target.object)
  lies_now =
      ap₂ (λ (a n : ℕ). sectors_at (Layout.New m') a n) (ap (λ (y : Entry). y.address) entry_then) size_now ∙ lies_there
      ∙ ap (λ (ss : List ℕ). let y : Option (List ℕ) = Some ss in y) (sym sectors_then)

  -- as many sectors as before
  as_long : length then.sectors ≡ length w.q.seen.known.target.object.sectors
  as_long =
      count (Layout.New m') then.entry.address (object_size (dir_form (Layout.New m')) then.entry) then.sectors lies_now
      ∙ ap₂ (λ (n : ℕ) (g : Geometry). div_ceil n g.sector) (size_now ∙ bytes_is q w.copied ∙ sym its.size) st.geometry
      ∙ sym (count (layout q) (it q).entry.address (object_size (dir_form (layout q)) (it q).entry) (it q).sectors (target_of.placed (layout q) q.nodes q.listings q.seen.sound q.seen.held q.from q.r.target q.seen.known.target))

  fresh : (n : ℕ) → is_used w.q.m n ≡ true → is_owner_of n then ≡ false
  fresh n used =
      ap (λ (i : ℕ). has_sectors then && (i == n)) (ap (λ (y : Entry). id_of y.address) entry_then ∙ at_id)
      ∙ ap (λ (b : Bool). has_sectors then && b) (ne_eqb id n (λ same. clash (is_used q.m n) used (ap (is_used q.m) (sym same) ∙ at.own.unused)))
      ∙ and_false (has_sectors then)

  -- in new space of its own
  new_space : (n : ℕ) → n ≡ bytes → IsInNewSpace w.q.m n (file_low w.q.m.geometry room n) id runs then
  new_space n same =
      subst (λ (b : ℕ). IsInNewSpace q.m b (file_low q.m.geometry room b) id runs then) (sym same)
      (place_law.alone q.m bytes low at.plan then at.own (ap (λ (y : Entry). y.address) entry_then ∙ at.address))

  pub its_space : IsInNewSpace w.q.m md.c.o.entry.len (file_low w.q.m.geometry (bits_in (fronts (copy_at w.q w.placed w.copied).plan.parts.items) * w.q.m.geometry.bit_bytes) md.c.o.entry.len) (copy_at w.q w.placed w.copied).plan.id
      (fronts (copy_at w.q w.placed w.copied).plan.parts.items) (copied md.c md.c.o)
  its_space =
      subst (λ (o : Object). IsInNewSpace q.m md.c.o.entry.len (file_low q.m.geometry room md.c.o.entry.len) id runs o) then_is
      (new_space md.c.o.entry.len (ap (λ (o : Object). o.entry.len) md.o_is ∙ sym (bytes_is q w.copied)))

  pub its_place : IsPlaced w.q.m (objects_of w.q.listings) w.q.seen.known.target.object.path (object_size (dir_form (Layout.New m')) (copied md.c md.c.o).entry) id runs (copied md.c md.c.o)
  its_place =
      subst (λ (o : Object). IsPlaced q.m (objects_of q.listings) (it q).path (object_size (dir_form (Layout.New m')) o.entry) id runs o) then_is
      (inl (inr (inl (
        no_slack q.m q.listings q.seen.sound (it q) (rest_of.it_among q) its.file (object_size (dir_form (Layout.New m')) then.entry),
        new_space (object_size (dir_form (Layout.New m')) then.entry) size_now,
      ))))

  -- ---- its owner

  pub owned_then : move_of.IsOwnedThen (copying_of (spotted w) md.c) md.part m'
  owned_then = record {
    some = ap (nat_lt 0) as_long;
    now = ap (owner_if (Layout.New m') q.r.target.node q.r.holder) (sym md.part.entry)
        ∙ mover.last_is q.m m' st.geometry q.nodes q.listings q.from q.to q.r q.name q.seen q.owners q.agreed.owned then lies_now as_long;
    admitted = λ number. ap (λ (y : Entry). owners_admitted (layout q) (turns.Turns q.r.target.node q.r.holder y) number q.owners) (sym md.part.entry)
        ∙ mover.admitted q.m m' st.geometry q.nodes q.listings q.from q.to q.r q.name q.seen q.owners q.agreed.owned then lies_now as_long number;
  }

  -- ---- space

  pub space : IsSpaceChange w.q.m m' (takings_of id runs ++ taking_of w.placed.dir) (gone_at_once w.placed.dir (walk.alone w.q w.placed) ++ want.back w.q w.placed)
  space = subst (λ (o : Option Plan). IsSpaceChange q.m m' (takings o w.placed.dir) (gone_at_once w.placed.dir (walk.alone q w.placed) ++ want.back q w.placed)) plan_is st.space

  pub gives : GivesBack w.q.m (takings_of id runs ++ taking_of w.placed.dir) (gone_at_once w.placed.dir (walk.alone w.q w.placed) ++ want.back w.q w.placed) w.q.listings (grown_edit md.c gr)
  gives =
      let rest = rest_of.rest q in
      record {
        stay = rest.0;
        others = subst (λ (os : List Object). IsPermutation (objects_of q.listings) (os ++ rest.0)) (sym md.part.leave) (rest_of.beside q);
        exactly = λ n used.
            back_of.gives q w.placed w.copied m' st (kept e pl m' given) then fresh n used
            ∙ ap (λ (o : Option Plan). is_given_back (objects_of q.listings) (anew q ∷ then ∷ rest.0) n || is_taken (takings o w.placed.dir) n) plan_is
            ∙ ap (λ (os : List Object). is_given_back (objects_of q.listings) (os ++ rest.0) n || is_taken (takings_of id runs ++ taking_of w.placed.dir) n) (sym md.part.join);
      }

  pub lies : IsGrownAt w.q.m (objects_of w.q.listings) (takings_of id runs) gr (taking_of w.placed.dir)
  lies = subst (λ (o : Option Plan). IsGrownAt q.m (objects_of q.listings) (takings_of (id_in o) (parts_in o)) gr (taking_of w.placed.dir)) plan_is (grown_lies e pl md.part)

  -- ---- with its parts

  module _ (owners' : List Owner) (number : ℕ) (after : AreOwnersAfter (Layout.New m') w.q.nodes w.pr.change (owners_admitted (Layout.New w.q.m) w.pr.change.object number w.q.owners) owners') where
    unfoldable pub copying : NewGrownCopying
    copying = record {
      kind = w.q.kind;
      m = w.q.m;
      m' = m';
      nodes = w.q.nodes;
      nodes' = nodes_after w.pr.change number w.q.nodes;
      owners = w.q.owners;
      owners' = owners';
      root = w.q.root;
      listings = w.q.listings;
      c = md.c;
      growing = gr;
      id = id;
      parts = runs;
      own = taking_of w.placed.dir;
      gone = gone_at_once w.placed.dir (walk.alone w.q w.placed) ++ want.back w.q w.placed;
      near = w.q.seen.known.target.object.path;
      agreed = w.q.agreed;
      copies = md.copies;
      grows = md.part.grows;
      nodes_edited = move_of.nodes_edited e md.part number;
      owners_edited = move_of.owners_edited e md.part m' owned_then (move_of.grown_owner e md.part m' (anew w.q).sectors refl (grown_at e pl m' given)) (grown_some e pl m' given) number owners' after;
      is_map = st.edited.is_map;
      geometry = st.geometry;
      space = space;
      gives = gives;
      some = subst (λ (n : ℕ). 0 < n) (sym (walk.len_is w.q)) (walk.big w.q).more;
      lies = lies;
      grown_at = grown_at e pl m' given;
      at = subst (λ (o : Object). IsAt (Layout.New m') o) then_is lies_now;
      place = its_place;
    }

    -- The parts agree afterwards.
    pub agrees : Agree w.q.kind (parts_with m' (nodes_after w.pr.change number w.q.nodes) owners')
    unfolding copying
    agrees = let now = grown_copying_law.new copying in agreed_law.agree q.kind m' (nodes_after w.pr.change number q.nodes) owners' now.root now.found now.agree
