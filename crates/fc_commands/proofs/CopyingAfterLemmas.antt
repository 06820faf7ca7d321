-- A copy on a new map, by any walk: the map, the file and the parts after it, and what it then promises.
use Rattle.std.proofs.Common.{◌≡◌, ◌*◌, ◌==◌, inl, inr, ℕ, cond, List, [], ◌∷◌, length, refl, sym, ap, ap₂, subst, ◌∙◌, Option, Some}
use Rattle.std.specs.Prelude.{IsPermutation}
use Rattle.std.specs.Int.{div_ceil}
use Rattle.fc_names.specs.Names.{Path}
use Rattle.fc_names.specs.declared.name.NameForm.{NameForm}
use Rattle.fc_names.specs.declared.name.NameForm.TheVariants as forms
use Rattle.fc_alloc.specs.declared.owner.Owner.{Owner}
use Rattle.fc_record.specs.declared.Geometry.{Geometry}
use Rattle.fc_record.specs.declared.Kind.{Kind}
use Rattle.fc_newmap.specs.Map.{Map, bits_in}
use Rattle.fc_dirs.specs.declared.Entry.{Entry}
use Rattle.fc_drafts.specs.Entries.{renamed_entry}
use Rattle.fc_image.specs.Edits.{IsAt}
use Rattle.fc_image.specs.Layout.{Layout, dir_form, sectors_at}
use Rattle.fc_image.specs.Objects.{objects_of}
use Rattle.fc_image.specs.Walk.{Listing, Object, object_size}
use Rattle.fc_image.specs.effects.Placed.{file_low}
use Rattle.fc_changes.specs.Changed.{IsInNewSpace}
use Rattle.fc_changes.specs.Owed.{GivesBack}
use Rattle.fc_placing.specs.declared.placing.Placing.TheVariants as placings
use Rattle.fc_placing.proofs.PlacedLemmas.{place_law}
use Rattle.fc_plan.specs.Parts.{fronts}
use Rattle.fc_tree.specs.declared.node.Node.{Node}
use Rattle.fc_tree.specs.Agree.{Agree}
use Rattle.fc_laws.specs.agree.Agreed.{AgreeOn, parts_with}
use Rattle.fc_laws.specs.nodes.Edits.{Nodes, OwnersEdited, owners_with}
use Rattle.fc_laws.proofs.lemmas.agree.BeforeLemmas.{agreed_law}
use Rattle.fc_laws.proofs.lemmas.agree.CopiedLemmas.{copied_law}
use Rattle.fc_laws.proofs.lemmas.agree.CutLemmas.{cut_law}
use Rattle.fc_edits.specs.Copying.{Copying, NewCopying, copied, edit}
use Rattle.fc_edits.specs.NewNodes as edited
use Rattle.fc_edits.specs.Placing.{IsPlaced}
use Rattle.fc_edits.proofs.lemmas.CopyingLemmas.{copying_law, is_copy}
use Rattle.fc_refusals.specs.declared.target.Renaming.{Renaming}
use Rattle.fc_writing.specs.New.{IsGiven}
use Rattle.fc_change.specs.declared.change.Turned.{Turned}
use Rattle.fc_change.specs.declared.change.Turned.TheVariants as turns
use Rattle.fc_change.specs.After.{AreOwnersAfter, CanTurnOwner, nodes_after, owners_admitted}
use Rattle.fc_commands.specs.declared.stages.Prepared.{Prepared}
use Rattle.fc_commands.proofs.CopyingOwnerLemmas.{admitted, can_turn, edited as owner_edited}
use Rattle.fc_commands.proofs.CopyingPreparedLemmas.{IsCopyAsked, address, bytes_is, cp, file, nodes_now, none, placed, sectors, turned}
use Rattle.fc_commands.proofs.CopyingSlackLemmas.{no_slack}
use Rattle.fc_commands.proofs.MoveLemmas.{IsSeen, among, h as held_by, k, o}
use Rattle.fc_commands.proofs.NewCopyingLemmas.{giving, taking}
use Rattle.fc_commands.proofs.NewPlaceLemmas.{LiesBy, lies, space, two}
use Rattle.fc_commands.proofs.NewSpotLemmas.{low_two}
use Rattle.fc_commands.proofs.StayingLemmas.{count}
use Rattle.fc_commands.proofs.StepLemmas.{IsTwoStepped}
use Rattle.fc_commands.proofs.TargetLemmas as target_of

module _ (m : Map) (nodes : Nodes) (owners : List Owner) (r : Renaming) (name : List ℕ) (p : Prepared) (q : IsCopyAsked m nodes owners r name p) (kind : Kind) (root : Node) (listings : List Listing)
    (agreed : AgreeOn kind m nodes owners root listings) (from to : Path) (x : IsSeen (Layout.New m) nodes listings from to r name) (m' : Map) (given : IsGiven m p.ready m') where
  abbrev it : Object
  it = o (Layout.New m) nodes listings from to r name x

  abbrev new : List ℕ
  new = sectors m nodes owners r name p q kind root listings agreed from to x

  abbrev there : ℕ
  there = address m nodes owners r name p q kind root listings agreed from to x

  abbrev pub c : Copying
  c = (cp m nodes owners r name p q kind root listings agreed from to x).c

  abbrev pub copy : Object
  copy = copied c c.o

  -- ---- the map

  pub stepped : IsTwoStepped m m' (Some (placed m nodes owners r name p q kind root listings agreed from to x).plan) []
  stepped =
      let at = placed m nodes owners r name p q kind root listings agreed from to x in
      two m m' (placings.New at.plan) [] p.ready.take p.ready.give q.is_map (taking m nodes owners r name p q kind root listings agreed from to x) (giving m nodes owners r name p q kind root listings agreed from to x)
      given.0 given.1 given.2 refl

  form_stays : dir_form (Layout.New m') ≡ dir_form (Layout.New m)
  form_stays = ap (λ (g : Geometry). let f : NameForm = cond (g.version == 0) forms.Ten forms.Long in f) stepped.edited.geometry

  -- ---- the file

  lying : LiesBy m q.prep.wants.bytes (placings.New (placed m nodes owners r name p q kind root listings agreed from to x).plan) there new
  lying =
      let at = placed m nodes owners r name p q kind root listings agreed from to x in
      let room = bits_in (fronts at.plan.parts.items) * m.geometry.bit_bytes in
      (at.own, (file_low m.geometry room q.prep.wants.bytes, low_two m.geometry room q.prep.wants.bytes, at.address), at.sectors)

  pub entry_now : (copied (cp m nodes owners r name p q kind root listings agreed from to x).c (cp m nodes owners r name p q kind root listings agreed from to x).c.o).entry
      ≡ renamed_entry (o (Layout.New m) nodes listings from to r name x).entry name (placed m nodes owners r name p q kind root listings agreed from to x).place.address
  entry_now = let e = cp m nodes owners r name p q kind root listings agreed from to x in e.is.entry ∙ ap (renamed_entry it.entry name) e.address_is

  sectors_now : copy.sectors ≡ new
  sectors_now = ap (λ (y : Object). y.sectors) (is_copy c) ∙ (cp m nodes owners r name p q kind root listings agreed from to x).sectors_are

  pub size_now : object_size (dir_form (Layout.New m')) (copied (cp m nodes owners r name p q kind root listings agreed from to x).c (cp m nodes owners r name p q kind root listings agreed from to x).c.o).entry
      ≡ (o (Layout.New m) nodes listings from to r name x).entry.len
  size_now = ap (object_size (dir_form (Layout.New m'))) entry_now ∙ ap (λ (f : NameForm). object_size f it.entry) form_stays ∙ (file m nodes owners r name p q kind root listings agreed from to x).size

  pub lies_now : IsAt (Layout.New m') (copied (cp m nodes owners r name p q kind root listings agreed from to x).c (cp m nodes owners r name p q kind root listings agreed from to x).c.o)
  lies_now =
      let at = placed m nodes owners r name p q kind root listings agreed from to x in
      ap₂ (λ (a n : ℕ). sectors_at (Layout.New m') a n) (ap (λ (e : Entry). e.address) entry_now) (size_now ∙ sym (bytes_is m nodes owners r name p q kind root listings agreed from to x))
      ∙ lies m m' (placings.New at.plan) [] p.ready.take p.ready.give q.is_map (taking m nodes owners r name p q kind root listings agreed from to x) (giving m nodes owners r name p q kind root listings agreed from to x)
      given.0 given.1 given.2 refl there q.prep.wants.bytes new lying (λ id same. refl)
      ∙ ap (λ (ss : List ℕ). let y : Option (List ℕ) = Some ss in y) (sym sectors_now)

  -- as many sectors as before
  as_long : length copy.sectors ≡ length it.sectors
  as_long =
      count (Layout.New m') copy.entry.address (object_size (dir_form (Layout.New m')) copy.entry) copy.sectors lies_now
      ∙ ap₂ (λ (n : ℕ) (g : Geometry). div_ceil n g.sector) (size_now ∙ sym (file m nodes owners r name p q kind root listings agreed from to x).size) stepped.edited.geometry
      ∙ sym (count (Layout.New m) it.entry.address (object_size (dir_form (Layout.New m)) it.entry) it.sectors (target_of.placed (Layout.New m) nodes listings x.sound x.held from r.target x.known.target))

  -- in new space of its own
  new_space : (n : ℕ) → n ≡ q.prep.wants.bytes → IsInNewSpace m n (file_low m.geometry (bits_in (fronts (placed m nodes owners r name p q kind root listings agreed from to x).plan.parts.items) * m.geometry.bit_bytes) n)
      (placed m nodes owners r name p q kind root listings agreed from to x).plan.id (fronts (placed m nodes owners r name p q kind root listings agreed from to x).plan.parts.items) copy
  new_space n same =
      let at = placed m nodes owners r name p q kind root listings agreed from to x in
      let room = bits_in (fronts at.plan.parts.items) * m.geometry.bit_bytes in
      subst (λ (b : ℕ). IsInNewSpace m b (file_low m.geometry room b) at.plan.id (fronts at.plan.parts.items) copy) (sym same)
      (place_law.alone m q.prep.wants.bytes (file_low m.geometry room q.prep.wants.bytes) at.plan copy at.own (ap (λ (e : Entry). e.address) entry_now ∙ at.address))

  pub its_space : IsInNewSpace m (cp m nodes owners r name p q kind root listings agreed from to x).c.o.entry.len
      (file_low m.geometry (bits_in (fronts (placed m nodes owners r name p q kind root listings agreed from to x).plan.parts.items) * m.geometry.bit_bytes) (cp m nodes owners r name p q kind root listings agreed from to x).c.o.entry.len)
      (placed m nodes owners r name p q kind root listings agreed from to x).plan.id (fronts (placed m nodes owners r name p q kind root listings agreed from to x).plan.parts.items)
      (copied (cp m nodes owners r name p q kind root listings agreed from to x).c (cp m nodes owners r name p q kind root listings agreed from to x).c.o)
  its_space = new_space c.o.entry.len (ap (λ (y : Object). y.entry.len) (cp m nodes owners r name p q kind root listings agreed from to x).is.o_is ∙ sym (bytes_is m nodes owners r name p q kind root listings agreed from to x))

  pub its_place : IsPlaced m (objects_of listings) it.path (object_size (dir_form (Layout.New m')) copy.entry) (placed m nodes owners r name p q kind root listings agreed from to x).plan.id
      (fronts (placed m nodes owners r name p q kind root listings agreed from to x).plan.parts.items) copy
  its_place =
      inl (inr (inl (
        no_slack m listings x.sound it (among (Layout.New m) nodes listings from to r name x) (file m nodes owners r name p q kind root listings agreed from to x).file (object_size (dir_form (Layout.New m')) copy.entry),
        new_space (object_size (dir_form (Layout.New m')) copy.entry) (size_now ∙ sym (bytes_is m nodes owners r name p q kind root listings agreed from to x)),
      )))

  -- ---- its owner

  turned_now : p.change.object ≡ turns.Turns r.target.node r.holder copy.entry
  turned_now = turned m nodes owners r name p q kind root listings agreed from to x ∙ ap (turns.Turns r.target.node r.holder) (sym entry_now)

  pub owners_stay : (number : ℕ) → owners_admitted (Layout.New m) p.change.object number owners ≡ owners
  owners_stay number =
      ap (λ (y : Turned). owners_admitted (Layout.New m) y number owners) turned_now
      ∙ admitted m m' stepped.edited.geometry nodes listings from to r name x owners agreed.owned copy lies_now as_long number

  pub can_turn_owner : CanTurnOwner (Layout.New m') owners p.change.object
  can_turn_owner = subst (CanTurnOwner (Layout.New m') owners) (sym turned_now) (can_turn m m' stepped.edited.geometry nodes listings from to r name x owners agreed.owned copy lies_now as_long)

  -- ---- the parts after it

  module _ (owners' : List Owner) (number : ℕ) (run : AreOwnersAfter (Layout.New m') nodes p.change (owners_admitted (Layout.New m) p.change.object number owners) owners') where
    pub goes : OwnersEdited owners owners' (owners_with (Layout.New m) c.home c.number c.o) (owners_with (Layout.New m') c.dir c.number copy)
    goes =
        let is = (cp m nodes owners r name p q kind root listings agreed from to x).is in
        let plain = owner_edited m m' stepped.edited.geometry nodes listings from to r name x owners agreed.owned copy lies_now as_long p.change owners' (none m nodes owners r name p q kind root listings agreed from to x) turned_now number run in
        subst (λ (d : ℕ). OwnersEdited owners owners' (owners_with (Layout.New m) c.home c.number c.o) (owners_with (Layout.New m') d c.number copy)) (sym is.dir_is)
        (subst (λ (n : ℕ). OwnersEdited owners owners' (owners_with (Layout.New m) c.home n c.o) (owners_with (Layout.New m') r.holder n copy)) (sym is.number_is)
        (subst (λ (y : Object). OwnersEdited owners owners' (owners_with (Layout.New m) c.home r.target.node y) (owners_with (Layout.New m') r.holder r.target.node copy)) (sym is.o_is)
        (subst (λ (d : ℕ). OwnersEdited owners owners' (owners_with (Layout.New m) d r.target.node it) (owners_with (Layout.New m') r.holder r.target.node copy)) (sym is.home_is) plain)))

    pub cut : (stay : List Object) × IsPermutation (objects_of listings) (it ∷ stay)
    cut = cut_law.others (Layout.New m) listings (k (Layout.New m) nodes listings from to r name x) r.target.at it x.sound x.known.target.listed x.known.target.at

    pub cut_now : IsPermutation (objects_of listings) (c.o ∷ cut.0)
    cut_now = subst (λ (y : Object). IsPermutation (objects_of listings) (y ∷ cut.0)) (sym (cp m nodes owners r name p q kind root listings agreed from to x).is.o_is) cut.1

    pub gives_none : GivesBack m [] (objects_of listings) (copy ∷ cut.0)
    gives_none = copied_law.none_back m (objects_of listings) cut.0 it copy (file m nodes owners r name p q kind root listings agreed from to x).sharing cut.1

    unfoldable pub copying : NewCopying
    copying =
        let at = placed m nodes owners r name p q kind root listings agreed from to x in
        let e = cp m nodes owners r name p q kind root listings agreed from to x in
        record {
          kind = kind;
          m = m;
          m' = m';
          nodes = nodes;
          nodes' = edited.nodes_after (edit c) nodes;
          owners = owners;
          owners' = owners';
          root = root;
          listings = listings;
          c = c;
          id = at.plan.id;
          parts = fronts at.plan.parts.items;
          gone = [];
          stay = cut.0;
          near = it.path;
          agreed = agreed;
          copying = e.is.copying;
          nodes_edited = copying_law.nodes nodes (Layout.New m) listings c (held_by (Layout.New m) nodes listings from to r name x) e.is.copying;
          owners_edited = goes;
          is_map = stepped.edited.is_map;
          geometry = stepped.edited.geometry;
          space = space m m' (placings.New at.plan) [] p.ready.take p.ready.give q.is_map (taking m nodes owners r name p q kind root listings agreed from to x)
              (giving m nodes owners r name p q kind root listings agreed from to x) given.0 given.1 given.2 refl;
          others = cut_now;
          gives = gives_none;
          at = lies_now;
          place = its_place;
        }

    pub nodes_same : edited.nodes_after (edit (cp m nodes owners r name p q kind root listings agreed from to x).c) nodes ≡ nodes_after p.change number nodes
    nodes_same = sym (nodes_now m nodes owners r name p q kind root listings agreed from to x number)

    -- the parts agree
    pub agrees : Agree kind (parts_with m' (nodes_after p.change number nodes) owners')
    unfolding copying
    agrees =
        let now = copying_law.new copying in
        subst (λ (ns : Nodes). Agree kind (parts_with m' ns owners')) nodes_same (agreed_law.agree kind m' (edited.nodes_after (edit c) nodes) owners' now.root now.found now.agree)
