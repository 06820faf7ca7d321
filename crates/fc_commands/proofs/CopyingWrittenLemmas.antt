-- A copy on a new map, by any walk: what was written of it is there, so the command has done what it promises.
use Rattle.std.proofs.Common.{◌≡◌, ◌≤◌, ◌*◌, ⊎_elim, ℕ, false, List, [], ◌∷◌, length, refl, sym, ap, subst, ◌∙◌}
use Rattle.std.specs.Prelude.{Contains}
use Rattle.fc_names.specs.Names.{Path, is_same_path}
use Rattle.fc_alloc.specs.declared.owner.Owner.{Owner}
use Rattle.fc_record.specs.declared.Geometry.{Geometry}
use Rattle.fc_record.specs.declared.Kind.{Kind}
use Rattle.fc_newmap.specs.Map.{Map}
use Rattle.fc_drafts.specs.Draft.{size_of}
use Rattle.fc_model.specs.Command.{Command}
use Rattle.fc_device.specs.Sectors.{sector_at}
use Rattle.fc_image.specs.Layout.{Layout, bytes_in, dir_form, is_among, map_place}
use Rattle.fc_image.specs.Opening.{Opened}
use Rattle.fc_image.specs.Stays.{OpensAs}
use Rattle.fc_image.specs.Walk.{Listing, Object, object_bytes, object_size}
use Rattle.fc_image.specs.effects.Short.{is_copied}
use Rattle.fc_changes.proofs.BasicLemmas.{clash}
use Rattle.fc_objects.specs.Extents.{sectors_in}
use Rattle.fc_changes.proofs.StepsLemmas.{after}
use Rattle.fc_space.specs.Space.{PlacesSuffice}
use Rattle.fc_tree.specs.declared.node.Node.{Node}
use Rattle.fc_tree.proofs.LengthLemmas.{object_long}
use Rattle.fc_tree.proofs.MemberLemmas.{contains_here, no_element}
use Rattle.fc_laws.specs.agree.Agreed.{AgreeOn, parts_with}
use Rattle.fc_laws.specs.nodes.Edits.{Nodes}
use Rattle.fc_laws.specs.takeover.Copied.{AreCopied}
use Rattle.fc_laws.proofs.lemmas.takeover.CopiedBytesLemmas.{copied_bytes_law}
use Rattle.fc_laws.proofs.lemmas.takeover.KindLemmas.{new_kind}
use Rattle.fc_laws.proofs.lemmas.takeover.WriteLemmas.{written_bytes_law}
use Rattle.fc_edits.specs.Copying.{Copying, copied, from_it, to_it}
use Rattle.fc_edits.specs.Edit.{Amended}
use Rattle.fc_edits.specs.NewNodes as edited
use Rattle.fc_edits.proofs.lemmas.CopyingLemmas.{is_copy}
use Rattle.fc_edits.proofs.lemmas.ShapeLemmas.{only}
use Rattle.fc_outcomes.specs.Copying.{CopyingLaw, CopyingWritten, IsToCopy}
use Rattle.fc_outcomes.specs.NewImage.{Outcome}
use Rattle.fc_outcomes.specs.Puts.{ArePutOut, Put}
use Rattle.fc_refusals.specs.declared.target.Renaming.{Renaming}
use Rattle.fc_writing.specs.declared.ready.Piece.{Piece}
use Rattle.fc_writing.specs.New.{IsChanged, IsGiven}
use Rattle.fc_writing.specs.Ready.{place_of}
use Rattle.fc_change.specs.After.{AreOwnersAfter, nodes_after, owners_admitted}
use Rattle.fc_commands.specs.declared.stages.Prepared.{Prepared}
use Rattle.fc_commands.proofs.CopyingAfterLemmas.{copying, its_space, lies_now, nodes_same, size_now, stepped}
use Rattle.fc_commands.proofs.CopyingPreparedLemmas.{IsCopyAsked, are_for, cp, file, none_grows, placed, ready, sectors}
use Rattle.fc_commands.proofs.CopyingReadyLemmas.{are_copied, piece_written, whose_content}
use Rattle.fc_commands.proofs.MoveLemmas.{IsSeen, o}
use Rattle.fc_commands.proofs.MovePieceLemmas.{IsFor, lies, piece_of, said_listed, whose_piece}
use Rattle.fc_commands.proofs.NewCopyingLemmas.{from_is}
use Rattle.fc_commands.proofs.CopyingLengthLemmas.{image_long}
use Rattle.fc_commands.proofs.TargetLemmas as target_of
use Rattle.fc_image.proofs.EntriesLemmas.{later as contains_later, cases as contains_cases}

module _ (m : Map) (nodes : Nodes) (owners : List Owner) (r : Renaming) (name : List ℕ) (p : Prepared) (q : IsCopyAsked m nodes owners r name p) (kind : Kind) (root : Node) (listings : List Listing)
    (agreed : AgreeOn kind m nodes owners root listings) (from to : Path) (x : IsSeen (Layout.New m) nodes listings from to r name) (m' : Map) (given : IsGiven m p.ready m') (was bytes image : List ℕ)
    (opens : OpensAs was kind (record { kind = kind; layout = Layout.New m; listings = listings })) (changed : IsChanged m m' p.ready bytes was image) where
  abbrev it : Object
  it = o (Layout.New m) nodes listings from to r name x

  abbrev c : Copying
  c = (cp m nodes owners r name p q kind root listings agreed from to x).c

  abbrev copy : Object
  copy = copied c c.o

  abbrev new : List ℕ
  new = sectors m nodes owners r name p q kind root listings agreed from to x

  abbrev dirs : List Amended
  dirs = to_it c ∷ (from_it c ∷ [])

  abbrev size : ℕ
  size = m.geometry.sector

  -- ---- the pieces of both directories

  pub k_piece : (y : Piece) × Contains p.ready.late.items y × IsFor (from_it (cp m nodes owners r name p q kind root listings agreed from to x).c) y
  k_piece = piece_of dirs p.ready.late.items (are_for m nodes owners r name p q kind root listings agreed from to x) (from_it c) (contains_later (to_it c) (from_it c) (from_it c ∷ []) (contains_here (from_it c) []))

  pub l_piece : (y : Piece) × Contains p.ready.late.items y × IsFor (to_it (cp m nodes owners r name p q kind root listings agreed from to x).c) y
  l_piece = piece_of dirs p.ready.late.items (are_for m nodes owners r name p q kind root listings agreed from to x) (to_it c) (contains_here (to_it c) (from_it c ∷ []))

  -- its directory has room for it
  room : (a : Amended) → Contains dirs a → size_of a.content ≡ object_size (dir_form (Layout.New m)) a.was.object.entry → (y : Piece) → IsFor a y → length y.bytes.items ≤ length (place_of y) * size
  room a at fits y is =
      subst (λ (n : ℕ). n ≤ length (place_of y) * size) (sym (is.long ∙ fits))
      (subst (λ (ss : List ℕ). object_size (dir_form (Layout.New m)) a.was.object.entry ≤ length ss * size) (sym is.place)
      (written_bytes_law.room m a.was.object q.is_map
      (lies kind (Layout.New m) nodes root listings agreed.walked a.was (said_listed nodes listings dirs p.change.says.items (cp m nodes owners r name p q kind root listings agreed from to x).is.said a at).0).placed))

  there : (a : Amended) → Contains dirs a → size_of a.content ≡ object_size (dir_form (Layout.New m)) a.was.object.entry → (y : Piece) → Contains p.ready.late.items y → IsFor a y
      → bytes_in size image a.was.object.sectors (length y.bytes.items) ≡ y.bytes.items
  there a at fits y among is =
      subst (λ (ss : List ℕ). bytes_in size image ss (length y.bytes.items) ≡ y.bytes.items) is.place
      (piece_written (Layout.New m) nodes p.change.says.items q.prep.spaces (sectors_in (placed m nodes owners r name p q kind root listings agreed from to x).from.items) new p.ready
      (ready m nodes owners r name p q kind root listings agreed from to x) size was bytes image changed.written y among (room a at fits y is))

  -- ---- the file

  abbrev pub stored : List ℕ
  stored = object_bytes was (Layout.New m) c.o

  stored_long : PlacesSuffice (Layout.New m) → length stored ≡ c.o.entry.len
  stored_long suffice =
      let k = new_kind was kind (record { kind = kind; layout = Layout.New m; listings = listings }) m opens refl in
      let is = (cp m nodes owners r name p q kind root listings agreed from to x).is in
      subst (λ (y : Object). length (object_bytes was (Layout.New m) y) ≡ y.entry.len) (sym is.o_is)
      (object_long was (Layout.New m) it suffice (target_of.placed (Layout.New m) nodes listings x.sound x.held from r.target x.known.target) (image_long was kind k.0 m listings k.1 opens)
      ∙ (file m nodes owners r name p q kind root listings agreed from to x).size)

  -- its sectors were copied
  copied_over : AreCopied size was image it.sectors copy.sectors
  copied_over =
      let at = placed m nodes owners r name p q kind root listings agreed from to x in
      subst (λ (ss : List ℕ). AreCopied size was image it.sectors ss)
      (sym (ap (λ (y : Object). y.sectors) (is_copy c) ∙ (cp m nodes owners r name p q kind root listings agreed from to x).sectors_are))
      (subst (λ (ss : List ℕ). AreCopied size was image ss new) (from_is m nodes owners r name p q kind root listings agreed from to x)
      (are_copied (Layout.New m) nodes p.change.says.items q.prep.spaces (sectors_in at.from.items) new p.ready (ready m nodes owners r name p q kind root listings agreed from to x) size was bytes image changed.written))

  same_bytes : object_bytes image (Layout.New m') copy ≡ object_bytes was (Layout.New m) it
  same_bytes =
      copied_bytes_law m m' it copy was image (stepped m nodes owners r name p q kind root listings agreed from to x m' given).edited.geometry
      (target_of.placed (Layout.New m) nodes listings x.sound x.held from r.target x.known.target) (lies_now m nodes owners r name p q kind root listings agreed from to x m' given)
      (size_now m nodes owners r name p q kind root listings agreed from to x m' given ∙ sym (file m nodes owners r name p q kind root listings agreed from to x).size) copied_over

  file_there : PlacesSuffice (Layout.New m) → bytes_in size image c.sectors (length stored) ≡ stored
  file_there suffice =
      let is = (cp m nodes owners r name p q kind root listings agreed from to x).is in
      ap (bytes_in size image c.sectors) (stored_long suffice ∙ ap (λ (y : Object). y.entry.len) is.o_is ∙ sym (size_now m nodes owners r name p q kind root listings agreed from to x m' given))
      ∙ sym (ap (λ (g : Geometry). bytes_in g.sector image copy.sectors (object_size (dir_form (Layout.New m')) copy.entry)) (stepped m nodes owners r name p q kind root listings agreed from to x m' given).edited.geometry
      ∙ ap (λ (y : Object). bytes_in size image y.sectors (object_size (dir_form (Layout.New m')) copy.entry)) (is_copy c))
      ∙ same_bytes ∙ ap (object_bytes was (Layout.New m)) (sym is.o_is)

  -- ---- all of it

  abbrev k_put : Put
  k_put = record { sectors = c.k.object.sectors; bytes = k_piece.0.bytes.items }

  abbrev l_put : Put
  l_put = record { sectors = c.l.object.sectors; bytes = l_piece.0.bytes.items }

  abbrev file_put : Put
  file_put = record { sectors = c.sectors; bytes = stored }

  each_there : PlacesSuffice (Layout.New m) → (y : Put) → Contains (k_put ∷ (l_put ∷ (file_put ∷ []))) y → bytes_in size image y.sectors (length y.bytes) ≡ y.bytes
  each_there suffice y at =
      let is = (cp m nodes owners r name p q kind root listings agreed from to x).is in
      ⊎_elim (λ same. subst (λ (z : Put). bytes_in size image z.sectors (length z.bytes) ≡ z.bytes) same
      (there (from_it c) (contains_later (to_it c) (from_it c) (from_it c ∷ []) (contains_here (from_it c) [])) is.k_size k_piece.0 k_piece.1 k_piece.2))
      (λ later.
      ⊎_elim (λ same. subst (λ (z : Put). bytes_in size image z.sectors (length z.bytes) ≡ z.bytes) same (there (to_it c) (contains_here (to_it c) (from_it c ∷ [])) is.l_size l_piece.0 l_piece.1 l_piece.2))
      (λ last. subst (λ (z : Put). bytes_in size image z.sectors (length z.bytes) ≡ z.bytes) (put_only y last) (file_there suffice)) (contains_cases l_put y (file_put ∷ []) later)) (contains_cases k_put y (l_put ∷ (file_put ∷ [])) at)
    where
      put_only : (z : Put) → Contains (file_put ∷ []) z → file_put ≡ z
      put_only z last = ⊎_elim (λ same. same) (λ none. absurd (no_element z none)) (contains_cases file_put z [] last)

  others : (s : ℕ) → is_among (map_place (Layout.New m)) s ≡ false → ((y : Put) → Contains (k_put ∷ (l_put ∷ (file_put ∷ []))) y → is_among y.sectors s ≡ false) → sector_at size image s ≡ sector_at size was s
  others s outside none =
      ⊎_elim (λ same. same)
      (λ written.
      absurd (⊎_elim
      (λ here. clash (is_among new s) here (ap (λ (ss : List ℕ). is_among ss s) (sym (cp m nodes owners r name p q kind root listings agreed from to x).sectors_are)
      ∙ none file_put (contains_later k_put file_put (l_put ∷ (file_put ∷ [])) (contains_later l_put file_put (file_put ∷ []) (contains_here file_put [])))))
      (λ piece.
      let a = whose_piece dirs p.ready.late.items (are_for m nodes owners r name p q kind root listings agreed from to x) piece.0 piece.1 in
      clash (is_among (place_of piece.0) s) piece.2 (ap (λ (ss : List ℕ). is_among ss s) a.2.place ∙ not_dir a.0 a.1))
      (whose_content (Layout.New m) nodes p.change.says.items q.prep.spaces (sectors_in (placed m nodes owners r name p q kind root listings agreed from to x).from.items) new p.ready
      (ready m nodes owners r name p q kind root listings agreed from to x) size was bytes image (s, sector_at size image s) written)))
      (changed.others.each s outside)
    where
      not_dir : (a : Amended) → Contains dirs a → is_among a.was.object.sectors s ≡ false
      not_dir a at =
          ⊎_elim (λ same. subst (λ (b : Amended). is_among b.was.object.sectors s ≡ false) same (none l_put (contains_later k_put l_put (l_put ∷ (file_put ∷ [])) (contains_here l_put (file_put ∷ [])))))
          (λ last. subst (λ (b : Amended). is_among b.was.object.sectors s ≡ false) (only (from_it c) a last) (none k_put (contains_here k_put (l_put ∷ (file_put ∷ []))))) (contains_cases (to_it c) a (from_it c ∷ []) at)

  out : PlacesSuffice (Layout.New m) → ArePutOut (Layout.New m) (k_put ∷ (l_put ∷ (file_put ∷ []))) was image
  out suffice = record { length_stays = changed.others.length_stays; there = each_there suffice; others = others }

  module _ (owners' : List Owner) (number : ℕ) (run : AreOwnersAfter (Layout.New m') nodes p.change (owners_admitted (Layout.New m) p.change.object number owners) owners') where
    asks : IsToCopy (copying m nodes owners r name p q kind root listings agreed from to x m' given owners' number run) from to
    unfolding copying
    asks =
        let is = (cp m nodes owners r name p q kind root listings agreed from to x).is in
        let v : Opened = record { kind = kind; layout = Layout.New m; listings = listings } in
        record {
          from_is = ap (λ (y : Object). is_same_path from y.path) is.o_is ∙ x.known.target.path_is;
          to_is = is.to_is;
          name_is = sym x.name_is ∙ sym is.name_is;
          shares = ap (is_copied v from to) is.o_is ∙ (file m nodes owners r name p q kind root listings agreed from to x).copied kind;
          no_growth = none_grows m nodes owners r name p q kind root listings agreed from to x;
          place = its_space m nodes owners r name p q kind root listings agreed from to x m' given;
        }

    written : PlacesSuffice (Layout.New m) → CopyingWritten (copying m nodes owners r name p q kind root listings agreed from to x m' given owners' number run) from to k_piece.0.bytes.items l_piece.0.bytes.items stored was image
    unfolding copying
    written suffice =
        let k = new_kind was kind (record { kind = kind; layout = Layout.New m; listings = listings }) m opens refl in
        let is = (cp m nodes owners r name p q kind root listings agreed from to x).is in
        record {
          r = k.0;
          new_kind = k.1;
          opens = opens;
          its = asks;
          left = is.left;
          joined = is.joined;
          k_says = is.k_says;
          l_says = is.l_says;
          k_written = k_piece.2.bytes;
          l_written = l_piece.2.bytes;
          k_long = k_piece.2.long ∙ is.k_size;
          l_long = l_piece.2.long ∙ is.l_size;
          stored_is = refl;
          stored_long = stored_long suffice;
          out = out suffice;
          after = after m m' image (stepped m nodes owners r name p q kind root listings agreed from to x m' given).edited changed.copies;
        }

    -- So it has done what it promises.
    pub outcome : CopyingLaw → PlacesSuffice (Layout.New m) → Outcome kind was image (record { kind = kind; layout = Layout.New m; listings = listings }) (Command.Rename from to) (parts_with m' (nodes_after p.change number nodes) owners')
    unfolding copying
    outcome law suffice =
        subst (λ (ns : Nodes). Outcome kind was image (record { kind = kind; layout = Layout.New m; listings = listings }) (Command.Rename from to) (parts_with m' ns owners'))
        (nodes_same m nodes owners r name p q kind root listings agreed from to x m' given owners' number run)
        (law.new (copying m nodes owners r name p q kind root listings agreed from to x m' given owners' number run) from to k_piece.0.bytes.items l_piece.0.bytes.items stored was image (written suffice))
