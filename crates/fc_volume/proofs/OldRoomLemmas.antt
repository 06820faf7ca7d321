-- Which sectors compaction has written at any exit.
use Rattle.std.proofs.Common.{◌≡◌, ◌<◌, ◌≤◌, ◌⊎◌, inl, inr, ℕ, ◌+◌, ◌*◌, ◌/◌, Bool, true, false, not, List, [], ◌∷◌, ◌++◌, length, refl, sym, ap, ap₂, subst, ◌∙◌, arith, Some, None, Option, get_or}
use Rattle.std.specs.Prelude.{◌==◌, ◌&&◌, ◌||◌, Contains, Result, Ok, Err, filter, nat_lt}
use Rattle.std.specs.Int.{div_ceil}
use Rattle.std.specs.List.{flat_map, range_with_len}
use Rattle.std.specs.Option.{option_map}
use Rattle.std.specs.FinMap.{get}
use Rattle.std.proofs.lemmas.Bool.{cases_lt, eqb-true, false_from_ne_true as unless}
use Rattle.std.proofs.lemmas.List.FromFn.{get_or-range_with_len, length-range_with_len}
use Rattle.fc_record.specs.declared.Kind.{Kind}
use Rattle.fc_names.specs.declared.name.NameForm.{NameForm}
use Rattle.fc_dirs.specs.declared.Entry.{Entry}
use Rattle.fc_dirs.specs.Small.{SmallDir, tail_of}
use Rattle.fc_device.specs.declared.disk.Extent.{Extent}
use Rattle.fc_oldmap.specs.OldMap.{OldMapContent}
use Rattle.fc_newmap.proofs.PlaceLemmas.{in_back, in_either, in_front}
use Rattle.fc_image.specs.Layout.{Layout, dir_form, disc_sectors, hole_sectors, is_among, map_place, sectors_at}
use Rattle.fc_image.specs.Objects.{has_sectors, objects_of}
use Rattle.fc_image.specs.Opening.{Opened, reserved_in}
use Rattle.fc_image.specs.Report.{is_lost_sector}
use Rattle.fc_image.specs.Sound.{AreSound}
use Rattle.fc_image.specs.Walk.{Listing, Object, Reader, object_size, walk}
use Rattle.fc_image.specs.declared.effects.Owned.{Owned}
use Rattle.fc_image.specs.effects.Moves.{Squashed, is_in_body, is_in_hole}
use Rattle.fc_image.proofs.FreeLemmas.{among_range}
use Rattle.fc_image.proofs.HolesLemmas.{Each-contains, Each-objects, Lies, walk_lies}
use Rattle.fc_objects.specs.Extents.{sectors_in}
use Rattle.fc_objects.specs.Written.{IsPartWritten}
use Rattle.fc_changes.proofs.BasicLemmas.{clash}
use Rattle.fc_changes.specs.old.Owed.{IsWritten, holding}
use Rattle.fc_changes.proofs.lemmas.old.PlaceLemmas.{row_or_none}
use Rattle.fc_tree.specs.declared.node.Node.{Node}
use Rattle.fc_tree.specs.Counts.{address_in}
use Rattle.fc_tree.specs.Nodes.{HoldObjects}
use Rattle.fc_tree.proofs.WalkedLemmas.{listed_directory, same_some}
use Rattle.fc_laws.specs.nodes.Edits.{Nodes}
use Rattle.fc_oldlaws.specs.moves.After.{AreOwned, IsOwnedAs, IsSlide, Slide, address_after, entry_after, form_of, move_of, object_after, space_after}
use Rattle.fc_oldlaws.specs.moves.Nodes.{AreMoved, node_after}
use Rattle.fc_oldlaws.specs.moves.Writes.{AreDirectoriesPlaced, IsDirAt, row_of}
use Rattle.fc_oldlaws.proofs.lemmas.moves.PlaceLemmas.{Case, Start, came_from, case_of, had, holes_as, in_now, no_sectors, root_in, root_stays}
use Rattle.fc_oldlaws.proofs.lemmas.moves.StartLemmas.{body, of_body}
use Rattle.fc_oldlaws.proofs.lemmas.moves.WritesLemmas.{in_row, listing_by, small_was}
use Rattle.fc_device.specs.declared.disk.Disk.{Ghosts}
use Rattle.fc_squash.specs.Places.{ChangesRoom, ChangesRow, Leaves}
use Rattle.fc_squash.proofs.RoomLemmas.{leaves_then}
use Rattle.fc_squash.specs.Squashing.{KeepsBodies}
use Rattle.fc_volume.specs.OldCompacting.{HaveDirectories, IsRoom, WritesOnlyRoom, room_of, slide_by}
use Rattle.fc_volume.proofs.OldChangeLemmas.{written_then}
use Rattle.fc_volume.proofs.RowsLemmas.{one_row}
use Rattle.fc_changes.proofs.PlacedLemmas.{is_in_flat as among_flat}

-- ---- what is written

pub written_same : (space : OldMapContent) (sectors image : List ℕ) → IsWritten space sectors image image
written_same space sectors image = record { length_stays = refl; writes = λ s off map. refl }

-- a map of the same disc has its sectors in the same place
pub written_by : (space now : OldMapContent) (sectors a b : List ℕ) → now ≡ holding space now.holes → IsWritten now sectors a b → IsWritten space sectors a b
written_by space now sectors a b is w =
    let x : IsWritten (holding space now.holes) sectors a b = subst (λ (s : OldMapContent). IsWritten s sectors a b) is w in
    record { length_stays = x.length_stays; writes = x.writes }

-- a part of some bytes in a row
pub row_part : (size : ℕ) (row : Extent) (bytes was image : List ℕ) → IsPartWritten size (sectors_in (row ∷ [])) bytes was image → ChangesRow size row.first row.sectors was image
row_part size row bytes was image part = record {
  long = part.length_stays;
  others = λ s off. elim (part.each s) [
    | inl same ↦ same
    | inr torn ↦ absurd (within s torn.0 (subst (λ (xs : List ℕ). torn.0 < length xs) (one_row row) torn.1) (ap (λ (xs : List ℕ). get_or xs torn.0 0) (sym (one_row row)) ∙ torn.2) off)
  ];
}
  where
    within : (s i : ℕ) → i < length (range_with_len row.first row.sectors) → get_or (range_with_len row.first row.sectors) i 0 ≡ s → (s < row.first) ⊎ (row.first + row.sectors ≤ s) → ⊥
    within s i low is off =
        let long = length-range_with_len row.first row.sectors in
        let at = get_or-range_with_len row.first row.sectors i 0 (omega (arith, low, long)) in
        elim off [
          | inl before ↦ omega (arith, low, long, at, is, before)
          | inr behind ↦ omega (arith, low, long, at, is, behind)
        ]

outside_row : (a n t : ℕ) → is_among (range_with_len a n) t ≡ false → (t < a) ⊎ (a + n ≤ t)
outside_row a n t off = elim (cases_lt t a) [
  | inl low ↦ inl low
  | inr high ↦ elim (cases_lt t (a + n)) [
    | inl inside ↦ absurd (clash (is_among (range_with_len a n) t) (among_range a n t high inside) off)
    | inr behind ↦ inr behind
  ]
]

-- a directory
pub written_row : (space : OldMapContent) (nodes : Nodes) (sectors : List ℕ) (n : ℕ) (node : Node) (dir : SmallDir) (first count : ℕ) (was image : List ℕ) → AreDirectoriesPlaced space nodes → IsDirAt nodes n node dir
    → first ≡ node.entry.address / space.sector_units → count ≡ div_ceil (tail_of dir.form).size (256 * space.sector_units) → HaveDirectories space nodes sectors
    → ChangesRow (256 * space.sector_units) first count was image → IsWritten space sectors was image
written_row space nodes sectors n node dir first count was image placed is begins long have row = record {
  length_stays = row.long;
  writes = λ s off map. row.others s (outside_row first count s (unless (is_among (range_with_len first count) s) (λ h.
      clash (is_among sectors s) (have n node dir is s (ap (λ (xs : List ℕ). is_among xs s) (sym here) ∙ h)) off)));
}
  where
    here : range_with_len first count ≡ row_of space node.entry
    here = ap₂ (λ (a k : ℕ). range_with_len a k) begins (long ∙ ap (λ (k : ℕ). div_ceil k (256 * space.sector_units)) (sym (placed.size n node dir is)))

-- objects that slide
pub written_room : (space : OldMapContent) (nodes : Nodes) (was : List Owned) (sectors a b : List ℕ) → IsRoom space nodes was sectors → ChangesRoom space was a b → IsWritten space sectors a b
written_room space nodes was sectors a b room slid = record {
  length_stays = slid.long;
  writes = λ s off map.
      slid.others s
      (unless (is_in_body space.sector_units was s) (λ h. clash (is_among sectors s) (room.objects s h) off))
      (unless (is_in_hole space.sector_units space.holes s) (λ h. clash (is_among sectors s) (room.holes s h) off));
}

-- ---- lost space

passes : (t : ℕ → Bool) (xs : List ℕ) (s : ℕ) → is_among (filter t xs) s ≡ true → t s ≡ true
passes t [] s h = absurd (cc)
passes t (x ∷ xs) s h = by (t x) refl h (passes t xs s)
  where
    here : (c : Bool) → (x == s) ≡ c → t x ≡ true → (c || is_among (filter t xs) s) ≡ true → (is_among (filter t xs) s ≡ true → t s ≡ true) → t s ≡ true
    here true f e g more = subst (λ (n : ℕ). t n ≡ true) (eqb-true x s f) e
    here false f e g more = more g

    by : (c : Bool) → t x ≡ c → is_among (Rattle.std.specs.Prelude.cond c (x ∷ filter t xs) (filter t xs)) s ≡ true → (is_among (filter t xs) s ≡ true → t s ≡ true) → t s ≡ true
    by true e g more = here (x == s) refl e g more
    by false e g more = more g

three : (h m o : Bool) → (not h && not m && not o) ≡ true → (h ≡ false) × (m ≡ false) × (o ≡ false)
three false false false e = (refl, refl, refl)
three false false true e = absurd (cc)
three false true o e = absurd (cc)
three true m o e = absurd (cc)

pub only_room : (view : Opened) (space : OldMapContent) (image other : List ℕ) → IsWritten space (room_of view space) image other → WritesOnlyRoom view space image other
only_room view space image other w = record {
  written = w;
  lost = λ s h.
      let holes = hole_sectors (Layout.Old space) in
      let objects = flat_map (λ (o : Object). o.sectors) (objects_of view.listings) in
      let off = three (is_among holes s) (is_among (map_place (Layout.Old space)) s) (is_among objects s)
      (passes (is_lost_sector (Layout.Old space) (objects_of view.listings)) (range_with_len 0 (disc_sectors (Layout.Old space))) s h) in
      w.writes s (neither holes objects s off.0 off.2) off.1;
}
  where
    neither : (xs ys : List ℕ) (s : ℕ) → is_among xs s ≡ false → is_among ys s ≡ false → is_among (xs ++ ys) s ≡ false
    neither xs ys s p q = unless (is_among (xs ++ ys) s) (λ h. elim (in_either xs ys s h) [
      | Ok first ↦ clash (is_among xs s) first p
      | Err second ↦ clash (is_among ys s) second q
    ])

-- ---- where directories slide to

module _ (s : Slide) (nodes nodes' : Nodes) (listings : List Listing) (sound : AreSound (Layout.Old s.space) listings) (held : HoldObjects nodes listings) (moved : AreMoved s nodes nodes') where
  abbrev form : NameForm
  form = form_of s

  abbrev move : ℕ → ℕ
  move = move_of s

  was_node : (n : ℕ) (now : Node) → get nodes' n ≡ Some now → (node : Node) × (get nodes n ≡ Some node) × (node_after form move nodes node ≡ now)
  was_node n now is = by (get nodes n) refl
    where
      by : (o : Option Node) → get nodes n ≡ o → (node : Node) × (get nodes n ≡ Some node) × (node_after form move nodes node ≡ now)
      by None e = let none : Some now ≡ None = sym is ∙ moved.each n ∙ ap (option_map (node_after form move nodes)) e in absurd (cc)
      by (Some node) e = (node, e, same_some (node_after form move nodes node) now (sym (moved.each n ∙ ap (option_map (node_after form move nodes)) e) ∙ is))

  -- a directory afterwards is a listed one that has slid
  pub slid_row : (n : ℕ) (now : Node) (dir : SmallDir) → IsDirAt nodes' n now dir → (o : Object) × Contains (objects_of listings) o × (row_of (space_after s) now.entry ≡ (object_after s o).sectors)
  slid_row n now dir is =
      let node = was_node n now is.there in
      let d = small_was form move (address_in nodes node.0.holder) node.0.body dir (ap (λ (x : Node). x.body) node.2 ∙ is.says) in
      let k = listing_by s.space nodes listings sound held n node.0 d.0 (record { there = node.1; says = d.1 }) in
      let o = k.0.object in
      let l = listed_directory (Layout.Old s.space) listings sound k.0 k.1.listed in (
        o,
        k.1.among,
        ap (λ (x : Node). row_of (space_after s) x.entry) (sym node.2) ∙ ap (λ (en : Entry). row_of (space_after s) (entry_after form move en)) k.1.entry
            ∙ ap (range_with_len (address_after form move o.entry / s.space.sector_units)) (sym (in_row s.space nodes listings sound held o k.1.among l.1).long),
      )

-- ---- the room of a disc

-- An object that has slid lies in what was a hole or an object.
lies_in : (e : Start) (o : Object) (t : ℕ) → Contains (objects_of e.listings) o → is_among (object_after e.s o).sectors t ≡ true
    → is_among (hole_sectors (Layout.Old e.s.space) ++ flat_map (λ (q : Object). q.sectors) (objects_of e.listings)) t ≡ true
lies_in e o t at i = by (case_of e o at)
  where
    among : (q : Object) → Contains (objects_of e.listings) q → is_among q.sectors t ≡ true → is_among (hole_sectors (Layout.Old e.s.space) ++ flat_map (λ (x : Object). x.sectors) (objects_of e.listings)) t ≡ true
    among q there h = in_back (hole_sectors (Layout.Old e.s.space)) (flat_map (λ (x : Object). x.sectors) (objects_of e.listings)) t (among_flat (λ (x : Object). x.sectors) (objects_of e.listings) q t there h)

    by : Case e o → is_among (hole_sectors (Layout.Old e.s.space) ++ flat_map (λ (q : Object). q.sectors) (objects_of e.listings)) t ≡ true
    by (Case.Top top) = among (had e).root (root_in e) (ap (λ (q : Object). is_among q.sectors t) (sym (root_stays e)) ∙ ap (λ (q : Object). is_among (object_after e.s q).sectors t) top ∙ i)
    by (Case.Empty bare) = absurd (no_sectors e o bare t i)
    by (Case.Slid k below some) = elim (came_from e t (inl (in_now e o k t i))) [
      | inl x ↦ among x.0 x.1 x.3
      | inr h ↦ in_front (hole_sectors (Layout.Old e.s.space)) (flat_map (λ (q : Object). q.sectors) (objects_of e.listings)) t h
    ]

as_many : (u n : ℕ) → (u ≡ 1) ⊎ (u ≡ 4) → n * u / u ≡ n
as_many u n units = elim units [
  | inl e ↦ subst (λ (v : ℕ). n * v / v ≡ n) (sym e) (omega arith)
  | inr e ↦ subst (λ (v : ℕ). n * v / v ≡ n) (sym e) (omega arith)
]

-- the units of an object are its sectors
body_is : (space : OldMapContent) (o : Object) (p : Owned) → (space.sector_units ≡ 1) ⊎ (space.sector_units ≡ 4) → sectors_at (Layout.Old space) o.entry.address (object_size (dir_form (Layout.Old space)) o.entry) ≡ Some o.sectors
    → has_sectors o ≡ true → IsOwnedAs space o p → body space.sector_units p ≡ o.sectors
body_is space o p units lies some own = elim (row_or_none space o.entry.address (object_size (dir_form (Layout.Old space)) o.entry) o.sectors lies) [
  | inl none ↦ absurd (clash (has_sectors o) some (ap (λ (xs : List ℕ). nat_lt 0 (length xs)) none.1))
  | inr row ↦
      ap₂ (λ (a n : ℕ). range_with_len (a / space.sector_units) (n / space.sector_units)) own.begins own.long
      ∙ ap (range_with_len (o.entry.address / space.sector_units)) (as_many space.sector_units (length o.sectors) units ∙ row.long) ∙ sym row.row
]

module _ (space : OldMapContent) (nodes : Nodes) (was : List Owned) (view : Opened) (kind : Kind) (read : Reader) (address size : ℕ)
    (walked : walk read (Layout.Old space) (reserved_in kind (Layout.Old space)) address size ≡ Ok view.listings) (sound : AreSound (Layout.Old space) view.listings) (held : HoldObjects nodes view.listings)
    (units : (space.sector_units ≡ 1) ⊎ (space.sector_units ≡ 4)) (owned : AreOwned space (objects_of view.listings) was)
    (slides : (space' : OldMapContent) (now : List Owned) → KeepsBodies space space' was now → Squashed space space' was now → IsSlide (slide_by space space' was now) (objects_of view.listings))
    (same_map : (space' : OldMapContent) (now : List Owned) → KeepsBodies space space' was now → space' ≡ space_after (slide_by space space' was now)) where
  lies : (o : Object) → Contains (objects_of view.listings) o → sectors_at (Layout.Old space) o.entry.address (object_size (dir_form (Layout.Old space)) o.entry) ≡ Some o.sectors
  lies o at = (Each-contains (Lies (Layout.Old space) (reserved_in kind (Layout.Old space))) (objects_of view.listings) o
      (Each-objects (Lies (Layout.Old space) (reserved_in kind (Layout.Old space))) view.listings (walk_lies read (Layout.Old space) (reserved_in kind (Layout.Old space)) address size view.listings walked)) at).placed

  pub is_room : IsRoom space nodes was (room_of view space)
  is_room = record {
    holes = λ t h. in_front (hole_sectors (Layout.Old space)) (flat_map (λ (o : Object). o.sectors) (objects_of view.listings)) t (holes_as space.sector_units t space.holes ∙ h);
    objects = λ t h.
        (let p = of_body space.sector_units was t h in
        let x = owned.only p.0 p.1 in
        in_back (hole_sectors (Layout.Old space)) (flat_map (λ (o : Object). o.sectors) (objects_of view.listings)) t
        (among_flat (λ (o : Object). o.sectors) (objects_of view.listings) x.0 t x.1 (ap (λ (xs : List ℕ). is_among xs t) (sym (body_is space x.0 p.0 units (lies x.0 x.1) x.2 x.4)) ∙ p.2)));
    directories = λ space' now nodes' kept squashed moved n node dir is t h.
        (let s = slide_by space space' was now in
        let e : Start = record { kind = kind; read = read; address = address; size = size; listings = view.listings; s = s; walked = walked; is = slides space' now kept squashed } in
        let o = slid_row s nodes nodes' view.listings sound held moved n node dir is in
        lies_in e o.0 t o.1 (ap (λ (xs : List ℕ). is_among xs t) (sym o.2) ∙ ap (λ (m : OldMapContent). is_among (row_of m node.entry) t) (sym (same_map space' now kept)) ∙ h));
  }

-- ---- at an exit after the objects have slid

pub after_slide : {D : Type 0} (d : Ghosts D) (space space' : OldMapContent) (nodes nodes' : Nodes) (was now : List Owned) (old mid new : D) → KeepsBodies space space' was now → Squashed space space' was now
    → AreMoved (slide_by space space' was now) nodes nodes' → Leaves d old mid (ChangesRoom space was) → ((sectors : List ℕ) → HaveDirectories space' nodes' sectors → Leaves d mid new (IsWritten space' sectors))
    → (sectors : List ℕ) → IsRoom space nodes was sectors → Leaves d old new (IsWritten space sectors)
after_slide d space space' nodes nodes' was now old mid new kept squashed moved slid rewritten sectors room =
    let same : space' ≡ holding space space'.holes = λ i. record { holes = space'.holes; disc_units = kept.disc.0 i; sector_units = kept.disc.1 i } in
    leaves_then d (IsWritten space sectors) (IsWritten space' sectors)
    (λ a b c first second. written_then space sectors a b c first (written_by space space' sectors b c same second))
    (λ was_bytes told. (let w = slid was_bytes told in (w.0, w.1, written_room space nodes was sectors was_bytes w.0 room w.2)))
    (rewritten sectors (room.directories space' now nodes' kept squashed moved))
