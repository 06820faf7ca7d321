-- The places of objects, and sectors that are no other's.
use Rattle.std.proofs.Common.{◌≡◌, ◌<◌, ◌⊎◌, inl, inr, ℕ, ◌-◌, Bool, true, false, cond, List, [], ◌∷◌, ◌++◌, refl, sym, ap, subst, ◌∙◌}
use Rattle.std.specs.Prelude.{Ok, Err, Contains, IsPermutation, filter, not, ◌==◌, ◌||◌}
use Rattle.std.proofs.lemmas.List.Sorted.{Contains-permutation, IsPermutation-append_left, IsPermutation-cons, IsPermutation-filter_both, IsPermutation-map, IsPermutation-sym, IsPermutation-trans}
use Rattle.fc_names.specs.Names.{Path, is_directory}
use Rattle.fc_record.specs.declared.DiscRecord.{DiscRecord}
use Rattle.fc_record.specs.declared.Geometry.{Geometry}
use Rattle.fc_record.specs.declared.Kind.{Kind}
use Rattle.fc_record.specs.Record.{base}
use Rattle.fc_newmap.specs.Map.{Map, ZoneRun, all_runs, sectors_of}
use Rattle.fc_newmap.proofs.CoverLemmas.{run_on_disc}
use Rattle.fc_newmap.proofs.PlaceLemmas.{filter_in, holder_of, in_back, in_either}
use Rattle.fc_newmap.proofs.RunsLemmas.{runs_apart}
use Rattle.fc_dirs.specs.declared.Entry.{Entry}
use Rattle.fc_model.specs.Command.{Command}
use Rattle.fc_image.specs.Layout.{Layout, disc_sectors, hole_sectors, is_among, is_apart, map_place}
use Rattle.fc_image.specs.Walk.{Listing, Object, is_directory_object, reader_of}
use Rattle.fc_image.specs.Objects.{objects_of}
use Rattle.fc_image.specs.Opening.{Opened, boot_place, reserved_in}
use Rattle.fc_image.specs.Stays.{IsNewKind, OpensAs}
use Rattle.fc_image.specs.Order.{directories, held, listed}
use Rattle.fc_image.proofs.EntriesLemmas.{in_mapped, listings_law}
use Rattle.fc_image.proofs.HolesLemmas.{apart_at, apart_from, holes_law, no_hole_in}
use Rattle.fc_image.proofs.MapEditLemmas.{held_in, is_file}
use Rattle.fc_image.proofs.WrittenLemmas.{cut}
use Rattle.fc_image.specs.effects.Steady.{idle_sectors, is_idle, may_be_rewritten}
use Rattle.fc_changes.specs.Changed.{IsFileAt, IsInNewSpace}
use Rattle.fc_changes.proofs.BasicLemmas.{cases_cons, clash}
use Rattle.fc_changes.proofs.BeforeLemmas.{had, listed_in, object_from, object_lies, opened_as, parts}
use Rattle.fc_changes.proofs.NewPlaceLemmas.{NewPlace, file_place, new_place}
use Rattle.fc_changes.proofs.OutsideLemmas.{AreBusy, holes_busy, no_sectors, object_busy}
use Rattle.fc_changes.proofs.PlacedLemmas.{filter_test}
use Rattle.fc_changes.proofs.RenamedLemmas.{each_apart}
use Rattle.fc_laws.specs.takeover.Places.{IsNewObject, MayBeWritten, OpensBy, PlacesLaw}
use Rattle.fc_laws.proofs.lemmas.takeover.KindLemmas.{new_kind}
use Rattle.fc_image.proofs.EditLemmas.{apart_turned as turned}
use Rattle.fc_changes.proofs.MovedLemmas.{both_apart as apart_both}

pub apart_back : (xs ys zs : List ℕ) → is_apart xs (ys ++ zs) ≡ true → is_apart xs zs ≡ true
apart_back xs ys zs e = apart_from xs zs (λ s i j. clash (is_among (ys ++ zs) s) (in_back ys zs s j) (apart_at xs (ys ++ zs) s e i))

apart_within : (xs ys zs : List ℕ) → ((s : ℕ) → is_among ys s ≡ true → is_among zs s ≡ true) → is_apart xs zs ≡ true → is_apart xs ys ≡ true
apart_within xs ys zs within a = apart_from xs ys (λ s i j. clash (is_among zs s) (within s j) (apart_at xs zs s a i))

among_unfiltered : (t : ℕ → Bool) (xs : List ℕ) (s : ℕ) → is_among (filter t xs) s ≡ true → is_among xs s ≡ true
among_unfiltered t [] s h = h
among_unfiltered t (x ∷ xs) s h = by (t x) h (among_unfiltered t xs s)
  where
    by : (b : Bool) → is_among (cond b (x ∷ filter t xs) (filter t xs)) s ≡ true → (is_among (filter t xs) s ≡ true → is_among xs s ≡ true) → is_among (x ∷ xs) s ≡ true
    by true g more = kept (x == s) g more
      where
        kept : (c : Bool) → (c || is_among (filter t xs) s) ≡ true → (is_among (filter t xs) s ≡ true → is_among xs s ≡ true) → (c || is_among xs s) ≡ true
        kept true f later = refl
        kept false f later = later f
    by false g more = in_back (x ∷ []) xs s (more g)

-- ---- busy sectors are not idle, and lie on the disc

pub idle_apart : (m : Map) (view : Opened) (image : List ℕ) (kind : Kind) (r : DiscRecord) (sectors : List ℕ) → IsNewKind kind r
    → OpensAs image kind (record { kind = kind; layout = Layout.New m; listings = view.listings }) → AreBusy m (objects_of view.listings) sectors → is_apart (idle_sectors view m) sectors ≡ true
idle_apart m view image kind r sectors new opens busy =
    let o = parts kind r image m view.listings new opens in
    let t = λ (p : ZoneRun). is_idle (objects_of view.listings) p.1.kind in
    apart_from (idle_sectors view m) sectors
    (λ s i j.
    let q = holder_of m.geometry (filter t (all_runs m)) s (among_unfiltered (λ n. not (is_among (map_place (Layout.New m)) n)) (sectors_of m.geometry (filter t (all_runs m))) s i) in
    let in_map = filter_in t (all_runs m) q.0 q.1.0 in
    let b = busy s j in
    let same = runs_apart m o.shape o.zones q.0 b.0 in_map.0 b.1 s q.1.1 b.2 in
    clash (is_idle (objects_of view.listings) b.0.1.kind) (subst (λ (p : ZoneRun). is_idle (objects_of view.listings) p.1.kind ≡ true) same in_map.1) b.3)

pub busy_on_disc : (m : Map) (view : Opened) (image : List ℕ) (kind : Kind) (r : DiscRecord) (sectors : List ℕ) → IsNewKind kind r
    → OpensAs image kind (record { kind = kind; layout = Layout.New m; listings = view.listings }) → AreBusy m (objects_of view.listings) sectors
    → (s : ℕ) → is_among sectors s ≡ true → s < disc_sectors (Layout.New m)
busy_on_disc m view image kind r sectors new opens busy s i =
    let o = parts kind r image m view.listings new opens in
    let begun : base m.geometry (m.geometry.zones - 1) < m.geometry.disc_bits = subst (λ (g : Geometry). base g (g.zones - 1) < g.disc_bits) (sym o.geometry_is) o.facts.begun in
    let b = busy s i in
    run_on_disc m o.shape o.zones o.some begun b.0 s b.1 b.2

none_written : (kind : Kind) (view : Opened) (m : Map) (c : Command) → MayBeWritten kind view m c []
none_written kind view m c = record {
  files = λ o at file. no_sectors o.sectors;
  dirs = λ o at kept. no_sectors o.sectors;
  boot = no_sectors (boot_place kind m.geometry.sector);
  idle = no_sectors (idle_sectors view m);
  inside = λ s h. absurd (cc);
}

-- ---- an opened image

module _ (kind : Kind) (image : List ℕ) (view : Opened) (m : Map) (e : OpensBy kind image view m) where
  r : DiscRecord
  r = (new_kind image kind view m e.opens e.layout).0

  new : IsNewKind kind r
  unfolding r
  new = (new_kind image kind view m e.opens e.layout).1

  abbrev ls : List Listing
  ls = view.listings

  abbrev old : Opened
  old = record { kind = kind; layout = Layout.New m; listings = ls }

  abbrev reserved : List ℕ
  reserved = reserved_in kind (Layout.New m)

  opens : OpensAs image kind old
  opens = subst (OpensAs image kind) (sym (opened_as kind r image view m new e.opens e.layout)) e.opens

  lies_apart : (o : Object) → Contains (objects_of ls) o → is_apart o.sectors reserved ≡ true
  lies_apart o at = (object_lies kind r image m ls new opens o at).apart

  pub listed' : (l : Listing) → Contains ls l → Contains (objects_of ls) l.object
  listed' l at = listed_in kind r image m ls new opens l at

  -- a listed directory is one
  is_listed : (l : Listing) → Contains ls l → is_directory_object l.object ≡ true
  is_listed l at =
      let before = had kind r image m ls new opens in
      elim (cases_cons before.root (directories (held ls)) l.object
      (Contains-permutation (listed ls) (before.root ∷ directories (held ls)) l.object before.all.all (in_mapped (λ (x : Listing). x.object) ls l at))) [
        | inl top ↦ ap (λ (x : Object). is_directory_object x) (sym top) ∙ ap (λ (x : Entry). is_directory x.attrs) before.is_root.entry
        | inr kept ↦ filter_test is_directory_object (held ls) l.object kept
      ]

  -- an object is the directory, or apart from it
  same_or_apart : (l : Listing) (o : Object) → Contains ls l → Contains (objects_of ls) o → (o ≡ l.object) ⊎ (is_apart o.sectors l.object.sectors ≡ true)
  same_or_apart l o at there =
      let before = had kind r image m ls new opens in
      let parted = listings_law.one ls l at in
      let files = filter is_file (held ls) in
      let whole : IsPermutation (before.root ∷ held ls) (l.object ∷ (listed parted.0 ++ files)) =
      IsPermutation-trans (before.root ∷ held ls) ((before.root ∷ directories (held ls)) ++ files) (l.object ∷ (listed parted.0 ++ files))
      (IsPermutation-cons before.root (held ls) (directories (held ls) ++ files) (IsPermutation-filter_both is_directory_object is_file (λ p. refl) (held ls)))
      (IsPermutation-append_left files (before.root ∷ directories (held ls)) (l.object ∷ listed parted.0)
      (IsPermutation-trans (before.root ∷ directories (held ls)) (listed ls) (l.object ∷ listed parted.0)
      (IsPermutation-sym (listed ls) (before.root ∷ directories (held ls)) before.all.all) (IsPermutation-map (λ (k : Listing). k.object) ls (l ∷ parted.0) parted.1))) in
      elim (cases_cons l.object (listed parted.0 ++ files) o
      (Contains-permutation (before.root ∷ held ls) (l.object ∷ (listed parted.0 ++ files)) o whole (subst (λ (os : List Object). Contains os o) before.objects there))) [
        | inl same ↦ inl (sym same)
        | inr later ↦ inr (turned l.object.sectors o.sectors
            (each_apart reserved (listed parted.0 ++ files) l.object o (cut kind r image image old m parted.0 l new opens refl parted.1) later))
      ]

  -- a new file, and a new directory
  pub file_lies : (m' : Map) (dir : Path) (n id : ℕ) (parts' : List ZoneRun) (gone : List ℕ) (o : Object) (stay : List Object) → IsNewObject view m m' n id parts' gone o stay
      → IsFileAt m (objects_of ls) dir n id parts' o → NewPlace kind m (objects_of ls) stay id parts' o
  file_lies m' dir n id parts' gone o stay is place =
      file_place kind r image m ls new opens m' n id parts' gone o stay is.is_map is.geometry is.space is.gives is.at is.size dir place

  pub directory_lies : (m' : Map) (n low id : ℕ) (parts' : List ZoneRun) (gone : List ℕ) (o : Object) (stay : List Object) → low < 256 → IsNewObject view m m' n id parts' gone o stay
      → IsInNewSpace m n low id parts' o → NewPlace kind m (objects_of ls) stay id parts' o
  directory_lies m' n low id parts' gone o stay small is place =
      new_place kind r image m ls new opens m' n id parts' gone o stay is.is_map is.geometry is.space is.gives is.at is.size low small place

  module _ (c : Command) where
    -- sectors that are apart from objects, from what is reserved and from what is idle
    free_written : (sectors : List ℕ) → ((o : Object) → Contains (objects_of ls) o → is_apart o.sectors sectors ≡ true) → is_apart sectors reserved ≡ true → AreBusy m (objects_of ls) sectors
        → MayBeWritten kind view m c sectors
    free_written sectors apart free busy = record {
      files = λ o at file. apart o at;
      dirs = λ o at kept. apart o at;
      boot = turned sectors (boot_place kind m.geometry.sector) (apart_back sectors (map_place (Layout.New m)) (boot_place kind m.geometry.sector) free);
      idle = idle_apart m view image kind r sectors new opens busy;
      inside = busy_on_disc m view image kind r sectors new opens busy;
    }

    pub directory' : (l : Listing) → Contains ls l → may_be_rewritten view c l.object.path ≡ true → MayBeWritten kind view m c l.object.sectors
    directory' l at may = record {
      files = λ o there file. (elim (same_or_apart l o at there) [
        | inl same ↦ absurd (clash (is_directory_object o) (ap (λ (x : Object). is_directory_object x) same ∙ is_listed l at) file)
        | inr apart ↦ apart
      ]);
      dirs = λ o there kept. (elim (same_or_apart l o at there) [
        | inl same ↦ absurd (clash (may_be_rewritten view c o.path) (ap (λ (x : Object). may_be_rewritten view c x.path) same ∙ may) kept)
        | inr apart ↦ apart
      ]);
      boot = turned l.object.sectors (boot_place kind m.geometry.sector)
          (apart_back l.object.sectors (map_place (Layout.New m)) (boot_place kind m.geometry.sector) (lies_apart l.object (listed' l at)));
      idle = idle_apart m view image kind r l.object.sectors new opens busy;
      inside = busy_on_disc m view image kind r l.object.sectors new opens busy;
    }
      where
        busy : AreBusy m (objects_of ls) l.object.sectors
        busy = object_busy m (objects_of ls) (parts kind r image m ls new opens).some l.object _ (listed' l at) (object_lies kind r image m ls new opens l.object (listed' l at)).placed

    pub own' : (o : Object) → Contains (objects_of ls) o → may_be_rewritten view c o.path ≡ true → MayBeWritten kind view m c (cond (is_directory_object o) o.sectors [])
    own' o at may = by (is_directory_object o) refl
      where
        as_listed : (l : Listing) → Contains ls l → l.object ≡ o → MayBeWritten kind view m c o.sectors
        as_listed l there same =
            subst (λ (x : Object). MayBeWritten kind view m c x.sectors) same (directory' l there (ap (λ (x : Object). may_be_rewritten view c x.path) same ∙ may))

        by : (b : Bool) → is_directory_object o ≡ b → MayBeWritten kind view m c (cond b o.sectors [])
        by false h = none_written kind view m c
        by true h = elim (object_from kind r image m ls new opens o at) [
          | inl top ↦ as_listed top.0 top.1 top.2
          | inr kid ↦ (let before = had kind r image m ls new opens in
              let d = listings_law.directory (reader_of image (Layout.New m)) (Layout.New m) before.root o ls before.all (held_in ls kid.0 o kid.1 kid.2) h in
              as_listed d.0 d.1 d.2)
        ]

    pub holes' : (sectors : List ℕ) → ((s : ℕ) → is_among sectors s ≡ true → is_among (hole_sectors (Layout.New m)) s ≡ true) → MayBeWritten kind view m c sectors
    holes' sectors within =
        let o = parts kind r image m ls new opens in
        free_written sectors (λ p at. apart_within p.sectors sectors (hole_sectors (Layout.New m)) within ((holes_law image kind r old new opens).1 p at))
        (apart_from sectors reserved (λ s i j. clash (is_among (hole_sectors (Layout.New m)) s) (within s i) (no_hole_in m (objects_of ls) reserved o.tight s j)))
        (holes_busy m (objects_of ls) o.some sectors within)

    placed_written : (stay : List Object) (id : ℕ) (parts' : List ZoneRun) (o : Object) → NewPlace kind m (objects_of ls) stay id parts' o → MayBeWritten kind view m c o.sectors
    placed_written stay id parts' o place = free_written o.sectors place.apart place.free place.busy

    pub file' : (m' : Map) (dir : Path) (n id : ℕ) (parts' : List ZoneRun) (gone : List ℕ) (o : Object) (stay : List Object) → IsNewObject view m m' n id parts' gone o stay
        → IsFileAt m (objects_of ls) dir n id parts' o → MayBeWritten kind view m c o.sectors
    file' m' dir n id parts' gone o stay is place =
        placed_written stay id parts' o (file_lies m' dir n id parts' gone o stay is place)

    pub new_directory' : (m' : Map) (n low id : ℕ) (parts' : List ZoneRun) (gone : List ℕ) (o : Object) (stay : List Object) → low < 256 → IsNewObject view m m' n id parts' gone o stay
        → IsInNewSpace m n low id parts' o → MayBeWritten kind view m c o.sectors
    new_directory' m' n low id parts' gone o stay small is place =
        placed_written stay id parts' o (directory_lies m' n low id parts' gone o stay small is place)

pub places_law : PlacesLaw
places_law = record {
  none = none_written;
  both = λ kind view m c xs ys a b. record {
    files = λ o at file. apart_both o.sectors xs ys (a.files o at file) (b.files o at file);
    dirs = λ o at kept. apart_both o.sectors xs ys (a.dirs o at kept) (b.dirs o at kept);
    boot = apart_both (boot_place kind m.geometry.sector) xs ys a.boot b.boot;
    idle = apart_both (idle_sectors view m) xs ys a.idle b.idle;
    inside = λ s h. elim (in_either xs ys s h) [
      | Ok first ↦ a.inside s first
      | Err second ↦ b.inside s second
    ];
  };
  within = λ kind view m c xs ys less a. record {
    files = λ o at file. apart_within o.sectors xs ys less (a.files o at file);
    dirs = λ o at kept. apart_within o.sectors xs ys less (a.dirs o at kept);
    boot = apart_within (boot_place kind m.geometry.sector) xs ys less a.boot;
    idle = apart_within (idle_sectors view m) xs ys less a.idle;
    inside = λ s h. a.inside s (less s h);
  };
  directory = λ kind image view m c l e at may. directory' kind image view m e c l at may;
  own = λ kind image view m c o e at may. own' kind image view m e c o at may;
  holes = λ kind image view m c sectors e within. holes' kind image view m e c sectors within;
  file = λ kind image view m m' c dir n id parts' gone o stay e is place. file' kind image view m e c m' dir n id parts' gone o stay is place;
  new_directory = λ kind image view m m' c n low id parts' gone o stay small e is place. new_directory' kind image view m e c m' n low id parts' gone o stay small is place;
}
