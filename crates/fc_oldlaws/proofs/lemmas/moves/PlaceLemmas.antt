-- Where objects lie after they have slid: apart from each other, from the map and from the holes.
use Rattle.std.proofs.Common.{◌≡◌, ◌<◌, ◌≤◌, ◌⊎◌, inl, inr, ⊎_elim, ℕ, zero, suc, ◌+◌, ◌*◌, ◌/◌, ◌%◌, Bool, true, false, cond, List, [], ◌∷◌, ◌++◌, length, map, refl, sym, ap, ap₂, subst, ◌∙◌, arith, Some, None, eq-eqb}
use Rattle.std.specs.Prelude.{Ok, Err, Contains, nat_lt, ◌==◌, ◌&&◌, ◌||◌, slice_get}
use Rattle.std.specs.List.{flat_map, range_with_len}
use Rattle.std.specs.Int.{div_ceil}
use Rattle.std.proofs.lemmas.Bool.{cases_eq, cases_lt, le-leb, lt-ltb, ltb-true, false_from_ne_true as unless}
use Rattle.std.proofs.lemmas.List.Folds.{list_any-append}
use Rattle.fc_names.specs.Names.{Path}
use Rattle.fc_names.specs.declared.name.NameForm.{NameForm}
use Rattle.fc_record.specs.declared.Kind.{Kind}
use Rattle.fc_newmap.proofs.PlaceLemmas.{in_back, in_either, in_front}
use Rattle.fc_oldmap.specs.declared.Hole.{Hole}
use Rattle.fc_oldmap.specs.Holes.{AreHoles, IsHole, hole_end}
use Rattle.fc_oldmap.specs.OldMap.{OldMapContent, map_units}
use Rattle.fc_dirs.specs.Directory.{directory_size, entries_of}
use Rattle.fc_dirs.specs.declared.Entry.{Entry}
use Rattle.fc_image.specs.Layout.{Layout, dir_form, hole_sectors, hole_sectors_in, is_among, is_apart, map_place, old_sectors, sectors_at}
use Rattle.fc_image.specs.Walk.{Listing, Object, Reader, object_size, root_entry, walk}
use Rattle.fc_image.specs.Objects.{has_sectors, objects_of}
use Rattle.fc_image.specs.Opening.{reserved_in}
use Rattle.fc_image.specs.Edits.{Apart, IsAt, IsListing, IsRoot, StayListed}
use Rattle.fc_image.specs.Order.{AreListings, held}
use Rattle.fc_image.proofs.FreeLemmas.{among_range, range_bounds}
use Rattle.fc_image.proofs.HolesLemmas.{Each-contains, Each-objects, Lies, apart_at, apart_from, walk_lies}
use Rattle.fc_image.proofs.OldEditLemmas.{old_places_law}
use Rattle.fc_image.proofs.OrderLemmas.{order_law}
use Rattle.fc_image.proofs.RenameLemmas.{child_path}
use Rattle.fc_image.specs.declared.effects.Owned.{Owned}
use Rattle.fc_image.specs.effects.Moves.{is_in_body, is_in_hole}
use Rattle.fc_squash.specs.Squashing.{place}
use Rattle.fc_changes.proofs.BasicLemmas.{any_in, cases_cons, clash, first_in, in_any, in_flat, next_in, nothing_in}
use Rattle.fc_changes.proofs.lemmas.old.PlaceLemmas.{IsRow, pair_apart, row_or_none}
use Rattle.fc_oldlaws.specs.moves.After.{IsOwnedAs, IsSlide, Slide, move_of, object_after, space_after, start_after}
use Rattle.fc_oldlaws.proofs.lemmas.moves.StartLemmas.{body, by_number, found_at, in_body, in_order, not_found, of_body, one_element, rises}
use Rattle.fc_changes.proofs.ChangeLemmas.{ceil_some}

-- ---- numbers

module _ (u : ℕ) (units : (u ≡ 1) ⊎ (u ≡ 4)) where
  as_many : (n : ℕ) → n * u / u ≡ n
  as_many n = ⊎_elim
      (λ e. subst (λ (v : ℕ). n * v / v ≡ n) (sym e) (omega arith))
      (λ e. subst (λ (v : ℕ). n * v / v ≡ n) (sym e) (omega arith)) units

  -- whole sectors up to a sector's start
  rows_below : (a m b : ℕ) → a % u ≡ 0 → a + m * u ≤ b → a / u + m ≤ b / u
  rows_below a m b w low = ⊎_elim
      (λ e. subst (λ (v : ℕ). a % v ≡ 0 → a + m * v ≤ b → a / v + m ≤ b / v) (sym e) (λ x l. omega (arith, l)) w low)
      (λ e. subst (λ (v : ℕ). a % v ≡ 0 → a + m * v ≤ b → a / v + m ≤ b / v) (sym e) (λ x l. omega (arith, x, l)) w low) units

  some_bytes : 0 < 256 * u
  some_bytes = ⊎_elim (λ e. omega (arith, e)) (λ e. omega (arith, e)) units

-- ---- lists

-- holes as one list of sectors
pub holes_as : (u s : ℕ) (holes : List Hole) → is_among (flat_map (hole_sectors_in u) holes) s ≡ is_in_hole u holes s
holes_as u s [] = refl
holes_as u s (h ∷ holes) =
    list_any-append (λ t. t == s) (hole_sectors_in u h) (flat_map (hole_sectors_in u) holes) ∙ ap (λ (b : Bool). is_among (hole_sectors_in u h) s || b) (holes_as u s holes)

-- Objects that lie apart and share a sector are one.
pub same_object : (taken : List ℕ) (os : List Object) (o q : Object) (s : ℕ) → Apart taken os → Contains os o → Contains os q → is_among o.sectors s ≡ true → is_among q.sectors s ≡ true → o ≡ q
same_object taken [] o q s a at there i j = absurd (nothing_in o at)
same_object taken (x ∷ os) o q s a at there i j = by (cases_cons x os o at) (cases_cons x os q there) (λ e f. same_object (x.sectors ++ taken) os o q s a.1 e f i j)
  where
    never : (p : Object) → Contains os p → is_among p.sectors s ≡ true → is_among x.sectors s ≡ true → ⊥
    never p within h k = clash (is_among x.sectors s) k (apart_at p.sectors x.sectors s (pair_apart taken x os p a within) h)

    by : (x ≡ o) ⊎ Contains os o → (x ≡ q) ⊎ Contains os q → (Contains os o → Contains os q → o ≡ q) → o ≡ q
    by (inl e) (inl f) more = sym e ∙ f
    by (inl e) (inr f) more = absurd (never q f j (ap (λ (z : Object). is_among z.sectors s) e ∙ i))
    by (inr e) (inl f) more = absurd (never o e i (ap (λ (z : Object). is_among z.sectors s) f ∙ j))
    by (inr e) (inr f) more = more e f

-- Objects that are changed lie apart, if each is apart from something else, and those stay apart that were.
pub remapped : (taken taken' : List ℕ) (g : Object → Object) (os : List Object) → ((o : Object) → Contains os o → is_apart (g o).sectors taken' ≡ true)
    → ((o p : Object) → Contains os o → Contains os p → is_apart p.sectors o.sectors ≡ true → is_apart (g p).sectors (g o).sectors ≡ true) → Apart taken os → Apart taken' (map g os)
remapped taken taken' g [] off pairs a = tt
remapped taken taken' g (o ∷ os) off pairs a = (
  off o (first_in o os),
  remapped (o.sectors ++ taken) ((g o).sectors ++ taken') g os
      (λ p at. apart_from (g p).sectors ((g o).sectors ++ taken') (λ s i j. elim (in_either (g o).sectors taken' s j) [
        | Ok first ↦ clash (is_among (g o).sectors s) first
            (apart_at (g p).sectors (g o).sectors s (pairs o p (first_in o os) (next_in o p os at) (pair_apart taken o os p a at)) i)
        | Err second ↦ clash (is_among taken' s) second (apart_at (g p).sectors taken' s (off p (next_in o p os at)) i)
      ]))
      (λ x p at there. pairs x p (next_in o x os at) (next_in o p os there)) a.1,
)

no_bytes : (space : OldMapContent) (address n : ℕ) (sectors : List ℕ) → sectors_at (Layout.Old space) address n ≡ Some sectors → (n == 0) ≡ true → sectors ≡ []
unfolding sectors_at
no_bytes space address n sectors e none = some_same sectors [] (sym e ∙ ap (λ (b : Bool). cond b (Some []) (old_sectors space address n)) none)
  where
    some_same : (x z : List ℕ) → Some x ≡ Some z → x ≡ z
    some_same x z f = cc

none_at : (space : OldMapContent) (address n : ℕ) → (n == 0) ≡ true → sectors_at (Layout.Old space) address n ≡ Some []
unfolding sectors_at
none_at space address n none = ap (λ (b : Bool). cond b (Some []) (old_sectors space address n)) none

row_at : (space : OldMapContent) (address n : ℕ) → (n == 0) ≡ false → address % space.sector_units ≡ 0
    → address / space.sector_units + div_ceil n (256 * space.sector_units) ≤ space.disc_units / space.sector_units
    → sectors_at (Layout.Old space) address n ≡ Some (range_with_len (address / space.sector_units) (div_ceil n (256 * space.sector_units)))
unfolding sectors_at
row_at space address n some begins inside =
    let row = range_with_len (address / space.sector_units) (div_ceil n (256 * space.sector_units)) in
    ap (λ (b : Bool). cond b (Some []) (old_sectors space address n)) some
    ∙ ap₂ (λ (a b : Bool). cond (a && b) (Some row) None) (eq-eqb (address % space.sector_units) 0 begins)
    (le-leb (address / space.sector_units + div_ceil n (256 * space.sector_units)) (space.disc_units / space.sector_units) inside)

-- ---- the disc before

-- a walk over some directories, and objects of it that have slid
pub record Start : Type 0 where
  pub kind : Kind
  pub read : Reader
  pub address : ℕ
  pub size : ℕ
  pub listings : List Listing
  pub s : Slide
  pub walked : walk read (Layout.Old s.space) (reserved_in kind (Layout.Old s.space)) address size ≡ Ok listings
  pub is : IsSlide s (objects_of listings)

module _ (e : Start) where
  abbrev pub space : OldMapContent
  space = e.s.space

  abbrev pub after : OldMapContent
  after = space_after e.s

  abbrev pub u : ℕ
  u = e.s.space.sector_units

  abbrev pub y : Layout
  y = Layout.Old e.s.space

  abbrev pub y' : Layout
  y' = Layout.Old (space_after e.s)

  abbrev pub objects : List Object
  objects = objects_of e.listings

  abbrev pub g : Object → Object
  g = object_after e.s

  abbrev pub taken : List ℕ
  taken = reserved_in e.kind (Layout.Old e.s.space)

  abbrev pub taken' : List ℕ
  taken' = reserved_in e.kind (Layout.Old (space_after e.s))

  pub units : (e.s.space.sector_units ≡ 1) ⊎ (e.s.space.sector_units ≡ 4)
  units = e.is.is_map.units

  -- the root, and what the directories say
  pub record Had : Type 0 where
    pub root : Object
    pub is_root : IsRoot y e.address e.size root
    pub all : AreListings e.read y root e.listings
    pub apart : Apart taken (root ∷ held e.listings)
    pub objects_are : objects ≡ root ∷ held e.listings

  pub had : Had
  had =
      let h = order_law.gives e.read y taken e.address e.size e.listings e.walked in
      record { root = h.0; is_root = h.1; all = h.2; apart = h.3; objects_are = h.4 }

  pub all_apart : Apart taken objects
  all_apart = subst (Apart taken) (sym had.objects_are) had.apart

  pub lies : (o : Object) → Contains objects o → Lies y taken o
  lies o at = Each-contains (Lies y taken) objects o (Each-objects (Lies y taken) e.listings (walk_lies e.read y taken e.address e.size e.listings e.walked)) at

  pub off_map : (o : Object) → Contains objects o → (s : ℕ) → is_among o.sectors s ≡ true → is_among (map_place y) s ≡ false
  off_map o at s h = unless (is_among (map_place y) s) (λ i. clash (is_among taken s) (in_front (map_place y) (hole_sectors y) s i) (apart_at o.sectors taken s (lies o at).apart h))

  pub off_holes : (o : Object) → Contains objects o → (s : ℕ) → is_among o.sectors s ≡ true → is_among (hole_sectors y) s ≡ false
  off_holes o at s h = unless (is_among (hole_sectors y) s) (λ i. clash (is_among taken s) (in_back (map_place y) (hole_sectors y) s i) (apart_at o.sectors taken s (lies o at).apart h))

  pub root_in : Contains objects had.root
  root_in = subst (λ (os : List Object). Contains os had.root) (sym had.objects_are) (first_in had.root (held e.listings))

  pub held_in : (o : Object) → Contains (held e.listings) o → Contains objects o
  held_in o at = subst (λ (os : List Object). Contains os o) (sym had.objects_are) (next_in had.root o (held e.listings) at)

  listed_of : (listings : List Listing) → StayListed e.read y listings → (l : Listing) → Contains listings l → IsListing e.read y l
  listed_of [] say l at = absurd (nothing_in l at)
  listed_of (k ∷ listings) say l at = elim (cases_cons k listings l at) [
    | inl is ↦ subst (IsListing e.read y) is say.0
    | inr later ↦ listed_of listings say.1 l later
  ]

  pub says : (l : Listing) → Contains e.listings l → IsListing e.read y l
  says l at = listed_of e.listings had.all.say l at

  -- what a directory holds isn't the root
  pub held_below : (o : Object) → Contains (held e.listings) o → length o.path ≡ 0 → ⊥
  held_below o at none =
      let l = in_flat (λ (k : Listing). k.children) e.listings o at in
      let path = child_path y l.0.object.path (entries_of l.0.content) l.0.children o (says l.0 l.1).1 l.2 in
      long l.0.object.path o.entry.name (sym (ap (λ (p : Path). length p) path) ∙ none)
    where
      long : (p : Path) (name : List ℕ) → length (p ++ name ∷ []) ≡ 0 → ⊥
      long [] name z = omega (arith, z)
      long (x ∷ p) name z = omega (arith, z)

  pub root_or_held : (o : Object) → Contains objects o → (had.root ≡ o) ⊎ Contains (held e.listings) o
  root_or_held o at = cases_cons had.root (held e.listings) o (subst (λ (os : List Object). Contains os o) had.objects_are at)

  -- ---- rows of sectors

  abbrev pub bytes_of : Object → ℕ
  bytes_of o = object_size (dir_form y) o.entry

  none_length : (o : Object) → (bytes_of o ≡ 0) × (o.sectors ≡ []) → has_sectors o ≡ true → ⊥
  none_length o none some = clash (has_sectors o) some (ap (λ (xs : List ℕ). nat_lt 0 (length xs)) none.1)

  pub row : (o : Object) → Contains objects o → has_sectors o ≡ true → IsRow space o.entry.address (bytes_of o) o.sectors
  row o at some = ⊎_elim (λ none. absurd (none_length o none some)) (λ r. r) (row_or_none space o.entry.address (bytes_of o) o.sectors (lies o at).placed)

  pub row_is : (o : Object) → Contains objects o → has_sectors o ≡ true → o.sectors ≡ range_with_len (o.entry.address / u) (length o.sectors)
  row_is o at some = let r = row o at some in r.row ∙ ap (range_with_len (o.entry.address / u)) (sym r.long)

  pub first_sector : (o : Object) → Contains objects o → has_sectors o ≡ true → is_among o.sectors (o.entry.address / u) ≡ true
  first_sector o at some =
      let long = ltb-true 0 (length o.sectors) some in
      ap (λ (xs : List ℕ). is_among xs (o.entry.address / u)) (row_is o at some) ∙ among_range (o.entry.address / u) (length o.sectors) (o.entry.address / u) (omega arith) (omega (arith, long))

  pub one_object : (o q : Object) (s : ℕ) → Contains objects o → Contains objects q → is_among o.sectors s ≡ true → is_among q.sectors s ≡ true → o ≡ q
  one_object o q s at there i j = same_object taken objects o q s all_apart at there i j

  -- Objects with sectors that begin at one address are one.
  pub one_address : (o q : Object) → Contains objects o → Contains objects q → has_sectors o ≡ true → has_sectors q ≡ true → o.entry.address ≡ q.entry.address → o ≡ q
  one_address o q at there some more same =
      one_object o q (o.entry.address / u) at there (first_sector o at some) (ap (λ (a : ℕ). is_among q.sectors (a / u)) same ∙ first_sector q there more)

  pub old_body : (o : Object) (p : Owned) → Contains objects o → has_sectors o ≡ true → IsOwnedAs space o p → body u p ≡ o.sectors
  old_body o p at some own =
      ap₂ (λ (a n : ℕ). range_with_len (a / u) (n / u)) own.begins own.long ∙ ap (range_with_len (o.entry.address / u)) (as_many u units (length o.sectors)) ∙ sym (row_is o at some)

  -- ---- the disc afterwards

  pub record HasSlid (o : Object) : Type 0 where
    pub i : ℕ
    pub o_was : Owned
    pub o_now : Owned
    pub was_at : slice_get e.s.was i ≡ Some o_was
    pub now_at : slice_get e.s.now i ≡ Some o_now
    pub began : o_was.start ≡ o.entry.address
    pub long_was : o_was.len ≡ length o.sectors * u
    pub long : o_now.len ≡ length o.sectors * u
    pub begins : (g o).entry.address ≡ o_now.start
    pub whole : IsHole space.disc_units u 0 (place o_now)
    pub row_now : (g o).sectors ≡ body u o_now

  some_size : (o : Object) → Contains objects o → has_sectors o ≡ true → (bytes_of o == 0) ≡ false
  some_size o at some = unless (bytes_of o == 0) (λ none.
      clash (has_sectors o) some (ap (λ (xs : List ℕ). nat_lt 0 (length xs)) (no_bytes space o.entry.address (bytes_of o) o.sectors (lies o at).placed none)))

  pub has_slid : (o : Object) → Contains objects o → has_sectors o ≡ true → (length o.path ≡ 0 → ⊥) → HasSlid o
  has_slid o at some below =
      let q = e.is.owned.each o at some below in
      let f = found_at e.s.was e.s.now e.is.squashed.objects q.0 q.1 in
      let x = e.is.owned.only f.o (by_number e.s.was f.i f.o f.was_at) in
      let began : f.o.start ≡ o.entry.address = f.began ∙ q.2.begins in
      let same : x.0 ≡ o = one_address x.0 o x.1 at x.2 some (sym x.4.begins ∙ began) in
      let long_was : f.o.len ≡ length o.sectors * u = x.4.long ∙ ap (λ (z : Object). length z.sectors * u) same in
      let long : f.p.len ≡ length o.sectors * u = ap (λ (z : Owned). z.len) f.same ∙ long_was in
      let begins : (g o).entry.address ≡ f.p.start =
      ap (λ (b : Bool). cond b o.entry.address (start_after e.s.was e.s.now o.entry.address)) (some_size o at some)
      ∙ ap (start_after e.s.was e.s.now) (sym q.2.begins) ∙ f.begins in
      record {
        i = f.i;
        o_was = f.o;
        o_now = f.p;
        was_at = f.was_at;
        now_at = f.now_at;
        began = began;
        long_was = long_was;
        long = long;
        begins = begins;
        whole = rises space.disc_units u 0 e.s.now e.is.kept.bodies.rise f.i f.p f.now_at;
        row_now = ap₂ (λ (a n : ℕ). range_with_len (a / u) n) begins (sym (as_many u units (length o.sectors)) ∙ ap (λ (n : ℕ). n / u) (sym long));
      }

  -- what is in a body or a hole now was in one
  pub came_from : (s : ℕ) → (is_in_body u e.s.now s ≡ true) ⊎ (is_in_hole u e.s.holes s ≡ true)
      → ((o : Object) × Contains objects o × (length o.path ≡ 0 → ⊥) × (is_among o.sectors s ≡ true)) ⊎ (is_among (hole_sectors y) s ≡ true)
  came_from s now = by (is_in_body u e.s.was s) refl (sym (e.is.squashed.same s) ∙ either now)
    where
      either : (is_in_body u e.s.now s ≡ true) ⊎ (is_in_hole u e.s.holes s ≡ true) → (is_in_body u e.s.now s || is_in_hole u e.s.holes s) ≡ true
      either (inl h) = ap (λ (b : Bool). b || is_in_hole u e.s.holes s) h
      either (inr h) = ap (λ (b : Bool). is_in_body u e.s.now s || b) h ∙ or_true (is_in_body u e.s.now s)
        where
          or_true : (b : Bool) → (b || true) ≡ true
          or_true true = refl
          or_true false = refl

      by : (b : Bool) → is_in_body u e.s.was s ≡ b → (is_in_body u e.s.was s || is_in_hole u space.holes s) ≡ true
          → ((o : Object) × Contains objects o × (length o.path ≡ 0 → ⊥) × (is_among o.sectors s ≡ true)) ⊎ (is_among (hole_sectors y) s ≡ true)
      by true h both = (let p = of_body u e.s.was s h in let x = e.is.owned.only p.0 p.1 in
          inl (x.0, x.1, x.3, ap (λ (xs : List ℕ). is_among xs s) (sym (old_body x.0 p.0 x.1 x.2 x.4)) ∙ p.2))
      by false h both = inr (holes_as u s space.holes ∙ sym (ap (λ (b : Bool). b || is_in_hole u space.holes s) h) ∙ both)

  pub in_now : (o : Object) → (k : HasSlid o) → (s : ℕ) → is_among (g o).sectors s ≡ true → is_in_body u e.s.now s ≡ true
  in_now o k s h = in_body u e.s.now k.o_now s (by_number e.s.now k.i k.o_now k.now_at) (ap (λ (xs : List ℕ). is_among xs s) (sym k.row_now) ∙ h)

  behind : (d v floor : ℕ) (holes : List Hole) → AreHoles d v floor holes → (x : Hole) → Contains holes x → floor ≤ x.start
  behind d v floor [] are x at = absurd (nothing_in x at)
  behind d v floor (k ∷ holes) are x at = elim (cases_cons k holes x at) [
    | inl same ↦ subst (λ (z : Hole). floor ≤ z.start) same are.0.onward
    | inr later ↦ (let more = behind d v (hole_end k) holes are.1 x later in let on = are.0.onward in omega (arith, on, more))
  ]

  map_below : (v : ℕ) → (v ≡ 1) ⊎ (v ≡ 4) → (b t : ℕ) → map_units v ≤ b → t < map_units v / v → b / v ≤ t → ⊥
  map_below v k b t = ⊎_elim
      (λ one. subst (λ (w : ℕ). map_units w ≤ b → t < map_units w / w → b / w ≤ t → ⊥) (sym one) (λ l m n. omega (arith, l, m, n)))
      (λ four. subst (λ (w : ℕ). map_units w ≤ b → t < map_units w / w → b / w ≤ t → ⊥) (sym four) (λ l m n. omega (arith, l, m, n))) k

  -- a hole is apart from the map
  pub hole_off_map : (t : ℕ) → is_in_hole u space.holes t ≡ true → is_among (map_place y) t ≡ true → ⊥
  hole_off_map t h i =
      let p = in_any (λ (d : Hole). is_among (hole_sectors_in u d) t) space.holes h in
      let far = behind space.disc_units u (map_units u) space.holes e.is.holes p.0 p.1 in
      let low = range_bounds (p.0.start / u) (p.0.len / u) t p.2 in
      let high = range_bounds 0 (map_units u / u) t i in
      map_below u units p.0.start t far (omega (arith, high.1)) low.0

  -- none of it is the map's or the root's
  pub came_off_map : (s : ℕ) → (is_in_body u e.s.now s ≡ true) ⊎ (is_in_hole u e.s.holes s ≡ true) → is_among (map_place y) s ≡ false
  came_off_map s now = ⊎_elim
      (λ x. off_map x.0 x.1 s x.3)
      (λ h. unless (is_among (map_place y) s) (λ i. hole_off_map s (sym (holes_as u s space.holes) ∙ h) i)) (came_from s now)

  pub hole_right : (d v floor : ℕ) (holes : List Hole) → AreHoles d v floor holes → (h : Hole) → Contains holes h → IsHole d v 0 h
  hole_right d v floor [] are h at = absurd (nothing_in h at)
  hole_right d v floor (k ∷ holes) are h at = elim (cases_cons k holes h at) [
    | inl same ↦ subst (IsHole d v 0) same (let first = are.0 in record { positive = first.positive; onward = omega arith; inside = first.inside; begins = first.begins; ends = first.ends })
    | inr later ↦ hole_right d v (hole_end k) holes are.1 h later
  ]

  raised : (d v floor : ℕ) (holes : List Hole) → AreHoles d v 0 holes → ((h : Hole) → Contains holes h → floor ≤ h.start) → AreHoles d v floor holes
  raised d v floor [] are high = tt
  raised d v floor (h ∷ holes) are high =
      let first = are.0 in (record { positive = first.positive; onward = high h (first_in h holes); inside = first.inside; begins = first.begins; ends = first.ends }, are.1)

  some_sector : (v : ℕ) → (v ≡ 1) ⊎ (v ≡ 4) → (a n : ℕ) → 0 < n → a % v ≡ 0 → (a + n) % v ≡ 0 → 0 < n / v
  some_sector v k a n = ⊎_elim
      (λ one. subst (λ (w : ℕ). 0 < n → a % w ≡ 0 → (a + n) % w ≡ 0 → 0 < n / w) (sym one) (λ l x z. omega (arith, l)))
      (λ four. subst (λ (w : ℕ). 0 < n → a % w ≡ 0 → (a + n) % w ≡ 0 → 0 < n / w) (sym four) (λ l x z. omega (arith, l, x, z))) k

  map_above : (v : ℕ) → (v ≡ 1) ⊎ (v ≡ 4) → (a : ℕ) → a % v ≡ 0 → map_units v / v ≤ a / v → map_units v ≤ a
  map_above v k a = ⊎_elim
      (λ one. subst (λ (w : ℕ). a % w ≡ 0 → map_units w / w ≤ a / w → map_units w ≤ a) (sym one) (λ x l. omega (arith, l)))
      (λ four. subst (λ (w : ℕ). a % w ≡ 0 → map_units w / w ≤ a / w → map_units w ≤ a) (sym four) (λ x l. omega (arith, x, l))) k

  -- the new holes lie behind the map
  pub holes_behind : AreHoles space.disc_units u (map_units u) e.s.holes
  holes_behind = raised space.disc_units u (map_units u) e.s.holes e.is.squashed.map.holes (λ h at.
      let is = hole_right space.disc_units u 0 e.s.holes e.is.squashed.map.holes h at in
      let first = among_range (h.start / u) (h.len / u) (h.start / u) (omega arith) (let some = some_sector u units h.start h.len is.positive is.begins is.ends in omega (arith, some)) in
      let off = came_off_map (h.start / u) (inr (any_in (λ (d : Hole). is_among (hole_sectors_in u d) (h.start / u)) e.s.holes h at first)) in
      elim (cases_lt (h.start / u) (map_units u / u)) [
        | inl low ↦ absurd (clash (is_among (map_place y) (h.start / u)) (among_range 0 (map_units u / u) (h.start / u) (omega arith) (omega (arith, low))) off)
        | inr high ↦ map_above u units h.start is.begins high
      ])

  pub came_off_root : (s : ℕ) → (is_in_body u e.s.now s ≡ true) ⊎ (is_in_hole u e.s.holes s ≡ true) → is_among had.root.sectors s ≡ true → ⊥
  came_off_root s now i = ⊎_elim
      (λ x. x.2 (ap (λ (z : Object). length z.path) (one_object x.0 had.root s x.1 root_in x.3 i) ∙ ap (λ (p : Path). length p) had.is_root.path))
      (λ h. clash (is_among (hole_sectors y) s) h (off_holes had.root root_in s i)) (came_from s now)

  -- ---- the root stays

  root_bytes : 0 < bytes_of had.root
  root_bytes = subst (λ (d : Entry). 0 < object_size (dir_form y) d) (sym had.is_root.entry) (by units)
    where
      by : (u ≡ 1) ⊎ (u ≡ 4) → 0 < object_size (dir_form y) (root_entry e.address (directory_size (dir_form y) e.size))
      by (inl one) = some (form_is 1 one)
        where
          form_is : (n : ℕ) → u ≡ n → dir_form y ≡ cond (n == 4) NameForm.Ten NameForm.Seven
          form_is n is = ap (λ (k : ℕ). cond (k == 4) NameForm.Ten NameForm.Seven) is

          some : dir_form y ≡ NameForm.Seven → 0 < object_size (dir_form y) (root_entry e.address (directory_size (dir_form y) e.size))
          some is = subst (λ (f : NameForm). 0 < object_size f (root_entry e.address (directory_size f e.size))) (sym is) (omega arith)
      by (inr four) = some (form_is 4 four)
        where
          form_is : (n : ℕ) → u ≡ n → dir_form y ≡ cond (n == 4) NameForm.Ten NameForm.Seven
          form_is n is = ap (λ (k : ℕ). cond (k == 4) NameForm.Ten NameForm.Seven) is

          some : dir_form y ≡ NameForm.Ten → 0 < object_size (dir_form y) (root_entry e.address (directory_size (dir_form y) e.size))
          some is = subst (λ (f : NameForm). 0 < object_size f (root_entry e.address (directory_size f e.size))) (sym is) (omega arith)

  pub root_some : has_sectors had.root ≡ true
  root_some = ⊎_elim
      (λ none. absurd (let zero' = none.0 in let some = root_bytes in omega (arith, zero', some)))
      (λ r. let count = ceil_some (bytes_of had.root) (256 * u) root_bytes (some_bytes u units) in
      lt-ltb 0 (length had.root.sectors) (let long = r.long in omega (arith, long, count)))
      (row_or_none space had.root.entry.address (bytes_of had.root) had.root.sectors had.is_root.placed)

  pub root_address : move_of e.s had.root.entry.address ≡ had.root.entry.address
  root_address = not_found e.s.was e.s.now had.root.entry.address (λ q at same.
      let x = e.is.owned.only q at in
      x.3 (ap (λ (z : Object). length z.path) (one_address x.0 had.root x.1 root_in x.2 root_some (sym x.4.begins ∙ same)) ∙ ap (λ (p : Path). length p) had.is_root.path))

  either_way : (b : Bool) (a c : ℕ) → c ≡ a → cond b a c ≡ a
  either_way true a c is = refl
  either_way false a c is = is

  pub root_entry_stays : (g had.root).entry.address ≡ had.root.entry.address
  root_entry_stays = either_way (bytes_of had.root == 0) had.root.entry.address (move_of e.s had.root.entry.address) root_address

  pub root_stays : g had.root ≡ had.root
  root_stays =
      let a = root_entry_stays in
      let rowed = ap (λ (k : ℕ). range_with_len (k / u) (length had.root.sectors)) a ∙ sym (row_is had.root root_in root_some) in
      λ i. record { path = had.root.path; entry = record had.root.entry { address = a i }; sectors = rowed i }

  -- ---- objects afterwards

  pub no_sectors : (o : Object) → has_sectors o ≡ false → (s : ℕ) → is_among (g o).sectors s ≡ true → ⊥
  no_sectors o none s h =
      let zero' : length o.sectors ≡ 0 = is_zero (length o.sectors) none in
      clash (is_among (g o).sectors s) h (ap (λ (n : ℕ). is_among (range_with_len ((g o).entry.address / u) n) s) zero')
    where
      is_zero : (n : ℕ) → nat_lt 0 n ≡ false → n ≡ 0
      is_zero zero f = refl
      is_zero (suc n) f = absurd (clash (nat_lt 0 (suc n)) (lt-ltb 0 (suc n) (omega arith)) f)

  -- an object that is the root, has no sectors, or has slid
  pub data Case (o : Object) : Type 0 where
    Top : had.root ≡ o → Case o
    Empty : has_sectors o ≡ false → Case o
    Slid : HasSlid o → (length o.path ≡ 0 → ⊥) → has_sectors o ≡ true → Case o

  pub case_of : (o : Object) → Contains objects o → Case o
  case_of o at = elim (root_or_held o at) [
    | inl top ↦ Case.Top top
    | inr kept ↦ by (has_sectors o) refl (held_below o kept)
  ]
    where
      by : (b : Bool) → has_sectors o ≡ b → (length o.path ≡ 0 → ⊥) → Case o
      by true some below = Case.Slid (has_slid o at some below) below some
      by false none below = Case.Empty none

  pub root_sectors : (o : Object) → had.root ≡ o → (g o).sectors ≡ o.sectors
  root_sectors o top = ap (λ (z : Object). (g z).sectors) (sym top) ∙ ap (λ (z : Object). z.sectors) (root_stays ∙ top)

  -- no two share a sector
  pub pairs_apart : (o p : Object) → Contains objects o → Contains objects p → is_apart p.sectors o.sectors ≡ true → is_apart (g p).sectors (g o).sectors ≡ true
  pairs_apart o p at there was = apart_from (g p).sectors (g o).sectors (λ s i j. by (case_of p there) (case_of o at) s i j)
    where
      two : (k : HasSlid p) → (h : HasSlid o) → (p.entry.address ≡ o.entry.address → ⊥) → (s : ℕ) → is_among (body u k.o_now) s ≡ true → is_among (body u h.o_now) s ≡ true → ⊥
      two k h other s i j = elim (cases_eq k.i h.i) [
        | inl same ↦ other (sym k.began ∙ ap (λ (x : Owned). x.start) (one_element e.s.was h.i k.o_was h.o_was (ap (slice_get e.s.was) (sym same) ∙ k.was_at) h.was_at) ∙ h.began)
        | inr differ ↦ elim (cases_lt k.i h.i) [
          | inl low ↦ apart_rows k.o_now h.o_now k.whole h.whole (in_order space.disc_units u 0 e.s.now e.is.kept.bodies.rise k.i h.i k.o_now h.o_now low k.now_at h.now_at) s i j
          | inr high ↦ apart_rows h.o_now k.o_now h.whole k.whole
              (in_order space.disc_units u 0 e.s.now e.is.kept.bodies.rise h.i k.i h.o_now k.o_now (omega (arith, high, differ)) h.now_at k.now_at) s j i
        ]
      ]
        where
          ends_by : (v : ℕ) → (v ≡ 1) ⊎ (v ≡ 4) → (a n b : ℕ) → a % v ≡ 0 → (a + n) % v ≡ 0 → a + n ≤ b → a / v + n / v ≤ b / v
          ends_by v k a n b = ⊎_elim
              (λ one. subst (λ (w : ℕ). a % w ≡ 0 → (a + n) % w ≡ 0 → a + n ≤ b → a / w + n / w ≤ b / w) (sym one) (λ x z l. omega (arith, l)))
              (λ four. subst (λ (w : ℕ). a % w ≡ 0 → (a + n) % w ≡ 0 → a + n ≤ b → a / w + n / w ≤ b / w) (sym four) (λ x z l. omega (arith, x, z, l))) k

          apart_rows : (a b : Owned) → IsHole space.disc_units u 0 (place a) → IsHole space.disc_units u 0 (place b) → a.start + a.len ≤ b.start
              → (t : ℕ) → is_among (body u a) t ≡ true → is_among (body u b) t ≡ true → ⊥
          apart_rows a b x z low t m n =
              let high = range_bounds (a.start / u) (a.len / u) t m in
              let far = range_bounds (b.start / u) (b.len / u) t n in
              let row = ends_by u units a.start a.len b.start x.begins x.ends low in
              omega (arith, high.1, far.0, row)

      by : Case p → Case o → (s : ℕ) → is_among (g p).sectors s ≡ true → is_among (g o).sectors s ≡ true → ⊥
      by (Case.Empty none) c s i j = no_sectors p none s i
      by (Case.Top top) (Case.Empty none) s i j = no_sectors o none s j
      by (Case.Slid k below some) (Case.Empty none) s i j = no_sectors o none s j
      by (Case.Top top) (Case.Top top') s i j =
          clash (is_among o.sectors s) (ap (λ (xs : List ℕ). is_among xs s) (sym (root_sectors o top')) ∙ j)
          (apart_at p.sectors o.sectors s was (ap (λ (xs : List ℕ). is_among xs s) (sym (root_sectors p top)) ∙ i))
      by (Case.Top top) (Case.Slid h below some) s i j =
          came_off_root s (inl (in_now o h s j)) (ap (λ (z : Object). is_among z.sectors s) top ∙ ap (λ (xs : List ℕ). is_among xs s) (sym (root_sectors p top)) ∙ i)
      by (Case.Slid k below some) (Case.Top top') s i j =
          came_off_root s (inl (in_now p k s i)) (ap (λ (z : Object). is_among z.sectors s) top' ∙ ap (λ (xs : List ℕ). is_among xs s) (sym (root_sectors o top')) ∙ j)
      by (Case.Slid k below some) (Case.Slid h below' some') s i j =
          two k h (λ same. clash (is_among o.sectors (o.entry.address / u)) (first_sector o at some')
          (apart_at p.sectors o.sectors (o.entry.address / u) was (ap (λ (a : ℕ). is_among p.sectors (a / u)) (sym same) ∙ first_sector p there some))) s
          (ap (λ (xs : List ℕ). is_among xs s) (sym k.row_now) ∙ i) (ap (λ (xs : List ℕ). is_among xs s) (sym h.row_now) ∙ j)

  -- none lies in the map, and none in a hole
  pub off_taken : (o : Object) → Contains objects o → is_apart (g o).sectors taken' ≡ true
  off_taken o at = apart_from (g o).sectors taken' (λ s i j. elim (in_either (map_place y') (hole_sectors y') s j) [
    | Ok first ↦ clash (is_among (map_place y) s) first (no_map (case_of o at) s i)
    | Err second ↦ no_hole (case_of o at) s i (sym (holes_as u s e.s.holes) ∙ second)
  ])
    where
      no_map : Case o → (s : ℕ) → is_among (g o).sectors s ≡ true → is_among (map_place y) s ≡ false
      no_map (Case.Top top) s i = off_map o at s (ap (λ (xs : List ℕ). is_among xs s) (sym (root_sectors o top)) ∙ i)
      no_map (Case.Empty none) s i = absurd (no_sectors o none s i)
      no_map (Case.Slid k below some) s i = came_off_map s (inl (in_now o k s i))

      no_hole : Case o → (s : ℕ) → is_among (g o).sectors s ≡ true → is_in_hole u e.s.holes s ≡ true → ⊥
      no_hole (Case.Top top) s i h = came_off_root s (inr h) (ap (λ (z : Object). is_among z.sectors s) top ∙ ap (λ (xs : List ℕ). is_among xs s) (sym (root_sectors o top)) ∙ i)
      no_hole (Case.Empty none) s i h = no_sectors o none s i
      no_hole (Case.Slid k below some) s i h = clash (is_in_hole u e.s.holes s) h (e.is.squashed.clear s (in_now o k s i))

  pub apart_after : Apart taken' (map g objects)
  apart_after = remapped taken taken' g objects off_taken pairs_apart all_apart

  -- no sectors, no bytes
  pub empty_size : (o : Object) → Contains objects o → has_sectors o ≡ false → (bytes_of o == 0) ≡ true
  empty_size o at none = ⊎_elim
      (λ z. eq-eqb (bytes_of o) 0 z.0)
      (λ r. size (bytes_of o == 0) refl r) (row_or_none space o.entry.address (bytes_of o) o.sectors (lies o at).placed)
    where
      is_none : (xs : List ℕ) → nat_lt 0 (length xs) ≡ false → length xs ≡ 0
      is_none [] f = refl
      is_none (x ∷ xs) f = absurd (clash (nat_lt 0 (length (x ∷ xs))) (lt-ltb 0 (length (x ∷ xs)) (omega arith)) f)

      not_zero : (n : ℕ) → (n == 0) ≡ false → 0 < n
      not_zero zero h = absurd (cc)
      not_zero (suc n) h = omega arith

      size : (b : Bool) → (bytes_of o == 0) ≡ b → IsRow space o.entry.address (bytes_of o) o.sectors → (bytes_of o == 0) ≡ true
      size true f r = f
      size false f r = absurd (let count = ceil_some (bytes_of o) (256 * u) (not_zero (bytes_of o) f) (some_bytes u units) in let long = r.long in let zero' = is_none o.sectors none in omega (arith, count, long, zero'))

  -- each lies at its address
  pub placed_after : (o : Object) → Contains objects o → IsAt y' (g o)
  placed_after o at = by (case_of o at)
    where
      same_size : object_size (dir_form y') (g o).entry ≡ bytes_of o
      same_size = refl

      is_none : (xs : List ℕ) → nat_lt 0 (length xs) ≡ false → length xs ≡ 0
      is_none [] f = refl
      is_none (x ∷ xs) f = absurd (clash (nat_lt 0 (length (x ∷ xs))) (lt-ltb 0 (length (x ∷ xs)) (omega arith)) f)

      empty : has_sectors o ≡ false → IsAt y' (g o)
      empty none = none_at after (g o).entry.address (bytes_of o) (empty_size o at none) ∙ ap (λ (n : ℕ). Some (range_with_len ((g o).entry.address / u) n)) (sym (is_none o.sectors none))

      by : Case o → IsAt y' (g o)
      by (Case.Top top) = subst (λ (z : Object). IsAt y' z) (sym (ap g (sym top) ∙ root_stays)) (old_places_law space after had.root refl refl had.is_root.placed)
      by (Case.Empty none) = empty none
      by (Case.Slid k below some) =
          let r = row o at some in
          let h = k.whole in
          let inside = h.inside in
          let long = k.long in
          let begins : (g o).entry.address % u ≡ 0 = ap (λ (a : ℕ). a % u) k.begins ∙ h.begins in
          let low : (g o).entry.address / u + length o.sectors ≤ space.disc_units / u =
          rows_below u units (g o).entry.address (length o.sectors) space.disc_units begins (subst (λ (a : ℕ). a + length o.sectors * u ≤ space.disc_units) (sym k.begins) (omega (arith, inside, long))) in
          row_at after (g o).entry.address (bytes_of o) (some_size o at some) begins (subst (λ (n : ℕ). (g o).entry.address / u + n ≤ space.disc_units / u) r.long low)
          ∙ ap (λ (n : ℕ). Some (range_with_len ((g o).entry.address / u) n)) (sym r.long)
