-- Which bytes stay and which are carried, from step to step.
use Rattle.std.proofs.Common.{◌≡◌, ◌⊎◌, inl, inr, ℕ, zero, suc, ◌*◌, ◌/◌, ◌%◌, true, false, List, [], ◌∷◌, ◌++◌, length, map, take, drop, refl, sym, ap, ap₂, subst, ◌∙◌, arith, Some, slice_get}
use Rattle.std.specs.Prelude.{Contains, nat_lt}
use Rattle.std.specs.List.{range_with_len}
use Rattle.std.proofs.lemmas.Bool.{lt-ltb, false_from_ne_true as unless}
use Rattle.fc_bytes.specs.Words.{bytes_at}
use Rattle.fc_device.specs.Sectors.{row_at, sector_at}
use Rattle.fc_names.specs.Names.{Path}
use Rattle.fc_record.specs.declared.Kind.{Kind}
use Rattle.fc_newmap.proofs.PlaceLemmas.{in_front}
use Rattle.fc_oldmap.specs.Laws.{ReadsBack}
use Rattle.fc_image.specs.Layout.{Layout, bytes_in, dir_form, hole_sectors, is_among, map_place}
use Rattle.fc_image.specs.Walk.{Listing, Object, object_bytes, object_size, reader_of}
use Rattle.fc_image.specs.Objects.{objects_of}
use Rattle.fc_image.specs.Opening.{Opened}
use Rattle.fc_image.specs.Edits.{Apart}
use Rattle.fc_image.specs.Stays.{HasSectorsOf}
use Rattle.fc_image.proofs.EntriesLemmas.{in_mapped}
use Rattle.fc_image.proofs.FreeLemmas.{object_same}
use Rattle.fc_image.proofs.HolesLemmas.{apart_at}
use Rattle.fc_objects.proofs.BlockLemmas.{row_bytes}
use Rattle.fc_image.specs.declared.effects.Owned.{Owned}
use Rattle.fc_image.specs.effects.Moves.{SameBodies, is_in_body, is_in_hole}
use Rattle.fc_squash.proofs.ByteLemmas.{in_sectors}
use Rattle.fc_changes.proofs.BasicLemmas.{cases_cons, clash, nothing_in}
use Rattle.fc_changes.proofs.lemmas.old.BeforeLemmas.{Walked, listed_in, parts}
use Rattle.fc_changes.proofs.lemmas.old.ChangeLemmas.{opened}
use Rattle.fc_changes.proofs.lemmas.old.PlaceLemmas.{pair_apart}
use Rattle.fc_oldlaws.specs.moves.After.{Slide, object_after, space_after}
use Rattle.fc_oldlaws.specs.moves.Steps.{IsChanged, IsCompactedInSteps}
use Rattle.fc_oldlaws.proofs.lemmas.moves.StartLemmas.{of_body, one_element}
use Rattle.fc_oldlaws.proofs.lemmas.moves.PlaceLemmas.{Case, Start, apart_after, case_of, had, hole_off_map, holes_as, off_holes, off_map, off_taken, old_body, one_object, root_in, root_stays, row, row_is, taken', units}

-- ---- bytes in rows

bodies_at : (old new : List ℕ) (was now : List Owned) → SameBodies old new was now → (i : ℕ) (o p : Owned) → slice_get was i ≡ Some o → slice_get now i ≡ Some p
    → bytes_at new (256 * p.start) (256 * p.len) ≡ bytes_at old (256 * o.start) (256 * o.len)
bodies_at old new [] [] same i o p e f = absurd (cc)
bodies_at old new [] (q ∷ now) same i o p e f = absurd same
bodies_at old new (x ∷ was) [] same i o p e f = absurd same
bodies_at old new (x ∷ was) (z ∷ now) same zero o p e f =
    subst (λ (k : Owned). bytes_at new (256 * p.start) (256 * p.len) ≡ bytes_at old (256 * k.start) (256 * k.len)) (one_element (x ∷ was) 0 x o refl e)
    (subst (λ (k : Owned). bytes_at new (256 * k.start) (256 * k.len) ≡ bytes_at old (256 * x.start) (256 * x.len)) (one_element (z ∷ now) 0 z p refl f) same.0)
bodies_at old new (x ∷ was) (z ∷ now) same (suc i) o p e f = bodies_at old new was now same.1 i o p e f

-- the bytes of whole sectors in a row
row_of : (u : ℕ) → (u ≡ 1) ⊎ (u ≡ 4) → (image : List ℕ) (a m n : ℕ) → a % u ≡ 0 → bytes_in (256 * u) image (range_with_len (a / u) m) n ≡ take n (bytes_at image (256 * a) (256 * (m * u)))
unfolding bytes_in row_at
row_of u units image a m n whole =
    let long : 256 * (m * u) ≡ m * (256 * u) = grind arith in
    ap (take n) (sym (row_bytes (256 * u) image (a / u) m) ∙ sym (ap₂ (λ (k at : ℕ). take k (drop at image)) long (in_sectors u units a whole)))

nothing : (size : ℕ) (image : List ℕ) (k : ℕ) → bytes_in size image [] k ≡ []
unfolding bytes_in
nothing size image zero = refl
nothing size image (suc k) = refl

-- Changed objects that lie apart and share a sector come from one.
one_changed : (taken : List ℕ) (g : Object → Object) (os : List Object) (o q : Object) (t : ℕ) → Apart taken (map g os) → Contains os o → Contains os q
    → is_among (g o).sectors t ≡ true → is_among (g q).sectors t ≡ true → o ≡ q
one_changed taken g [] o q t a at there i j = absurd (nothing_in o at)
one_changed taken g (x ∷ os) o q t a at there i j = by (cases_cons x os o at) (cases_cons x os q there) (λ e f. one_changed ((g x).sectors ++ taken) g os o q t a.1 e f i j)
  where
    in_map : (p : Object) → Contains os p → Contains (map g os) (g p)
    in_map p within = in_mapped g os p within

    never : (p : Object) → Contains os p → is_among (g p).sectors t ≡ true → is_among (g x).sectors t ≡ true → ⊥
    never p within h k = clash (is_among (g x).sectors t) k (apart_at (g p).sectors (g x).sectors t (pair_apart taken (g x) (map g os) (g p) a (in_map p within)) h)

    by : (x ≡ o) ⊎ Contains os o → (x ≡ q) ⊎ Contains os q → (Contains os o → Contains os q → o ≡ q) → o ≡ q
    by (inl e) (inl f) more = sym e ∙ f
    by (inl e) (inr f) more = absurd (never q f j (ap (λ (z : Object). is_among (g z).sectors t) e ∙ i))
    by (inr e) (inl f) more = absurd (never o e i (ap (λ (z : Object). is_among (g z).sectors t) f ∙ j))
    by (inr e) (inr f) more = more e f

-- ---- the steps

pub record Steps : Type 0 where
  -- the law of fc_oldmap
  pub back : ReadsBack
  pub kind : Kind
  pub image : List ℕ
  pub slid : List ℕ
  pub rewritten : List ℕ
  pub image' : List ℕ
  pub ls : List Listing
  pub s : Slide
  pub is : IsCompactedInSteps kind image slid rewritten image' (opened kind s.space ls) s

module _ (f : Steps) where
  abbrev pub z : Layout
  z = Layout.Old f.s.space

  abbrev pub z' : Layout
  z' = Layout.Old (space_after f.s)

  abbrev pub v : Opened
  v = opened f.kind f.s.space f.ls

  abbrev pub all : List Object
  all = objects_of f.ls

  abbrev pub to : Object → Object
  to = object_after f.s

  abbrev pub wide : ℕ
  wide = 256 * f.s.space.sector_units

  pub old : Walked f.kind f.image z f.ls f.is.before.opens
  old = parts f.kind f.image z f.ls f.is.before.opens

  abbrev pub start : Start
  start = record { kind = f.kind; read = reader_of f.image z; address = old.address; size = old.size; listings = f.ls; s = f.s; walked = old.walked; is = f.is.slide }

  -- ---- what stays while objects slide

  pub no_body : (t : ℕ) → ((o : Object) → Contains all o → (length o.path ≡ 0 → ⊥) → is_among o.sectors t ≡ true → ⊥) → is_in_body f.s.space.sector_units f.s.was t ≡ false
  no_body t none = unless (is_in_body f.s.space.sector_units f.s.was t) (λ h.
      let p = of_body f.s.space.sector_units f.s.was t h in
      let x = f.is.slide.owned.only p.0 p.1 in
      none x.0 x.1 x.3 (ap (λ (xs : List ℕ). is_among xs t) (sym (old_body start x.0 p.0 x.1 x.2 x.4)) ∙ p.2))

  -- a sector of the map
  pub map_slid : (t : ℕ) → is_among (map_place z) t ≡ true → sector_at wide f.slid t ≡ sector_at wide f.image t
  map_slid t h =
      f.is.bytes.others t (no_body t (λ o at below i. clash (is_among (map_place z) t) h (off_map start o at t i)))
      (unless (is_in_hole f.s.space.sector_units f.s.space.holes t) (λ i. hole_off_map start t i h))

  -- a sector of the root
  pub root_slid : HasSectorsOf wide (had start).root.sectors f.image f.slid
  root_slid t h =
      f.is.bytes.others t
      (no_body t (λ o at below i. below (ap (λ (x : Object). length x.path) (one_object start o (had start).root t at (root_in start) i h) ∙ ap (λ (p : Path). length p) (had start).is_root.path)))
      (unless (is_in_hole f.s.space.sector_units f.s.space.holes t) (λ i.
      clash (is_among (hole_sectors z) t) (holes_as f.s.space.sector_units t f.s.space.holes ∙ i) (off_holes start (had start).root (root_in start) t h)))

  -- ---- what stays while directories are written

  -- The object isn't a directory that is written.
  abbrev pub IsUnwritten : Object → Type 0
  IsUnwritten o = (l : Listing) → Contains f.ls l → IsChanged f.s f.ls l → l.object ≡ o → ⊥

  pub listed : (l : Listing) → Contains f.ls l → Contains all l.object
  listed l at = listed_in f.kind f.image z f.ls f.is.before.opens l at

  pub unwritten_stays : (o : Object) → Contains all o → IsUnwritten o → HasSectorsOf wide (to o).sectors f.slid f.rewritten
  unwritten_stays o at not t h =
      f.is.directories.others t (λ l there changed. unless (is_among (to l.object).sectors t) (λ i.
      not l there changed (one_changed (taken' start) to all l.object o t (apart_after start) (listed l there) at i h)))

  pub map_rewritten : (t : ℕ) → is_among (map_place z) t ≡ true → sector_at wide f.rewritten t ≡ sector_at wide f.slid t
  map_rewritten t h =
      f.is.directories.others t (λ l there changed. unless (is_among (to l.object).sectors t) (λ i.
      clash (is_among (taken' start) t) (in_front (map_place z') (hole_sectors z') t h)
      (apart_at (to l.object).sectors (taken' start) t (off_taken start l.object (listed l there)) i)))

  -- no sector of the map has changed before the map is written
  pub map_stays : HasSectorsOf wide (map_place z) f.image f.rewritten
  map_stays t h = map_rewritten t h ∙ map_slid t h

  -- ---- what stays while the map is written

  pub off_map_now : (o : Object) → Contains all o → HasSectorsOf wide (to o).sectors f.rewritten f.image'
  off_map_now o at t h =
      f.is.map_only.writes t refl (unless (is_among (map_place z) t) (λ i.
      clash (is_among (taken' start) t) (in_front (map_place z') (hole_sectors z') t i)
      (apart_at (to o).sectors (taken' start) t (off_taken start o at) h)))

  -- the bytes of an object are those before the map was written
  pub bytes_late : (o : Object) → Contains all o → object_bytes f.image' z' (to o) ≡ object_bytes f.rewritten z' (to o)
  bytes_late o at = object_same wide f.rewritten f.image' z' (to o) refl (off_map_now o at)

  -- ---- objects that slide

  bytes_slid : (o : Object) → Contains all o → object_bytes f.slid z' (to o) ≡ object_bytes f.image z o
  bytes_slid o at = by (case_of start o at)
    where
      u : ℕ
      u = f.s.space.sector_units

      n : ℕ
      n = object_size (dir_form z) o.entry

      by : Case start o → object_bytes f.slid z' (to o) ≡ object_bytes f.image z o
      by (Case.Top top) =
          subst (λ (x : Object). object_bytes f.slid z' (to x) ≡ object_bytes f.image z x) top
          (ap (λ (x : Object). object_bytes f.slid z' x) (root_stays start) ∙ object_same wide f.image f.slid z (had start).root refl root_slid)
      by (Case.Empty none) =
          (let zero' = is_none o.sectors none in
          ap (λ (k : ℕ). bytes_in wide f.slid (range_with_len ((to o).entry.address / u) k) n) (ap (λ (xs : List ℕ). length xs) zero')
          ∙ nothing wide f.slid n ∙ sym (ap (λ (xs : List ℕ). bytes_in wide f.image xs n) zero' ∙ nothing wide f.image n))
        where
          is_none : (xs : List ℕ) → nat_lt 0 (length xs) ≡ false → xs ≡ []
          is_none [] h = refl
          is_none (x ∷ xs) h = absurd (clash (nat_lt 0 (length (x ∷ xs))) (lt-ltb 0 (length (x ∷ xs)) (omega arith)) h)
      by (Case.Slid k below some) =
          (let m = length o.sectors in
          let begins : (to o).entry.address % u ≡ 0 = ap (λ (a : ℕ). a % u) k.begins ∙ k.whole.begins in
          let r = row start o at some in
          row_of u (units start) f.slid (to o).entry.address m n begins
          ∙ ap (take n) (ap₂ (λ (a j : ℕ). bytes_at f.slid (256 * a) (256 * j)) k.begins (sym k.long)
          ∙ bodies_at f.image f.slid f.s.was f.s.now f.is.bytes.bodies k.i k.o_was k.o_now k.was_at k.now_at
          ∙ ap₂ (λ (a j : ℕ). bytes_at f.image (256 * a) (256 * j)) k.began k.long_was)
          ∙ sym (row_of u (units start) f.image o.entry.address m n r.begins)
          ∙ ap (λ (xs : List ℕ). bytes_in wide f.image xs n) (sym (row_is start o at some)))

  -- An object that isn't written has its bytes in its new place.
  pub bytes_carried : (o : Object) → Contains all o → IsUnwritten o → object_bytes f.image' z' (to o) ≡ object_bytes f.image z o
  bytes_carried o at not = bytes_late o at ∙ object_same wide f.slid f.rewritten z' (to o) refl (unwritten_stays o at not) ∙ bytes_slid o at
