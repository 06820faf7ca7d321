-- What the listings of a sound walk are: of each path there is one object and one listing.
use Rattle.std.proofs.Common.{◌≡◌, ◌<◌, ◌≤◌, ℕ, zero, suc, ◌-◌, Bool, true, false, cond, List, [], ◌∷◌, ◌++◌, length, map, take, refl, sym, ap, subst, ◌∙◌, arith, Some, None, Contains, find, filter, flat_map, slice_get, inl, inr, ◌⊎◌, append_assoc}
use Rattle.std.proofs.lemmas.Option.{slice_get-get_or, slice_get_within, get_or_from_slice_get}
use Rattle.fc_names.specs.Names.{Path, is_same_path}
use Rattle.fc_model.specs.Tree.{holder}
use Rattle.fc_dirs.specs.declared.Entry.{Entry}
use Rattle.fc_dirs.specs.Directory.{entries_of}
use Rattle.fc_image.specs.Layout.{Layout}
use Rattle.fc_image.specs.Opening.{reserved_in}
use Rattle.fc_image.specs.Walk.{Object, Listing, Reader, reader_of, is_directory_object}
use Rattle.fc_image.specs.Objects.{objects_of, listing_at}
use Rattle.fc_image.specs.Edits.{AreChildren, IsListing, Follows, Apart, IsRoot}
use Rattle.fc_image.proofs.EditLemmas.{walk_gives, root_first}
use Rattle.fc_image.proofs.PathsLemmas.{opened_walk, many, many-append, NoTwins, is_at, itself, only_one, listed_few, once, root_other}
use Rattle.fc_tree.specs.Laws.{SoundLaw}
use Rattle.fc_image.specs.Sound.{AreSound}
use Rattle.std.proofs.lemmas.Bool.{false_from_ne_true as unless}
use Rattle.fc_tree.proofs.ChildLemmas.{get_front as in_front}
pub use Rattle.fc_image.proofs.EntriesLemmas.{same_some}

-- ---- places in lists

-- one place has one element
pub same_place : {X : Type 0} (xs : List X) (i : ℕ) (x y : X) → slice_get xs i ≡ Some x → slice_get xs i ≡ Some y → x ≡ y
same_place xs i x y e f = same_some x y (sym e ∙ f)

-- an element has a place
pub place_of : {X : Type 0} (xs : List X) (x : X) → Contains xs x → (i : ℕ) × (slice_get xs i ≡ Some x)
place_of xs x at = (at.0, slice_get-get_or xs at.0 x at.1 ∙ ap Some at.2)

pub contained : {X : Type 0} (xs : List X) (i : ℕ) (x : X) → slice_get xs i ≡ Some x → Contains xs x
contained xs i x is = (i, slice_get_within xs i x is, get_or_from_slice_get xs i x x is)

behind : {X : Type 0} (xs ys : List X) (i : ℕ) (x : X) → slice_get ys i ≡ Some x → (j : ℕ) × (slice_get (xs ++ ys) j ≡ Some x)
behind [] ys i x is = (i, is)
behind (z ∷ xs) ys i x is = let later = behind xs ys i x is in (suc later.0, later.1)

-- the first that passes, where no other does
pub find_only : {X : Type 0} (t : X → Bool) (xs : List X) (i : ℕ) (x : X) → slice_get xs i ≡ Some x → t x ≡ true
    → ((j : ℕ) (y : X) → slice_get xs j ≡ Some y → t y ≡ true → i ≡ j) → find t xs ≡ Some x
find_only t [] i x is passes alone = absurd (cc)
find_only t (z ∷ xs) zero x is passes alone = rw (ap t (same_some z x is) ∙ passes) is
find_only t (z ∷ xs) (suc i) x is passes alone =
    let other : t z ≡ false = unless (t z) (λ e. let same = alone zero z refl e in omega arith) in
    rw other (find_only t xs i x is passes (λ j y at e. let same = alone (suc j) y at e in omega arith))

pub find_nothing : {X : Type 0} (t : X → Bool) (xs : List X) → ((j : ℕ) (y : X) → slice_get xs j ≡ Some y → t y ≡ false) → find t xs ≡ None
find_nothing t [] never = refl
find_nothing t (z ∷ xs) never = rw (never zero z refl) (find_nothing t xs (λ j. never (suc j)))

-- what stands before the last name
pub holder-push : (path : Path) (name : List ℕ) → holder (path ++ name ∷ []) ≡ path
holder-push path name = ap (λ (n : ℕ). take n (path ++ name ∷ [])) (short path) ∙ front path
  where
    short : (p : Path) → length (p ++ name ∷ []) - 1 ≡ length p
    short [] = omega arith
    short (x ∷ p) = let rest = short p in let some = long p in omega arith
      where
        long : (q : Path) → 0 < length (q ++ name ∷ [])
        long [] = omega arith
        long (y ∷ q) = omega arith

    front : (p : Path) → take (length p) (p ++ name ∷ []) ≡ p
    front [] = refl
    front (x ∷ p) = let e : length (x ∷ p) ≡ suc (length p) = omega arith in ap (λ (n : ℕ). take n ((x ∷ p) ++ name ∷ [])) e ∙ ap (λ (q : Path). x ∷ q) (front p)

-- ---- what holds of each element

abbrev Each : {X : Type 0} → (X → Type 0) → List X → Type 0
Each P [] = Unit {0}
Each P (x ∷ xs) = P x × Each P xs

each_from : {X : Type 0} (P : X → Type 0) (xs : List X) → ((i : ℕ) (x : X) → slice_get xs i ≡ Some x → P x) → Each P xs
each_from P [] h = tt
each_from P (x ∷ xs) h = (h zero x refl, each_from P xs (λ i. h (suc i)))

each_append : {X : Type 0} (P : X → Type 0) (xs ys : List X) → Each P xs → Each P ys → Each P (xs ++ ys)
each_append P [] ys h k = k
each_append P (x ∷ xs) ys h k = (h.0, each_append P xs ys h.1 k)

each_filter : {X : Type 0} (P : X → Type 0) (t : X → Bool) (xs : List X) → Each (λ x. t x ≡ true → P x) xs → Each P (filter t xs)
each_filter P t [] h = tt
each_filter P t (x ∷ xs) h = by (t x) refl (each_filter P t xs h.1)
  where
    by : (b : Bool) → t x ≡ b → Each P (filter t xs) → Each P (cond b (x ∷ filter t xs) (filter t xs))
    by true e rest = (h.0 e, rest)
    by false e rest = rest

-- ---- listings that follow from what waits

pub follows_each : (read : Reader) (layout : Layout) (waiting : List Object) (listings : List Listing) → Follows read layout waiting listings
    → (k : ℕ) (l : Listing) → slice_get listings k ≡ Some l → IsListing read layout l
follows_each read layout [] [] f k l is = absurd (cc)
follows_each read layout (o ∷ waiting) [] f k l is = absurd f
follows_each read layout [] (m ∷ listings) f k l is = absurd f
follows_each read layout (o ∷ waiting) (m ∷ listings) f zero l is = subst (IsListing read layout) (same_some m l is) f.1
follows_each read layout (o ∷ waiting) (m ∷ listings) f (suc k) l is = follows_each read layout (waiting ++ filter is_directory_object m.children) listings f.2 k l is

-- what holds of the directories that wait, and of each that a listing holds, holds of each that is listed
each_listed : (P : Object → Type 0) (read : Reader) (layout : Layout) (waiting : List Object) (listings : List Listing) → Follows read layout waiting listings
    → Each P waiting → ((j : ℕ) (m : Listing) → slice_get listings j ≡ Some m → Each (λ o. is_directory_object o ≡ true → P o) m.children)
    → (k : ℕ) (l : Listing) → slice_get listings k ≡ Some l → P l.object
each_listed P read layout [] [] f w kids k l is = absurd (cc)
each_listed P read layout (o ∷ waiting) [] f w kids k l is = absurd f
each_listed P read layout [] (m ∷ listings) f w kids k l is = absurd f
each_listed P read layout (o ∷ waiting) (m ∷ listings) f w kids zero l is = subst P (sym f.0 ∙ ap (λ (x : Listing). x.object) (same_some m l is)) w.0
each_listed P read layout (o ∷ waiting) (m ∷ listings) f w kids (suc k) l is =
    each_listed P read layout (waiting ++ filter is_directory_object m.children) listings f.2
    (each_append P waiting (filter is_directory_object m.children) w.1 (each_filter P is_directory_object m.children (kids zero m refl)))
    (λ j. kids (suc j)) k l is

held_somewhere : (listings : List Listing) (j i : ℕ) (m : Listing) (o : Object) → slice_get listings j ≡ Some m → slice_get m.children i ≡ Some o
    → (n : ℕ) × (slice_get (flat_map (λ l. l.children) listings) n ≡ Some o)
held_somewhere [] j i m o at is = absurd (cc)
held_somewhere (l ∷ listings) zero i m o at is =
    (i, in_front l.children (flat_map (λ (k : Listing). k.children) listings) i o (ap (λ (k : Listing). slice_get k.children i) (same_some l m at) ∙ is))
held_somewhere (l ∷ listings) (suc j) i m o at is =
    let later = held_somewhere listings j i m o at is in
    behind l.children (flat_map (λ (k : Listing). k.children) listings) later.0 o later.1

either_part : {X : Type 0} (xs ys : List X) (n : ℕ) (x : X) → slice_get (xs ++ ys) n ≡ Some x → (slice_get xs n ≡ Some x) ⊎ ((j : ℕ) × (slice_get ys j ≡ Some x))
either_part [] ys n x is = inr (n, is)
either_part (z ∷ xs) ys zero x is = inl is
either_part (z ∷ xs) ys (suc n) x is = either_part xs ys n x is

held_by_some : (listings : List Listing) (n : ℕ) (o : Object) → slice_get (flat_map (λ l. l.children) listings) n ≡ Some o
    → (m : Listing) × Contains listings m × Contains m.children o
held_by_some [] n o is = absurd (cc)
held_by_some (l ∷ listings) n o is =
    by (either_part l.children (flat_map (λ (k : Listing). k.children) listings) n o is) (held_by_some listings)
  where
    by : (slice_get l.children n ≡ Some o) ⊎ ((j : ℕ) × (slice_get (flat_map (λ k. k.children) listings) j ≡ Some o))
        → ((j : ℕ) (p : Object) → slice_get (flat_map (λ k. k.children) listings) j ≡ Some p → (m : Listing) × Contains listings m × Contains m.children p)
        → (m : Listing) × Contains (l ∷ listings) m × Contains m.children o
    by (inl here) more = (l, contained (l ∷ listings) 0 l refl, contained l.children n o here)
    by (inr later) more =
        let found = more later.0 o later.1 in
        let at = place_of listings found.0 found.1 in
        (found.0, contained (l ∷ listings) (suc at.0) found.0 at.1, found.2)

-- the walk lists directories in the order in which it finds them
filter-append : (t : Object → Bool) (xs ys : List Object) → filter t (xs ++ ys) ≡ filter t xs ++ filter t ys
filter-append t [] ys = refl
filter-append t (x ∷ xs) ys = by (t x) (filter-append t xs ys)
  where
    by : (b : Bool) → filter t (xs ++ ys) ≡ filter t xs ++ filter t ys
        → cond b (x ∷ filter t (xs ++ ys)) (filter t (xs ++ ys)) ≡ cond b (x ∷ filter t xs) (filter t xs) ++ filter t ys
    by true e = ap (λ (os : List Object). x ∷ os) e
    by false e = e

listed_in_order : (read : Reader) (layout : Layout) (waiting : List Object) (listings : List Listing) → Follows read layout waiting listings
    → map (λ l. l.object) listings ≡ waiting ++ filter is_directory_object (flat_map (λ l. l.children) listings)
listed_in_order read layout [] [] f = refl
listed_in_order read layout (o ∷ waiting) [] f = absurd f
listed_in_order read layout [] (m ∷ listings) f = absurd f
listed_in_order read layout (o ∷ waiting) (m ∷ listings) f =
    let kids = filter is_directory_object m.children in
    let rest = flat_map (λ (l : Listing). l.children) listings in
    ap (λ (p : Object). p ∷ map (λ (l : Listing). l.object) listings) f.0
    ∙ ap (λ (os : List Object). o ∷ os)
    (listed_in_order read layout (waiting ++ kids) listings f.2
    ∙ append_assoc waiting kids (filter is_directory_object rest)
    ∙ ap (λ (os : List Object). waiting ++ os) (sym (filter-append is_directory_object m.children rest)))

first_listed : (read : Reader) (layout : Layout) (root : Object) (listings : List Listing) → Follows read layout (root ∷ []) listings
    → (l : Listing) × Contains listings l × (l.object ≡ root)
first_listed read layout root [] f = absurd f
first_listed read layout root (l ∷ listings) f = (l, contained (l ∷ listings) 0 l refl, f.0)

child_named : (layout : Layout) (path : Path) (entries : List Entry) (objects : List Object) (i : ℕ) (o : Object) → AreChildren layout path entries objects
    → slice_get objects i ≡ Some o → o.path ≡ path ++ o.entry.name ∷ []
child_named layout path [] [] i o c is = absurd (cc)
child_named layout path (e ∷ entries) [] i o c is = absurd c
child_named layout path [] (p ∷ objects) i o c is = absurd c
child_named layout path (e ∷ entries) (p ∷ objects) zero o c is =
    ap (λ (x : Object). x.path) (sym (same_some p o is))
    ∙ c.0
    ∙ ap (λ (d : Entry). path ++ d.name ∷ []) (sym c.1 ∙ ap (λ (x : Object). x.entry) (same_some p o is))
child_named layout path (e ∷ entries) (p ∷ objects) (suc i) o c is = child_named layout path entries objects i o c.3 is

pub sound_law : SoundLaw
sound_law image kind v opens =
    let w = opened_walk image kind v opens in
    record {
      read = reader_of image v.layout;
      reserved = reserved_in kind v.layout;
      address = w.address;
      size = w.size;
      walked = w.walked;
      apart = w.twins;
    }

-- ---- a sound walk

module _ (layout : Layout) (listings : List Listing) (sound : AreSound layout listings) where
  abbrev pub given : (root : Object) × IsRoot layout sound.address sound.size root × Follows sound.read layout (root ∷ []) listings × Apart sound.reserved (objects_of listings)
  given = walk_gives sound.read layout sound.reserved sound.address sound.size listings sound.walked

  abbrev pub root : Object
  root = given.0

  pub root_path : root.path ≡ []
  root_path = given.1.path

  pub root_is_directory : is_directory_object root ≡ true
  root_is_directory = ap (λ (e : Entry). is_directory_object (record { path = []; entry = e; sectors = [] })) given.1.entry

  -- the root, and then what the listings hold
  pub root_and_held : objects_of listings ≡ root ∷ flat_map (λ l. l.children) listings
  root_and_held = root_first sound.read layout root [] listings given.2

  pub first_is_root : slice_get (objects_of listings) 0 ≡ Some root
  first_is_root = ap (λ (os : List Object). slice_get os 0) root_and_held

  pub twins : NoTwins listings
  twins = sound.apart

  pub few_objects : (path : Path) → many (is_at path) (objects_of listings) ≤ 1
  few_objects path = once sound.read layout root listings root_path given.2 twins (length path) path refl

  -- of each path there is one object,
  pub one_object : (path : Path) (i j : ℕ) (o p : Object) → slice_get (objects_of listings) i ≡ Some o → slice_get (objects_of listings) j ≡ Some p
      → is_same_path path o.path ≡ true → is_same_path path p.path ≡ true → i ≡ j
  one_object path i j o p is is' e e' = only_one (is_at path) (objects_of listings) i j o p (few_objects path) is is' e e'

  -- and one listing
  pub one_listing : (path : Path) (i j : ℕ) (l m : Listing) → slice_get listings i ≡ Some l → slice_get listings j ≡ Some m
      → is_same_path path l.object.path ≡ true → is_same_path path m.object.path ≡ true → i ≡ j
  one_listing path i j l m is is' e e' =
      let few = listed_few sound.read layout (is_at path) (root ∷ []) listings given.2 in
      let both = many-append (is_at path) (root ∷ []) (flat_map (λ (k : Listing). k.children) listings) in
      let most = subst (λ (os : List Object). many (is_at path) os ≤ 1) root_and_held (few_objects path) in
      only_one (λ (k : Listing). is_at path k.object) listings i j l m (omega (arith, few, both, most)) is is' e e'

  -- a directory's objects have its path and their names
  pub child_path : (l : Listing) (o : Object) → Contains listings l → Contains l.children o → o.path ≡ l.object.path ++ o.entry.name ∷ []
  child_path l o at held =
      let where_l = place_of listings l at in
      let where_o = place_of l.children o held in
      child_named layout l.object.path (entries_of l.content) l.children where_o.0 o
      (follows_each sound.read layout (root ∷ []) listings given.2 where_l.0 l where_l.1).1 where_o.1

  pub child_is_object : (l : Listing) (o : Object) → Contains listings l → Contains l.children o → Contains (objects_of listings) o
  child_is_object l o at held =
      let where_l = place_of listings l at in
      let where_o = place_of l.children o held in
      let among = held_somewhere listings where_l.0 where_o.0 l o where_l.1 where_o.1 in
      contained (objects_of listings) (suc among.0) o (ap (λ (os : List Object). slice_get os (suc among.0)) root_and_held ∙ among.1)

  -- an object of a listing is a directory among the objects
  pub listed_directory : (l : Listing) → Contains listings l → Contains (objects_of listings) l.object × (is_directory_object l.object ≡ true)
  listed_directory l at =
      let where_l = place_of listings l at in
      each_listed (λ (o : Object). Contains (objects_of listings) o × (is_directory_object o ≡ true)) sound.read layout (root ∷ []) listings given.2
      ((contained (objects_of listings) 0 root first_is_root, root_is_directory), tt)
      (λ j m at_m. each_from (λ (o : Object). is_directory_object o ≡ true → Contains (objects_of listings) o × (is_directory_object o ≡ true)) m.children
      (λ i o at_o dir. (child_is_object m o (contained listings j m at_m) (contained m.children i o at_o), dir)))
      where_l.0 l where_l.1

  -- at its path stands no other
  pub listing_found : (l : Listing) → Contains listings l → listing_at listings l.object.path ≡ Some l
  listing_found l at =
      let where_l = place_of listings l at in
      find_only (λ (m : Listing). is_same_path l.object.path m.object.path) listings where_l.0 l where_l.1 (itself l.object.path)
      (λ j m at_m e. one_listing l.object.path where_l.0 j l m where_l.1 at_m (itself l.object.path) e)

  -- and at a file's path none
  pub no_listing : (o : Object) → Contains (objects_of listings) o → is_directory_object o ≡ false → listing_at listings o.path ≡ None
  no_listing o at file =
      find_nothing (λ (m : Listing). is_same_path o.path m.object.path) listings (λ j m at_m. unless (is_same_path o.path m.object.path) (λ e.
      let where_o = place_of (objects_of listings) o at in
      let of_m = listed_directory m (contained listings j m at_m) in
      let where_m = place_of (objects_of listings) m.object of_m.0 in
      let places = one_object o.path where_o.0 where_m.0 o m.object where_o.1 where_m.1 (itself o.path) e in
      let same = same_place (objects_of listings) where_m.0 o m.object (ap (slice_get (objects_of listings)) (sym places) ∙ where_o.1) where_m.1 in
      let dir = ap is_directory_object same ∙ of_m.1 in
      cc))

  -- the root is no directory's
  pub not_first : (l : Listing) (o : Object) (i : ℕ) → Contains listings l → Contains l.children o → slice_get (objects_of listings) i ≡ Some o → i ≡ 0 → ⊥
  not_first l o i at held is e =
      let same : root ≡ o = same_place (objects_of listings) 0 root o first_is_root (ap (slice_get (objects_of listings)) (sym e) ∙ is) in
      let path : [] ≡ l.object.path ++ o.entry.name ∷ [] = sym root_path ∙ ap (λ (x : Object). x.path) same ∙ child_path l o at held in
      let no' = root_other l.object.path o.entry.name in
      let yes' = ap (λ (p : Path). is_same_path [] p) path in
      cc

  -- each object is the root or a directory's
  pub held_by : (i : ℕ) (o : Object) → slice_get (objects_of listings) i ≡ Some o
      → ((i ≡ 0) × (o ≡ root)) ⊎ ((l : Listing) × Contains listings l × Contains l.children o)
  held_by zero o is = inl (refl, same_place (objects_of listings) 0 o root is first_is_root)
  held_by (suc n) o is = inr (held_by_some listings n o (ap (λ (os : List Object). slice_get os (suc n)) (sym root_and_held) ∙ is))

  -- its holder is listed, and the root's is the root
  pub holder_listed : (i : ℕ) (o : Object) → slice_get (objects_of listings) i ≡ Some o → (l : Listing) × Contains listings l × (holder o.path ≡ l.object.path)
  holder_listed i o is = by (held_by i o is)
    where
      by : ((i ≡ 0) × (o ≡ root)) ⊎ ((l : Listing) × Contains listings l × Contains l.children o)
          → (l : Listing) × Contains listings l × (holder o.path ≡ l.object.path)
      by (inl first) =
          let l = first_listed sound.read layout root listings given.2 in
          (l.0, l.1, ap (λ (x : Object). holder x.path) first.1 ∙ ap holder root_path ∙ sym root_path ∙ ap (λ (x : Object). x.path) (sym l.2))
      by (inr other) = (other.0, other.1, ap holder (child_path other.0 o other.1 other.2) ∙ holder-push other.0.object.path o.entry.name)

  -- the directories among the objects are those that are listed
  pub directories_listed : filter is_directory_object (objects_of listings) ≡ map (λ l. l.object) listings
  directories_listed =
      ap (filter is_directory_object) root_and_held
      ∙ rw root_is_directory refl
      ∙ sym (listed_in_order sound.read layout (root ∷ []) listings given.2)
