-- A walk over nodes finds no more directories than there are sectors.
use Rattle.std.proofs.Common.{◌≡◌, ◌<◌, ◌≤◌, ℕ, Bool, true, false, cond, List, [], ◌∷◌, ◌++◌, length, take, eqb, refl, sym, ap, subst, ◌∙◌, arith, eq-eqb, length-append, Some}
use Rattle.std.specs.Prelude.{Ok, Err, Contains, ◌==◌, ◌||◌}
use Rattle.std.specs.List.{AllByRecursion, IsDistinct, flat_map, list_any}
use Rattle.std.proofs.lemmas.Bool.{eqb-false, eqb-true, ne_eqb, false_from_ne_true as unless}
use Rattle.std.proofs.lemmas.List.{length-map}
use Rattle.std.proofs.lemmas.List.Sorted.{IsPermutation-sym}
use Rattle.std.proofs.lemmas.Map.Steps.{length-le_from_distinct_below}
use Rattle.fc_names.specs.declared.name.NameForm.{NameForm}
use Rattle.fc_names.specs.declared.name.NameForm.TheVariants.{Long, Seven, Ten}
use Rattle.fc_record.specs.declared.Kind.{Kind}
use Rattle.fc_newmap.specs.Map.{Map}
use Rattle.fc_newmap.proofs.CoverLemmas.{Distinct, Distinct-append}
use Rattle.fc_newmap.proofs.PlaceLemmas.{in_back, in_either, in_front}
use Rattle.fc_dirs.specs.Directory.{Directory, directory_size}
use Rattle.fc_alloc.specs.declared.owner.Owner.{Owner}
use Rattle.fc_image.specs.Layout.{Layout, dir_form, disc_sectors, is_among, sectors_at}
use Rattle.fc_image.specs.Walk.{Listing, Object, is_directory_object, object_size}
use Rattle.fc_image.specs.Objects.{objects_of}
use Rattle.fc_image.specs.Opening.{reserved_in}
use Rattle.fc_image.specs.Edits.{Apart}
use Rattle.fc_image.specs.Order.{directories, held, listed}
use Rattle.fc_image.proofs.EditLemmas.{apart_law}
use Rattle.fc_image.proofs.EntriesLemmas.{from_map}
use Rattle.fc_image.proofs.HolesLemmas.{apart_at}
use Rattle.fc_image.proofs.OrderLemmas.{apart_shuffled}
use Rattle.fc_tree.specs.declared.node.Node.{Node}
use Rattle.fc_tree.specs.Agree.{AreWalked, HasForm, IsDirectory}
use Rattle.fc_tree.proofs.WalkedLemmas.{listed_directory}
use Rattle.fc_changes.proofs.BasicLemmas.{clash, first_in, next_in}
use Rattle.fc_changes.proofs.ChangeLemmas.{a_sector}
use Rattle.fc_laws.specs.nodes.Edits.{Nodes}
use Rattle.fc_laws.specs.agree.Agreed.{AgreeOn}
use Rattle.fc_laws.proofs.lemmas.agree.BeforeLemmas.{on_disc, shape}
use Rattle.fc_laws.proofs.lemmas.agree.WalkedLemmas.{had, object_lies, sound}
use Rattle.fc_image.proofs.RoomLemmas.{first_in as among_first, first_Distinct as one_first, std_Distinct as as_distinct, std_any as as_among}
use Rattle.fc_tree.proofs.EndLemmas.{some_bytes}

-- ---- the first sector of each object that has one

abbrev firsts : List Object → List ℕ
firsts objects = flat_map (λ o. take 1 o.sectors) objects

-- it was not taken before
firsts_free : (taken : List ℕ) (objects : List Object) → Apart taken objects → (s : ℕ) → is_among (firsts objects) s ≡ true → is_among taken s ≡ false
firsts_free taken [] a s e = absurd (cc)
firsts_free taken (o ∷ objects) a s e = elim (in_either (take 1 o.sectors) (firsts objects) s e) [
  | Ok here ↦ apart_at o.sectors taken s a.0 (among_first o.sectors s here)
  | Err later ↦ unless (is_among taken s) (λ i. clash (is_among (o.sectors ++ taken) s) (in_back o.sectors taken s i) (firsts_free (o.sectors ++ taken) objects a.1 s later))
]

-- so the first sectors are different
firsts_once : (taken : List ℕ) (objects : List Object) → Apart taken objects → Distinct (firsts objects)
firsts_once taken [] a = tt
firsts_once taken (o ∷ objects) a =
    Distinct-append (take 1 o.sectors) (firsts objects) (one_first o.sectors) (firsts_once (o.sectors ++ taken) objects a.1)
    (λ s i j. clash (is_among (o.sectors ++ taken) s) (in_front o.sectors taken s (among_first o.sectors s i)) (firsts_free (o.sectors ++ taken) objects a.1 s j))

firsts_from : (objects : List Object) (s : ℕ) → is_among (firsts objects) s ≡ true → (o : Object) × Contains objects o × (is_among o.sectors s ≡ true)
firsts_from [] s e = absurd (cc)
firsts_from (o ∷ objects) s e = elim (in_either (take 1 o.sectors) (firsts objects) s e) [
  | Ok here ↦ (o, first_in o objects, among_first o.sectors s here)
  | Err later ↦ (let r = firsts_from objects s later in (r.0, next_in o r.0 objects r.1, r.2))
]

firsts_count : (objects : List Object) → ((o : Object) → Contains objects o → (s : ℕ) × (is_among o.sectors s ≡ true)) → length (firsts objects) ≡ length objects
firsts_count [] some = refl
firsts_count (o ∷ objects) some =
    let here = one (o.sectors) (some o (first_in o objects)).0 (some o (first_in o objects)).1 in
    let rest = firsts_count objects (λ p at. some p (next_in o p objects at)) in
    omega (arith, here, rest, length-append (take 1 o.sectors) (firsts objects))
  where
    one : (xs : List ℕ) (s : ℕ) → is_among xs s ≡ true → length (take 1 xs) ≡ 1
    one [] s e = absurd (cc)
    one (x ∷ xs) s e = refl

apart_directories : (taken : List ℕ) (objects : List Object) → Apart taken objects → Apart taken (directories objects)
apart_directories taken [] a = tt
apart_directories taken (o ∷ objects) a =
    by (is_directory_object o) (apart_directories (o.sectors ++ taken) objects a.1) (apart_directories taken objects ((apart_law.removed taken [] objects o a).0))
  where
    by : (b : Bool) → Apart (o.sectors ++ taken) (directories objects) → Apart taken (directories objects) → Apart taken (cond b (o ∷ directories objects) (directories objects))
    by true kept without = (a.0, kept)
    by false kept without = without

-- ---- each directory has a sector

module _ (kind : Kind) (layout : Layout) (nodes : Nodes) (root : Node) (listings : List Listing) (a : AreWalked nodes layout (reserved_in kind layout) root.entry.address root.entry.len listings)
    -- what lies at its address lies on the disc, and some bytes have a sector
    (on_disc : (o : Object) → Contains (objects_of listings) o → (s : ℕ) → is_among o.sectors s ≡ true → s < disc_sectors layout)
    (a_sector : (address bytes : ℕ) (sectors : List ℕ) → 0 < bytes → sectors_at layout address bytes ≡ Some sectors → (s : ℕ) × (is_among sectors s ≡ true)) where
  pub dir_sector_of : (l : Listing) → Contains listings l → (s : ℕ) × (is_among l.object.sectors s ≡ true)
  dir_sector_of l at =
      let dir = listed_directory layout listings (sound kind layout nodes root listings a) l at in
      let size : object_size (dir_form layout) l.object.entry ≡ directory_size (dir_form layout) l.object.entry.len =
      ap (λ (b : Bool). cond b (directory_size (dir_form layout) l.object.entry.len) l.object.entry.len) dir.1 in
      let some = some_bytes (dir_form layout) l.object.entry.len l.content (a.forms l at) (a.bodies l at) in
      a_sector l.object.entry.address (object_size (dir_form layout) l.object.entry) l.object.sectors (omega (arith, size, some)) (object_lies kind layout nodes root listings a l.object dir.0).placed

  -- which directory it is
  of_listed : (o : Object) → Contains (listed listings) o → (l : Listing) × Contains listings l × (l.object ≡ o)
  of_listed o at = from_map (λ (l : Listing). l.object) listings o at

  listed_sector : (o : Object) → Contains (listed listings) o → (s : ℕ) × (is_among o.sectors s ≡ true)
  listed_sector o at = let l = of_listed o at in subst (λ (p : Object). (s : ℕ) × (is_among p.sectors s ≡ true)) l.2 (dir_sector_of l.0 l.1)

  listed_low : (s : ℕ) → is_among (firsts (listed listings)) s ≡ true → s < disc_sectors layout
  listed_low s e =
      let o = firsts_from (listed listings) s e in
      let l = of_listed o.0 o.1 in
      on_disc l.0.object (listed_directory layout listings (sound kind layout nodes root listings a) l.0 l.1).0 s
      (subst (λ (p : Object). is_among p.sectors s ≡ true) (sym l.2) o.2)

  listed_apart : Apart (reserved_in kind layout) (listed listings)
  listed_apart =
      let h = had kind layout nodes root listings a in
      apart_shuffled (reserved_in kind layout) (h.top ∷ directories (held listings)) (listed listings)
      (h.apart.0, apart_directories (h.top.sectors ++ reserved_in kind layout) (held listings) h.apart.1)
      (IsPermutation-sym (listed listings) (h.top ∷ directories (held listings)) h.all.all)

  pub room_of : length listings ≤ disc_sectors layout
  room_of =
      let once = firsts_once (reserved_in kind layout) (listed listings) listed_apart in
      let count = firsts_count (listed listings) listed_sector in
      let most = length-le_from_distinct_below (firsts (listed listings)) (disc_sectors layout) (as_distinct (firsts (listed listings)) once)
      (λ q e. listed_low q (as_among q (firsts (listed listings)) e)) in
      subst (λ (n : ℕ). n ≤ disc_sectors layout) (count ∙ length-map listings (λ (l : Listing). l.object)) most

-- ---- the same on a new map

module _ (kind : Kind) (m : Map) (nodes : Nodes) (owners : List Owner) (root : Node) (listings : List Listing) (a : AgreeOn kind m nodes owners root listings) where
  sector_here : (address bytes : ℕ) (sectors : List ℕ) → 0 < bytes → sectors_at (Layout.New m) address bytes ≡ Some sectors → (s : ℕ) × (is_among sectors s ≡ true)
  sector_here address bytes sectors some at = a_sector m address bytes sectors some (shape kind m nodes owners root listings a).some at

  pub dir_sector : (l : Listing) → Contains listings l → (s : ℕ) × (is_among l.object.sectors s ≡ true)
  dir_sector l at = dir_sector_of kind (Layout.New m) nodes root listings a.walked (on_disc kind m nodes owners root listings a) sector_here l at

  pub room : length listings ≤ disc_sectors (Layout.New m)
  room = room_of kind (Layout.New m) nodes root listings a.walked (on_disc kind m nodes owners root listings a) sector_here
