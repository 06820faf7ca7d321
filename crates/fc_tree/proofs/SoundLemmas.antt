-- The objects of a sound walk: what their paths tell of each other.
use Rattle.std.proofs.Common.{◌≡◌, ◌⊎◌, inl, inr, ⊎_elim, ℕ, true, List, [], ◌∷◌, ◌++◌, map, refl, ap, ap₂, subst, ◌∙◌, Some}
use Rattle.std.specs.Prelude.{Contains, slice_get}
use Rattle.std.specs.List.{flat_map}
use Rattle.std.specs.FinMap.{slice_cmp-IsAntisymmetric, nat_cmp-IsAntisymmetric}
use Rattle.std.proofs.lemmas.List.{map_push}
use Rattle.fc_names.specs.Names.{Path, folded, folded_path, is_same_name, is_same_path, name_cmp}
use Rattle.fc_dirs.specs.declared.Entry.{Entry}
use Rattle.fc_dirs.specs.Directory.{entries_of}
use Rattle.fc_image.specs.Layout.{Layout}
use Rattle.fc_image.specs.Walk.{Object, Listing}
use Rattle.fc_image.specs.Objects.{objects_of, listing_at}
use Rattle.fc_image.specs.Edits.{AreChildren}
use Rattle.fc_image.proofs.PathsLemmas.{is_at, same_equal, itself}
use Rattle.fc_image.specs.Sound.{AreSound}
use Rattle.fc_tree.proofs.WalkedLemmas.{same_place, place_of, contained, follows_each, given, root, root_and_held, first_is_root, few_objects, one_listing, listed_directory}
use Rattle.fc_tree.proofs.MemberLemmas.{from_flat, found_passes, one_passes}
use Rattle.fc_image.proofs.EntriesLemmas.{cases as contains_cases}
pub use Rattle.fc_image.proofs.TreeLemmas.{folds_alike}

-- ---- paths by folding

pub name_folds_alike : (a b : List ℕ) → is_same_name a b ≡ true → folded a ≡ folded b
name_folds_alike a b e = slice_cmp-IsAntisymmetric nat_cmp-IsAntisymmetric (folded a) (folded b) (same_equal (name_cmp a b) e)

pub fold_pushed : (path : Path) (name : List ℕ) → folded_path (path ++ name ∷ []) ≡ folded_path path ++ folded name ∷ []
fold_pushed path name = map_push folded path name

-- ---- what the walk found

stored_entries : (layout : Layout) (path : Path) (entries : List Entry) (objects : List Object) → AreChildren layout path entries objects → map (λ o. o.entry) objects ≡ entries
stored_entries layout path [] [] c = refl
stored_entries layout path (e ∷ entries) [] c = absurd c
stored_entries layout path [] (p ∷ objects) c = absurd c
stored_entries layout path (e ∷ entries) (p ∷ objects) c = ap₂ (λ (d : Entry) (ds : List Entry). d ∷ ds) c.1 (stored_entries layout path entries objects c.3)

module _ (layout : Layout) (listings : List Listing) (sound : AreSound layout listings) where
  -- the children have the entries of the directory, in stored order
  pub children_stored : (l : Listing) → Contains listings l → map (λ o. o.entry) l.children ≡ entries_of l.content
  children_stored l at =
      let place = place_of listings l at in
      stored_entries layout l.object.path (entries_of l.content) l.children
      (follows_each sound.read layout (root layout listings sound ∷ []) listings (given layout listings sound).2 place.0 l place.1).1

  pub root_object : Contains (objects_of listings) (root layout listings sound)
  root_object = contained (objects_of listings) 0 (root layout listings sound) (first_is_root layout listings sound)

  -- an object is the root, or a directory holds it
  pub root_or_child : (o : Object) → Contains (objects_of listings) o → (root layout listings sound ≡ o) ⊎ ((l : Listing) × Contains listings l × Contains l.children o)
  root_or_child o at =
      ⊎_elim (λ e. inl e) (λ later. inr (from_flat (λ l. l.children) listings o later))
      (contains_cases (root layout listings sound) o (flat_map (λ l. l.children) listings) (subst (λ (os : List Object). Contains os o) (root_and_held layout listings sound) at))

  -- of each path there is one object
  pub same_object : (path : Path) (o p : Object) → Contains (objects_of listings) o → Contains (objects_of listings) p
      → is_same_path path o.path ≡ true → is_same_path path p.path ≡ true → o ≡ p
  same_object path o p at bt e f = one_passes (is_at path) (objects_of listings) o p (few_objects layout listings sound path) at bt e f

  -- and one listing
  pub same_listing : (path : Path) (l k : Listing) → Contains listings l → Contains listings k
      → is_same_path path l.object.path ≡ true → is_same_path path k.object.path ≡ true → l ≡ k
  same_listing path l k at bt e f =
      let i = place_of listings l at in
      let j = place_of listings k bt in
      same_place listings i.0 l k i.1 (ap (slice_get listings) (one_listing layout listings sound path i.0 j.0 l k i.1 j.1 e f) ∙ j.1)

  -- what is listed at an object's path is the object
  pub listing_of : (o : Object) (l : Listing) → Contains (objects_of listings) o → listing_at listings o.path ≡ Some l → Contains listings l × (l.object ≡ o)
  listing_of o l at h =
      let found = found_passes (λ (k : Listing). is_same_path o.path k.object.path) listings l h in
      let there = listed_directory layout listings sound l found.0 in
      (found.0, same_object o.path l.object o there.0 at found.1 (itself o.path))
