-- What is written into one directory and into holes.
use Rattle.std.proofs.Common.{◌≡◌, ℕ, Bool, List, [], ◌∷◌, ◌++◌, refl}
use Rattle.std.specs.Prelude.{IsPermutation, filter}
use Rattle.std.proofs.lemmas.List.Sorted.{IsPermutation-trans, IsPermutation-sym, IsPermutation-cons, IsPermutation-append_left, IsPermutation-map, IsPermutation-filter_both}
use Rattle.fc_record.specs.declared.DiscRecord.{DiscRecord}
use Rattle.fc_record.specs.declared.Kind.{Kind}
use Rattle.fc_newmap.specs.Map.{Map}
use Rattle.fc_image.specs.Layout.{Layout}
use Rattle.fc_image.specs.Walk.{Listing, reader_of, is_directory_object}
use Rattle.fc_image.specs.Opening.{Opened, reserved_in}
use Rattle.fc_image.specs.Stays.{IsNewKind, OpensAs}
use Rattle.fc_image.specs.Edits.{IsApartFrom}
use Rattle.fc_image.specs.Order.{listed, held, directories}
use Rattle.fc_image.proofs.HolesLemmas.{apart_from}
use Rattle.fc_image.proofs.EditLemmas.{apart_law, apart_turned as turned}
use Rattle.fc_image.proofs.MoveLemmas.{open_by}
use Rattle.fc_image.proofs.OrderLemmas.{order_law, apart_shuffled}
use Rattle.fc_image.proofs.MapEditLemmas.{is_file}

-- ---- one directory and all other objects

module _ (kind : Kind) (r : DiscRecord) (image image' : List ℕ) (v : Opened) (m : Map) (rest : List Listing) (l : Listing) (new : IsNewKind kind r) (opens : OpensAs image kind v)
    (layout : v.layout ≡ Layout.New m) (found : IsPermutation v.listings (l ∷ rest)) where
  abbrev reserved : List ℕ
  reserved = reserved_in kind (Layout.New m)

  -- the directory is apart from the other directories, and from all files
  pub cut : IsApartFrom reserved (listed rest ++ filter is_file (held v.listings)) l.object
  cut =
      let o = open_by image kind r v m new opens layout in
      let had = order_law.gives (reader_of image (Layout.New m)) (Layout.New m) reserved o.root o.size v.listings o.walked in
      let files = filter is_file (held v.listings) in
      let whole : IsPermutation (had.0 ∷ held v.listings) (l.object ∷ (listed rest ++ files)) =
      IsPermutation-trans (had.0 ∷ held v.listings) ((had.0 ∷ directories (held v.listings)) ++ files) (l.object ∷ (listed rest ++ files))
      (IsPermutation-cons had.0 (held v.listings) (directories (held v.listings) ++ files) (IsPermutation-filter_both is_directory_object is_file (λ p. refl) (held v.listings)))
      (IsPermutation-append_left files (had.0 ∷ directories (held v.listings)) (l.object ∷ listed rest)
      (IsPermutation-trans (had.0 ∷ directories (held v.listings)) (listed v.listings) (l.object ∷ listed rest)
      (IsPermutation-sym (listed v.listings) (had.0 ∷ directories (held v.listings)) had.2.all) (IsPermutation-map (λ (k : Listing). k.object) v.listings (l ∷ rest) found))) in
      (apart_law.removed reserved [] (listed rest ++ files) l.object (apart_shuffled reserved (had.0 ∷ held v.listings) (l.object ∷ (listed rest ++ files)) had.3 whole)).1
