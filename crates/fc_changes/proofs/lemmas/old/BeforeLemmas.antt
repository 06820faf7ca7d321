-- What an opened disc has, whatever its map.
use Rattle.std.proofs.Common.{◌≡◌, ◌≤◌, ◌⊎◌, inl, inr, ℕ, true, List, [], ◌∷◌, ◌++◌, length, refl, sym, ap, subst, ◌∙◌, arith, zero, suc}
use Rattle.std.specs.Prelude.{Ok, Contains}
use Rattle.std.proofs.lemmas.List.Sorted.{Contains-permutation}
use Rattle.fc_record.specs.declared.Kind.{Kind}
use Rattle.fc_record.specs.Kinds.{disc_size, fits_kind}
use Rattle.fc_model.specs.Tree.{holder}
use Rattle.fc_dirs.specs.Directory.{entries_of}
use Rattle.fc_image.specs.Layout.{Layout}
use Rattle.fc_image.specs.Walk.{Listing, Object, Reader, is_directory_object, reader_of, walk}
use Rattle.fc_image.specs.Objects.{first_object, objects_of}
use Rattle.fc_image.specs.Opening.{Opened, map_and_root, reserved_in}
use Rattle.fc_image.specs.Stays.{OpensAs}
use Rattle.fc_image.specs.Edits.{Apart, IsListing, IsRoot, StayListed}
use Rattle.fc_image.specs.Order.{AreListings, directories, held, listed}
use Rattle.fc_image.specs.Sound.{AreSound}
use Rattle.fc_image.proofs.FreeLemmas.{parts_of}
use Rattle.fc_image.proofs.HolesLemmas.{Each-contains, Each-objects, Lies, walk_lies}
use Rattle.fc_image.proofs.OrderLemmas.{order_law}
use Rattle.fc_image.proofs.ShuffleLemmas.{same_first}
use Rattle.fc_image.proofs.EntriesLemmas.{from_filter, in_mapped}
use Rattle.fc_image.proofs.MapEditLemmas.{stays_listed}
use Rattle.fc_image.proofs.RenameLemmas.{child_path}
use Rattle.fc_image.proofs.TreeLemmas.{tree_edit_law}
use Rattle.fc_changes.proofs.BasicLemmas.{cases_cons, first_in, holder_pushed, in_flat, next_in}

-- what is opened is of this kind and has this layout
pub opened_as : (kind : Kind) (image : List ℕ) (v : Opened) (y : Layout) → OpensAs image kind v → v.layout ≡ y
    → (let u : Opened = record { kind = kind; layout = y; listings = v.listings } in u) ≡ v
opened_as kind image v y opens layout =
    let p = parts_of image kind v opens.opened in
    let same : kind ≡ v.kind = ap (λ (w : Opened). w.kind) p.1.4 in
    λ j. record { kind = same j; layout = sym layout j; listings = v.listings }

module _ (kind : Kind) (image : List ℕ) (y : Layout) (ls : List Listing) (opens : OpensAs image kind (record { kind = kind; layout = y; listings = ls })) where
  abbrev pub old : Opened
  old = record { kind = kind; layout = y; listings = ls }

  abbrev pub read : Reader
  read = reader_of image y

  abbrev pub reserved : List ℕ
  reserved = reserved_in kind y

  -- the walk over its directories
  pub record Walked : Type 0 where
    pub address : ℕ
    pub size : ℕ
    pub long : disc_size kind ≤ length image
    pub found : map_and_root image kind ≡ Ok (y, address, size)
    pub walked : walk read y reserved address size ≡ Ok ls
    pub fits : fits_kind image kind ≡ true

  pub parts : Walked
  parts =
      let p = parts_of image kind old opens.opened in
      let is : p.0.0 ≡ y = ap (λ (w : Opened). w.layout) p.1.4 in
      record {
        address = p.0.1;
        size = p.0.2;
        long = p.1.0;
        found = subst (λ (z : Layout). map_and_root image kind ≡ Ok (z, p.0.1, p.0.2)) is p.1.1;
        walked = subst (λ (z : Layout). walk (reader_of image z) z (reserved_in kind z) p.0.1 p.0.2 ≡ Ok ls) is p.1.2;
        fits = p.1.5;
      }

  -- the root, and what the directories say
  pub record Had : Type 0 where
    pub root : Object
    pub is_root : IsRoot y parts.address parts.size root
    pub all : AreListings read y root ls
    pub apart : Apart reserved (root ∷ held ls)
    pub objects : objects_of ls ≡ root ∷ held ls
    pub first : first_object ls ≡ root ∷ []

  pub had : Had
  had =
      let h = order_law.gives read y reserved parts.address parts.size ls parts.walked in
      record { root = h.0; is_root = h.1; all = h.2; apart = h.3; objects = h.4; first = top ls h.0 (held ls) h.4 }
    where
      top : (xs : List Listing) (root : Object) (others : List Object) → first_object xs ++ held xs ≡ root ∷ others → first_object xs ≡ root ∷ []
      top [] root others e = absurd (cc)
      top (l ∷ xs) root others e = ap (λ (o : Object). o ∷ []) (same_first l.object root (l.children ++ held xs) others e)

  pub sound : AreSound y ls
  sound = tree_edit_law.opened image kind old opens

  -- where an object lies
  pub object_lies : (o : Object) → Contains (objects_of ls) o → Lies y reserved o
  object_lies o at =
      Each-contains (Lies y reserved) (objects_of ls) o (Each-objects (Lies y reserved) ls (walk_lies read y reserved parts.address parts.size ls parts.walked)) at

  -- a listed directory is an object
  pub listed_in : (l : Listing) → Contains ls l → Contains (objects_of ls) l.object
  listed_in l at =
      subst (λ (os : List Object). Contains os l.object) (sym had.objects)
      (elim (cases_cons had.root (directories (held ls)) l.object
      (Contains-permutation (listed ls) (had.root ∷ directories (held ls)) l.object had.all.all (in_mapped (λ (x : Listing). x.object) ls l at))) [
        | inl top ↦ subst (λ (o : Object). Contains (had.root ∷ held ls) o) top (first_in had.root (held ls))
        | inr kept ↦ next_in had.root l.object (held ls) (from_filter is_directory_object (held ls) l.object kept)
      ])

  pub says_old : (l : Listing) → Contains ls l → IsListing read y l
  says_old l at = stays_listed read y ls l had.all.say at

  -- the directory that holds a directory
  pub record HeldBy (l : Listing) : Type 0 where
    pub dir : Listing
    pub there : Contains ls dir
    pub same : holder l.object.path ≡ dir.object.path
    pub child : (dir ≡ l) ⊎ Contains dir.children l.object

  pub held_by : (l : Listing) → Contains ls l → HeldBy l
  held_by l at =
      let among = Contains-permutation (listed ls) (had.root ∷ directories (held ls)) l.object had.all.all (in_mapped (λ (x : Listing). x.object) ls l at) in
      elim (cases_cons had.root (directories (held ls)) l.object among) [
        | inl top ↦ (let none : l.object.path ≡ [] = ap (λ (o : Object). o.path) (sym top) ∙ had.is_root.path in
            record { dir = l; there = at; same = ap holder none ∙ sym none; child = inl refl })
        | inr kept ↦ (let r' = in_flat (λ (x : Listing). x.children) ls l.object (from_filter is_directory_object (held ls) l.object kept) in
            let path = child_path y r'.0.object.path (entries_of r'.0.content) r'.0.children l.object (says_old r'.0 r'.1).1 r'.2 in
            record { dir = r'.0; there = r'.1; same = ap holder path ∙ holder_pushed r'.0.object.path l.object.entry.name; child = inr r'.2 })
      ]
