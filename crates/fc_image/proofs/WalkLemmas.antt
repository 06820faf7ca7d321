-- Walks by two readers that tell the same.
use Rattle.std.proofs.Common.{◌≡◌, ◌≤◌, ℕ, zero, suc, Bool, true, false, List, [], ◌∷◌, ◌++◌, length, refl, sym, ap, subst, arith, None}
use Rattle.std.specs.Prelude.{Result, Ok, Err, Contains, filter, nat_lt}
use Rattle.std.proofs.lemmas.Bool.{ltb-true}
use Rattle.fc_record.specs.declared.Kind.{Kind}
use Rattle.fc_record.specs.Kinds.{disc_size, fits_kind}
use Rattle.fc_dirs.specs.declared.DirFault.{DirFault}
use Rattle.fc_dirs.specs.Directory.{Directory, entries_of, directory_size}
use Rattle.fc_image.specs.declared.ImageFault.{ImageFault}
use Rattle.fc_image.specs.Layout.{Layout, dir_form}
use Rattle.fc_image.specs.Walk.{◌>>=◌, Object, Listing, Reader, reader_of, at_path, object_of, children_of, is_directory_object, listings_from, root_entry, walk}
use Rattle.fc_image.specs.Objects.{objects_of}
use Rattle.fc_image.specs.Opening.{map_and_root, reserved_in, misplaced_sector, open_as}
use Rattle.fc_image.specs.Laws.{Tells}
use Rattle.fc_names.specs.Names.{Path}

pub bind_ok : {A B : Type 0} (r : Result A ImageFault) (f : A → Result B ImageFault) (y : B) → (r >>= f) ≡ Ok y → (x : A) × (r ≡ Ok x) × (f x ≡ Ok y)
bind_ok (Ok x) f y e = (x, refl, e)
bind_ok (Err fault) f y e = absurd (cc)

ok_same : {A : Type 0} (x y : A) → (let r : Result A ImageFault = Ok x in r) ≡ Ok y → x ≡ y
ok_same x y e = cc

read_ok : (path : Path) (r : Result Directory DirFault) (dir : Directory) → at_path path r ≡ Ok dir → r ≡ Ok dir
read_ok path (Ok other) dir e = ap (λ (d : Directory). Ok d) (ok_same other dir e)
read_ok path (Err fault) dir e = absurd (cc)

Contains-cases : (x : Listing) (xs : List Listing) (y : Listing) → Contains (x ∷ xs) y → Result (x ≡ y) (Contains xs y)
Contains-cases x xs y (zero, h, e) = Ok e
Contains-cases x xs y (suc k, h, e) = Err (k, omega arith, e)

in_head : (x : Listing) (xs : List Listing) → Contains (x ∷ xs) x
in_head x xs = (0, omega arith, refl)

in_tail : (x : Listing) (xs : List Listing) (y : Listing) → Contains xs y → Contains (x ∷ xs) y
in_tail x xs y (k, h, e) = (suc k, omega arith, e)

nothing_in : (l : Listing) → Contains [] l → ⊥
nothing_in l (k, h, e) = omega arith

module _ (read : Reader) (layout : Layout) where
  in_none : (listings : List Listing) (l : Listing) → (let r : Result (List Listing) ImageFault = Ok [] in r) ≡ Ok listings → Contains listings l → ⊥
  in_none [] l e c = nothing_in l c
  in_none (x ∷ listings) l e c = cc

  pub listings_from-Tells : (fuel : ℕ) (taken : List ℕ) (waiting : List Object) (listings : List Listing)
      → listings_from read layout fuel taken waiting ≡ Ok listings → Tells read listings
  unfolding listings_from
  listings_from-Tells zero taken [] listings e l c = absurd (in_none listings l e c)
  listings_from-Tells zero taken (o ∷ waiting) listings e l c = absurd (cc)
  listings_from-Tells (suc fuel) taken [] listings e l c = absurd (in_none listings l e c)
  listings_from-Tells (suc fuel) taken (o ∷ waiting) listings e l c =
      let a = bind_ok (at_path o.path (read o)) _ listings e in
      let b = bind_ok (children_of layout taken o.path (entries_of a.0)) _ listings a.2 in
      let d = bind_ok (listings_from read layout fuel b.0.1 (waiting ++ filter is_directory_object b.0.0)) _ listings b.2 in
      let first : Listing = record { object = o; content = a.0; children = b.0.0 } in
      let same : first ∷ d.0 ≡ listings = ok_same _ listings d.2 in
      elim (Contains-cases first d.0 l (rw (← same) at c)) [
        | Ok here ↦ rw (← here) (read_ok o.path (read o) a.0 a.1)
        | Err later ↦ listings_from-Tells fuel b.0.1 (waiting ++ filter is_directory_object b.0.0) d.0 d.1 l later
      ]

module _ (read other : Reader) (layout : Layout) where
  pub listings_from-any : (fuel : ℕ) (taken : List ℕ) (waiting : List Object) (listings : List Listing)
      → listings_from read layout fuel taken waiting ≡ Ok listings → Tells other listings → listings_from other layout fuel taken waiting ≡ Ok listings
  unfolding listings_from
  listings_from-any zero taken [] listings e tells = e
  listings_from-any zero taken (o ∷ waiting) listings e tells = absurd (cc)
  listings_from-any (suc fuel) taken [] listings e tells = e
  listings_from-any (suc fuel) taken (o ∷ waiting) listings e tells =
      let a = bind_ok (at_path o.path (read o)) _ listings e in
      let b = bind_ok (children_of layout taken o.path (entries_of a.0)) _ listings a.2 in
      let d = bind_ok (listings_from read layout fuel b.0.1 (waiting ++ filter is_directory_object b.0.0)) _ listings b.2 in
      let first : Listing = record { object = o; content = a.0; children = b.0.0 } in
      let same : first ∷ d.0 ≡ listings = ok_same _ listings d.2 in
      let all : Tells other (first ∷ d.0) = subst (λ (ls : List Listing). Tells other ls) (sym same) tells in
      let here = all first (in_head first d.0) in
      let rest = listings_from-any fuel b.0.1 (waiting ++ filter is_directory_object b.0.0) d.0 d.1 (λ l c. all l (in_tail first d.0 l c)) in
      rw (here, b.1, rest) (ap (λ (ls : List Listing). Ok ls) same)

pub walk-Tells : (read : Reader) (layout : Layout) (reserved : List ℕ) (address size : ℕ) (listings : List Listing)
    → walk read layout reserved address size ≡ Ok listings → Tells read listings
unfolding walk
walk-Tells read layout reserved address size listings e =
    let root = bind_ok (object_of layout reserved [] (root_entry address (directory_size (dir_form layout) size))) _ listings e in
    listings_from-Tells read layout _ _ _ listings root.2

pub walk-any : (read other : Reader) (layout : Layout) (reserved : List ℕ) (address size : ℕ) (listings : List Listing)
    → walk read layout reserved address size ≡ Ok listings → Tells other listings → walk other layout reserved address size ≡ Ok listings
unfolding walk
walk-any read other layout reserved address size listings e tells =
    let root = bind_ok (object_of layout reserved [] (root_entry address (directory_size (dir_form layout) size))) _ listings e in
    rw root.1 (listings_from-any read other layout _ _ _ listings root.2 tells)

pub not_below : (b : Bool) (m n : ℕ) → nat_lt m n ≡ b → n ≤ m → b ≡ false
not_below false m n e le = refl
not_below true m n e le = absurd (let lt = ltb-true m n e in omega arith)

pub open_as-spelled : (image : List ℕ) (kind : Kind) (layout : Layout) (address size : ℕ) (read : Reader) (listings : List Listing)
    → fits_kind image kind ≡ true → disc_size kind ≤ length image → map_and_root image kind ≡ Ok (layout, address, size)
    → walk read layout (reserved_in kind layout) address size ≡ Ok listings → misplaced_sector kind layout (objects_of listings) ≡ None
    → Tells (reader_of image layout) listings
    → open_as image kind ≡ Ok (record { kind = kind; layout = layout; listings = listings })
unfolding open_as
open_as-spelled image kind layout address size read listings fits long found walked fast tells =
    let here = walk-any read (reader_of image layout) layout (reserved_in kind layout) address size listings walked tells in
    rw (fits, not_below _ (length image) (disc_size kind) refl long, found, here, fast) refl
