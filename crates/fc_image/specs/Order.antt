-- What a walk finds, apart from the order in which it finds it.
use Rattle.std.specs.Prelude.{◌≡◌, ◌≤◌, ℕ, ◌+◌, List, ◌∷◌, length, map, filter, Ok, IsPermutation}
use Rattle.std.specs.List.{flat_map}
use Rattle.fc_image.specs.Layout.{Layout, disc_sectors}
use Rattle.fc_image.specs.Walk.{Object, Listing, Reader, is_directory_object, walk}
use Rattle.fc_image.specs.Objects.{objects_of}
use Rattle.fc_image.specs.Edits.{Apart, IsRoot, StayListed}

-- the objects of the listed directories themselves
abbrev pub listed : List Listing → List Object
listed listings = map (λ l. l.object) listings

-- all objects in them
abbrev pub held : List Listing → List Object
held listings = flat_map (λ l. l.children) listings

-- those objects that are directories
abbrev pub directories : List Object → List Object
directories objects = filter is_directory_object objects

-- The bytes of each directory say what is listed, and the listed directories are the root and every directory that one of them
-- holds, each once, in any order.
pub record AreListings (read : Reader) (layout : Layout) (root : Object) (listings : List Listing) : Type 0 where
  pub say : StayListed read layout listings
  pub all : IsPermutation (listed listings) (root ∷ directories (held listings))

-- A walk finds exactly such listings. So an edit only has to say what is listed, not in which order a walk comes by it.
pub record OrderLaw : Type 0 where
  -- A walk finds the listings in some order, if the objects lie apart and there are at most as many directories as sectors and one.
  pub makes : (read : Reader) (layout : Layout) (reserved : List ℕ) (address size : ℕ) (root : Object) (listings : List Listing)
      → IsRoot layout address size root → AreListings read layout root listings → Apart reserved (root ∷ held listings)
      → length listings ≤ disc_sectors layout + 1
      → (found : List Listing) × (walk read layout reserved address size ≡ Ok found) × IsPermutation listings found
  -- Conversely, every walk ends with such listings.
  pub gives : (read : Reader) (layout : Layout) (reserved : List ℕ) (address size : ℕ) (found : List Listing)
      → walk read layout reserved address size ≡ Ok found
      → (root : Object) × IsRoot layout address size root × AreListings read layout root found × Apart reserved (root ∷ held found)
      × (objects_of found ≡ root ∷ held found)
  -- Neither fact depends on the order.
  pub listings : (read : Reader) (layout : Layout) (root : Object) (listings others : List Listing)
      → AreListings read layout root listings → IsPermutation listings others → AreListings read layout root others
  pub apart : (taken : List ℕ) (objects others : List Object) → Apart taken objects → IsPermutation objects others → Apart taken others
