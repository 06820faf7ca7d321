-- Sound listings: those that a walk can find.
use Rattle.std.specs.Prelude.{◌≡◌, ℕ, List, true, None, Some, Ok, Contains}
use Rattle.fc_names.specs.Names.{Path, is_same_path}
use Rattle.fc_dirs.specs.Entries.{first_twin}
use Rattle.fc_dirs.specs.Directory.{entries_of}
use Rattle.fc_image.specs.Layout.{Layout}
use Rattle.fc_image.specs.Walk.{Object, Listing, Reader, walk}
use Rattle.fc_image.specs.Objects.{objects_of, object_at, listing_at}

-- A walk by some reader finds these listings, and no directory has two names that fold to one.
pub record AreSound (layout : Layout) (listings : List Listing) : Type 0 where
  pub read : Reader
  pub reserved : List ℕ
  pub address : ℕ
  pub size : ℕ
  pub walked : walk read layout reserved address size ≡ Ok listings
  pub apart : (l : Listing) → Contains listings l → first_twin (entries_of l.content) ≡ None

-- An object of a sound walk, and a listing, is the one that its path leads to.
pub record LookupLaw : Type 0 where
  pub object : (layout : Layout) (listings : List Listing) (path : Path) (o : Object) → AreSound layout listings → Contains (objects_of listings) o
      → is_same_path path o.path ≡ true → object_at listings path ≡ Some o
  pub listing : (layout : Layout) (listings : List Listing) (path : Path) (l : Listing) → AreSound layout listings → Contains listings l
      → is_same_path path l.object.path ≡ true → listing_at listings path ≡ Some l
