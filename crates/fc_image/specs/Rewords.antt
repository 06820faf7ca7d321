-- New words and attributes for one object, a file or a directory with its contents, on discs with new maps. The directory that holds
-- it is written to its old place.
use Rattle.std.specs.Prelude.{◌≡◌, ◌<◌, ℕ, true, false, List, [], ◌∷◌, slice_get, slice_set, Some, Ok, Contains, IsPermutation}
use Rattle.fc_names.specs.Names.{Path, is_same_path}
use Rattle.fc_record.specs.declared.DiscRecord.{DiscRecord}
use Rattle.fc_record.specs.declared.Kind.{Kind}
use Rattle.fc_record.specs.Kinds.{map_record}
use Rattle.fc_newmap.specs.Map.{Map, sector_of, id_runs, is_used}
use Rattle.fc_dirs.specs.Directory.{Directory, entries_of}
use Rattle.fc_image.specs.Layout.{Layout}
use Rattle.fc_image.specs.Walk.{Object, Listing, reader_of, is_directory_object}
use Rattle.fc_image.specs.Objects.{objects_of, is_movable}
use Rattle.fc_image.specs.Opening.{Opened}
use Rattle.fc_image.specs.Stays.{HasSectorsOf}
use Rattle.fc_image.specs.Order.{held}
use Rattle.fc_image.specs.TreeEdits.{IsObjectEdit}
use Rattle.fc_image.specs.Commanded.{set_object, mark_object}
use Rattle.fc_image.specs.EditedWalk.{AreListedBy}
use Rattle.fc_image.specs.MapEdits.{KeepsPlace, IsMapEdit, OpensEdited}
use Rattle.fc_image.specs.InPlace.{says_now}

-- Only the object at the path may change, and only in its entry. It keeps name, address and length, and stays a file or a directory.
pub record IsRewording (path : Path) (g : Object → Object) : Type 0 where
  pub same_path : (o : Object) → (g o).path ≡ o.path
  pub sectors : (o : Object) → (g o).sectors ≡ o.sectors
  pub name : (o : Object) → (g o).entry.name ≡ o.entry.name
  pub address : (o : Object) → (g o).entry.address ≡ o.entry.address
  pub len : (o : Object) → (g o).entry.len ≡ o.entry.len
  pub kind : (o : Object) → is_directory_object (g o) ≡ is_directory_object o
  pub others : (o : Object) → is_same_path path o.path ≡ false → g o ≡ o

-- Object i of directory l gets a new entry. The other directories, `rest`, say what they said, each object keeps its place, and each
-- file its bytes.
pub record IsReword (kind : Kind) (r own : DiscRecord) (image image' : List ℕ) (v : Opened) (m m' : Map) (root : Object) (rest : List Listing) (l : Listing) (content : Directory)
    (i : ℕ) (o : Object) (g : Object → Object) : Type 0 where
  pub maps : IsMapEdit kind r own image image' v m m' root
  pub record_stays : map_record (sector_of m' 0) ≡ map_record (sector_of m 0)
  pub found : IsPermutation v.listings (l ∷ rest)
  pub at : slice_get l.children i ≡ Some o
  pub reads : reader_of image' (Layout.New m') l.object ≡ Ok content
  pub entries : entries_of content ≡ slice_set (entries_of l.content) i (g o).entry
  pub others : (k : Listing) → Contains rest k → (c : Directory) × (reader_of image' (Layout.New m') (g k.object) ≡ Ok c) × (entries_of c ≡ entries_of k.content)
  pub places : (p : Object) → Contains (objects_of v.listings) p → KeepsPlace m m' p
  pub files : (p : Object) → Contains (held v.listings) p → is_directory_object p ≡ false → HasSectorsOf m.geometry.sector p.sectors image image'
  pub fixed : (k : ℕ) → is_movable (objects_of v.listings) k ≡ false → is_used m k ≡ true → id_runs m' k ≡ id_runs m k

-- The new image opens with the listing of l and with the others, of which each directory and each object is changed by g. What they
-- say is what their bytes tell.
pub record RewordLaw : Type 0 where
  pub set : (path : Path) (load exec access : ℕ) → access < 8 → IsRewording path (set_object path load exec access)
  pub mark : (path : Path) (attrs : ℕ) → IsRewording path (mark_object path attrs)
  pub opens : (kind : Kind) (r own : DiscRecord) (image image' : List ℕ) (v : Opened) (m m' : Map) (root : Object) (rest : List Listing) (l : Listing) (content : Directory)
      (i : ℕ) (o : Object) (g : Object → Object) → IsRewording o.path g → IsReword kind r own image image' v m m' root rest l content i o g
      → (rest' : List Listing) × AreListedBy g rest rest' × (w : OpensEdited kind image' (Layout.New m') (says_now l content (slice_set l.children i (g o)) ∷ rest'))
      × IsObjectEdit image image' v.layout (Layout.New m') v.listings w.found (o ∷ []) (g o ∷ [])
