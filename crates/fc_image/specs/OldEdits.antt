-- Edits of directories on discs with old maps: when the new image opens, and with which objects.
use Rattle.std.specs.Prelude.{◌≡◌, ◌<◌, ◌≤◌, ℕ, ◌+◌, true, List, [], ◌∷◌, ◌++◌, length, map, Ok, Contains, IsPermutation}
use Rattle.fc_names.specs.Names.{Path}
use Rattle.fc_record.specs.declared.Kind.{Kind}
use Rattle.fc_record.specs.Kinds.{fits_kind}
use Rattle.fc_oldmap.specs.OldMap.{OldMapContent}
use Rattle.fc_image.specs.Layout.{Layout}
use Rattle.fc_image.specs.Walk.{Object, Listing, reader_of}
use Rattle.fc_image.specs.Objects.{first_object}
use Rattle.fc_image.specs.Opening.{Opened, map_and_root, reserved_in}
use Rattle.fc_image.specs.Stays.{OpensAs}
use Rattle.fc_image.specs.Edits.{IsAt, Apart, StayListed}
use Rattle.fc_image.specs.TreeEdits.{IsObjectEdit, IsMove}
use Rattle.fc_image.specs.Commanded.{IsKept, IsMoved}
use Rattle.fc_image.specs.EditedWalk.{IsRelisting}
use Rattle.fc_image.specs.MapEdits.{OpensEdited}

-- on an old map an object keeps its sectors, whatever happens to the holes
abbrev pub OldPlacesLaw : Type 0
OldPlacesLaw = (space space' : OldMapContent) (o : Object) → space'.sector_units ≡ space.sector_units → space'.disc_units ≡ space.disc_units
    → IsAt (Layout.Old space) o → IsAt (Layout.Old space') o

-- Objects go, come and change on a disc with an old map. The new image has an old map of the same disc, the root stays, and no object
-- lies in a hole of the new map.
pub record IsOldMapEdit (kind : Kind) (image image' : List ℕ) (v : Opened) (space space' : OldMapContent) (root : Object) (g : Object → Object)
    (listings' : List Listing) (gone come kept : List Object) : Type 0 where
  pub opens : OpensAs image kind v
  pub layout : v.layout ≡ Layout.Old space
  pub first : first_object v.listings ≡ root ∷ []
  pub sector_stays : space'.sector_units ≡ space.sector_units
  pub disc_stays : space'.disc_units ≡ space.disc_units
  pub address : ℕ
  pub found : map_and_root image' kind ≡ Ok (Layout.Old space', address, 0)
  pub fits : fits_kind image' kind ≡ true
  pub length_stays : length image' ≡ length image
  pub relisted : IsRelisting g v.listings listings' gone come kept
  pub few : length listings' ≤ length v.listings + 1
  pub say : StayListed (reader_of image' (Layout.Old space')) (Layout.Old space') listings'
  pub root_stays : g root ≡ root
  pub apart : Apart (reserved_in kind (Layout.Old space')) (come ++ map g (root ∷ kept))

pub record OldMapEditLaw : Type 0 where
  pub any : (kind : Kind) (image image' : List ℕ) (v : Opened) (space space' : OldMapContent) (root : Object) (g : Object → Object) (listings' : List Listing)
      (gone come kept changing others : List Object) → IsOldMapEdit kind image image' v space space' root g listings' gone come kept
      → IsPermutation kept (changing ++ others) → ((o : Object) → Contains others o → IsKept image image' (Layout.Old space) (Layout.Old space') o (g o))
      → (w : OpensEdited kind image' (Layout.Old space') listings') × IsObjectEdit image image' v.layout (Layout.Old space') v.listings w.found (changing ++ gone) (map g changing ++ come)
  pub any_moved : (kind : Kind) (image image' : List ℕ) (v : Opened) (space space' : OldMapContent) (root : Object) (g : Object → Object) (listings' : List Listing) (kept : List Object) (from to : Path)
      → IsOldMapEdit kind image image' v space space' root g listings' [] [] kept → 0 < length from
      → ((o : Object) → Contains kept o → IsMoved from to image image' (Layout.Old space) (Layout.Old space') o (g o))
      → (w : OpensEdited kind image' (Layout.Old space') listings') × IsMove image image' v.layout (Layout.Old space') v.listings w.found from to
