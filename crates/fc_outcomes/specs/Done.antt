-- The law `done`: the new image opens with the listings after the edit, the parts in memory are its own, and what the edit is to the tree.
use Rattle.std.specs.Prelude.{◌≡◌, ℕ, true, Contains, List, ◌++◌, map, IsPermutation}
use Rattle.fc_names.specs.Names.{Path}
use Rattle.fc_record.specs.declared.DiscRecord.{DiscRecord}
use Rattle.fc_record.specs.declared.Kind.{Kind}
use Rattle.fc_alloc.specs.declared.owner.Owner.{Owner}
use Rattle.fc_image.specs.Layout.{Layout, is_apart, sector_bytes}
use Rattle.fc_image.specs.Walk.{Listing, Object}
use Rattle.fc_image.specs.Stays.{HasSectorsOf, IsNewKind, OpensAs}
use Rattle.fc_image.specs.Opening.{reserved_in}
use Rattle.fc_image.specs.TreeEdits.{IsMove, IsObjectEdit}
use Rattle.fc_tree.specs.Parts.{ArePartsOf}
use Rattle.fc_image.specs.Opening.{Opened}
use Rattle.fc_changes.specs.old.Owed.{holding}
use Rattle.fc_laws.specs.nodes.Edits.{Nodes}
use Rattle.fc_edits.specs.Edit.{Amended, Edit, listings_after, objects}
use Rattle.fc_edits.specs.Places.{Stays}
use Rattle.fc_edits.specs.OldPlaces.{with_holes}
use Rattle.fc_edits.specs.PartsEdit.{NewPartsEdit, OldPartsEdit, PartsEdit}
use Rattle.fc_outcomes.specs.Written.{IsEditWritten, IsNewMapWritten, IsOldMapWritten, KeepsPaths, MovesPaths, WritesForEdit}

-- The image opens with this layout and the listings after the edit, in some order, and these are its parts.
pub record IsDone (kind : Kind) (image' : List ℕ) (layout' : Layout) (nodes' : Nodes) (owners' : List Owner) (e : Edit) : Type 0 where
  pub found : List Listing
  pub opens : OpensAs image' kind (record { kind = kind; layout = layout'; listings = found })
  pub order : IsPermutation (listings_after e) found
  pub parts : ArePartsOf (record { layout = layout'; nodes = nodes'; owners = owners' }) (record { kind = kind; layout = layout'; listings = found })

-- the image as it opened before the edit
abbrev pub view_before : PartsEdit → Opened
view_before x = record { kind = x.kind; layout = x.layout; listings = x.listings }

-- for any edit, over any number of directories
pub record DoneLaw : Type 0 where
  -- on a new map: if no path changes, and if all at or below one moves
  pub new : (x : NewPartsEdit) (r : DiscRecord) (image image' : List ℕ) (changing : List Object) → IsNewKind x.kind r
      → OpensAs image x.kind (record { kind = x.kind; layout = Layout.New x.m; listings = x.listings }) → IsEditWritten image image' (Layout.New x.m) (Layout.New x.m') x.nodes x.listings x.edit
      → IsNewMapWritten x.kind r image image' x.m x.m' x.listings x.edit → KeepsPaths image image' (Layout.New x.m) (Layout.New x.m') x.nodes x.listings x.edit changing
      → (d : IsDone x.kind image' (Layout.New x.m') x.nodes' x.owners' x.edit)
      × IsObjectEdit image image' (Layout.New x.m) (Layout.New x.m') x.listings d.found (changing ++ objects x.edit.gone) (map x.edit.turn changing ++ objects x.edit.come)
  pub new_moved : (x : NewPartsEdit) (r : DiscRecord) (image image' : List ℕ) (from to : Path) → IsNewKind x.kind r
      → OpensAs image x.kind (record { kind = x.kind; layout = Layout.New x.m; listings = x.listings }) → IsEditWritten image image' (Layout.New x.m) (Layout.New x.m') x.nodes x.listings x.edit
      → IsNewMapWritten x.kind r image image' x.m x.m' x.listings x.edit → MovesPaths image image' (Layout.New x.m) (Layout.New x.m') x.nodes x.listings x.edit from to
      → (d : IsDone x.kind image' (Layout.New x.m') x.nodes' x.owners' x.edit) × IsMove image image' (Layout.New x.m) (Layout.New x.m') x.listings d.found from to
  -- on an old one
  pub old : (x : OldPartsEdit) (image image' : List ℕ) (changing : List Object) → OpensAs image x.kind (record { kind = x.kind; layout = Layout.Old x.space; listings = x.listings })
      → IsEditWritten image image' (Layout.Old x.space) (with_holes x.space x.holes) x.nodes x.listings x.edit → IsOldMapWritten x.kind image' x.space (holding x.space x.holes) x.listings x.edit
      → KeepsPaths image image' (Layout.Old x.space) (with_holes x.space x.holes) x.nodes x.listings x.edit changing
      → (d : IsDone x.kind image' (with_holes x.space x.holes) x.nodes' x.owners' x.edit)
      × IsObjectEdit image image' (Layout.Old x.space) (with_holes x.space x.holes) x.listings d.found (changing ++ objects x.edit.gone) (map x.edit.turn changing ++ objects x.edit.come)
  pub old_moved : (x : OldPartsEdit) (image image' : List ℕ) (from to : Path) → OpensAs image x.kind (record { kind = x.kind; layout = Layout.Old x.space; listings = x.listings })
      → IsEditWritten image image' (Layout.Old x.space) (with_holes x.space x.holes) x.nodes x.listings x.edit → IsOldMapWritten x.kind image' x.space (holding x.space x.holes) x.listings x.edit
      → MovesPaths image image' (Layout.Old x.space) (with_holes x.space x.holes) x.nodes x.listings x.edit from to
      → (d : IsDone x.kind image' (with_holes x.space x.holes) x.nodes' x.owners' x.edit) × IsMove image image' (Layout.Old x.space) (with_holes x.space x.holes) x.listings d.found from to

-- Sectors that are written for an edit are none of what stays, nor of what is reserved.
pub record KeptLaw : Type 0 where
  pub stays : (x : PartsEdit) (image image' written : List ℕ) → WritesForEdit image image' x.layout x.edit written
      → (o : Object) (s : Stays x.nodes x.listings x.edit o) → (Contains (map (λ (a : Amended). a.number) x.edit.amended) s.number → ⊥) → HasSectorsOf (sector_bytes x.layout) o.sectors image image'
  pub free : (x : PartsEdit) (image image' written : List ℕ) → WritesForEdit image image' x.layout x.edit written → reserved_in x.kind x.layout' ≡ reserved_in x.kind x.layout
      → is_apart written (reserved_in x.kind x.layout) ≡ true
