-- What becomes of an old map, and where objects lie on it after an edit.
use Rattle.std.specs.Prelude.{◌≡◌, ◌⊎◌, ℕ, true, false, List, Contains}
use Rattle.fc_record.specs.declared.Kind.{Kind}
use Rattle.fc_oldmap.specs.declared.Hole.{Hole}
use Rattle.fc_oldmap.specs.OldMap.{OldMapContent}
use Rattle.fc_alloc.specs.declared.owner.Owner.{Owner}
use Rattle.fc_image.specs.Layout.{Layout, hole_sectors, is_among, map_place}
use Rattle.fc_image.specs.Walk.{Listing, Object}
use Rattle.fc_image.specs.Edits.{IsAt}
use Rattle.fc_tree.specs.declared.node.Node.{Node}
use Rattle.fc_changes.specs.old.Owed.{holding}
use Rattle.fc_laws.specs.nodes.Edits.{Nodes}
use Rattle.fc_laws.specs.old.agree.Laws.{AgreeOn}
use Rattle.fc_edits.specs.Edit.{Edit, IsEdit, joining, leaving, objects}
use Rattle.fc_edits.specs.NewPlaces.{HasPlaceOf}
use Rattle.fc_edits.specs.Places.{ApartPairs, WalkFits}

-- the layout of a disc whose old map has these holes
abbrev pub with_holes : OldMapContent → List Hole → Layout
with_holes space holes = Layout.Old (holding space holes)

-- An object keeps the place of one that leaves a directory, or lies in sectors that were holes.
abbrev pub OldLiesAgain : OldMapContent → Edit → Object → Type 0
OldLiesAgain space e o =
    ((q : ℕ × Object) × Contains (leaving e) q × HasPlaceOf o q.1)
    ⊎ ((s : ℕ) → is_among o.sectors s ≡ true → (is_among (hole_sectors (Layout.Old space)) s ≡ true) × (is_among (map_place (Layout.Old space)) s ≡ false))

-- The map gets these holes. A sector of one was in a hole before, or in an object that leaves its directory; what joins a directory lies
-- at its address, and in none of them.
pub record OldPlaces (space : OldMapContent) (holes : List Hole) (e : Edit) : Type 0 where
  pub left : (s : ℕ) → is_among (hole_sectors (with_holes space holes)) s ≡ true
      → (is_among (hole_sectors (Layout.Old space)) s ≡ true) ⊎ ((q : ℕ × Object) × Contains (leaving e) q × (is_among q.1.sectors s ≡ true))
  pub placed : (p : ℕ × Object) → Contains (joining e) p → IsAt (Layout.Old space) p.1
  pub lies : (p : ℕ × Object) → Contains (joining e) p → OldLiesAgain space e p.1
  pub free : (p : ℕ × Object) → Contains (joining e) p → (s : ℕ) → is_among p.1.sectors s ≡ true → is_among (hole_sectors (with_holes space holes)) s ≡ false
  pub pairs : ApartPairs (objects (joining e))

-- So the edit has its places.
abbrev pub OldPlacesLaw : Type 0
OldPlacesLaw = (kind : Kind) (space : OldMapContent) (holes : List Hole) (nodes : Nodes) (owners : List Owner) (root : Node) (listings : List Listing) (e : Edit)
    → AgreeOn kind space nodes owners root listings → IsEdit nodes listings e → OldPlaces space holes e → WalkFits kind (Layout.Old space) (with_holes space holes) nodes listings e
