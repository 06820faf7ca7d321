-- The space of objects of a volume with an old map whose parts agree: what may be given back, and what is taken.
use Rattle.std.specs.Prelude.{◌≡◌, ◌<◌, ◌≤◌, ◌*◌, ◌%◌, ◌^◌, ℕ, true, List, length, All, Some, Contains}
use Rattle.fc_record.specs.declared.Kind.{Kind}
use Rattle.fc_oldmap.specs.declared.Hole.{Hole}
use Rattle.fc_oldmap.specs.Holes.{AreApart, AreHoles, first_fit_place, hole_end}
use Rattle.fc_oldmap.specs.OldMap.{OldMapContent, IsOldMap, map_units}
use Rattle.fc_alloc.specs.declared.owner.Owner.{Owner}
use Rattle.fc_image.specs.Layout.{Layout, dir_form, hole_sectors, is_among, sectors_at}
use Rattle.fc_image.specs.Edits.{IsAt}
use Rattle.fc_image.specs.Objects.{has_sectors, objects_of}
use Rattle.fc_image.specs.Walk.{Listing, Object, object_size}
use Rattle.fc_image.specs.effects.Short.{holes_without, old_need, space_of}
use Rattle.fc_laws.specs.nodes.Edits.{Nodes}
use Rattle.fc_tree.specs.declared.node.Node.{Node}
use Rattle.fc_tree.specs.Agree.{Agree}
use Rattle.fc_tree.specs.Parts.{Parts}
use Rattle.fc_laws.specs.old.agree.Laws.{AgreeOn}

-- What `OldMap::give` asks: some whole sectors of the disc, of which no unit lies in these holes.
pub record CanGive (space : OldMapContent) (holes : List Hole) (given : Hole) : Type 0 where
  pub positive : 0 < given.len
  pub inside : hole_end given ≤ space.disc_units
  pub begins : given.start % space.sector_units ≡ 0
  pub ends : hole_end given % space.sector_units ≡ 0
  pub apart : All (AreApart given) holes

-- The place of n bytes at the front of the first hole that is long enough.
pub record IsFitted (space : OldMapContent) (start n : ℕ) : Type 0 where
  pub sectors : List ℕ
  pub place : sectors_at (Layout.Old space) start n ≡ Some sectors
  pub free : (s : ℕ) → is_among sectors s ≡ true → is_among (hole_sectors (Layout.Old space)) s ≡ true
  pub short : start < 2 ^ 24

pub record SpaceLaw : Type 0 where
  -- The listings of parts that agree named: `holes` is known of a volume (fc_volume `HoldsMap`), `is_map` of a map in memory.
  pub named : (kind : Kind) (parts : Parts) (space : OldMapContent) → parts.layout ≡ Layout.Old space → IsOldMap space
      → AreHoles space.disc_units space.sector_units (map_units space.sector_units) space.holes
      → (a : Agree kind parts) → AgreeOn kind space parts.nodes parts.owners a.root a.listings
  -- the units that an object takes, by the length in its entry
  pub size : (space : OldMapContent) (o : Object) → IsAt (Layout.Old space) o → length o.sectors * space.sector_units ≡ old_need space (object_size (dir_form (Layout.Old space)) o.entry)
  -- The space of an object that has some can be given, also after n units are taken.
  pub given : (kind : Kind) (space : OldMapContent) (nodes : Nodes) (owners : List Owner) (root : Node) (listings : List Listing) (o : Object) (n : ℕ) → AgreeOn kind space nodes owners root listings
      → Contains (objects_of listings) o → has_sectors o ≡ true → CanGive space (holes_without n space.holes) (space_of space o)
  -- Some bytes have a place at the front of the first hole that is long enough.
  pub fitted : (space : OldMapContent) (n start : ℕ) → IsOldMap space → 0 < n → first_fit_place (old_need space n) space.holes ≡ Some start → IsFitted space start n
