-- A walk over nodes finds no more directories than there are sectors, on an old map.
use Rattle.std.proofs.Common.{◌≡◌, ◌<◌, ◌≤◌, ◌⊎◌, inl, inr, ⊎_elim, ℕ, ◌*◌, ◌/◌, true, List, length, ap, ◌∙◌, arith, Some}
use Rattle.std.specs.Prelude.{Contains}
use Rattle.std.specs.Int.{div_ceil}
use Rattle.fc_record.specs.declared.Kind.{Kind}
use Rattle.fc_oldmap.specs.OldMap.{OldMapContent}
use Rattle.fc_alloc.specs.declared.owner.Owner.{Owner}
use Rattle.fc_image.specs.Layout.{Layout, disc_sectors, is_among, sectors_at}
use Rattle.fc_image.specs.Walk.{Listing, Object}
use Rattle.fc_image.specs.Objects.{objects_of}
use Rattle.fc_image.proofs.FreeLemmas.{among_range}
use Rattle.fc_tree.specs.declared.node.Node.{Node}
use Rattle.fc_laws.specs.nodes.Edits.{Nodes}
use Rattle.fc_laws.proofs.lemmas.agree.RoomLemmas.{room_of}
use Rattle.fc_laws.proofs.lemmas.agree.WalkedLemmas.{object_lies}
use Rattle.fc_changes.proofs.lemmas.old.PlaceLemmas.{in_disc, row_or_none}
use Rattle.fc_laws.specs.old.agree.Laws.{AgreeOn}
use Rattle.fc_changes.proofs.ChangeLemmas.{ceil_some}

-- some bytes have a sector
a_sector : (space : OldMapContent) (address bytes : ℕ) (sectors : List ℕ) → 0 < bytes → (space.sector_units ≡ 1) ⊎ (space.sector_units ≡ 4) → sectors_at (Layout.Old space) address bytes ≡ Some sectors
    → (s : ℕ) × (is_among sectors s ≡ true)
a_sector space address bytes sectors some units e = ⊎_elim
    (λ none. absurd (let zero' = none.0 in omega (arith, zero', some)))
    (λ row. let count = ceil_some bytes (256 * space.sector_units) some (size_some units) in (
      address / space.sector_units,
      ap (λ (xs : List ℕ). is_among xs (address / space.sector_units)) row.row ∙ among_range (address / space.sector_units) (div_ceil bytes (256 * space.sector_units)) (address / space.sector_units) (omega arith) (omega (arith, count)),
    ))
    (row_or_none space address bytes sectors e)
  where
    size_some : (space.sector_units ≡ 1) ⊎ (space.sector_units ≡ 4) → 0 < 256 * space.sector_units
    size_some (inl one) = omega (arith, one)
    size_some (inr four) = omega (arith, four)

module _ (kind : Kind) (space : OldMapContent) (nodes : Nodes) (owners : List Owner) (root : Node) (listings : List Listing) (a : AgreeOn kind space nodes owners root listings) where
  on_disc : (o : Object) → Contains (objects_of listings) o → (s : ℕ) → is_among o.sectors s ≡ true → s < disc_sectors (Layout.Old space)
  on_disc o at s i =
      let r = in_disc space o.entry.address _ o.sectors s (object_lies kind (Layout.Old space) nodes root listings a.walked o at).placed i in
      let inside = r.0.inside in let low = r.2 in omega (arith, inside, low)

  pub room : length listings ≤ disc_sectors (Layout.Old space)
  room = room_of kind (Layout.Old space) nodes root listings a.walked on_disc (λ address bytes sectors some at. a_sector space address bytes sectors some a.is_map.units at)
