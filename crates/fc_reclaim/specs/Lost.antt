-- Which runs go back, by the owners of identifiers.
use Rattle.std.specs.Prelude.{◌≡◌, ℕ, ◌/◌, ◌==◌, ◌&&◌, Bool, true, false, not, List, filter}
use Rattle.std.specs.List.{range_with_len}
use Rattle.std.specs.Int.{div_ceil}
use Rattle.fc_record.specs.declared.Geometry.{Geometry}
use Rattle.fc_record.specs.declared.Kind.{Kind}
use Rattle.fc_zone.specs.declared.RunKind.{RunKind}
use Rattle.fc_zone.specs.declared.RunKind.TheVariants as kinds
use Rattle.fc_newmap.specs.Map.{ZoneRun, is_hole, map_sectors, run_sectors}
use Rattle.fc_alloc.specs.declared.owner.Owner.{Owner}
use Rattle.fc_alloc.specs.Owners.{is_id_owned}
use Rattle.fc_image.specs.Layout.{is_among, is_apart}
use Rattle.fc_image.specs.Opening.{boot_place}

-- no owner has the identifier, and it is neither that of defects nor that of the map
abbrev pub is_lost_by : List Owner → ℕ → Bool
is_lost_by owners id = not (is_id_owned owners id) && not (id == 1) && not (id == 2)

-- a run of such an identifier
abbrev pub is_lost_kind : List Owner → RunKind → Bool
is_lost_kind owners kinds.Hole = false
is_lost_kind owners (kinds.Id id) = is_lost_by owners id

-- the sectors from &C00 to &DFF, if a boot block fits there
abbrev pub boot_row : Bool → ℕ → List ℕ
boot_row boot sector = filter (λ s. boot) (range_with_len (0xC00 / sector) (div_ceil 512 sector))

-- A lost run goes back, unless it holds a sector of the map or of a boot block.
abbrev pub goes_back : Bool → List Owner → Geometry → ZoneRun → Bool
goes_back boot owners g p =
    is_lost_kind owners p.1.kind && is_apart (run_sectors g p) (map_sectors g) && is_apart (run_sectors g p) (boot_row boot g.sector)

-- a run that is no hole
abbrev pub is_used_run : ZoneRun → Bool
is_used_run p = not (is_hole p.1.kind)

-- Discs of this kind have a boot block only if one fits.
abbrev pub Covers : Bool → Kind → Type 0
Covers boot kind = (sector s : ℕ) → is_among (boot_place kind sector) s ≡ true → boot ≡ true
