-- What a map and the owners of its identifiers tell of the space of a disc.
use Rattle.std.specs.Prelude.{ℕ, ◌+◌, ◌-◌, ◌*◌, ◌/◌, Bool, false, not, ◌&&◌, ◌==◌, List, filter, if◌then◌else◌, fold}
use Rattle.fc_zone.specs.declared.Run.{Run}
use Rattle.fc_zone.specs.declared.RunKind.{RunKind}
use Rattle.fc_zone.specs.declared.RunKind.TheVariants as kinds
use Rattle.fc_oldmap.specs.Holes.{hole_sum}
use Rattle.fc_oldmap.specs.OldMap.{OldMapContent, map_units}
use Rattle.fc_newmap.specs.Map.{all_runs, bits_in, is_hole}
use Rattle.fc_alloc.specs.declared.owner.Owner.{Owner}
use Rattle.fc_alloc.specs.Owners.{is_id_owned}
use Rattle.fc_image.specs.Layout.{Layout, sector_bytes}
use Rattle.fc_check.specs.declared.space.RunSums.{RunSums}

-- An identifier that no owner has is lost, other than 1, the defects, and 2, the map's.
abbrev pub is_lost_id : List Owner → ℕ → Bool
is_lost_id owners id = not (id == 1) && not (id == 2) && not (is_id_owned owners id)

-- a run of such an identifier
abbrev pub is_lost_kind : List Owner → RunKind → Bool
is_lost_kind owners kinds.Hole = false
is_lost_kind owners (kinds.Id id) = is_lost_id owners id

-- the sums with those of a run more
abbrev pub with_run : List Owner → RunSums → Run → RunSums
with_run owners sums run = record {
  holes = sums.holes + (if is_hole run.kind then 1 else 0);
  free = sums.free + (if is_hole run.kind then run.len else 0);
  lost = sums.lost + (if is_lost_kind owners run.kind then run.len else 0);
}

-- the sectors that are left of some when those of the owners are taken away
abbrev pub left_by : ℕ → List Owner → ℕ
left_by sectors owners = fold (λ left o. left - o.sectors) sectors owners

-- the sectors of a disc with an old map, less those of the map, of the holes and of the owners
abbrev pub left_sectors : OldMapContent → List Owner → ℕ
left_sectors space owners =
    left_by (space.disc_units / space.sector_units - map_units space.sector_units / space.sector_units - hole_sum space.holes / space.sector_units) owners

-- the bytes that are lost if these are all owners
abbrev pub bytes_lost_to : Layout → List Owner → ℕ
bytes_lost_to (Layout.Old space) owners = left_sectors space owners * sector_bytes (Layout.Old space)
bytes_lost_to (Layout.New m) owners = bits_in (filter (λ p. is_lost_kind owners p.1.kind) (all_runs m)) * m.geometry.bit_bytes
