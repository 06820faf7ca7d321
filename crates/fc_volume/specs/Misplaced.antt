-- The least sector that passes a test.
use Rattle.std.specs.Prelude.{◌≡◌, ◌≤◌, ℕ, ◌+◌, Bool, true, false, ◌&&◌, ◌||◌, nat_le, nat_lt, List, Option, Some, None}
use Rattle.fc_device.specs.declared.disk.Extent.{Extent}
use Rattle.std.specs.List.{list_any}
use Rattle.fc_record.specs.declared.Geometry.{Geometry}
use Rattle.fc_newmap.specs.Map.{ZoneRun, extent_of}
use Rattle.fc_zone.specs.declared.RunKind.{RunKind}
use Rattle.fc_zone.specs.declared.RunKind.TheVariants as kinds
use Rattle.fc_alloc.specs.declared.owner.Owner.{Owner}
use Rattle.fc_alloc.specs.Owners.{is_id_owned}

-- The sector lies in the row.
abbrev pub lies_in : Extent → ℕ → Bool
lies_in e s = nat_le e.first s && nat_lt s (e.first + e.sectors)

-- None if no sector passes, else the least that does.
abbrev pub IsLeast : (ℕ → Bool) → Option ℕ → Type 0
IsLeast p None = (s : ℕ) → p s ≡ false
IsLeast p (Some least) = (p least ≡ true) × ((s : ℕ) → p s ≡ true → least ≤ s)

-- a hole, or a run of an identifier of at least 3 that has an owner
abbrev pub is_loose : List Owner → RunKind → Bool
is_loose owners kinds.Hole = true
is_loose owners (kinds.Id id) = is_id_owned owners id && nat_le 3 id

-- The run is a hole or may move, and the sector lies in it and in one of two rows.
abbrev pub is_in_loose : List Owner → Geometry → Extent → Extent → ZoneRun → ℕ → Bool
is_in_loose owners g a b p s = is_loose owners p.1.kind && (lies_in (extent_of g p) s && (lies_in a s || lies_in b s))

-- So it does in one of these runs.
abbrev pub is_in_some_loose : List Owner → Geometry → Extent → Extent → List ZoneRun → ℕ → Bool
is_in_some_loose owners g a b runs s = list_any (λ p. is_in_loose owners g a b p s) runs
