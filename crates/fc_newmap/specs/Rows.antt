-- Maps, worked out.
use Rattle.std.specs.Prelude.{◌≡◌, ℕ, ◌*◌, [], ◌∷◌, Some, None}
use Rattle.fc_bytes.specs.Rows.{e_sector}
use Rattle.fc_record.specs.Rows.{e, f}
use Rattle.fc_zone.specs.declared.RunKind.TheVariants.{Hole, Id}
use Rattle.fc_zone.specs.declared.Run.{Run}
use Rattle.fc_zone.specs.declared.RunKind.{RunKind}
use Rattle.fc_newmap.specs.Map.{Map, hole_runs, id_runs, bit_extents, search_order, bits_in, sectors_of, run_at}

-- a run
abbrev pub run : ℕ → ℕ → RunKind → Run
run start len kind = record { start = start; len = len; kind = kind }

-- the map of a fresh E
abbrev pub e_map : Map
e_map = record { geometry = e; zones = e_sector ∷ [] }

-- what this map has
pub record MapRows : Type 0 where
  pub holes : hole_runs e_map ≡ (0, run 544 6368 Hole) ∷ []
  -- the free space of a fresh E
  pub free : bits_in (hole_runs e_map) * 128 ≡ 815104
  pub two : id_runs e_map 2 ≡ (0, run 512 32 (Id 2)) ∷ []
  pub two_extent : bit_extents e_map 2 ≡ (0, 32) ∷ []
  pub two_sectors : sectors_of e (id_runs e_map 2) ≡ 0 ∷ 1 ∷ 2 ∷ 3 ∷ []
  pub order : search_order f 2 ≡ 2 ∷ 3 ∷ 0 ∷ 1 ∷ []
  pub order_413 : search_order f 413 ≡ 1 ∷ 2 ∷ 3 ∷ 0 ∷ []
  pub held : run_at e_map 32 ≡ Some (0, run 544 6368 Hole)
  pub beyond : run_at e_map 6400 ≡ None
