-- The identifiers that no run of a map has.
use Rattle.std.specs.Prelude.{ℕ, ◌-◌, not, List, filter}
use Rattle.std.specs.List.{range_with_len}
use Rattle.fc_record.specs.Record.{id_limit}
use Rattle.fc_newmap.specs.Map.{Map, is_used}

-- the identifiers from one on that no run has
abbrev pub unused_from : Map → ℕ → List ℕ
unused_from m from = filter (λ id. not (is_used m id)) (range_with_len from (id_limit m.geometry - from))
