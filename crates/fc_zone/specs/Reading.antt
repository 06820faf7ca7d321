-- The runs of a zone as a function of its sector, with its first fault.
use Rattle.std.specs.Prelude.{ℕ, zero, suc, ◌+◌, ◌-◌, ◌%◌, Bool, ◌&&◌, ◌==◌, nat_le, nat_eq, List, [], ◌∷◌, slice_range, Option, Some, None, Result, Ok, Err, if◌then◌else◌}
use Rattle.std.specs.List.{prefix_len}
use Rattle.std.specs.Option.{option_eq}
use Rattle.fc_bytes.specs.Bits.{bits}
use Rattle.fc_zone.specs.declared.ZoneShape.{ZoneShape}
use Rattle.fc_zone.specs.declared.ZoneFault.{ZoneFault}
use Rattle.fc_zone.specs.declared.Run.{Run}
use Rattle.fc_zone.specs.declared.RunKind.TheVariants.{Hole, Id}
use Rattle.fc_zone.specs.Zone.{field_at, first_hole, next_hole}

-- whether the place stands for the first byte of a sector of the disc
abbrev pub is_on_sector : ZoneShape → ℕ → Bool
is_on_sector shape at = (shape.base + (at - shape.first)) % shape.q == 0

-- after the first 1 after the field that begins at `at`; past the zone's end if there is none
abbrev pub end_of_run : ZoneShape → List ℕ → ℕ → ℕ
end_of_run shape bits at = at + shape.idlen + prefix_len (λ b. b == 0) (slice_range bits (at + shape.idlen) shape.end) + 1

-- whether a run begins there
abbrev pub is_run : ZoneShape → List ℕ → ℕ → Bool
is_run shape bits at = nat_le (end_of_run shape bits at) shape.end && is_on_sector shape at && is_on_sector shape (end_of_run shape bits at)

-- the run of `len` bits that begins there: a hole if the chain names it, and else a run of its field
abbrev pub run_of : Option ℕ → ℕ → ℕ → ℕ → Run
run_of hole at len field = record { start = at; len = len; kind = if option_eq nat_eq hole (Some at) then Hole else Id field }

-- at the zone's end the chain names nothing more; else the place that it names
abbrev pub end_of_chain : Option ℕ → Result (List Run) ℕ
end_of_chain None = Ok []
end_of_chain (Some place) = Err place

-- a run before others, if they are right
abbrev pub cons_ok : Run → Result (List Run) ℕ → Result (List Run) ℕ
cons_ok run (Ok runs) = Ok (run ∷ runs)
cons_ok run (Err place) = Err place

-- The runs from `at` on, if the chain names `hole` as the first hole from there, or the place of the first fault: no
-- run begins there, or at the zone's end a place is named still. `fuel` bounds the number of runs.
unfoldable pub runs_from : ℕ → ZoneShape → List ℕ → ℕ → Option ℕ → Result (List Run) ℕ
runs_from zero shape bits at hole = if at == shape.end then end_of_chain hole else Err at
runs_from (suc fuel) shape bits at hole =
    let len = end_of_run shape bits at - at in
    let run = run_of hole at len (field_at shape bits at) in
    let rest = runs_from fuel shape bits (at + len) (if option_eq nat_eq hole (Some at) then next_hole shape bits at else hole) in
    if at == shape.end then end_of_chain hole else if is_run shape bits at then cons_ok run rest else Err at

-- the fault at a place as the fault of a zone
abbrev pub in_zone : ℕ → Result (List Run) ℕ → Result (List Run) ZoneFault
in_zone zone (Ok runs) = Ok runs
in_zone zone (Err place) = Err (record { zone = zone; bit = place })

-- the runs of the zone in a sector, or its first fault
abbrev pub zone_of : ZoneShape → List ℕ → Result (List Run) ZoneFault
zone_of shape sector = in_zone shape.zone (runs_from (shape.end - shape.first) shape (bits sector) shape.first (first_hole (bits sector)))

-- the runs that were read, and none if there is a fault
abbrev pub runs_or_none : Result (List Run) ZoneFault → List Run
runs_or_none (Ok runs) = runs
runs_or_none (Err fault) = []

-- the runs of the zone in a sector, and none where it is faulty
unfoldable pub runs_of : ZoneShape → List ℕ → List Run
runs_of shape sector = runs_or_none (zone_of shape sector)
