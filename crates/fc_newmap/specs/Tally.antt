-- A tally of a map's runs by their identifiers.
use Rattle.std.specs.Prelude.{◌≡◌, ◌<◌, ◌≤◌, ℕ, ◌+◌, ◌-◌, ◌*◌, ◌==◌, ◌&&◌, nat_le, nat_lt, min, max, Bool, true, false, if◌then◌else◌, List, Contains, length, slice_index_or, slice_set, Option, None, Some, filter}
use Rattle.std.specs.List.{list_any}
use Rattle.std.specs.Option.{IfSome}
use Rattle.std.specs.Global.{Vec}
use Rattle.fc_record.specs.declared.Geometry.{Geometry}
use Rattle.fc_zone.specs.declared.Run.{Run}
use Rattle.fc_zone.specs.declared.RunKind.{RunKind}
use Rattle.fc_zone.specs.declared.RunKind.TheVariants.{Hole, Id}
use Rattle.fc_newmap.specs.declared.tally.IdTally.{IdTally}
use Rattle.fc_newmap.specs.declared.tally.NewestRun.{NewestRun}
use Rattle.fc_newmap.specs.declared.tally.Search.{Search}
use Rattle.fc_newmap.specs.Map.{Map, ZoneRun, bits_in, has_id, home_zone, id_runs, runs_of}
use Rattle.fc_newmap.specs.NewMap.{IsHeld, map_in}
use Rattle.fc_newmap.specs.RunsLaw.{placed}

-- no newest run
abbrev pub no_newest : NewestRun
no_newest = record { before = 0; start = 0; len = 0 }

-- no row
abbrev pub no_row : IdTally
no_row = record { bits = 0; ahead = 0; reach = 0; start = 0; newest = no_newest; former = no_newest }

-- the row of an identifier without runs
abbrev pub no_runs : Geometry → IdTally
no_runs g = record { bits = 0; ahead = g.zones; reach = 0; start = 0; newest = no_newest; former = no_newest }

-- the row of an identifier
abbrev pub row_of : List IdTally → ℕ → IdTally
row_of rows id = slice_index_or rows id no_row

-- how many zones the search for an identifier comes to before zone z
abbrev pub zones_before : Geometry → ℕ → ℕ → ℕ
zones_before g id z =
    let home = home_zone g id in if nat_le home z then z - home else g.zones - home + z

-- The zone has a run of the identifier.
abbrev pub has_run_of : Map → ℕ → ℕ → Bool
has_run_of m id z = list_any (λ run. has_id id run.kind) (runs_of m z)

-- So many zones at the beginning of the search for the identifier have none of its runs.
abbrev pub IsAhead : Map → ℕ → ℕ → Type 0
IsAhead m id n = (z : ℕ) → z < m.geometry.zones → zones_before m.geometry id z < n → has_run_of m id z ≡ false

-- After so many zones the search for the identifier comes to none of its runs.
abbrev pub IsReach : Map → ℕ → ℕ → Type 0
IsReach m id n = (z : ℕ) → z < m.geometry.zones → n ≤ zones_before m.geometry id z → has_run_of m id z ≡ false

-- Among these runs the first of the identifier begins at `start`.
pub record IsFirst (id : ℕ) (In : Run → Type 0) (start : ℕ) : Type 0 where
  pub run : Run
  pub among : In run
  pub of_id : has_id id run.kind ≡ true
  pub begins : run.start ≡ start
  pub least : (other : Run) → In other → has_id id other.kind ≡ true → start ≤ other.start

-- In this zone the first run of the identifier begins at `start`.
abbrev pub IsFirstIn : Map → ℕ → ℕ → ℕ → Type 0
IsFirstIn m id z start = IsFirst id (Contains (runs_of m z)) start

-- In the zone after so many zones of the search the first run of the identifier begins at `start`, if that isn't 0.
abbrev pub IsStart : Map → ℕ → ℕ → ℕ → Type 0
IsStart m id n start =
    (z : ℕ) → z < m.geometry.zones → zones_before m.geometry id z ≡ n → (start ≡ 0 → ⊥) → IsFirstIn m id z start

-- The bit is in one of these runs, of the identifier.
pub record IsBitOf (id : ℕ) (In : Run → Type 0) (bit : ℕ) : Type 0 where
  pub run : Run
  pub among : In run
  pub of_id : has_id id run.kind ≡ true
  pub from : run.start ≤ bit
  pub before : bit < run.start + run.len

-- In the zone after so many zones of the search the `len` bits from `start` on are all in runs of the identifier, where
-- each zone has these runs.
pub record IsNewest (g : Geometry) (id : ℕ) (In : ℕ → Run → Type 0) (newest : NewestRun) : Type 0 where
  pub zone : ℕ
  pub low : zone < g.zones
  pub before : zones_before g id zone ≡ newest.before
  pub bits : (bit : ℕ) → newest.start ≤ bit → bit < newest.start + newest.len → IsBitOf id (In zone) bit

-- The two runs that were counted last have no bits in common.
abbrev pub AreApart : NewestRun → NewestRun → Type 0
AreApart one two =
    (bit : ℕ) → one.before ≡ two.before → one.start ≤ bit → bit < one.start + one.len → two.start ≤ bit → bit < two.start + two.len → ⊥

-- The row says what is so of its identifier.
pub record IsRow (m : Map) (id : ℕ) (row : IdTally) : Type 0 where
  -- the bits of all its runs
  pub bits : row.bits ≡ bits_in (id_runs m id)
  pub ahead : IsAhead m id row.ahead
  pub reach : IsReach m id row.reach
  pub start : IsStart m id row.ahead row.start
  pub newest : (row.newest.len ≡ 0 → ⊥) → IsNewest m.geometry id (λ z. Contains (runs_of m z)) row.newest
  pub former : (row.former.len ≡ 0 → ⊥) → IsNewest m.geometry id (λ z. Contains (runs_of m z)) row.former
  pub apart : AreApart row.newest row.former

-- the bits that such a run has in the zone after `before` zones of the search
abbrev pub bits_there : NewestRun → ℕ → ℕ
bits_there run before = if before == run.before then run.len else 0

-- All bits of the identifier are those of the two runs that were counted last.
abbrev pub is_told : IdTally → Bool
is_told row = row.bits == row.newest.len + row.former.len

-- by its row, an identifier has no more bits in the zone after `before` zones of the search
abbrev pub bits_at : IdTally → ℕ → ℕ
bits_at row before = if is_told row then bits_there row.newest before + bits_there row.former before else row.bits

-- where the first of the two runs begins that are in that zone
abbrev pub first_of_two : IdTally → ℕ → Option ℕ
first_of_two row before =
    if bits_there row.newest before == 0
    then (if bits_there row.former before == 0 then None else Some row.former.start)
    else (if bits_there row.former before == 0 then Some row.newest.start else Some (min row.newest.start row.former.start))

-- where the identifier's first run in that zone begins, if its row tells it of each zone
abbrev pub start_at : IdTally → ℕ → Option ℕ
start_at row before = if is_told row then first_of_two row before else None

-- the identifier's runs of zone z
abbrev pub id_runs_in : Map → ℕ → ℕ → List ZoneRun
id_runs_in m id z = filter (λ p. has_id id p.1.kind) (placed z (runs_of m z))

-- The rows are those of identifiers from 0 on.
abbrev pub IsTally : Map → List IdTally → Type 0
IsTally m rows = (id : ℕ) → id < length rows → IsRow m id (row_of rows id)

-- If there is a tally, it is that of the map.
abbrev pub IsTallyOf : Option (Vec IdTally) → Map → Type 0
IsTallyOf tally m = IfSome tally (λ rows. IsTally m rows.items)

-- The bytes are those of one copy and make a map, and this is its tally.
pub record IsTallied (g : Geometry) (bytes : List ℕ) (counts : Option (Vec IdTally)) : Type 0 where
  pub held : IsHeld g bytes
  pub tally : IsTallyOf counts (map_in g bytes)

-- ---- searches

-- A search that begins and ends so comes to all runs of the identifier.
pub record IsSearch (m : Map) (id : ℕ) (search : Search) : Type 0 where
  pub within : search.ahead + search.more < m.geometry.zones
  pub ahead : IsAhead m id search.ahead
  pub reach : IsReach m id (search.ahead + search.more + 1)
  pub start : IsStart m id search.ahead search.start

-- ---- edits

-- where the first run begins, with a run more that begins at `start` in a zone after `before` zones of the search
abbrev pub first_start : IdTally → ℕ → ℕ → ℕ
first_start row before start =
    if nat_lt before row.ahead then start else if before == row.ahead then min row.start start else row.start

-- a row with such a run more
abbrev pub row_with : IdTally → ℕ → ℕ → ℕ → IdTally
row_with row before start len = record {
  bits = row.bits + len;
  ahead = min row.ahead before;
  reach = max row.reach (before + 1);
  start = first_start row before start;
  newest = record { before = before; start = start; len = len };
  former = row.newest;
}

-- the rows with a run more, of this kind and in zone z
abbrev pub counted : Geometry → List IdTally → ℕ → RunKind → ℕ → ℕ → List IdTally
counted g rows z Hole start len = rows
counted g rows z (Id id) start len = slice_set rows id (row_with (row_of rows id) (zones_before g id z) start len)

-- where the first run begins when a run goes that began at `start` in a zone after `before` zones of the search: not
-- known, if that was the first
abbrev pub start_left : IdTally → ℕ → ℕ → ℕ
start_left row before start = if (before == row.ahead) && (start == row.start) then 0 else row.start

-- Such a run, of `len` bits, and the newest have bits in common: one of them begins in the other.
abbrev pub meets : NewestRun → ℕ → ℕ → ℕ → Bool
meets newest before start len =
    (before == newest.before) && (if nat_le start newest.start then nat_lt newest.start (start + len) else nat_lt start (newest.start + newest.len))

-- the newest run, or the one before it, when such a run goes: not known, if they have bits in common
abbrev pub newest_left : NewestRun → ℕ → ℕ → ℕ → NewestRun
newest_left newest before start len = if meets newest before start len then no_newest else newest

-- the newest of the two that are left
abbrev pub newest_of : NewestRun → NewestRun → NewestRun
newest_of newest former = if newest.len == 0 then former else newest

-- the one of them that was counted before it
abbrev pub former_of : NewestRun → NewestRun → NewestRun
former_of newest former = if newest.len == 0 then no_newest else former

-- a row of an identifier all of whose bits are those of the newest run
abbrev pub row_only : IdTally → IdTally
row_only row = record row {
  ahead = max row.ahead row.newest.before;
  reach = min row.reach (row.newest.before + 1);
  start = row.newest.start;
}

-- a row with such a run less, and some bits left
abbrev pub row_left : IdTally → ℕ → ℕ → ℕ → IdTally
row_left row before start len =
    let newest = newest_left row.newest before start len in
    let former = newest_left row.former before start len in record row {
      bits = row.bits - len;
      start = start_left row before start;
      newest = newest_of newest former;
      former = former_of newest former;
    }

-- a row with such a run less
abbrev pub row_less : Geometry → IdTally → ℕ → ℕ → ℕ → IdTally
row_less g row before start len =
    let left = row_left row before start len in
    if row.bits == len then no_runs g else if left.bits == left.newest.len then row_only left else left

-- the rows with a run less, of this kind and in zone z
abbrev pub uncounted : Geometry → List IdTally → ℕ → RunKind → ℕ → ℕ → List IdTally
uncounted g rows z Hole start len = rows
uncounted g rows z (Id id) start len = slice_set rows id (row_less g (row_of rows id) (zones_before g id z) start len)

-- The row of a run's identifier has room for its bits.
abbrev pub HasRoom : Geometry → List IdTally → RunKind → ℕ → Type 0
HasRoom g rows Hole len = Unit {0}
HasRoom g rows (Id id) len = (row_of rows id).bits + len ≤ 8192 * g.zones

-- The row of a run's identifier has its bits.
abbrev pub HasBits : List IdTally → RunKind → ℕ → Type 0
HasBits rows Hole len = Unit {0}
HasBits rows (Id id) len = id < length rows → len ≤ (row_of rows id).bits
