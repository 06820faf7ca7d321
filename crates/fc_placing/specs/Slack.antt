-- What owners have of their identifiers, and what is free in one.
use Rattle.std.specs.Prelude.{ℕ, ◌+◌, Bool, not, ◌&&◌, ◌||◌, ◌==◌, nat_le, nat_lt, nat_eq, if◌then◌else◌, List, length, map, take, drop, Option, None}
use Rattle.std.specs.List.{flat_map, find, list_all, list_any, range_with_len}
use Rattle.fc_alloc.specs.declared.owner.Owner.{Owner}
use Rattle.fc_placing.specs.declared.share.Share.{Share}
use Rattle.fc_image.specs.Layout.{id_sectors, low_start}
use Rattle.fc_record.specs.Record.{id_limit}
use Rattle.fc_newmap.specs.Map.{Map}
use Rattle.fc_image.specs.effects.Sharing.{Holding}

-- what an owner has of its identifier, where directories are numbers
abbrev pub holding_in : Map → Owner → Holding ℕ
holding_in m o = record { id = o.id; dir = o.dir; file = o.file; low = o.low; sectors = take o.sectors (drop o.first (id_sectors m o.id)) }

abbrev pub holdings : Map → List Owner → List (Holding ℕ)
holdings m owners = map (holding_in m) owners

-- the owner has the identifier
abbrev pub has_id : ℕ → Owner → Bool
has_id id o = o.id == id

-- if it has the identifier, it may be shared with
abbrev pub allows : ℕ → ℕ → Owner → Bool
allows dir id o = not (o.id == id) || (o.file && nat_eq o.dir dir && nat_le 1 o.low)

-- an owner has the identifier, and all of them may be shared with
abbrev pub may_share : List Owner → ℕ → ℕ → Bool
may_share owners dir id = list_any (has_id id) owners && list_all (allows dir id) owners

-- if it has the identifier, it has none of these sectors of it
abbrev pub leaves_free : ℕ → ℕ → ℕ → Owner → Bool
leaves_free id first need o = not (o.id == id) || (nat_le (first + need) o.first || (nat_le (o.first + o.sectors) first || (o.sectors == 0)))

-- the sectors from this low byte on are there, and no owner has any of them
abbrev pub is_room : Map → List Owner → ℕ → ℕ → ℕ → Bool
is_room m owners id need low = nat_le (low_start m low + need) (length (id_sectors m id)) && list_all (leaves_free id (low_start m low) need) owners

-- the least low byte with room
abbrev pub low_with_room : Map → List Owner → ℕ → ℕ → Option ℕ
low_with_room m owners id need = find (is_room m owners id need) (range_with_len 1 255)

-- a share of an identifier that may be shared, with room
abbrev pub is_good : Map → List Owner → ℕ → ℕ → ℕ × ℕ → Bool
is_good m owners dir need s = may_share owners dir s.0 && is_room m owners s.0 need s.1

-- the shares of identifiers from one on
abbrev pub shares_from : ℕ → ℕ → List (ℕ × ℕ)
shares_from id n = flat_map (λ id. map (λ low. (id, low)) (range_with_len 1 255)) (range_with_len id n)

-- a share as an identifier and a low byte
abbrev pub place_in : Share → ℕ × ℕ
place_in share = (share.id, share.low)

-- ---- one identifier after the other

-- a file of the directory, whose low byte can be counted on from
abbrev pub is_open : ℕ → Owner → Bool
is_open dir o = o.file && nat_eq o.dir dir && nat_le 1 o.low

-- shares are looked for in the identifier
abbrev pub has_shares : Map → ℕ → Bool
has_shares m id = nat_le 3 id && nat_lt id (id_limit m.geometry)

-- the least low byte of an identifier's shares
abbrev pub least_low : Map → List Owner → ℕ → ℕ → ℕ → Option ℕ
least_low m owners dir need id = if has_shares m id && may_share owners dir id then low_with_room m owners id need else None
