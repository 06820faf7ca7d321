-- How the front of an image is written, sector after sector.
use Rattle.std.specs.Prelude.{◌≡◌, ◌≤◌, ℕ, ◌+◌, ◌-◌, ◌*◌, ◌/◌, ◌%◌, List, [], ◌∷◌, ◌++◌, length, drop, option_map}
use denote.Bor.{Bor}
use Rattle.fc_device.specs.declared.disk.Disk.{Ghosts}
use Rattle.fc_format.specs.declared.Format.{Format}
use Rattle.fc_format.specs.Fresh.{format_size, front_of, zeros}
use Rattle.fc_device.specs.Calls.{StopsAndExitsLeave}

-- the image is the one at `start` with these bytes written over its front
abbrev pub HasFront : {D : Type 0} → Ghosts D → D → List ℕ → D → Type 0
HasFront d start front now = d.bytes now ≡ option_map (λ image. front ++ drop (length front) image) (d.bytes start)

-- If a front of this length was written at old, these bytes are written after it at new.
abbrev pub LengthensFront : {D : Type 0} → Ghosts D → D → D → ℕ → List ℕ → Type 0
LengthensFront {D} d old new long bytes = (start : D) (front : List ℕ) → length front ≡ long → HasFront d start front old → HasFront d start (front ++ bytes) new

-- the bytes from place n on are the same
abbrev pub SameBehind : ℕ → List ℕ → List ℕ → Type 0
SameBehind n was image = drop n image ≡ drop n was

-- If each crash and each exit since some start left the bytes from place n on, those from place `from` or an earlier one, it still does.
abbrev pub KeepsBehind : {D : Type 0} → Ghosts D → D → D → ℕ → Type 0
KeepsBehind {D} d old new from = (start : D) (n : ℕ) → from ≤ n → StopsAndExitsLeave d start old (SameBehind n) → StopsAndExitsLeave d start new (SameBehind n)

-- a part of a disc: its first sector, and its bytes
abbrev pub Part : Type 0
Part = ℕ × Bor (List ℕ)

-- the parts are whole sectors, and stand in this order from sector `at` to sector `end`
abbrev pub AreParts : ℕ → List Part → ℕ → Type 0
AreParts at [] end = at ≤ end
AreParts at (part ∷ parts) end = (at ≤ part.0) × (length part.1.now % 256 ≡ 0) × AreParts (part.0 + length part.1.now / 256) parts end

-- the bytes of the sectors from `at` up to `end`: the parts, and bytes 0 between and after them
abbrev pub laid : ℕ → List Part → ℕ → List ℕ
laid at [] end = zeros (256 * (end - at))
laid at (part ∷ parts) end = zeros (256 * (part.0 - at)) ++ part.1.now ++ laid (part.0 + length part.1.now / 256) parts end

-- the disc of a fresh volume
unfoldable pub disc_of : Format → List ℕ
disc_of format = front_of format ++ zeros (format_size format - length (front_of format))
