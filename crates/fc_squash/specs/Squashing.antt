-- What compaction of an old map needs, and what it does to holes and objects, apart from the bytes of a disk.
use Rattle.std.specs.Prelude.{◌≡◌, ◌≢◌, ◌⊎◌, ℕ, Bool, true, not, ◌||◌, ◌&&◌, ◌==◌, nat_le, nat_lt, List, All, Some, slice_get, slice_set, get_or, map}
use Rattle.std.specs.List.{list_any, list_all}
use Rattle.std.specs.Option.{ForSome}
use Rattle.fc_device.specs.declared.disk.Disk.{Ghosts}
use Rattle.fc_oldmap.specs.declared.Hole.{Hole}
use Rattle.fc_oldmap.specs.Holes.{hole, hole_end, hole_sum, shifted, AreHoles, AreApart}
use Rattle.fc_oldmap.specs.OldMap.{OldMapContent, IsOldMap}
use Rattle.fc_image.specs.effects.Settled.{are_apart}
use Rattle.fc_image.specs.effects.Moves.{SameButStarts, SquashedBytes}
use Rattle.fc_image.specs.declared.effects.Owned.{Owned}

-- the units of an object, said as those of a hole
abbrev pub place : Owned → Hole
place o = hole o.start o.len

abbrev pub places : List Owned → List Hole
places owned = map place owned

-- The objects are some whole sectors of the disc each, in their order, and apart from each other and from every hole.
pub record AreBodies (space : OldMapContent) (owned : List Owned) : Type 0 where
  pub rise : AreHoles space.disc_units space.sector_units 0 (places owned)
  pub apart : All (λ b. All (AreApart b) space.holes) (places owned)

-- An object that begins at the end of a hole begins where the hole began, and the hole has moved up.
pub record IsPulledDown (holes holes' : List Hole) (body : Hole) (start : ℕ) : Type 0 where
  pub index : ℕ
  pub hole : Hole
  pub at : slice_get holes index ≡ Some hole
  pub ends : hole_end hole ≡ body.start
  pub begins : start ≡ hole.start
  pub moved : holes' ≡ shifted index body.len holes

-- An object stays if no hole ends at its start.
pub record Rests (holes holes' : List Hole) (body : Hole) (start : ℕ) : Type 0 where
  pub alone : All (λ h. hole_end h ≢ body.start) holes
  pub begins : start ≡ body.start
  pub stays : holes' ≡ holes

abbrev pub IsPulled : List Hole → List Hole → Hole → ℕ → Type 0
IsPulled holes holes' body start = IsPulledDown holes holes' body start ⊎ Rests holes holes' body start

-- an object that begins elsewhere
abbrev pub moved_to : ℕ → Owned → Owned
moved_to start o = record o { start = start }

abbrev pub no_object : Owned
no_object = record { node = 0; start = 0; len = 0 }

-- object number k begins elsewhere
abbrev pub with_start : List Owned → ℕ → ℕ → List Owned
with_start owned k start = slice_set owned k (moved_to start (get_or owned k no_object))

-- the unit lies in one of these places
abbrev pub covers : List Hole → ℕ → Bool
covers holes n = list_any (λ h. nat_le h.start n && nat_lt n (hole_end h)) holes

-- At every exit, whatever the disk tells: the objects are as they were but for their starts, and lie as before. Together
-- with the holes they take the units that they took, and as much is free.
pub record KeepsBodies (space space' : OldMapContent) (was now : List Owned) : Type 0 where
  pub map : IsOldMap space'
  pub disc : (space'.disc_units ≡ space.disc_units) × (space'.sector_units ≡ space.sector_units)
  pub objects : SameButStarts was now
  pub bodies : AreBodies space' now
  pub same : (n : ℕ) → (covers (places now) n || covers space'.holes n) ≡ (covers (places was) n || covers space.holes n)
  pub sum : hole_sum space'.holes ≡ hole_sum space.holes

-- No hole is directly followed by an object or by another hole.
pub record IsSettled (space : OldMapContent) (owned : List Owned) : Type 0 where
  pub apart : are_apart space.holes ≡ true
  pub settled : list_all (λ h. not (list_any (λ o. o.start == hole_end h) owned)) space.holes ≡ true

-- If the disk tells its bytes, they are squashed.
abbrev pub SquashedBy : {D : Type 0} → Ghosts D → D → D → OldMapContent → List Owned → List Owned → Type 0
SquashedBy d old new space was now = ForSome (d.bytes old) (λ bytes. (image : List ℕ) × (d.bytes new ≡ Some image) × SquashedBytes bytes image space was now)
