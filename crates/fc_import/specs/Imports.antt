-- What was written and given while bytes became those of an object.
use Rattle.std.specs.Prelude.{◌≡◌, ◌≤◌, ℕ, ◌+◌, ◌*◌, ◌++◌, min, List, length, Some, Result, Err, OnOk}
use Rattle.std.specs.Option.{ForSome}
use Rattle.fc_device.specs.declared.disk.Disk.{Ghosts}
use Rattle.fc_device.specs.Calls.{SameForm}
use Rattle.fc_device.specs.Faults.{Rose}
use Rattle.fc_host.specs.declared.supply.Supply.{Ghosts as Supplies}
use Rattle.fc_host.specs.Supplies.{GoesBy}
use Rattle.fc_objects.specs.Written.{AreApart, HasParts, IsPartWritten, StopsTear, padded}
use Rattle.fc_device.specs.declared.disk.Failed.{Failed}
use Rattle.fc_import.specs.declared.place.ImportFault.{ImportFault}

-- So many bytes are yet to be given.
abbrev pub HasLeft : {B : Type 0} → Supplies B → ℕ → B → Type 0
HasLeft b left from = length (b.given from) + left ≡ b.total from

-- It has as many bytes in all, and the same ones if they are known; what else became of it, did in calls in turn.
pub record IsSameSupply {B : Type 0} (b : Supplies B) (before after : B) : Type 0 where
  pub total : b.total after ≡ b.total before
  pub all : b.all after ≡ b.all before
  pub goes : (between : List B) × GoesBy b.goes between before after

-- As many bytes as there is room for were given, or all that were left; these are they, and zeros.
pub record Takes {B : Type 0} (b : Supplies B) (room left : ℕ) (before after : B) (bytes : List ℕ) : Type 0 where
  pub piece : List ℕ
  pub given : b.given after ≡ b.given before ++ piece
  pub whole : length piece ≡ min left room
  pub is : bytes ≡ padded room piece

-- All that the sectors have room for was given, or all that was left; each sector has its part of it.
pub record IsImported {D : Type 0} (d : Ghosts D) (sectors : List ℕ) (left : ℕ) (piece : List ℕ) (old new : D) : Type 0 where
  pub whole : length piece ≡ min left (length sectors * d.sector_size old)
  pub written : AreApart sectors → ForSome (d.bytes new) (HasParts (d.sector_size old) sectors piece)

-- Of bytes of which so many were left a piece was given, and these sectors got some of it. At Ok all of it.
pub record Imports {D B T : Type 0} (d : Ghosts D) (b : Supplies B) (sectors : List ℕ) (left : ℕ) (old new : D) (before after : B) (result : Result T ImportFault) : Type 0 where
  pub piece : List ℕ
  pub given : b.given after ≡ b.given before ++ piece
  pub few : length piece ≤ min left (length sectors * d.sector_size old)
  pub stops : StopsTear d old new sectors piece
  pub part : ForSome (d.bytes old) (λ was. (image : List ℕ) × (d.bytes new ≡ Some image) × IsPartWritten (d.sector_size old) sectors piece was image)
  pub told : ForSome (d.bytes new) (λ image. (was : List ℕ) × (d.bytes old ≡ Some was))
  pub done : OnOk result (IsImported d sectors left piece old new)
  pub form : SameForm d old new
  pub supply : IsSameSupply b before after

-- So many bytes were given and dropped; if it failed, some of them.
pub record Drains {B : Type 0} (b : Supplies B) (left : ℕ) (before after : B) (result : Result (Unit {0}) Failed) : Type 0 where
  pub piece : List ℕ
  pub given : b.given after ≡ b.given before ++ piece
  pub few : length piece ≤ left
  pub whole : OnOk result (length piece ≡ left)
  pub supply : IsSameSupply b before after

-- These sectors got some of the bytes that were given; at Ok all were given, and each has its part of them.
pub record Fills {D B : Type 0} (d : Ghosts D) (b : Supplies B) (sectors : List ℕ) (old new : D) (before after : B) (result : Result (Unit {0}) ImportFault) : Type 0 where
  pub stops : StopsTear d old new sectors (b.given after)
  pub part : ForSome (d.bytes old) (λ was. (image : List ℕ) × (d.bytes new ≡ Some image) × IsPartWritten (d.sector_size old) sectors (b.given after) was image)
  pub told : ForSome (d.bytes new) (λ image. (was : List ℕ) × (d.bytes old ≡ Some was))
  pub whole : OnOk result (length (b.given after) ≡ b.total before)
  pub written : OnOk result (AreApart sectors → ForSome (d.bytes new) (HasParts (d.sector_size old) sectors (b.given after)))
  pub form : SameForm d old new
  pub supply : IsSameSupply b before after

-- It fails only if a call of the disk failed or the bytes weren't given, and then that one's count of faults rose.
pub record HasCauses {D B T : Type 0} (d : Ghosts D) (b : Supplies B) (old new : D) (before after : B) (result : Result T ImportFault) : Type 0 where
  pub disk_later : d.faults old ≤ d.faults new
  pub supply_later : b.faults before ≤ b.faults after
  pub disk : result ≡ Err ImportFault.Disk → Rose (d.faults old) (d.faults new)
  pub supply_fails : result ≡ Err ImportFault.Supply → Rose (b.faults before) (b.faults after)
