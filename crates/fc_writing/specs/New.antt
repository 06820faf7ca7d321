-- What a change leaves of a disc with a new map.
use Rattle.std.specs.Prelude.{◌≡◌, ◌⊎◌, ℕ, true, List}
use Rattle.fc_record.specs.declared.Geometry.{Geometry}
use Rattle.fc_newmap.specs.Map.{Map, map_sectors}
use Rattle.fc_newmap.specs.Copies.{Chooses, HoldsCopies}
use Rattle.fc_writing.specs.declared.ready.MapStep.{MapStep}
use Rattle.fc_writing.specs.declared.ready.Ready.{Ready}
use Rattle.fc_writing.specs.Content.{Content, HasContent, IsPart}
use Rattle.fc_writing.specs.Ready.{CanPut, all_content, early_content, late_content}
use Rattle.fc_writing.specs.Stages.{Half, Leaves}
use Rattle.fc_writing.specs.Steps.{CanStep, HasStepped, is_wide}

-- A change is ready for a map on a disk of n sectors.
pub record CanWrite (n : ℕ) (m : Map) (r : Ready) : Type 0 where
  pub put : CanPut n (map_sectors m.geometry) r
  pub take : CanStep m r.take
  pub give : (mid : Map) → HasStepped m mid r.take → CanStep mid r.give

-- ---- the map

-- n is the map after the first step
abbrev pub IsTaken : Map → Ready → Map → Type 0
IsTaken m r n = HasStepped m n r.take

-- n is the map after both
abbrev pub IsGiven : Map → Ready → Map → Type 0
IsGiven m r n = (mid : Map) × HasStepped m mid r.take × HasStepped mid n r.give

-- one of the three
abbrev pub IsReached : Map → Ready → Map → Type 0
IsReached m r n = (n ≡ m) ⊎ (IsTaken m r n ⊎ IsGiven m r n)

-- ---- the copies

-- A crash inside a step leaves the map before it or after it, whole; of a commit of more than nine zones that isn't said.
abbrev pub InStep : Map → Map → MapStep → List ℕ → Type 0
InStep m n step image = (is_wide step ≡ true) ⊎ (Chooses m.geometry m.zones image ⊎ Chooses m.geometry n.zones image)

-- the copy that counts while the first step is made, after it, and while the second is made
abbrev pub InTake : Map → Ready → List ℕ → Type 0
InTake m r image = (n : Map) × IsTaken m r n × InStep m n r.take image

abbrev pub AfterTake : Map → Ready → List ℕ → Type 0
AfterTake m r image = (n : Map) × IsTaken m r n × Chooses m.geometry n.zones image

abbrev pub InGive : Map → Ready → List ℕ → Type 0
InGive m r image = (mid n : Map) × IsTaken m r mid × HasStepped mid n r.give × InStep mid n r.give image

-- ---- the image

-- What a crash at any moment and every exit leaves.
abbrev pub ChangeLeaves : Map → Ready → List ℕ → List ℕ → List ℕ → Type 0
ChangeLeaves m r bytes was image =
    Leaves m.geometry.sector (map_sectors m.geometry) (early_content m.geometry.sector was bytes r) (late_content m.geometry.sector r)
    (Chooses m.geometry m.zones) (InTake m r) (AfterTake m r) (InGive m r) was image

-- All of the content is written, both copies of the map are these zones, and no other byte has changed.
pub record IsWritten (g : Geometry) (zones : List (List ℕ)) (c : Content) (was image : List ℕ) : Type 0 where
  pub written : HasContent g.sector c image
  pub others : IsPart g.sector (map_sectors g) c was image
  pub copies : HoldsCopies g zones image

-- What is left at the end, with the map m'.
abbrev pub IsChanged : Map → Map → Ready → List ℕ → List ℕ → List ℕ → Type 0
IsChanged m m' r bytes was image = IsWritten m.geometry m'.zones (all_content m.geometry.sector was bytes r) was image

-- ---- up to the first step and with it, and after it

-- what a crash leaves before the first step and in it
abbrev pub TakeLeaves : Map → Ready → List ℕ → List ℕ → List ℕ → Type 0
TakeLeaves m r bytes was image = Half m.geometry.sector (map_sectors m.geometry) (early_content m.geometry.sector was bytes r) (Chooses m.geometry m.zones) (InTake m r) was image

-- while the second step is made of the map m
abbrev pub InLast : Map → Ready → List ℕ → Type 0
InLast m r image = (n : Map) × HasStepped m n r.give × InStep m n r.give image

-- what a crash leaves after the first step, which has left the map m
abbrev pub GiveLeaves : Map → Ready → List ℕ → List ℕ → Type 0
GiveLeaves m r was image = Half m.geometry.sector (map_sectors m.geometry) (late_content m.geometry.sector r) (Chooses m.geometry m.zones) (InLast m r) was image
