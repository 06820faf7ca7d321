-- A change in two parts: first the bytes of the new object, and then the rest.
use Rattle.std.specs.Prelude.{◌≡◌, ◌⊎◌, ℕ, List, []}
use Rattle.fc_newmap.specs.Map.{Map}
use Rattle.fc_oldmap.specs.OldMap.{OldMapContent}
use Rattle.fc_writing.specs.declared.copies.Copies.{Copies}
use Rattle.fc_writing.specs.declared.ready.Ready.{Ready}
use Rattle.fc_writing.specs.declared.ready.Source.{Source}
use Rattle.fc_writing.specs.declared.ready.Source.TheVariants as sources
use Rattle.fc_writing.specs.Content.{HasContent, IsPart}
use Rattle.fc_writing.specs.Copies.{HasCopies}
use Rattle.fc_writing.specs.New.{CanWrite, ChangeLeaves, IsChanged}
use Rattle.fc_writing.specs.Old as old
use Rattle.fc_writing.specs.Ready.{source_content}

-- all of a change but the new object's bytes
abbrev pub rest_of : Ready → Ready
rest_of r = record r { source = sources.Nothing }

-- The new object gets bytes that are given, or there is none.
abbrev pub IsGivenSource : Source → Type 0
IsGivenSource sources.Nothing = Unit {0}
IsGivenSource (sources.Bytes place) = Unit {0}
IsGivenSource (sources.Sectors t) = ⊥

-- Some of the new object's sectors have their bytes, and no other has changed.
abbrev pub IsBegun : ℕ → Ready → List ℕ → List ℕ → List ℕ → Type 0
IsBegun size r bytes was image = IsPart size [] (source_content size was bytes r.source) was image

-- All of them have theirs.
pub record IsStored (size : ℕ) (r : Ready) (bytes was mid : List ℕ) : Type 0 where
  pub begun : IsBegun size r bytes was mid
  pub whole : HasContent size (source_content size was bytes r.source) mid

pub record BeforehandLaw : Type 0 where
  -- The rest can be written if the whole can.
  pub can : (n : ℕ) (m : Map) (r : Ready) → CanWrite n m r → CanWrite n m (rest_of r)
  pub old_can : (n : ℕ) (space : OldMapContent) (r : Ready) → old.CanWrite n space r → old.CanWrite n space (rest_of r)
  -- What is known of the copies of the map is so still.
  pub copies : (n : ℕ) (m : Map) (r : Ready) (copies : Copies) (bytes was image : List ℕ) → CanWrite n m r → IsBegun m.geometry.sector r bytes was image → HasCopies copies m was → HasCopies copies m image
  -- Until all of the object's bytes are there, the image is one that the change leaves before the map's first step.
  pub first : (n : ℕ) (m : Map) (r : Ready) (copies : Copies) (bytes was image : List ℕ) → CanWrite n m r → HasCopies copies m was → IsBegun m.geometry.sector r bytes was image → ChangeLeaves m r bytes was image
  pub old_first : (n : ℕ) (space : OldMapContent) (r : Ready) (bytes was image : List ℕ) → (space.sector_units ≡ 1) ⊎ (space.sector_units ≡ 4) → old.CanWrite n space r
      → IsBegun (old.sector_of space) r bytes was image → old.ChangeLeaves space r bytes was image
  -- What the rest leaves then, the change leaves;
  pub later : (n : ℕ) (m : Map) (r : Ready) (bytes none was mid image : List ℕ) → CanWrite n m r → IsStored m.geometry.sector r bytes was mid → ChangeLeaves m (rest_of r) none mid image → ChangeLeaves m r bytes was image
  pub old_later : (n : ℕ) (space : OldMapContent) (r : Ready) (bytes none was mid image : List ℕ) → (space.sector_units ≡ 1) ⊎ (space.sector_units ≡ 4) → old.CanWrite n space r
      → IsStored (old.sector_of space) r bytes was mid → old.ChangeLeaves space (rest_of r) none mid image → old.ChangeLeaves space r bytes was image
  -- and when the rest is done, the change is.
  pub done : (n : ℕ) (m m' : Map) (r : Ready) (bytes none was mid image : List ℕ) → CanWrite n m r → IsStored m.geometry.sector r bytes was mid → IsChanged m m' (rest_of r) none mid image → IsChanged m m' r bytes was image
  pub old_done : (n : ℕ) (space : OldMapContent) (r : Ready) (bytes none was mid image : List ℕ) → (space.sector_units ≡ 1) ⊎ (space.sector_units ≡ 4) → old.CanWrite n space r
      → IsStored (old.sector_of space) r bytes was mid → old.IsChanged space (rest_of r) none mid image → old.IsChanged space r bytes was image
