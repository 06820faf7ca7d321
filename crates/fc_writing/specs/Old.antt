-- What a change leaves of a disc with an old map. Its map is the first 512 bytes of the disc, and has no copy.
use Rattle.std.specs.Prelude.{◌≡◌, ◌⊎◌, ◌<◌, ◌++◌, ◌*◌, ◌/◌, ℕ, List, [], drop, take}
use Rattle.std.specs.List.{range_with_len}
use Rattle.fc_device.specs.Sectors.{sector_at}
use Rattle.fc_oldmap.specs.OldMap.{OldMapContent, map_units, with_holes}
use Rattle.fc_image.specs.Layout.{Layout, map_place}
use Rattle.fc_writing.specs.declared.ready.MapStep.{MapStep}
use Rattle.fc_writing.specs.declared.ready.MapStep.TheVariants as steps
use Rattle.fc_writing.specs.declared.ready.Ready.{Ready}
use Rattle.fc_writing.specs.Content.{Content, HasContent, IsPart}
use Rattle.fc_writing.specs.Ready.{CanPut, all_content, early_content, late_content}
use Rattle.fc_writing.specs.Stages.{Half, Leaves}

-- the bytes of a sector
abbrev pub sector_of : OldMapContent → ℕ
sector_of space = 256 * space.sector_units

-- The step is one of the same disc.
abbrev pub IsOfDisc : OldMapContent → MapStep → Type 0
IsOfDisc space (steps.New s) = ⊥
IsOfDisc space (steps.Old other) = (other.disc_units ≡ space.disc_units) × (other.sector_units ≡ space.sector_units)
IsOfDisc space steps.Nothing = Unit {0}

-- A change is ready for an old map on a disk of n sectors.
pub record CanWrite (n : ℕ) (space : OldMapContent) (r : Ready) : Type 0 where
  pub put : CanPut n (map_place (Layout.Old space)) r
  pub take : IsOfDisc space r.take
  pub give : IsOfDisc space r.give

-- ---- the map

-- the bytes of the sectors that hold the map
abbrev pub front_in : OldMapContent → List ℕ → List ℕ
front_in space image = take (256 * map_units space.sector_units) image

-- bytes that begin with a map, with the holes of another in it
abbrev pub with_map : OldMapContent → List ℕ → List ℕ
with_map space front = with_holes (take 512 front) space.holes ++ drop 512 front

-- the bytes of the map's sectors after a step
abbrev pub front_after : MapStep → List ℕ → List ℕ
front_after (steps.New s) front = front
front_after (steps.Old space) front = with_map space front
front_after steps.Nothing front = front

abbrev pub front_taken : OldMapContent → Ready → List ℕ → List ℕ
front_taken space r was = front_after r.take (front_in space was)

abbrev pub front_given : OldMapContent → Ready → List ℕ → List ℕ
front_given space r was = front_after r.give (front_taken space r was)

-- Each of the map's sectors has its bytes of the one or of the other, an image or bytes that begin one.
abbrev pub IsTorn : OldMapContent → List ℕ → List ℕ → List ℕ → Type 0
IsTorn space old new image = (s : ℕ) → s < map_units space.sector_units / space.sector_units
    → (sector_at (sector_of space) image s ≡ sector_at (sector_of space) old s) ⊎ (sector_at (sector_of space) image s ≡ sector_at (sector_of space) new s)

-- ---- one step

-- No sector but the first ones, of this count, has changed, and each of these is as it was or has its bytes of `new`.
pub record FrontLeaves (size count : ℕ) (new was image : List ℕ) : Type 0 where
  pub others : IsPart size (range_with_len 0 count) [] was image
  pub torn : (s : ℕ) → s < count → (sector_at size image s ≡ sector_at size was s) ⊎ (sector_at size image s ≡ sector_at size new s)

-- What a crash inside a step leaves.
abbrev pub StepLeaves : OldMapContent → MapStep → List ℕ → List ℕ → Type 0
StepLeaves space step was image = FrontLeaves (sector_of space) (map_units space.sector_units / space.sector_units) (front_after step (front_in space was)) was image

-- ---- the image

-- What a crash at any moment and every exit leaves.
abbrev pub ChangeLeaves : OldMapContent → Ready → List ℕ → List ℕ → List ℕ → Type 0
ChangeLeaves space r bytes was image =
    Leaves (sector_of space) (map_place (Layout.Old space)) (early_content (sector_of space) was bytes r) (late_content (sector_of space) r)
    (λ other. front_in space other ≡ front_in space was) (IsTorn space was (front_taken space r was))
    (λ other. front_in space other ≡ front_taken space r was) (IsTorn space (front_taken space r was) (front_given space r was)) was image

-- All of the content is written, these are the bytes of the map's sectors, and no other byte has changed.
pub record IsWritten (space : OldMapContent) (front : List ℕ) (c : Content) (was image : List ℕ) : Type 0 where
  pub written : HasContent (sector_of space) c image
  pub others : IsPart (sector_of space) (map_place (Layout.Old space)) c was image
  pub map : front_in space image ≡ front

-- What is left at the end.
abbrev pub IsChanged : OldMapContent → Ready → List ℕ → List ℕ → List ℕ → Type 0
IsChanged space r bytes was image = IsWritten space (front_given space r was) (all_content (sector_of space) was bytes r) was image

-- ---- up to the first step and with it, and after it

-- what a crash leaves before the first step and in it
abbrev pub TakeLeaves : OldMapContent → Ready → List ℕ → List ℕ → List ℕ → Type 0
TakeLeaves space r bytes was image = Half (sector_of space) (map_place (Layout.Old space)) (early_content (sector_of space) was bytes r)
    (λ other. front_in space other ≡ front_in space was) (IsTorn space was (front_taken space r was)) was image

-- what a crash leaves after the first step
abbrev pub GiveLeaves : OldMapContent → Ready → List ℕ → List ℕ → Type 0
GiveLeaves space r was image = Half (sector_of space) (map_place (Layout.Old space)) (late_content (sector_of space) r)
    (λ other. front_in space other ≡ front_in space was) (IsTorn space was (front_after r.give (front_in space was))) was image
